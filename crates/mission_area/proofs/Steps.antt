-- The areas that were told and written so far, and one more.
use Rattle.std.proofs.Common.{◌≡◌, ℕ, ◌+◌, ◌≤◌, Bool, true, false, List, [], ◌∷◌, ◌++◌, Result, Ok, Err, OnOk, ℤ, arith, refl, sym, ap, ◌∙◌, subst, length, length-append, take, drop, add-zero, append-nil, append_assoc}
use Rattle.std.specs.Prelude.{Option, is_err}
use Rattle.std.proofs.Math.Seq.{take-length}
use Rattle.tube_spec.specs.Span.{Span}
use Rattle.tube_io.specs.Sends.{Sends}
use Rattle.tube_io.specs.declared.whole.WriteFault.{WriteFault}
use Rattle.tube_io.proofs.Sent.{sends_none, sends_then}
use Rattle.tube_names.specs.declared.queries.Query.{Query}
use Rattle.area_report.specs.Areas.{area_text}
use Rattle.area_report.specs.declared.coverage.Coverage.{Coverage}
use Rattle.mission_items.specs.declared.item.Item.{Item}
use Rattle.mission_loops.specs.Queries.{query_of, queries}
use Rattle.mission_loops.proofs.Steps.{queries-more, queries-split}
use Rattle.mission_area.specs.Coverages.{AreCoverages, IsCoverage}
use Rattle.mission_area.specs.Texts.{areas_from, coverages_text}
use Rattle.mission_area.specs.Writing.{AreCutShort, AreWritten, IsToldAs}

-- what is told of one query more
told-more : (grid : List ℕ) (items : List Item) (box : Option (List Span)) (step : ℤ) (before : List Query) (q : Query) (after : List Query) (told : List Coverage) (t : Coverage)
    → length told ≡ length before → AreCoverages grid items box step (before ++ q ∷ after) told → IsCoverage grid items box step q t → AreCoverages grid items box step (before ++ q ∷ after) (told ++ t ∷ [])
told-more grid items box step [] q after [] t same all one = (one, tt)
told-more grid items box step [] q after (u ∷ told) t same all one = absurd (omega (arith, same))
told-more grid items box step (p ∷ before) q after [] t same all one = absurd (omega (arith, same))
told-more grid items box step (p ∷ before) q after (u ∷ told) t same all one = (all.0, told-more grid items box step before q after told t (omega (arith, same)) all.1 one)

text-more : (brief : Bool) (n : ℕ) (told : List Coverage) (t : Coverage) → areas_from brief n (told ++ t ∷ []) ≡ areas_from brief n told ++ area_text (n + length told) t brief
text-more brief n [] t = append-nil (area_text n t brief) ∙ ap (λ (k : ℕ). area_text k t brief) (sym (add-zero n))
text-more brief n (u ∷ told) t =
    let count : (n + 1) + length told ≡ n + length (u ∷ told) = omega arith in
    ap (λ (l : List ℕ). area_text n u brief ++ l) (text-more brief (n + 1) told t ∙ ap (λ (k : ℕ). areas_from brief (n + 1) told ++ area_text k t brief) count)
    ∙ sym (append_assoc (area_text n u brief) (areas_from brief (n + 1) told) (area_text (n + length (u ∷ told)) t brief))

-- ---- the loop

is-ok : (r : Result (Unit {0}) WriteFault) → is_err r ≡ false → r ≡ Ok tt
is-ok (Ok v) e = refl
is-ok (Err f) e = absurd (cc e)

on-failed : (P : Type 0) (r : Result (Unit {0}) WriteFault) → is_err r ≡ true → OnOk r P
on-failed P (Ok v) e = absurd (cc e)
on-failed P (Err f) e = tt

-- The areas of the queries of the records before place `i` were told and written, and the next has this number.
pub record IsToldTo {K : Type 0} (written : K → Option (List ℕ)) (flushed : K → Option ℕ) (faults : K → ℕ) (grid : List ℕ) (items : List Item) (box : Option (List Span)) (step : ℤ) (brief : Bool)
    (old : K) (i number : ℕ) (new : K) : Type 0 where
  pub told : List Coverage
  pub are_told : AreCoverages grid items box step (queries items) told
  pub counted : length told ≡ length (queries (take i items))
  pub numbered : number ≡ length told + 1
  pub few : number ≤ i + 1
  pub text : Sends {T = Unit {0}} {E = WriteFault} written flushed faults (coverages_text brief told) old new (Ok tt)

module _ {K : Type 0} (written : K → Option (List ℕ)) (flushed : K → Option ℕ) (faults : K → ℕ) (grid : List ℕ) (items : List Item) (box : Option (List Span)) (step : ℤ) (brief : Bool) (old : K) where
  -- nothing yet
  pub told-none : IsToldTo written flushed faults grid items box step brief old 0 1 old
  told-none = record {
    told = [];
    are_told = tt;
    counted = refl;
    numbered = refl;
    few = omega arith;
    text = sends_none written flushed faults old;
  }

  module _ (i number : ℕ) (mid : K) (w : IsToldTo written flushed faults grid items box step brief old i number mid) where
    -- memory ran out
    pub cut-short : AreCutShort written flushed faults grid items box step brief old mid
    cut-short = record { told = w.told; are_told = w.are_told; text = w.text }

    -- a record that is no query
    pub told-past : (x : Item) → take (i + 1) items ≡ take i items ++ x ∷ [] → query_of x ≡ [] → IsToldTo written flushed faults grid items box step brief old (i + 1) number mid
    told-past x longer none = record {
      told = w.told;
      are_told = w.are_told;
      counted = w.counted ∙ sym (ap length (queries-more items i x longer ∙ (ap (λ (l : List Query). queries (take i items) ++ l) none ∙ append-nil (queries (take i items)))));
      numbered = w.numbered;
      few = omega (arith, w.few);
      text = w.text;
    }

    module _ (x : Item) (longer : take (i + 1) items ≡ take i items ++ x ∷ []) (q : Query) (asks : query_of x ≡ q ∷ []) (result : Result (Unit {0}) WriteFault) (new : K)
        (next : IsToldAs written flushed faults grid items box step q number brief mid new result) where
      abbrev t : Coverage
      t = next.0

      all-told : AreCoverages grid items box step (queries items) (w.told ++ t ∷ [])
      all-told =
          let split : queries items ≡ queries (take i items) ++ q ∷ queries (drop (i + 1) items) =
          queries-split items i x longer ∙ (ap (λ (l : List Query). (queries (take i items) ++ l) ++ queries (drop (i + 1) items)) asks
          ∙ append_assoc (queries (take i items)) (q ∷ []) (queries (drop (i + 1) items))) in
          subst (λ (qs : List Query). AreCoverages grid items box step qs (w.told ++ t ∷ [])) (sym split)
          (told-more grid items box step (queries (take i items)) q (queries (drop (i + 1) items)) w.told t w.counted
          (subst (λ (qs : List Query). AreCoverages grid items box step qs w.told) split w.are_told) next.1)

      all-sent : Sends written flushed faults (coverages_text brief (w.told ++ t ∷ [])) old new result
      all-sent =
          let count : number ≡ 1 + length w.told = omega (arith, w.numbered) in
          subst (λ (l : List ℕ). Sends written flushed faults l old new result)
          (ap (λ (k : ℕ). coverages_text brief w.told ++ area_text k t brief) count ∙ sym (text-more brief 1 w.told t))
          (sends_then written flushed faults (coverages_text brief w.told) (area_text number t brief) old mid new result w.text next.2)

      -- a write that failed ends it
      pub written-early : is_err result ≡ true → AreWritten written flushed faults grid items box step brief old new result
      written-early failed = record {
        told = w.told ++ t ∷ [];
        are_told = all-told;
        all = on-failed (length (w.told ++ t ∷ []) ≡ length (queries items)) result failed;
        text = all-sent;
      }

      -- the next record comes
      pub told-next : is_err result ≡ false → IsToldTo written flushed faults grid items box step brief old (i + 1) (number + 1) new
      told-next fine = record {
        told = w.told ++ t ∷ [];
        are_told = all-told;
        counted =
            length-append w.told (t ∷ []) ∙ (ap (λ (k : ℕ). k + 1) w.counted
            ∙ sym (ap length (queries-more items i x longer ∙ ap (λ (l : List Query). queries (take i items) ++ l) asks) ∙ length-append (queries (take i items)) (q ∷ [])));
        numbered = omega (arith, w.numbered, length-append w.told (t ∷ []));
        few = omega (arith, w.few);
        text = subst (λ (r : Result (Unit {0}) WriteFault). Sends written flushed faults (coverages_text brief (w.told ++ t ∷ [])) old new r) (is-ok result fine) all-sent;
      }

  -- all records
  pub written-all : (i number : ℕ) (new : K) → IsToldTo written flushed faults grid items box step brief old i number new → i ≡ length items
      → AreWritten written flushed faults grid items box step brief old new (Ok tt)
  written-all i number new w end = record {
    told = w.told;
    are_told = w.are_told;
    all = w.counted ∙ ap (λ (l : List Item). length (queries l)) (ap (λ (k : ℕ). take k items) end ∙ take-length items);
    text = w.text;
  }
