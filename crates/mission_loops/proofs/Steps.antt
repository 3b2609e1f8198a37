-- The queries that were told and written so far, and one more.
use Rattle.std.proofs.Common.{◌≡◌, ℕ, ◌+◌, ◌<◌, ◌≤◌, Bool, true, false, List, [], ◌∷◌, ◌++◌, None, Result, Ok, Err, OnOk, arith, refl, sym, ap, ◌∙◌, subst, length, length-append, get_or, take, drop, add-zero, append-nil, append_assoc, take-append-drop}
use Rattle.std.specs.Prelude.{Option, is_err}
use Rattle.std.specs.List.{Contains}
use Rattle.std.proofs.Math.Seq.{take-length}
use Rattle.std.proofs.lemmas.List.Elements.{Contains-append_left, Contains-push}
use Rattle.std.proofs.lemmas.Grind.{flat_map-append}
use Rattle.std.proofs.lemmas.List.{take_more}
use Rattle.tube_spec.specs.Span.{Span}
use Rattle.tube_io.specs.Sends.{Sends}
use Rattle.tube_io.specs.declared.whole.WriteFault.{WriteFault}
use Rattle.tube_io.proofs.Sent.{sends_none, sends_then}
use Rattle.tube_names.specs.declared.queries.Query.{Query}
use Rattle.loop_report.specs.Loops.{loops_text}
use Rattle.loop_report.specs.declared.found.Found.{Found}
use Rattle.mission_items.specs.declared.item.Item.{Item}
use Rattle.mission_items.specs.declared.item.Item.TheVariants as item
use Rattle.mission_loops.specs.Queries.{query_of, queries}
use Rattle.mission_loops.specs.Findings.{AreTold, IsTold}
use Rattle.mission_loops.specs.Texts.{findings_text, last_told, loops_from}
use Rattle.mission_loops.specs.Writing.{AreCutShort, AreWritten}

-- ---- one query more

-- the records before a place, with the one there
pub longer : (items : List Item) (i : ℕ) (x : Item) → i < length items → x ≡ get_or items i x → take (i + 1) items ≡ take i items ++ x ∷ []
longer items i x inside is = take_more items i x inside ∙ ap (λ (r : Item). take i items ++ r ∷ []) (sym is)

-- a record that is no query asks none
pub not-query : (x : Item) → ((q : Query) → x ≡ item.Revisit q → ⊥) → query_of x ≡ []
not-query (item.Revisit q) h = absurd (h q refl)
not-query x h = refl

-- the queries of the records before a place, and of the one there
module _ (items : List Item) (i : ℕ) (x : Item) (longer : take (i + 1) items ≡ take i items ++ x ∷ []) where
  pub queries-more : queries (take (i + 1) items) ≡ queries (take i items) ++ query_of x
  queries-more = ap queries longer ∙ (flat_map-append query_of (take i items) (x ∷ []) ∙ ap (λ (l : List Query). queries (take i items) ++ l) (append-nil (query_of x)))

  pub queries-split : queries items ≡ (queries (take i items) ++ query_of x) ++ queries (drop (i + 1) items)
  queries-split =
      ap queries (sym (take-append-drop (i + 1) items))
      ∙ (flat_map-append query_of (take (i + 1) items) (drop (i + 1) items) ∙ ap (λ (l : List Query). l ++ queries (drop (i + 1) items)) queries-more)

-- a query that a record asks is one of the records' queries
pub asked-here : (items : List Item) (i : ℕ) (x : Item) (q : Query) → take (i + 1) items ≡ take i items ++ x ∷ [] → query_of x ≡ q ∷ [] → Contains (queries items) q
asked-here items i x q longer asks =
    subst (λ (qs : List Query). Contains qs q) (sym (queries-split items i x longer ∙ ap (λ (l : List Query). (queries (take i items) ++ l) ++ queries (drop (i + 1) items)) asks))
    (Contains-append_left (queries (take i items) ++ q ∷ []) (queries (drop (i + 1) items)) q (Contains-push (queries (take i items)) q))

-- what is told of one query more
told-more : (grid : List ℕ) (items : List Item) (box : Option (List Span)) (before : List Query) (q : Query) (after : List Query) (told : List (Option (List Found))) (t : Option (List Found))
    → length told ≡ length before → AreTold grid items box (before ++ q ∷ after) told → IsTold grid items box q t → AreTold grid items box (before ++ q ∷ after) (told ++ t ∷ [])
told-more grid items box [] q after [] t same all one = (one, tt)
told-more grid items box [] q after (u ∷ told) t same all one = absurd (omega (arith, same))
told-more grid items box (p ∷ before) q after [] t same all one = absurd (omega (arith, same))
told-more grid items box (p ∷ before) q after (u ∷ told) t same all one = (all.0, told-more grid items box before q after told t (omega (arith, same)) all.1 one)

text-more : (brief : Bool) (n : ℕ) (told : List (Option (List Found))) (t : Option (List Found)) → loops_from brief n (told ++ t ∷ []) ≡ loops_from brief n told ++ loops_text (n + length told) t brief
text-more brief n [] t = append-nil (loops_text n t brief) ∙ ap (λ (k : ℕ). loops_text k t brief) (sym (add-zero n))
text-more brief n (u ∷ told) t =
    let count : (n + 1) + length told ≡ n + length (u ∷ told) = omega arith in
    ap (λ (l : List ℕ). loops_text n u brief ++ l) (text-more brief (n + 1) told t ∙ ap (λ (k : ℕ). loops_from brief (n + 1) told ++ loops_text k t brief) count)
    ∙ sym (append_assoc (loops_text n u brief) (loops_from brief (n + 1) told) (loops_text (n + length (u ∷ told)) t brief))

last-more : (told : List (Option (List Found))) (t : Option (List Found)) → last_told (told ++ t ∷ []) ≡ t
last-more [] t = refl
last-more (u ∷ []) t = refl
last-more (u ∷ v ∷ told) t = last-more (v ∷ told) t

-- ---- the loop

is-ok : (r : Result (Unit {0}) WriteFault) → is_err r ≡ false → r ≡ Ok tt
is-ok (Ok v) e = refl
is-ok (Err f) e = absurd (cc e)

on-failed : (P : Type 0) (r : Result (Unit {0}) WriteFault) → is_err r ≡ true → OnOk r P
on-failed P (Ok v) e = absurd (cc e)
on-failed P (Err f) e = tt

-- The queries of the records before place `i` were told and written, and the next has this number.
pub record IsToldTo {K : Type 0} (written : K → Option (List ℕ)) (flushed : K → Option ℕ) (faults : K → ℕ) (grid : List ℕ) (items : List Item) (box : Option (List Span)) (brief : Bool) (old : K)
    (i number : ℕ) (last : Option (List Found)) (new : K) : Type 0 where
  pub told : List (Option (List Found))
  pub are_told : AreTold grid items box (queries items) told
  pub counted : length told ≡ length (queries (take i items))
  pub numbered : number ≡ length told + 1
  pub few : number ≤ i + 1
  pub is_last : last ≡ last_told told
  pub text : Sends {T = Unit {0}} {E = WriteFault} written flushed faults (findings_text brief told) old new (Ok tt)

module _ {K : Type 0} (written : K → Option (List ℕ)) (flushed : K → Option ℕ) (faults : K → ℕ) (grid : List ℕ) (items : List Item) (box : Option (List Span)) (brief : Bool) (old : K) where
  -- nothing yet
  pub told-none : IsToldTo written flushed faults grid items box brief old 0 1 None old
  told-none = record {
    told = [];
    are_told = tt;
    counted = refl;
    numbered = refl;
    few = omega arith;
    is_last = refl;
    text = sends_none written flushed faults old;
  }

  module _ (i number : ℕ) (last : Option (List Found)) (mid : K) (w : IsToldTo written flushed faults grid items box brief old i number last mid) where
    -- memory ran out
    pub cut-short : AreCutShort written flushed faults grid items box brief old mid
    cut-short = record { told = w.told; are_told = w.are_told; text = w.text }

    -- a record that is no query
    pub told-past : (x : Item) → take (i + 1) items ≡ take i items ++ x ∷ [] → query_of x ≡ [] → IsToldTo written flushed faults grid items box brief old (i + 1) number last mid
    told-past x longer none = record {
      told = w.told;
      are_told = w.are_told;
      counted = w.counted ∙ sym (ap length (queries-more items i x longer ∙ (ap (λ (l : List Query). queries (take i items) ++ l) none ∙ append-nil (queries (take i items)))));
      numbered = w.numbered;
      few = omega (arith, w.few);
      is_last = w.is_last;
      text = w.text;
    }

    module _ (x : Item) (longer : take (i + 1) items ≡ take i items ++ x ∷ []) (q : Query) (asks : query_of x ≡ q ∷ []) (t : Option (List Found)) (is : IsTold grid items box q t)
        (result : Result (Unit {0}) WriteFault) (new : K) (sent : Sends written flushed faults (loops_text number t brief) mid new result) where
      all-told : AreTold grid items box (queries items) (w.told ++ t ∷ [])
      all-told =
          let split : queries items ≡ queries (take i items) ++ q ∷ queries (drop (i + 1) items) =
          queries-split items i x longer ∙ (ap (λ (l : List Query). (queries (take i items) ++ l) ++ queries (drop (i + 1) items)) asks
          ∙ append_assoc (queries (take i items)) (q ∷ []) (queries (drop (i + 1) items))) in
          subst (λ (qs : List Query). AreTold grid items box qs (w.told ++ t ∷ [])) (sym split)
          (told-more grid items box (queries (take i items)) q (queries (drop (i + 1) items)) w.told t w.counted
          (subst (λ (qs : List Query). AreTold grid items box qs w.told) split w.are_told) is)

      all-sent : Sends written flushed faults (findings_text brief (w.told ++ t ∷ [])) old new result
      all-sent =
          let count : number ≡ 1 + length w.told = omega (arith, w.numbered) in
          subst (λ (l : List ℕ). Sends written flushed faults l old new result)
          (ap (λ (k : ℕ). findings_text brief w.told ++ loops_text k t brief) count ∙ sym (text-more brief 1 w.told t))
          (sends_then written flushed faults (findings_text brief w.told) (loops_text number t brief) old mid new result w.text sent)

      -- a write that failed ends it
      pub written-early : is_err result ≡ true → AreWritten written flushed faults grid items box brief old new (record { last = t; written = result })
      written-early failed = record {
        told = w.told ++ t ∷ [];
        are_told = all-told;
        all = on-failed (length (w.told ++ t ∷ []) ≡ length (queries items)) result failed;
        text = all-sent;
        last = on-failed (t ≡ last_told (w.told ++ t ∷ [])) result failed;
      }

      -- the next record comes
      pub told-next : is_err result ≡ false → IsToldTo written flushed faults grid items box brief old (i + 1) (number + 1) t new
      told-next fine = record {
        told = w.told ++ t ∷ [];
        are_told = all-told;
        counted =
            length-append w.told (t ∷ []) ∙ (ap (λ (k : ℕ). k + 1) w.counted
            ∙ sym (ap length (queries-more items i x longer ∙ ap (λ (l : List Query). queries (take i items) ++ l) asks) ∙ length-append (queries (take i items)) (q ∷ [])));
        numbered = omega (arith, w.numbered, length-append w.told (t ∷ []));
        few = omega (arith, w.few);
        is_last = sym (last-more w.told t);
        text = subst (λ (r : Result (Unit {0}) WriteFault). Sends written flushed faults (findings_text brief (w.told ++ t ∷ [])) old new r) (is-ok result fine) all-sent;
      }

  -- all records
  pub written-all : (i number : ℕ) (last : Option (List Found)) (new : K) → IsToldTo written flushed faults grid items box brief old i number last new → i ≡ length items
      → AreWritten written flushed faults grid items box brief old new (record { last = last; written = Ok tt })
  written-all i number last new w end = record {
    told = w.told;
    are_told = w.are_told;
    all = w.counted ∙ ap (λ (l : List Item). length (queries l)) (ap (λ (k : ℕ). take k items) end ∙ take-length items);
    text = w.text;
    last = w.is_last;
  }
