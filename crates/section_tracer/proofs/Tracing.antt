-- The sections that were traced and written so far, and one more.
use Rattle.std.proofs.Common.{◌≡◌, ℕ, ◌+◌, ◌<◌, ◌≤◌, ◌⊎◌, inl, inr, Bool, true, false, ◌||◌, List, [], ◌∷◌, ◌++◌, Option, Some, None, Result, Ok, Err, All, arith, refl, sym, ap, ◌∙◌, subst, length, length-append, map, take, append-nil}
use Rattle.std.specs.Prelude.{OnOk, is_err}
use Rattle.std.proofs.lemmas.List.{map-append}
use Rattle.std.proofs.lemmas.List.Elements.{All-nil, All-push}
use Rattle.std.proofs.Math.Seq.{take-length}
use Rattle.tube_spec.specs.Span.{Span}
use Rattle.tube_io.specs.Sends.{Sends}
use Rattle.tube_io.specs.declared.whole.WriteFault.{WriteFault}
use Rattle.tube_io.proofs.Sent.{sends_none, sends_then}
use Rattle.ctc_network.specs.Nets.{NetState, no_net}
use Rattle.ctc_network.specs.declared.answers.CtcId.{CtcId}
use Rattle.mission_items.specs.declared.item.Item.{Item}
use Rattle.mission_items.specs.declared.mission.Mission.{Mission}
use Rattle.mission_net.specs.Records.{IsEnclosure}
use Rattle.mission_net.specs.Building.{IsNetOf}
use Rattle.any_ctc.specs.declared.AnyCtc.{AnyCtc}
use Rattle.mission_net.proofs.Sections.{section-as-encloses, enclosure-none, net-none}
use Rattle.section_report.specs.Sections.{is_settle, settles_from, section_ends, Section, section_of, IsSectionOf, GoesOn, GoOn, is_spent, AreUnspent, AreAll}
use Rattle.section_report.specs.declared.part.LastSection.{LastSection}
use Rattle.section_report.proofs.Ends.{settle-here, settle-not, later_ends, ends-rest, upto_after, box_after, upto-more, box-more, go_on-more}
use Rattle.section_tracer.specs.Firings.{TracedPart, AreFirings, FiringsGoOn, most_firings, sections_in}
use Rattle.section_tracer.specs.Texts.{traced_text, traces_text}
use Rattle.section_tracer.specs.Leaving.{IsTraced, IsCutShort}
use Rattle.section_tracer.proofs.Going.{sections-more, firings-more, texts-more}

-- how many records each of some sections takes
abbrev pub uptos : List Section → List ℕ
uptos ds = map (λ (d : Section). d.upto) ds

-- The sections that end before record `i` were traced and written, the last of them with the first records, and the next has this number.
pub record IsTracedUpTo {K : Type 0} (written : K → Option (List ℕ)) (flushed : K → Option ℕ) (faults : K → ℕ) (m : Mission) (old : K) (i first number : ℕ) (net : NetState AnyCtc) (new : K) : Type 0 where
  pub done : List TracedPart
  pub ends : uptos (sections_in done) ≡ settles_from 0 (take i m.items)
  pub each : All (IsSectionOf m most_firings) (sections_in done)
  pub go_on : GoOn m 0 (Some []) (sections_in done)
  pub firings : FiringsGoOn m 0 (Some []) done
  pub unspent : AreUnspent (sections_in done)
  pub begins : first ≡ upto_after 0 (sections_in done)
  pub starts : net.store.box ≡ box_after (Some []) (sections_in done)
  pub counted : number ≡ length done + 1
  pub order : first ≤ i
  pub few : number ≤ i + 1
  pub holds : IsNetOf m.cuts (take first m.items) net
  pub before : IsEnclosure m.cuts (take first m.items) net.store.box
  pub text : Sends {T = Unit {0}} {E = WriteFault} written flushed faults (traces_text m done) old new (Ok tt)

-- the two reasons to end
or-false : (a b : Bool) → (a || b) ≡ false → (a ≡ false) × (b ≡ false)
or-false true b e = absurd (cc e)
or-false false b e = (refl, e)

is-ok : (r : Result (Unit {0}) WriteFault) → is_err r ≡ false → r ≡ Ok tt
is-ok (Ok v) e = refl
is-ok (Err f) e = absurd (cc e)

spent-of : (a b : Bool) → (a || b) ≡ true → (a ≡ true) ⊎ (b ≡ true)
spent-of true b e = inl refl
spent-of false b e = inr e

ok-all : {P : Type 0} (r : Result (Unit {0}) WriteFault) → (is_err r ≡ true) ⊎ P → OnOk r P
ok-all (Ok v) (inl e) = absurd (cc e)
ok-all (Ok v) (inr p) = p
ok-all (Err f) h = tt

module _ {K : Type 0} (written : K → Option (List ℕ)) (flushed : K → Option ℕ) (faults : K → ℕ) (m : Mission) (old : K) where
  -- nothing yet
  pub traced-none : (net : NetState AnyCtc) → net ≡ no_net m.cuts → IsTracedUpTo written flushed faults m old 0 0 1 net old
  traced-none net e = record {
    done = [];
    ends = refl;
    each = All-nil (IsSectionOf m most_firings);
    go_on = tt;
    firings = tt;
    unspent = All-nil (λ (d : Section). is_spent d.answer ≡ false);
    begins = refl;
    starts = box;
    counted = refl;
    order = omega arith;
    few = omega arith;
    holds = net-none m.cuts net (ap (λ (n : NetState AnyCtc). n.store.shape) e) box (ap (λ (n : NetState AnyCtc). n.contractors) e);
    before = subst (IsEnclosure m.cuts []) (sym box) (enclosure-none m.cuts);
    text = sends_none written flushed faults old;
  }
    where
      box : net.store.box ≡ Some []
      box = ap (λ (n : NetState AnyCtc). n.store.box) e

  -- a record that ends no section
  pub traced-past : (i first number : ℕ) (net : NetState AnyCtc) (new : K) (x : Item) → i < length m.items → take (i + 1) m.items ≡ take i m.items ++ x ∷ [] → is_settle x ≡ false
      → IsTracedUpTo written flushed faults m old i first number net new → IsTracedUpTo written flushed faults m old (i + 1) first number net new
  traced-past i first number net new x inside longer plain w = record {
    done = w.done;
    ends = w.ends ∙ sym (settle-not m.items i x inside longer plain);
    each = w.each;
    go_on = w.go_on;
    firings = w.firings;
    unspent = w.unspent;
    begins = w.begins;
    starts = w.starts;
    counted = w.counted;
    order = omega (arith, w.order);
    few = omega (arith, w.few);
    holds = w.holds;
    before = w.before;
    text = w.text;
  }

  -- memory ran out in the section after these
  pub cut-short : (i first number : ℕ) (net : NetState AnyCtc) (new after : K) → after ≡ new → IsTracedUpTo written flushed faults m old i first number net new → IsCutShort written flushed faults m old after
  cut-short i first number net new after silent w = record {
    done = w.done;
    sections = record {
      ends = (later_ends i m.items, ap (λ (l : List ℕ). l ++ later_ends i m.items) w.ends ∙ ends-rest m.items i);
      each = w.each;
      go_on = w.go_on;
    };
    unspent = w.unspent;
    firings = w.firings;
    text = subst (λ (k : K). Sends {T = Unit {0}} {E = WriteFault} written flushed faults (traces_text m w.done) old k (Ok tt)) (sym silent) w.text;
  }

  module _ (i first number : ℕ) (net net2 : NetState AnyCtc) (mid new : K) (s : LastSection) (ids : List CtcId) (w : IsTracedUpTo written flushed faults m old i first number net mid)
      (holds : IsNetOf m.cuts (take i m.items) net2) (is : IsSectionOf m most_firings (section_of i s.end net2.store.box)) (goes : GoesOn m first net.store.box (section_of i s.end net2.store.box))
      (firings : AreFirings m first net.store.box (record { section = section_of i s.end net2.store.box; fired = ids })) (placed : (s.number ≡ number) × (s.upto ≡ i))
      (text : Sends written flushed faults (traced_text m number (record { section = section_of i s.end net2.store.box; fired = ids })) mid new s.written) where
    t : TracedPart
    t = record { section = section_of i s.end net2.store.box; fired = ids }

    ds : List Section
    ds = sections_in w.done

    each-more : All (IsSectionOf m most_firings) (ds ++ t.section ∷ [])
    unfolding t ds
    each-more = All-push (IsSectionOf m most_firings) ds t.section w.each is

    goes-more : GoOn m 0 (Some []) (ds ++ t.section ∷ [])
    unfolding t ds
    goes-more =
        go_on-more m 0 (Some []) ds t.section w.go_on
        (subst (λ (b : Option (List Span)). GoesOn m (upto_after 0 ds) b t.section) w.starts (subst (λ (n : ℕ). GoesOn m n net.store.box t.section) w.begins goes))

    fires-more : FiringsGoOn m 0 (Some []) (w.done ++ t ∷ [])
    unfolding t ds
    fires-more =
        firings-more m 0 (Some []) w.done t w.firings
        (subst (λ (b : Option (List Span)). AreFirings m (upto_after 0 ds) b t) w.starts (subst (λ (n : ℕ). AreFirings m n net.store.box t) w.begins firings))

    text-more : Sends written flushed faults (traces_text m (w.done ++ t ∷ [])) old new s.written
    unfolding t
    text-more =
        let count : number ≡ 1 + length w.done = omega (arith, w.counted) in
        subst (λ (x : List ℕ). Sends written flushed faults x old new s.written)
        (ap (λ (k : ℕ). traces_text m w.done ++ traced_text m k t) count ∙ sym (texts-more m 1 w.done t))
        (sends_then written flushed faults (traces_text m w.done) (traced_text m number t) old mid new s.written w.text text)

    uptos-more : uptos (ds ++ t.section ∷ []) ≡ settles_from 0 (take i m.items) ++ i ∷ []
    unfolding t ds
    uptos-more = map-append (λ (e : Section). e.upto) ds (t.section ∷ []) ∙ ap (λ (l : List ℕ). l ++ i ∷ []) w.ends

    traced-by : i ≤ length m.items → (rest : List ℕ) → (settles_from 0 (take i m.items) ++ i ∷ []) ++ rest ≡ section_ends m.items → OnOk s.written (AreAll m ds t.section) → IsTraced written flushed faults m old new net2 s
    unfolding t ds
    traced-by inside rest ends all = record {
      earlier = w.done;
      last = t;
      here = ap (λ (n : ℕ). section_of n s.end net2.store.box) (sym placed.1);
      within = omega (arith, placed.1, inside);
      traced = record {
        sections = record {
          sections = record { ends = (rest, ap (λ (l : List ℕ). l ++ rest) uptos-more ∙ ends); each = each-more; go_on = goes-more };
          unspent = w.unspent;
        };
        firings = fires-more;
      };
      all = all;
      numbered = placed.0 ∙ w.counted;
      text = text-more;
      holds = holds;
    }

    -- a section after which none is traced
    pub traced-early : (x : Item) → i < length m.items → take (i + 1) m.items ≡ take i m.items ++ x ∷ [] → is_settle x ≡ true → (is_err s.written || is_spent s.end.answer) ≡ true → IsTraced written flushed faults m old new net2 s
    unfolding t ds
    traced-early x inside longer here stops =
        traced-by (omega (arith, inside)) (later_ends (i + 1) m.items)
        (ap (λ (l : List ℕ). l ++ later_ends (i + 1) m.items) (sym (settle-here m.items i x inside longer here)) ∙ ends-rest m.items (i + 1))
        (ok-all s.written (elim (spent-of (is_err s.written) (is_spent s.end.answer) stops) [ inl e ↦ inl e | inr e ↦ inr (inr e) ]))

    -- the last section
    pub traced-last : i ≡ length m.items → IsTraced written flushed faults m old new net2 s
    unfolding t ds
    traced-last e =
        let all : settles_from 0 (take i m.items) ++ i ∷ [] ≡ section_ends m.items =
        ap (λ (n : ℕ). settles_from 0 (take n m.items) ++ n ∷ []) e ∙ ap (λ (l : List Item). settles_from 0 l ++ length m.items ∷ []) (take-length m.items) in
        traced-by (omega (arith, e)) [] (append-nil (settles_from 0 (take i m.items) ++ i ∷ []) ∙ all) (ok-all s.written (inr (inl (uptos-more ∙ all))))

    -- a section after which the next one comes
    pub traced-more : (x : Item) → i < length m.items → take (i + 1) m.items ≡ take i m.items ++ x ∷ [] → is_settle x ≡ true → (is_err s.written || is_spent s.end.answer) ≡ false
        → IsTracedUpTo written flushed faults m old (i + 1) i (number + 1) net2 new
    unfolding t ds
    traced-more x inside longer here goes_on =
        let both = or-false (is_err s.written) (is_spent s.end.answer) goes_on in
        let all : sections_in (w.done ++ t ∷ []) ≡ ds ++ t.section ∷ [] = sections-more w.done t in
        record {
          done = w.done ++ t ∷ [];
          ends = ap uptos all ∙ uptos-more ∙ sym (settle-here m.items i x inside longer here);
          each = subst (All (IsSectionOf m most_firings)) (sym all) each-more;
          go_on = subst (GoOn m 0 (Some [])) (sym all) goes-more;
          firings = fires-more;
          unspent = subst AreUnspent (sym all) (All-push (λ (e : Section). is_spent e.answer ≡ false) ds t.section w.unspent both.1);
          begins = sym (ap (upto_after 0) all ∙ upto-more 0 ds t.section);
          starts = sym (ap (box_after (Some [])) all ∙ box-more (Some []) ds t.section);
          counted = omega (arith, w.counted, length-append w.done (t ∷ []));
          order = omega arith;
          few = omega (arith, w.few);
          holds = holds;
          before = section-as-encloses m.cuts (take i m.items) net2.store.box s.end.answer is.greatest;
          text = subst (λ (r : Result (Unit {0}) WriteFault). Sends written flushed faults (traces_text m (w.done ++ t ∷ [])) old new r) (is-ok s.written both.0) text-more;
        }
