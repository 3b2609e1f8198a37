-- The sections that were settled and written so far, and one more.
use Rattle.std.proofs.Common.{◌≡◌, ℕ, ◌+◌, ◌<◌, ◌≤◌, ◌⊎◌, inl, inr, Bool, true, false, ◌||◌, List, [], ◌∷◌, ◌++◌, Option, Some, None, Result, Ok, Err, All, IsSome, arith, refl, sym, ap, ◌∙◌, subst, length, length-append, map, take, append-nil}
use Rattle.std.specs.Prelude.{OnOk, IsFalse, is_err}
use Rattle.std.proofs.lemmas.List.{map-append}
use Rattle.std.proofs.lemmas.List.Elements.{All-nil, All-push}
use Rattle.std.proofs.Math.Seq.{take-length}
use Rattle.tube_spec.specs.Span.{Span}
use Rattle.tube_io.specs.Sends.{Sends}
use Rattle.tube_io.specs.declared.whole.WriteFault.{WriteFault}
use Rattle.tube_io.proofs.Sent.{sends_none, sends_then}
use Rattle.ctc_network.specs.Nets.{NetState, no_net}
use Rattle.ctc_network.specs.declared.answers.Settled.{Settled}
use Rattle.ctc_network.specs.declared.answers.Settled.TheVariants as answer
use Rattle.mission_items.specs.declared.item.Item.{Item}
use Rattle.mission_items.specs.declared.mission.Mission.{Mission}
use Rattle.mission_net.specs.Records.{IsEnclosure}
use Rattle.mission_net.specs.Building.{IsNetOf, IsSectionAs}
use Rattle.any_ctc.specs.declared.AnyCtc.{AnyCtc}
use Rattle.mission_net.proofs.Sections.{section-as-encloses, enclosure-none, net-none}
use Rattle.section_report.specs.Sections.{is_settle, settles_from, section_ends, Section, section_of, IsSectionOf, GoesOn, GoOn, is_spent, AreUnspent, AreAll, cost_of, sections_cost}
use Rattle.section_report.specs.Texts.{text_of, report_text}
use Rattle.section_report.specs.Leaving.{IsReported, IsCutShort}
use Rattle.section_report.specs.declared.part.LastSection.{LastSection}
use Rattle.section_report.specs.declared.part.Choices.{Choices}
use Rattle.section_report.proofs.Ends.{settle-here, settle-not, later_ends, ends-rest, upto_after, box_after, upto-more, box-more, go_on-more, texts-more, costs-more}

-- how many records each of some sections takes
abbrev pub uptos : List Section → List ℕ
uptos ds = map (λ (d : Section). d.upto) ds

-- The sections that end before record `i` were settled and written, the last of them with the first records, and the next has this number.
pub record IsWrittenTo {K : Type 0} (written : K → Option (List ℕ)) (flushed : K → Option ℕ) (faults : K → ℕ) (m : Mission) (chosen : Choices) (old : K)
    (from i first number : ℕ) (net : NetState AnyCtc) (new : K) (now : ℕ) : Type 0 where
  pub done : List Section
  pub ends : uptos done ≡ settles_from 0 (take i m.items)
  pub each : All (IsSectionOf m chosen.budget) done
  pub go_on : GoOn m 0 (Some []) done
  pub unspent : AreUnspent done
  pub begins : first ≡ upto_after 0 done
  pub starts : net.store.box ≡ box_after (Some []) done
  pub counted : number ≡ length done + 1
  pub order : first ≤ i
  pub few : number ≤ i + 1
  pub holds : IsNetOf m.cuts (take first m.items) net
  pub before : IsEnclosure m.cuts (take first m.items) net.store.box
  pub text : Sends {T = Unit {0}} {E = WriteFault} written flushed faults (report_text m chosen.brief done) old new (Ok tt)
  pub rests : IsSome net.store.box → All IsFalse net.waiting
  pub cost : now ≤ from + sections_cost m done

-- who waits after a section that another follows
rests-after : (grid : List ℕ) (items : List Item) (box : Option (List Span)) (ws : List Bool) (a : Settled) → IsSectionAs grid items box a → is_spent a ≡ false → (a ≡ answer.Fixpoint → All IsFalse ws) → IsSome box → All IsFalse ws
rests-after grid items box ws answer.Fixpoint is plain rests some = rests refl
rests-after grid items None ws answer.Empty is plain rests some = absurd (cc some)
rests-after grid items (Some xs) ws answer.Empty is plain rests some = absurd (let none = is.0 in cc none)
rests-after grid items box ws (answer.Spent id) is plain rests some = absurd (cc plain)

-- the two reasons to end a report
or-false : (a b : Bool) → (a || b) ≡ false → (a ≡ false) × (b ≡ false)
or-false true b e = absurd (cc e)
or-false false b e = (refl, e)

is-ok : (r : Result (Unit {0}) WriteFault) → is_err r ≡ false → r ≡ Ok tt
is-ok (Ok v) e = refl
is-ok (Err f) e = absurd (cc e)

spent-of : (a b : Bool) → (a || b) ≡ true → (a ≡ true) ⊎ (b ≡ true)
spent-of true b e = inl refl
spent-of false b e = inr e

ok-all : {P : Type 0} (r : Result (Unit {0}) WriteFault) → (is_err r ≡ true) ⊎ P → OnOk r P
ok-all (Ok v) (inl e) = absurd (cc e)
ok-all (Ok v) (inr p) = p
ok-all (Err f) h = tt

module _ {K : Type 0} (written : K → Option (List ℕ)) (flushed : K → Option ℕ) (faults : K → ℕ) (m : Mission) (chosen : Choices) (old : K) (from : ℕ) where
  -- nothing yet
  pub written-none : (net : NetState AnyCtc) → net ≡ no_net m.cuts → IsWrittenTo written flushed faults m chosen old from 0 0 1 net old from
  written-none net e = record {
    done = [];
    ends = refl;
    each = All-nil (IsSectionOf m chosen.budget);
    go_on = tt;
    unspent = All-nil (λ (d : Section). is_spent d.answer ≡ false);
    begins = refl;
    starts = box;
    counted = refl;
    order = omega arith;
    few = omega arith;
    holds = net-none m.cuts net (ap (λ (n : NetState AnyCtc). n.store.shape) e) box (ap (λ (n : NetState AnyCtc). n.contractors) e);
    before = subst (IsEnclosure m.cuts []) (sym box) (enclosure-none m.cuts);
    text = sends_none written flushed faults old;
    rests = λ some. subst (All IsFalse) (sym (ap (λ (n : NetState AnyCtc). n.waiting) e)) (All-nil IsFalse);
    cost = omega arith;
  }
    where
      box : net.store.box ≡ Some []
      box = ap (λ (n : NetState AnyCtc). n.store.box) e

  -- a record that ends no section
  pub written-past : (i first number : ℕ) (net : NetState AnyCtc) (new : K) (now : ℕ) (x : Item) → i < length m.items → take (i + 1) m.items ≡ take i m.items ++ x ∷ [] → is_settle x ≡ false
      → IsWrittenTo written flushed faults m chosen old from i first number net new now → IsWrittenTo written flushed faults m chosen old from (i + 1) first number net new now
  written-past i first number net new now x inside longer plain w = record {
    done = w.done;
    ends = w.ends ∙ sym (settle-not m.items i x inside longer plain);
    each = w.each;
    go_on = w.go_on;
    unspent = w.unspent;
    begins = w.begins;
    starts = w.starts;
    counted = w.counted;
    order = omega (arith, w.order);
    few = omega (arith, w.few);
    holds = w.holds;
    before = w.before;
    text = w.text;
    rests = w.rests;
    cost = w.cost;
  }

  -- memory ran out in the section after these
  pub cut-short : (i first number : ℕ) (net : NetState AnyCtc) (new after : K) (now later : ℕ) → after ≡ new → later ≡ now → IsWrittenTo written flushed faults m chosen old from i first number net new now
      → IsCutShort written flushed faults m chosen old after from later
  cut-short i first number net new after now later silent still w = record {
    done = w.done;
    sections = record {
      ends = (later_ends i m.items, ap (λ (l : List ℕ). l ++ later_ends i m.items) w.ends ∙ ends-rest m.items i);
      each = w.each;
      go_on = w.go_on;
    };
    unspent = w.unspent;
    text = subst (λ (k : K). Sends {T = Unit {0}} {E = WriteFault} written flushed faults (report_text m chosen.brief w.done) old k (Ok tt)) (sym silent) w.text;
    cost = omega (arith, still, w.cost);
  }

  module _ (i first number : ℕ) (net net2 : NetState AnyCtc) (mid new : K) (now later : ℕ) (s : LastSection) (w : IsWrittenTo written flushed faults m chosen old from i first number net mid now)
      (holds : IsNetOf m.cuts (take i m.items) net2) (is : IsSectionOf m chosen.budget (section_of i s.end net2.store.box)) (goes : GoesOn m first net.store.box (section_of i s.end net2.store.box))
      (resting : s.end.answer ≡ answer.Fixpoint → All IsFalse net2.waiting) (placed : (s.number ≡ number) × (s.upto ≡ i))
      (text : Sends written flushed faults (text_of m chosen.brief number (section_of i s.end net2.store.box)) mid new s.written)
      (cost : (IsSome net.store.box → All IsFalse net.waiting) → later ≤ now + cost_of m first net.store.box (section_of i s.end net2.store.box)) where
    d : Section
    d = section_of i s.end net2.store.box

    each-more : All (IsSectionOf m chosen.budget) (w.done ++ d ∷ [])
    unfolding d
    each-more = All-push (IsSectionOf m chosen.budget) w.done d w.each is

    goes-more : GoOn m 0 (Some []) (w.done ++ d ∷ [])
    unfolding d
    goes-more =
        go_on-more m 0 (Some []) w.done d w.go_on
        (subst (λ (b : Option (List Span)). GoesOn m (upto_after 0 w.done) b d) w.starts (subst (λ (n : ℕ). GoesOn m n net.store.box d) w.begins goes))

    text-more : Sends written flushed faults (report_text m chosen.brief (w.done ++ d ∷ [])) old new s.written
    unfolding d
    text-more =
        let count : number ≡ 1 + length w.done = omega (arith, w.counted) in
        subst (λ (t : List ℕ). Sends written flushed faults t old new s.written)
        (ap (λ (k : ℕ). report_text m chosen.brief w.done ++ text_of m chosen.brief k d) count ∙ sym (texts-more m chosen.brief 1 w.done d))
        (sends_then written flushed faults (report_text m chosen.brief w.done) (text_of m chosen.brief number d) old mid new s.written w.text text)

    cost-more : later ≤ from + sections_cost m (w.done ++ d ∷ [])
    unfolding d
    cost-more =
        let here : later ≤ now + cost_of m (upto_after 0 w.done) (box_after (Some []) w.done) d =
        subst (λ (b : Option (List Span)). later ≤ now + cost_of m (upto_after 0 w.done) b d) w.starts (subst (λ (n : ℕ). later ≤ now + cost_of m n net.store.box d) w.begins (cost w.rests)) in
        omega (arith, here, w.cost, costs-more m 0 (Some []) w.done d)

    uptos-more : uptos (w.done ++ d ∷ []) ≡ settles_from 0 (take i m.items) ++ i ∷ []
    unfolding d
    uptos-more = map-append (λ (e : Section). e.upto) w.done (d ∷ []) ∙ ap (λ (l : List ℕ). l ++ i ∷ []) w.ends

    reported-by : i ≤ length m.items → (rest : List ℕ) → (settles_from 0 (take i m.items) ++ i ∷ []) ++ rest ≡ section_ends m.items → OnOk s.written (AreAll m w.done d) → IsReported written flushed faults m chosen old new from later net2 s
    unfolding d
    reported-by inside rest ends all = record {
      earlier = w.done;
      last = d;
      here = ap (λ (n : ℕ). section_of n s.end net2.store.box) (sym placed.1);
      within = omega (arith, placed.1, inside);
      sections = record {
        sections = record { ends = (rest, ap (λ (l : List ℕ). l ++ rest) uptos-more ∙ ends); each = each-more; go_on = goes-more };
        unspent = w.unspent;
      };
      all = all;
      numbered = placed.0 ∙ w.counted;
      text = text-more;
      holds = holds;
      resting = resting;
      cost = cost-more;
    }

    -- a section after which none is settled
    pub reported-early : (x : Item) → i < length m.items → take (i + 1) m.items ≡ take i m.items ++ x ∷ [] → is_settle x ≡ true → (is_err s.written || is_spent s.end.answer) ≡ true → IsReported written flushed faults m chosen old new from later net2 s
    unfolding d
    reported-early x inside longer here stops =
        reported-by (omega (arith, inside)) (later_ends (i + 1) m.items)
        (ap (λ (l : List ℕ). l ++ later_ends (i + 1) m.items) (sym (settle-here m.items i x inside longer here)) ∙ ends-rest m.items (i + 1))
        (ok-all s.written (elim (spent-of (is_err s.written) (is_spent s.end.answer) stops) [ inl e ↦ inl e | inr e ↦ inr (inr e) ]))

    -- the last section
    pub reported-last : i ≡ length m.items → IsReported written flushed faults m chosen old new from later net2 s
    unfolding d
    reported-last e =
        let all : settles_from 0 (take i m.items) ++ i ∷ [] ≡ section_ends m.items =
        ap (λ (n : ℕ). settles_from 0 (take n m.items) ++ n ∷ []) e ∙ ap (λ (l : List Item). settles_from 0 l ++ length m.items ∷ []) (take-length m.items) in
        reported-by (omega (arith, e)) [] (append-nil (settles_from 0 (take i m.items) ++ i ∷ []) ∙ all) (ok-all s.written (inr (inl (uptos-more ∙ all))))

    -- a section after which the next one comes
    pub written-more : (x : Item) → i < length m.items → take (i + 1) m.items ≡ take i m.items ++ x ∷ [] → is_settle x ≡ true → (is_err s.written || is_spent s.end.answer) ≡ false
        → IsWrittenTo written flushed faults m chosen old from (i + 1) i (number + 1) net2 new later
    unfolding d
    written-more x inside longer here goes_on =
        let both = or-false (is_err s.written) (is_spent s.end.answer) goes_on in record {
          done = w.done ++ d ∷ [];
          ends = uptos-more ∙ sym (settle-here m.items i x inside longer here);
          each = each-more;
          go_on = goes-more;
          unspent = All-push (λ (e : Section). is_spent e.answer ≡ false) w.done d w.unspent both.1;
          begins = sym (upto-more 0 w.done d);
          starts = sym (box-more (Some []) w.done d);
          counted = omega (arith, w.counted, length-append w.done (d ∷ []));
          order = omega arith;
          few = omega (arith, w.few);
          holds = holds;
          before = section-as-encloses m.cuts (take i m.items) net2.store.box s.end.answer is.greatest;
          text = subst (λ (r : Result (Unit {0}) WriteFault). Sends written flushed faults (report_text m chosen.brief (w.done ++ d ∷ [])) old new r) (is-ok s.written both.0) text-more;
          rests = rests-after m.cuts (take i m.items) net2.store.box net2.waiting s.end.answer is.greatest both.1 resting;
          cost = cost-more;
        }
