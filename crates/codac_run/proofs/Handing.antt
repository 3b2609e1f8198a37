-- What a run over an accepted log leaves, from what settling and writing its sections say.
use Rattle.std.proofs.Common.{◌≡◌, ℕ, ◌+◌, ◌-◌, ◌≤◌, ◌⊎◌, inl, inr, Bool, true, false, List, [], ◌∷◌, ◌++◌, Option, None, Result, Ok, Err, OnOk, IsErr, IsSomeAnd, refl, sym, ap, subst, ◌∙◌, arith, length, map, take}
use Rattle.std.proofs.lemmas.List.{map-append}
use Rattle.std.proofs.Math.Seq.{take-length}
use Rattle.tube_spec.specs.Span.{Span}
use Rattle.tube_spec.specs.Shape.{Shape}
use Rattle.tube_spec.specs.Box.{measure_of}
use Rattle.tube_io.specs.Sends.{Sends}
use Rattle.tube_io.specs.declared.whole.WriteFault.{WriteFault}
use Rattle.ctc_network.specs.Nets.{NetState}
use Rattle.ctc_network.specs.declared.answers.Settled.{Settled}
use Rattle.ctc_network.specs.declared.answers.Settled.TheVariants as answer
use Rattle.mission_items.specs.declared.item.Item.{Item}
use Rattle.mission_items.specs.declared.mission.Mission.{Mission}
use Rattle.mission_items.specs.Valid.{IsMission}
use Rattle.mission_net.specs.Building.{IsNetOf, IsSpentAs}
use Rattle.mission_net.specs.Records.{shape_by}
use Rattle.any_ctc.specs.declared.AnyCtc.{AnyCtc}
use Rattle.section_report.specs.Sections.{Section, settles_from, section_ends, IsSectionOf, is_spent, AreAll}
use Rattle.section_report.specs.Texts.{verdict_of, report_text}
use Rattle.section_report.specs.Leaving.{IsReported, IsCutShort}
use Rattle.section_report.specs.declared.part.LastSection.{LastSection}
use Rattle.section_report.proofs.Ends.{at-last}
use Rattle.codac_run.specs.declared.ended.Status.{Status}
use Rattle.codac_run.specs.declared.ended.Status.TheVariants as status
use Rattle.codac_run.specs.declared.ended.SpentAt.{SpentAt}
use Rattle.codac_run.specs.declared.ended.Ended.{Ended}
use Rattle.loop_report.specs.declared.found.Found.{Found}
use Rattle.mission_loops.specs.declared.writing.Findings.{Findings}
use Rattle.codac_run.specs.Reports.{IsSpent, HandsSpent, IsSettledNet, HandsNet, HandsWhere, HandsNetWhere, HandsFound, IsSettledOnly, status_of, Writes, Stops, IsBare, run_text, RunsOut, RunsOutAfter, Reports}
use Rattle.mission_loops.specs.Cost.{TakesAtMost}
use Rattle.codac_run.specs.Told.{last_sets}
use Rattle.codac_run.specs.Tails.{paved_queries, AreToldOf, AreAllTold, AreStepsOf}
use Rattle.codac_run.specs.declared.plan.Plan.{Plan}
use Rattle.codac_run.specs.Telling.{AreToldAfter, AreCutShortAfter}

-- ---- the last section

final : ℕ → List ℕ → ℕ
final d [] = d
final d (x ∷ xs) = final x xs

final-more : (d : ℕ) (xs : List ℕ) (a : ℕ) → final d (xs ++ a ∷ []) ≡ a
unfolding final
final-more d [] a = refl
final-more d (x ∷ xs) a = final-more x xs a

-- where all sections of a mission are there, the last takes all records
takes-all : (m : Mission) (earlier : List Section) (last : Section) → map (λ (d : Section). d.upto) (earlier ++ last ∷ []) ≡ section_ends m.items → take last.upto m.items ≡ m.items
takes-all m earlier last e =
    let uptos = map (λ (d : Section). d.upto) earlier in
    let same : last.upto ≡ length m.items =
    sym (final-more 0 uptos last.upto) ∙ ap (final 0) (sym (map-append (λ (d : Section). d.upto) earlier (last ∷ [])) ∙ e) ∙ final-more 0 (settles_from 0 m.items) (length m.items) in
    ap (λ (n : ℕ). take n m.items) same ∙ take-length m.items

-- ---- what is handed out

hands-spent : (m : Mission) (budget number : ℕ) (last : Section) (net : NetState AnyCtc) (began : ℕ) (a : Settled) (spent : Option SpentAt) → last.box ≡ net.store.box
    → net.store.shape ≡ shape_by m.cuts (take last.upto m.items) → began ≡ last.began → IsSpentAs m.cuts (take last.upto m.items) last.box last.began budget a → HandsWhere a number began net spent → HandsSpent m budget number last a spent
hands-spent m budget number last net began answer.Fixpoint spent box shape same cause h = h
hands-spent m budget number last net began answer.Empty spent box shape same cause h = h
hands-spent m budget number last net began (answer.Spent id) spent box shape same cause h =
    subst (λ (o : Option SpentAt). IsSomeAnd o (λ at. (at.ctc ≡ id) × IsSpent m budget number last at)) (sym h) (
      refl,
      record {
        numbered = refl;
        held = sym box;
        shape = shape;
        before = same;
        after = ap measure_of (sym box);
        cause = subst (λ (n : ℕ). IsSpentAs m.cuts (take last.upto m.items) last.box n budget (answer.Spent id)) (sym same) cause;
      },
    )

-- where memory ran out nothing is handed out
pub not-handed : (hands_out : Bool) (net : NetState AnyCtc) (handed : Option (NetState AnyCtc)) → HandsNetWhere hands_out status.NoMemory net handed → handed ≡ None
not-handed true net handed h = h
not-handed false net handed h = h

pub not-found : (hands_out : Bool) (told handed : Option (List Found)) → HandsFound hands_out status.NoMemory told handed → handed ≡ None
not-found true told handed h = h
not-found false told handed h = h

hands-net : (hands_out : Bool) (m : Mission) (box : Option (List Span)) (s : Status) (net : NetState AnyCtc) (handed : Option (NetState AnyCtc)) → (s ≡ status.Settled → IsSettledNet m box net) → HandsNetWhere hands_out s net handed
    → HandsNet hands_out m box s handed
hands-net true m box status.Settled net handed settled h = subst (λ (o : Option (NetState AnyCtc)). IsSomeAnd o (IsSettledNet m box)) (sym h) (settled refl)
hands-net true m box status.Empty net handed settled h = h
hands-net true m box status.Usage net handed settled h = h
hands-net true m box status.Refused net handed settled h = h
hands-net true m box status.ReadFault net handed settled h = h
hands-net true m box status.WriteFault net handed settled h = h
hands-net true m box status.Spent net handed settled h = h
hands-net true m box status.NoMemory net handed settled h = h
hands-net false m box status.Settled net handed settled h = h
hands-net false m box status.Empty net handed settled h = h
hands-net false m box status.Usage net handed settled h = h
hands-net false m box status.Refused net handed settled h = h
hands-net false m box status.ReadFault net handed settled h = h
hands-net false m box status.WriteFault net handed settled h = h
hands-net false m box status.Spent net handed settled h = h
hands-net false m box status.NoMemory net handed settled h = h

-- a run that ends as settled had the answer Fixpoint, and failed at no write
only-fixpoint : (a : Settled) (s : Status) → (s ≡ status_of (verdict_of a)) ⊎ (s ≡ status.WriteFault) → s ≡ status.Settled → a ≡ answer.Fixpoint
only-fixpoint answer.Fixpoint s h e = refl
only-fixpoint answer.Empty s (inl h) e = absurd (cc)
only-fixpoint answer.Empty s (inr h) e = absurd (cc)
only-fixpoint (answer.Spent id) s (inl h) e = absurd (cc)
only-fixpoint (answer.Spent id) s (inr h) e = absurd (cc)

pub settled-only : (a : Settled) (s : Status) → (s ≡ status_of (verdict_of a)) ⊎ (s ≡ status.WriteFault) → IsSettledOnly a s
settled-only answer.Fixpoint s h = tt
settled-only answer.Empty s h = tt
settled-only (answer.Spent id) s h = λ e. elim h [ inl p ↦ absurd (cc) | inr p ↦ absurd (cc) ]

-- a text that was written whole
all-of : {P : Type 0} (r : Result (Unit {0}) WriteFault) → OnOk r P → (IsErr r → ⊥) → P
all-of (Ok v) p ok = p
all-of (Err e) p ok = absurd (ok refl)

is-no-err : (r : Result (Unit {0}) WriteFault) → r ≡ Ok tt → IsErr r → ⊥
is-no-err (Ok v) e err = cc err
is-no-err (Err f) e err = cc e

unspent-all : (m : Mission) (earlier : List Section) (last : Section) → AreAll m earlier last → last.answer ≡ answer.Fixpoint → map (λ (d : Section). d.upto) (earlier ++ last ∷ []) ≡ section_ends m.items
unspent-all m earlier last (inl all) e = all
unspent-all m earlier last (inr spent) e = absurd (let bad : true ≡ false = sym spent ∙ ap is_spent e in cc bad)

hands-found : (hands_out : Bool) (s : Status) (last told handed : Option (List Found)) → (s ≡ status.Settled → last ≡ told) → HandsFound hands_out s last handed → HandsFound hands_out s told handed
hands-found true status.Settled last told handed same h = h ∙ same refl
hands-found true status.Empty last told handed same h = h
hands-found true status.Usage last told handed same h = h
hands-found true status.Refused last told handed same h = h
hands-found true status.ReadFault last told handed same h = h
hands-found true status.WriteFault last told handed same h = h
hands-found true status.Spent last told handed same h = h
hands-found true status.NoMemory last told handed same h = h
hands-found false status.Settled last told handed same h = h
hands-found false status.Empty last told handed same h = h
hands-found false status.Usage last told handed same h = h
hands-found false status.Refused last told handed same h = h
hands-found false status.ReadFault last told handed same h = h
hands-found false status.WriteFault last told handed same h = h
hands-found false status.Spent last told handed same h = h
hands-found false status.NoMemory last told handed same h = h

module _ {K : Type 0} (written : K → Option (List ℕ)) (flushed : K → Option ℕ) (faults : K → ℕ) (m : Mission) (plan : Plan) (old mid : K)
    (net : NetState AnyCtc) (section : LastSection) (e : Ended) (before middle now : ℕ) (is : IsMission m)
    (r : IsReported written flushed faults m plan.sections old mid before middle net section)
    (steps : TakesAtMost net.store.shape net.store.box (paved_queries plan.tail (take section.upto m.items)) middle now)
    (spent : HandsWhere section.end.answer section.number section.end.began net e.spent) where
  answered : section.end.answer ≡ r.last.answer
  answered = sym (ap (λ (d : Section). d.answer) r.here)

  hands-last : HandsSpent m plan.sections.budget (length r.earlier + 1) r.last r.last.answer e.spent
  hands-last = subst (λ (a : Settled). HandsSpent m plan.sections.budget (length r.earlier + 1) r.last a e.spent) answered
      (hands-spent m plan.sections.budget (length r.earlier + 1) r.last net section.end.began section.end.answer e.spent (ap (λ (d : Section). d.box) r.here) r.holds.shape (sym (ap (λ (d : Section). d.began) r.here))
      (subst (IsSpentAs m.cuts (take r.last.upto m.items) r.last.box r.last.began plan.sections.budget) (sym answered) (at-last (IsSectionOf m plan.sections.budget) r.earlier r.last r.sections.sections.each).cause)
      (subst (λ (n : ℕ). HandsWhere section.end.answer n section.end.began net e.spent) r.numbered spent))

  all-steps : AreStepsOf m plan (r.earlier ++ r.last ∷ []) r.last (now - before)
  all-steps d root =
      let qs = paved_queries plan.tail (take r.last.upto m.items) in
      let upto : section.upto ≡ r.last.upto = sym (ap (λ (d : Section). d.upto) r.here) in
      let box : net.store.box ≡ r.last.box = sym (ap (λ (d : Section). d.box) r.here) in
      let told =
      subst (λ (b : Option (List Span)). TakesAtMost (shape_by m.cuts (take r.last.upto m.items)) b qs middle now) box
      (subst (λ (s : Shape). TakesAtMost s net.store.box qs middle now) r.holds.shape
      (subst (λ (n : ℕ). TakesAtMost net.store.shape net.store.box (paved_queries plan.tail (take n m.items)) middle now) upto steps)) in
      omega (arith, told d root, r.cost)

  -- where all was written
  module _ (after : K) (new : Option (List ℕ)) (count : Option ℕ) (s : Status) (findings : Findings)
      (t : AreToldAfter written flushed faults m plan section net.store.box mid after findings)
      (only : (s ≡ status_of (verdict_of section.end.answer)) ⊎ (s ≡ status.WriteFault)) (told : IsErr findings.written → s ≡ status.WriteFault)
      (writes : (text : List ℕ) → Sends written flushed faults text old after findings.written → Writes text (status_of (verdict_of section.end.answer)) (written old) new count s)
      (same : e.status ≡ s) (handed : HandsNetWhere plan.hands_out s net e.net) (found : HandsFound plan.hands_out s findings.last e.found) where
    all-there : (s ≡ status.WriteFault → ⊥) → AreAll m r.earlier r.last
    all-there ok = all-of section.written r.all (λ err. ok (told (t.sections err)))

    all-told : (s ≡ status.WriteFault → ⊥) → AreAllTold m plan r.last t.told
    all-told ok = subst (λ (d : Section). AreAllTold m plan d t.told) (sym r.here) (all-of findings.written t.all (λ err. ok (told err)))

    no-fault : s ≡ status.Settled → s ≡ status.WriteFault → ⊥
    no-fault settled fault = let bad : status.Settled ≡ status.WriteFault = sym settled ∙ fault in cc bad

    net-of-all : s ≡ status.Settled → IsSettledNet m r.last.box net
    net-of-all settled =
        let fixpoint = only-fixpoint section.end.answer s only settled in
        let ends = unspent-all m r.earlier r.last (all-there (no-fault settled)) (sym answered ∙ fixpoint) in record {
          holds = subst (λ (l : List Item). IsNetOf m.cuts l net) (takes-all m r.earlier r.last ends) r.holds;
          held = sym (ap (λ (d : Section). d.box) r.here);
          rests = r.resting fixpoint;
        }

    text : List ℕ
    text = run_text m plan (r.earlier ++ r.last ∷ []) t.told

    pub reported : Reports m plan (written old) new count e (now - before)
    unfolding text
    reported = record {
      accepted = is;
      earlier = r.earlier;
      last = r.last;
      sections = r.sections;
      told = t.told;
      findings = subst (λ (d : Section). AreToldOf m plan d t.told) (sym r.here) t.are_told;
      told_last = elim t.told_last [ inl none ↦ inl none | inr whole ↦ inr (all-of section.written r.all (is-no-err section.written whole)) ];
      writes = subst (λ (u : Status). Writes text (status_of (verdict_of r.last.answer)) (written old) new count u) (sym same)
          (subst (λ (a : Settled). Writes text (status_of (verdict_of a)) (written old) new count s) answered
          (writes text (t.text (report_text m plan.sections.brief (r.earlier ++ r.last ∷ [])) old r.text)));
      all = λ ok. (all-there (λ fault. ok (same ∙ fault)), all-told (λ fault. ok (same ∙ fault)));
      spent = hands-last;
      net = subst (λ (u : Status). HandsNet plan.hands_out m r.last.box u e.net) (sym same) (hands-net plan.hands_out m r.last.box s net e.net net-of-all handed);
      found = subst (λ (u : Status). HandsFound plan.hands_out u (last_sets t.told) e.found) (sym same)
          (hands-found plan.hands_out s findings.last (last_sets t.told) e.found (λ settled. all-of findings.written t.last (λ err. no-fault settled (told err))) found);
      cost = all-steps;
    }

  -- where memory ran out among the queries
  pub ran-out-after : (after : K) → AreCutShortAfter written flushed faults m plan section net.store.box mid after → e.status ≡ status.NoMemory → e.net ≡ None → e.found ≡ None
      → RunsOutAfter m plan (written old) (written after) e (now - before)
  ran-out-after after t ended bare none = record {
    accepted = is;
    ended = ended;
    earlier = r.earlier;
    last = r.last;
    sections = r.sections;
    all = all-of section.written r.all (λ err. is-no-err section.written t.sections err);
    told = t.told;
    findings = subst (λ (d : Section). AreToldOf m plan d t.told) (sym r.here) t.are_told;
    writes = (t.text (report_text m plan.sections.brief (r.earlier ++ r.last ∷ [])) old r.text).ok;
    spent = hands-last;
    net = bare;
    found = none;
    cost = all-steps;
  }

pub ran-out : {K : Type 0} (written : K → Option (List ℕ)) (flushed : K → Option ℕ) (faults : K → ℕ) (m : Mission) (plan : Plan) (old new : K) (e : Ended) (before now : ℕ) → IsMission m
    → IsCutShort written flushed faults m plan.sections old new before now → e.status ≡ status.NoMemory → IsBare e → RunsOut m plan (written old) (written new) e (now - before)
ran-out written flushed faults m plan old new e before now is short ended bare =
    record { accepted = is; ended = ended; bare = bare; done = short.done; sections = short.sections; unspent = short.unspent; writes = short.text.ok; cost = omega (arith, short.cost) }

-- ---- a run that is spent

reports-small : (m : Mission) (plan : Plan) (old new : Option (List ℕ)) (flushed : Option ℕ) (e : Ended) (used : ℕ) → Reports m plan old new flushed e used → e.status ≡ status.Spent → plan.sections.budget ≤ 2000000000000000
reports-small m plan old new flushed e used r spent = by r.last.answer is.cause r.writes
  where
    is : IsSectionOf m plan.sections.budget r.last
    is = at-last (IsSectionOf m plan.sections.budget) r.earlier r.last r.sections.sections.each

    by : (a : Settled) → IsSpentAs m.cuts (take r.last.upto m.items) r.last.box r.last.began plan.sections.budget a
        → Writes (run_text m plan (r.earlier ++ r.last ∷ []) r.told) (status_of (verdict_of a)) old new flushed e.status → plan.sections.budget ≤ 2000000000000000
    by (answer.Spent id) cause w = omega (arith, cause.0, is.small)
    by answer.Fixpoint cause (inl w) = absurd (let bad : status.Spent ≡ status.Settled = sym spent ∙ w.0 in cc bad)
    by answer.Fixpoint cause (inr w) = absurd (let bad : status.Spent ≡ status.WriteFault = sym spent ∙ w.0 in cc bad)
    by answer.Empty cause (inl w) = absurd (let bad : status.Spent ≡ status.Empty = sym spent ∙ w.0 in cc bad)
    by answer.Empty cause (inr w) = absurd (let bad : status.Spent ≡ status.WriteFault = sym spent ∙ w.0 in cc bad)

-- a budget that was spent is at most the greatest measure
pub spent-small : (m : Mission) (plan : Plan) (old new : Option (List ℕ)) (flushed : Option ℕ) (e : Ended) (used : ℕ) → Stops status.NoMemory old new e used ⊎ (RunsOut m plan old new e used ⊎ RunsOutAfter m plan old new e used ⊎ Reports m plan old new flushed e used)
    → e.status ≡ status.Spent → plan.sections.budget ≤ 2000000000000000
spent-small m plan old new flushed e used (inl stops) spent = absurd (let bad : status.Spent ≡ status.NoMemory = sym spent ∙ stops.0 in cc bad)
spent-small m plan old new flushed e used (inr (inl out)) spent = absurd (let bad : status.Spent ≡ status.NoMemory = sym spent ∙ out.ended in cc bad)
spent-small m plan old new flushed e used (inr (inr (inl out))) spent = absurd (let bad : status.Spent ≡ status.NoMemory = sym spent ∙ out.ended in cc bad)
spent-small m plan old new flushed e used (inr (inr (inr r))) spent = reports-small m plan old new flushed e used r spent
