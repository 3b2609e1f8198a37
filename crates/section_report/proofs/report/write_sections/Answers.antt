use Rattle.std.proofs.Common.{◌≡◌, ℕ, ◌+◌, ◌<◌, List, [], ◌∷◌, ◌++◌, Result, Ok, Err, OnOk, OnErr, IfOk, arith, sym, ap, ◌∙◌, subst, length, take, get_or}
use Rattle.std.proofs.lemmas.List.{take_more}
use Rattle.mission_items.specs.declared.item.Item.{Item}
use Rattle.section_report.specs.Leaving.{IsCutShort}
use Rattle.section_report.proofs.Reporting.{IsWrittenTo, written-none, written-past, written-more, cut-short, reported-early, reported-last}
use Rattle.section_report.proofs.report.write_sections.Goals as goal
use Rattle.section_report.proofs.report.write_sections.Goals.{then-is_settle+in_ok-section+else-ends_report, else-is_settle}

-- the records before a place, with the one there
longer : (items all : List Item) → items ≡ all → (i : ℕ) (x : Item) → x ≡ get_or items i x → i < length all → take (i + 1) all ≡ take i all ++ x ∷ []
longer items all same i x is inside = take_more all i x inside ∙ ap (λ (r : Item). take i all ++ r ∷ []) (sym (is ∙ ap (λ (l : List Item). get_or l i x) same))

on-err : {S E : Type 0} (r : Result S E) (P : Type 0) → P → OnErr r P
on-err (Ok s) P p = tt
on-err (Err e) P p = p

both-err : {S E W : Type 0} (r : Result S E) (P Q R : Type 0) → (P → Q → W → R) → OnErr r P → OnErr r Q → W → OnErr r R
both-err (Ok s) P Q R f p q w = tt
both-err (Err e) P Q R f p q w = f p q w

if-ok-then : {S E : Type 0} (r : Result S E) (A : Type 0) (B C D F G I H : S → Type 0) → OnOk r A → IfOk r B → IfOk r C → IfOk r D → IfOk r F → IfOk r G → IfOk r I → ((s : S) → A → B s → C s → D s → F s → G s → I s → H s) → IfOk r H
if-ok-then (Ok s) A B C D F G I H a b c d e g i h = h s a b c d e g i
if-ok-then (Err e) A B C D F G I H a b c d f g i h = tt

pub loop-upto-init : goal.loop-upto-init
loop-upto-init g c = record {
  sections = written-none g.K.Sink.written g.K.Sink.flushed g.K.Sink.faults c.args.mission.now c.args.choices c.args.sink.now c.args.steps.now c.args.net.now c.requires.fresh;
  places = c.new-places.ensures;
  table = c.new-table.ensures;
}

pub returns-in_err-section-clause-cut_short : goal.returns-in_err-section-clause-cut_short
returns-in_err-section-clause-cut_short g c =
    let m = c.args.mission.now in
    let from = c.args.steps.now in
    on-err c.from_residual.result (IsCutShort g.K.Sink.written g.K.Sink.flushed g.K.Sink.faults m c.args.choices c.args.sink.now c.write_part.new.sink from c.write_part.new.steps)
    (cut-short g.K.Sink.written g.K.Sink.flushed g.K.Sink.faults m c.args.choices c.args.sink.now from c.loop-upto.upto c.loop-upto.first c.loop-upto.number c.loop-upto.net c.loop-upto.sink c.write_part.new.sink c.loop-upto.steps c.write_part.new.steps
    c.in_err-section.ensures.silent c.in_err-section.ensures.unsettled c.loop-upto.invariant.sections)

pub returns-then-ends_report-clause-reported : goal.returns-then-ends_report-clause-reported
returns-then-ends_report-clause-reported g c =
    let m = c.args.mission.now in
    let i = c.loop-upto.upto in
    let x = c.index-items-upto.result in
    let inside : i < length m.items = omega (arith, c.loop-upto-test.true, ap length c.as_slice-items.ensures) in
    let e = c.in_ok-section.ensures in
    reported-early g.K.Sink.written g.K.Sink.flushed g.K.Sink.faults m c.args.choices c.args.sink.now c.args.steps.now i c.loop-upto.first c.loop-upto.number c.loop-upto.net c.write_part.new.net c.loop-upto.sink c.write_part.new.sink c.loop-upto.steps c.write_part.new.steps c.in_ok-section.section
    c.loop-upto.invariant.sections e.holds e.section e.goes_on e.resting e.place e.writes e.cost
    x inside (longer c.as_slice-items.result.now m.items c.as_slice-items.ensures i x c.index-items-upto.is inside) (sym c.is_settle.ensures ∙ c.if-is_settle.true) (sym c.ends_report.ensures ∙ c.if-ends_report.true)

pub loop-upto-preserved : goal.loop-upto-preserved
loop-upto-preserved g c =
    let m = c.args.mission.now in
    let i = c.loop-upto.upto in
    let x = c.index-items-upto.result in
    let inside : i < length m.items = omega (arith, c.loop-upto-test.true, ap length c.as_slice-items.ensures) in
    let more = longer c.as_slice-items.result.now m.items c.as_slice-items.ensures i x c.index-items-upto.is inside in
    elim c.if-is_settle.branch [
      | then-is_settle+in_ok-section+else-ends_report w ↦
          let e = w.in_ok-section.ensures in
          rw (w.first-is, w.number-is, w.net-is, w.sink-is, w.steps-is, w.table-is, w.places-is)
          (record {
            sections = written-more g.K.Sink.written g.K.Sink.flushed g.K.Sink.faults m c.args.choices c.args.sink.now c.args.steps.now i c.loop-upto.first c.loop-upto.number c.loop-upto.net w.write_part.new.net c.loop-upto.sink w.write_part.new.sink c.loop-upto.steps w.write_part.new.steps w.in_ok-section.section
                c.loop-upto.invariant.sections e.holds e.section e.goes_on e.resting e.place e.writes e.cost
                x inside more (sym c.is_settle.ensures ∙ w.if-is_settle.true) (sym w.ends_report.ensures ∙ w.if-ends_report.false);
            places = e.places;
            table = e.table;
          })
      | else-is_settle w ↦
          rw (w.first-is, w.number-is, w.net-is, w.sink-is, w.steps-is, w.table-is, w.places-is)
          (record { sections = written-past g.K.Sink.written g.K.Sink.flushed g.K.Sink.faults m c.args.choices c.args.sink.now c.args.steps.now i c.loop-upto.first c.loop-upto.number c.loop-upto.net c.loop-upto.sink c.loop-upto.steps x inside more (sym c.is_settle.ensures ∙ w.if-is_settle.false) c.loop-upto.invariant.sections; places = c.loop-upto.invariant.places; table = c.loop-upto.invariant.table })
    ]

pub returns-clause-reported : goal.returns-clause-reported
returns-clause-reported g c =
    let m = c.args.mission.now in
    let n = length c.as_slice-items.result.now in
    let end : c.loop-upto.upto ≡ n = omega (arith, c.loop-upto-test.false, c.loop-upto.auto.upto-end) in
    let w = subst (λ (k : ℕ). IsWrittenTo g.K.Sink.written g.K.Sink.flushed g.K.Sink.faults m c.args.choices c.args.sink.now c.args.steps.now k c.loop-upto.first c.loop-upto.number c.loop-upto.net c.loop-upto.sink c.loop-upto.steps) end c.loop-upto.invariant.sections in
    let e = c.write_part-2.ensures in
    if-ok-then c.write_part-2.result _ _ _ _ _ _ _ _ e.holds e.section e.goes_on e.resting e.place e.writes e.cost
    (λ s holds is goes resting numbered text cost. reported-last g.K.Sink.written g.K.Sink.flushed g.K.Sink.faults m c.args.choices c.args.sink.now c.args.steps.now n c.loop-upto.first c.loop-upto.number c.loop-upto.net c.write_part-2.new.net c.loop-upto.sink c.write_part-2.new.sink c.loop-upto.steps c.write_part-2.new.steps s
    w holds is goes resting numbered text cost (ap length c.as_slice-items.ensures))

pub returns-clause-cut_short : goal.returns-clause-cut_short
returns-clause-cut_short g c =
    let m = c.args.mission.now in
    let from = c.args.steps.now in
    both-err c.write_part-2.result _ _ (IsCutShort g.K.Sink.written g.K.Sink.flushed g.K.Sink.faults m c.args.choices c.args.sink.now c.write_part-2.new.sink from c.write_part-2.new.steps)
    (cut-short g.K.Sink.written g.K.Sink.flushed g.K.Sink.faults m c.args.choices c.args.sink.now from c.loop-upto.upto c.loop-upto.first c.loop-upto.number c.loop-upto.net c.loop-upto.sink c.write_part-2.new.sink c.loop-upto.steps c.write_part-2.new.steps)
    c.write_part-2.ensures.silent c.write_part-2.ensures.unsettled c.loop-upto.invariant.sections
