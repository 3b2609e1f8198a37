use Rattle.std.proofs.Common.{List, ap, sym, ◌∙◌, subst}
use Rattle.std.specs.List.{Contains}
use Rattle.mission_items.specs.declared.item.Item.{Item}
use Rattle.mission_loops.specs.Cost.{TakesAtMost}
use Rattle.mission_loops.specs.Findings.{IsTold}
use Rattle.mission_loops.specs.Queries.{queries, query_of}
use Rattle.mission_loops.specs.Writing.{AreWritten}
use Rattle.mission_loops.proofs.Taking.{cost-early, cost-next, cost-past}
use Rattle.mission_loops.proofs.Steps.{asked-here, longer, not-query, told-next, told-past, written-early}
use Rattle.mission_loops.proofs.writing.write_findings.Goals as goal
use Rattle.mission_loops.proofs.writing.write_findings.Goals.{in-Revisit+in_ok-told+else-is_err, in_default}

pub find_loops-requires-clause-asked : goal.find_loops-requires-clause-asked
find_loops-requires-clause-asked g c =
    let items = c.first_items-items.result.now in
    let i = c.loop-item.item-index in
    let x = c.item-item.result in
    subst (λ (l : List Item). Contains (queries l) c.in-Revisit.q) c.first_items-items.ensures
    (asked-here items i x c.in-Revisit.q (longer items i x c.loop-item-test.true c.item-item.is) (ap query_of c.in-Revisit.is))

pub returns-then-is_err-clause-written : goal.returns-then-is_err-clause-written
returns-then-is_err-clause-written g c =
    let items = c.first_items-items.result.now in
    let m = c.args.mission.now in
    let box = c.args.store.now.box in
    let i = c.loop-item.item-index in
    let x = c.item-item.result in
    subst
    (λ (l : List Item). AreWritten g.K.Sink.written g.K.Sink.flushed g.K.Sink.faults m.cuts l box c.args.brief c.args.sink.now c.write_told-written.new.sink
    (record { last = c.in_ok-told.told; written = c.write_told-written.result }))
    c.first_items-items.ensures
    (written-early g.K.Sink.written g.K.Sink.flushed g.K.Sink.faults m.cuts items box c.args.brief c.args.sink.now i c.loop-item.number c.loop-item.last c.loop-item.sink c.loop-item.invariant.told
    x (longer items i x c.loop-item-test.true c.item-item.is) c.in-Revisit.q (ap query_of c.in-Revisit.is) c.in_ok-told.told
    (subst (λ (l : List Item). IsTold m.cuts l box c.in-Revisit.q c.in_ok-told.told) (sym c.first_items-items.ensures) c.in_ok-told.ensures.told)
    c.write_told-written.result c.write_told-written.new.sink c.write_told-written.ensures (sym c.is_err.ensures.value ∙ c.if-is_err.true))

pub loop-item-preserved : goal.loop-item-preserved
loop-item-preserved g c =
    let items = c.first_items-items.result.now in
    let m = c.args.mission.now in
    let box = c.args.store.now.box in
    let i = c.loop-item.item-index in
    let x = c.item-item.result in
    let more = longer items i x c.loop-item-test.true c.item-item.is in
    let s = c.args.store.now.shape in
    let so_far = c.loop-item.invariant.cost in
    elim c.match-item.branch [
      | in-Revisit+in_ok-told+else-is_err w ↦
          rw (w.number-is, w.last-is, w.sink-is, w.steps-is) (record {
            told =
                told-next g.K.Sink.written g.K.Sink.flushed g.K.Sink.faults m.cuts items box c.args.brief c.args.sink.now i c.loop-item.number c.loop-item.last c.loop-item.sink c.loop-item.invariant.told
                x more w.in-Revisit.q (ap query_of w.in-Revisit.is) w.in_ok-told.told
                (subst (λ (l : List Item). IsTold m.cuts l box w.in-Revisit.q w.in_ok-told.told) (sym c.first_items-items.ensures) w.in_ok-told.ensures.told)
                w.write_told-written.result w.write_told-written.new.sink w.write_told-written.ensures (sym w.is_err.ensures.value ∙ w.if-is_err.false);
            cost = cost-next s box items i c.args.steps.now c.loop-item.steps so_far x more w.in-Revisit.q (ap query_of w.in-Revisit.is) w.find_loops.new.steps w.find_loops.ensures.steps;
          })
      | in_default w ↦
          rw (w.number-is, w.last-is, w.sink-is, w.steps-is) (record {
            told =
                told-past g.K.Sink.written g.K.Sink.flushed g.K.Sink.faults m.cuts items box c.args.brief c.args.sink.now i c.loop-item.number c.loop-item.last c.loop-item.sink c.loop-item.invariant.told
                x more (not-query x w.in_default.not-Revisit);
            cost = cost-past s box items i c.args.steps.now c.loop-item.steps so_far x more (not-query x w.in_default.not-Revisit);
          })
    ]

pub returns-in_err-told-clause-steps : goal.returns-in_err-told-clause-steps
returns-in_err-told-clause-steps g c =
    let items = c.first_items-items.result.now in
    let i = c.loop-item.item-index in
    let x = c.item-item.result in
    let s = c.args.store.now.shape in
    let box = c.args.store.now.box in
    subst (λ (l : List Item). TakesAtMost s box (queries l) c.args.steps.now c.find_loops.new.steps) c.first_items-items.ensures
    (cost-early s box items i c.args.steps.now c.loop-item.steps c.loop-item.invariant.cost x (longer items i x c.loop-item-test.true c.item-item.is) c.in-Revisit.q (ap query_of c.in-Revisit.is)
    c.find_loops.new.steps c.find_loops.ensures.steps)

pub returns-then-is_err-clause-steps : goal.returns-then-is_err-clause-steps
returns-then-is_err-clause-steps g c =
    let items = c.first_items-items.result.now in
    let i = c.loop-item.item-index in
    let x = c.item-item.result in
    let s = c.args.store.now.shape in
    let box = c.args.store.now.box in
    subst (λ (l : List Item). TakesAtMost s box (queries l) c.args.steps.now c.find_loops.new.steps) c.first_items-items.ensures
    (cost-early s box items i c.args.steps.now c.loop-item.steps c.loop-item.invariant.cost x (longer items i x c.loop-item-test.true c.item-item.is) c.in-Revisit.q (ap query_of c.in-Revisit.is)
    c.find_loops.new.steps c.find_loops.ensures.steps)
