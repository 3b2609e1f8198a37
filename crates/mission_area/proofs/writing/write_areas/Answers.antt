use Rattle.std.proofs.Common.{List, ap, sym, ◌∙◌, subst, take, w64}
use Rattle.std.specs.List.{Contains}
use Rattle.std.proofs.lemmas.Int.{to_z-of_z}
use Rattle.mission_items.specs.declared.item.Item.{Item}
use Rattle.mission_loops.specs.Queries.{queries, query_of}
use Rattle.mission_loops.proofs.Steps.{asked-here, longer, not-query}
use Rattle.mission_area.specs.Writing.{AreWritten, IsToldAs}
use Rattle.mission_area.proofs.Steps.{told-next, told-past, written-early}
use Rattle.mission_area.proofs.writing.write_areas.Goals as goal
use Rattle.mission_area.proofs.writing.write_areas.Goals.{in-Revisit+in_ok-written+else-is_err, in_default}

pub write_told-requires-clause-asked : goal.write_told-requires-clause-asked
write_told-requires-clause-asked g c =
    let items = take c.args.upto c.as_slice.result.now in
    let i = c.loop-item.item-index in
    let x = c.item-item.result in
    subst (λ (l : List Item). Contains (queries (take c.args.upto l)) c.in-Revisit.q) c.as_slice.ensures
    (asked-here items i x c.in-Revisit.q (longer items i x c.loop-item-test.true c.item-item.is) (ap query_of c.in-Revisit.is))

pub returns-then-is_err-clause-written : goal.returns-then-is_err-clause-written
returns-then-is_err-clause-written g c =
    let items = take c.args.upto c.as_slice.result.now in
    let m = c.args.mission.now in
    let box = c.args.store.now.box in
    let i = c.loop-item.item-index in
    let x = c.item-item.result in
    let same = to_z-of_z w64 c.args.step c.ranges.step in
    let so_far = rw same at c.loop-item.invariant in
    let told = rw same at c.in_ok-written.ensures.told in
    subst
    (λ (l : List Item). AreWritten g.K.Sink.written g.K.Sink.flushed g.K.Sink.faults m.cuts (take c.args.upto l) box c.args.step c.args.brief c.args.sink.now c.write_told.new.sink c.in_ok-written.written)
    c.as_slice.ensures
    (written-early g.K.Sink.written g.K.Sink.flushed g.K.Sink.faults m.cuts items box c.args.step c.args.brief c.args.sink.now i c.loop-item.number c.loop-item.sink so_far
    x (longer items i x c.loop-item-test.true c.item-item.is) c.in-Revisit.q (ap query_of c.in-Revisit.is)
    c.in_ok-written.written c.write_told.new.sink
    (subst (λ (l : List Item). IsToldAs g.K.Sink.written g.K.Sink.flushed g.K.Sink.faults m.cuts (take c.args.upto l) box c.args.step c.in-Revisit.q c.loop-item.number c.args.brief c.loop-item.sink c.write_told.new.sink c.in_ok-written.written)
    (sym c.as_slice.ensures) told)
    (sym c.is_err.ensures.value ∙ c.if-is_err.true))

pub loop-item-preserved : goal.loop-item-preserved
loop-item-preserved g c =
    let items = take c.args.upto c.as_slice.result.now in
    let m = c.args.mission.now in
    let box = c.args.store.now.box in
    let i = c.loop-item.item-index in
    let x = c.item-item.result in
    let more = longer items i x c.loop-item-test.true c.item-item.is in
    let same = to_z-of_z w64 c.args.step c.ranges.step in
    let so_far = rw same at c.loop-item.invariant in
    elim c.match-item.branch [
      | in-Revisit+in_ok-written+else-is_err w ↦
          let told = rw same at w.in_ok-written.ensures.told in
          rw (same, w.number-is, w.sink-is)
          (told-next g.K.Sink.written g.K.Sink.flushed g.K.Sink.faults m.cuts items box c.args.step c.args.brief c.args.sink.now i c.loop-item.number c.loop-item.sink so_far
          x more w.in-Revisit.q (ap query_of w.in-Revisit.is)
          w.in_ok-written.written w.write_told.new.sink
          (subst (λ (l : List Item). IsToldAs g.K.Sink.written g.K.Sink.flushed g.K.Sink.faults m.cuts (take c.args.upto l) box c.args.step w.in-Revisit.q c.loop-item.number c.args.brief c.loop-item.sink w.write_told.new.sink w.in_ok-written.written)
          (sym c.as_slice.ensures) told)
          (sym w.is_err.ensures.value ∙ w.if-is_err.false))
      | in_default w ↦
          rw (same, w.number-is, w.sink-is)
          (told-past g.K.Sink.written g.K.Sink.flushed g.K.Sink.faults m.cuts items box c.args.step c.args.brief c.args.sink.now i c.loop-item.number c.loop-item.sink so_far
          x more (not-query x w.in_default.not-Revisit))
    ]
