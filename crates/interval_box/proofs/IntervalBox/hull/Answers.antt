use Rattle.std.proofs.Common.{ap, ap₂, arith, pos, ◌∙◌, length, slice_index_or}
use Rattle.tube_spec.specs.Span.{point, join_of}
use Rattle.interval_box.proofs.Each.{each-is, each-step, same-default}
use Rattle.interval_box.proofs.IntervalBox.hull.Goals as goal

pub loop-i-preserved : goal.loop-i-preserved
loop-i-preserved g c =
    let self_len = ap length c.self.view_is in
    let other_len = ap length c.other.view_is in
    let x = ap (λ xs. slice_index_or xs c.loop-i.i c.index-self-i.result) c.self.view_is ∙ same-default c.args.self.now c.loop-i.i c.index-self-i.result (point (pos 0)) (omega arith) in
    let y = ap (λ xs. slice_index_or xs c.loop-i.i c.index-other-i.result) c.other.view_is ∙ same-default c.args.other.now c.loop-i.i c.index-other-i.result (point (pos 0)) (omega arith) in
    each-step join_of c.args.self.now c.args.other.now c.loop-i.parts c.loop-i.i _ (omega arith) c.loop-i.invariant (c.hull.ensures.value ∙ ap₂ join_of x y)

pub returns : goal.returns
returns g c =
    let self_len = ap length c.self.view_is in
    let other_len = ap length c.other.view_is in
    each-is join_of c.args.self.now c.args.other.now c.loop-i.parts c.loop-i.invariant.len (omega arith) (λ i h. c.loop-i.invariant.made i (omega (arith, h)))
