use Rattle.std.proofs.Common.{refl, ap, ap₂, subst, arith, pos, ◌∙◌, length, slice_index_or}
use Rattle.tube_spec.specs.Span.{IsProper, point, meet_of}
use Rattle.interval_box.specs.Parts.{part_of}
use Rattle.interval_box.proofs.Each.{each-is, each-step, shares-step, same-default}
use Rattle.interval_box.proofs.IntervalBox.meet.Goals as goal

pub loop-i-preserved : goal.loop-i-preserved
loop-i-preserved g c =
    let self_len = ap length c.self.view_is in
    let other_len = ap length c.other.view_is in
    let x = ap (λ xs. slice_index_or xs c.loop-i.i c.index-self-i.result) c.self.view_is ∙ same-default c.args.self.now c.loop-i.i c.index-self-i.result (point (pos 0)) (omega arith) in
    let y = ap (λ xs. slice_index_or xs c.loop-i.i c.index-other-i.result) c.other.view_is ∙ same-default c.args.other.now c.loop-i.i c.index-other-i.result (point (pos 0)) (omega arith) in
    let good : IsProper (meet_of (part_of c.args.self.now c.loop-i.i) (part_of c.args.other.now c.loop-i.i)) = subst IsProper (ap₂ meet_of x y) (c.in_ok-parts.ensures.exists.0 refl) in
    (each-step meet_of c.args.self.now c.args.other.now c.loop-i.parts c.loop-i.i _ (omega arith) c.loop-i.invariant.0 (c.in_ok-parts.ensures.value ∙ ap₂ meet_of x y), shares-step c.args.self.now c.args.other.now c.loop-i.i c.loop-i.invariant.1 good)

pub returns-clause-value : goal.returns-clause-value
returns-clause-value g c =
    let self_len = ap length c.self.view_is in
    let other_len = ap length c.other.view_is in
    each-is meet_of c.args.self.now c.args.other.now c.loop-i.parts c.loop-i.invariant.0.len (omega arith) (λ i h. c.loop-i.invariant.0.made i (omega (arith, h)))
