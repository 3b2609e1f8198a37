use Rattle.std.proofs.Common.{ℕ, ◌<◌, length, sym, ap, ◌∙◌, arith}
use Rattle.tube_spec.specs.Projection.{Projection}
use Rattle.ctc_core.specs.Given.{projection_at, no_projection}
use Rattle.ctc_parts.specs.Parts.{each_below}
use Rattle.ctc_parts.proofs.Members.{each-at}
use Rattle.ctc_parts.proofs.all.written_by_parts.Goals as goal

pub returns-then-left-here : goal.returns-then-left-here
returns-then-left-here g c =
    let P = g.P.Parts in
    let me = c.args.parts.now in
    let s = c.args.store.now in
    let k = c.loop-k.k in
    let inside : k < P.parts me s.shape = omega (arith, c.loop-k-test.true, c.count-k-end.ensures) in
    let among : c.loop-k.left < length (P.part me s.shape k) = omega (arith, c.if-left-here.true, c.part_count-here.ensures) in
    c.part_target.ensures
    ∙ sym (ap (λ (p : Projection). p.target) (each-at (P.part me s.shape) no_projection (P.parts me s.shape) k c.loop-k.left inside among))
    ∙ ap (λ (j : ℕ). (projection_at (each_below (P.part me s.shape) (P.parts me s.shape)) j).target) c.loop-k.invariant
