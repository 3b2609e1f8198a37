use Rattle.std.proofs.Common.{arith, sym, ap, ◌∙◌}
use Rattle.tube_spec.specs.Projection.{Projection}
use Rattle.ctc_delay.proofs.Counts.{length-to, to-at}
use Rattle.ctc_delay.proofs.to.DelayToFormulas.target.Goals as goal

pub cell_at_place-requires-clause-place : goal.cell_at_place-requires-clause-place
cell_at_place-requires-clause-place c = let me = c.args.self.now in omega (arith, c.requires.below, length-to c.args.store.now.shape me.x.0 me.y.0 me.tau.0)

pub returns : goal.returns
returns c =
    let me = c.args.self.now in
    c.cell_at_place.ensures.cell ∙ ap (λ (p : Projection). p.target) (sym (to-at c.args.store.now.shape me.x.0 me.y.0 me.tau.0 c.args.i c.requires.below))
