use Rattle.std.proofs.Common.{arith, sym, ap, ◌∙◌}
use Rattle.tube_spec.specs.Projection.{Projection}
use Rattle.ctc_eval.proofs.Blocks.{kept-below, kept-at}
use Rattle.ctc_eval.proofs.block.BlockFormulas.target.Goals as goal

pub overflow_add-self : goal.overflow_add-self
overflow_add-self c = record { fits = omega (arith, kept-below c.args.store.now.shape c.args.self.now c.args.i c.requires.below, c.requires.fits.gates, c.known.ensures.shape.grid.short) }

pub gate-requires-clause-boundary : goal.gate-requires-clause-boundary
gate-requires-clause-boundary c = omega (arith, kept-below c.args.store.now.shape c.args.self.now c.args.i c.requires.below, c.requires.fits.gates)

pub returns : goal.returns
returns c = c.gate.ensures.cell ∙ sym (ap (λ (p : Projection). p.target) (kept-at c.args.store.now.shape c.args.self.now c.args.i c.requires.below))
