use Rattle.std.proofs.Common.{arith, sym, ap, ◌∙◌}
use Rattle.tube_spec.specs.Projection.{Projection}
use Rattle.ctc_delay.proofs.OverWindows.{held-below, held-at}
use Rattle.ctc_delay.proofs.held.HeldFormulas.target.Goals as goal

pub overflow_add-self : goal.overflow_add-self
overflow_add-self c = record { fits = omega (arith, held-below c.args.store.now.shape c.args.self.now c.args.i c.requires.below, c.requires.fits.places, c.known.ensures.shape.grid.short) }

pub cell_at_place-requires-clause-place : goal.cell_at_place-requires-clause-place
cell_at_place-requires-clause-place c = omega (arith, held-below c.args.store.now.shape c.args.self.now c.args.i c.requires.below, c.requires.fits.places)

pub returns : goal.returns
returns c = c.cell_at_place.ensures.cell ∙ sym (ap (λ (p : Projection). p.target) (held-at c.args.store.now.shape c.args.self.now c.args.i c.requires.below))
