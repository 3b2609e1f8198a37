use Rattle.std.proofs.Common.{◌<◌, length, arith, sym, ap, ◌∙◌}
use Rattle.std.proofs.lemmas.List.{get_or_default}
use Rattle.tube_spec.specs.Narrowing.{Within}
use Rattle.tube_spec.specs.Projection.{Projection}
use Rattle.ctc_core.proofs.Fixing.{if-each}
use Rattle.ctc_delay.proofs.OverWindows.{held-below, held-at}
use Rattle.ctc_delay.proofs.held.HeldFormulas.given.Goals as goal

pub listed : goal.listed
listed c = omega (arith, held-below c.args._store.now.shape c.args.self.now c.args.i c.requires.below, c.requires.fits.few, c.requires.fits.room)

pub bounds-self-i : goal.bounds-self-i
bounds-self-i c = omega (arith, held-below c.args._store.now.shape c.args.self.now c.args.i c.requires.below, c.requires.fits.few)

pub returns : goal.returns
returns c =
    let s = c.args._store.now.shape in
    let h = c.args.self.now in
    let inside : c.args.i < length h.hulls = omega (arith, held-below s h c.args.i c.requires.below, c.requires.fits.few, c.requires.fits.room) in
    if-each c.args._store.now.box _ (λ xs. ap Within (get_or_default h.hulls c.args.i _ _ inside) ∙ ap (λ (p : Projection). p.formula xs) (sym (held-at s h c.args.i c.requires.below)))
