use Rattle.std.proofs.Common.{◌<◌, length, arith, sym, ap, ◌∙◌}
use Rattle.std.proofs.lemmas.List.{get_or_default}
use Rattle.tube_spec.specs.Narrowing.{narrowing_of}
use Rattle.tube_spec.specs.Projection.{Projection}
use Rattle.ctc_core.proofs.Fixing.{if-each}
use Rattle.ctc_eval.proofs.Blocks.{kept-below, kept-at}
use Rattle.ctc_eval.proofs.block.BlockFormulas.given.Goals as goal

pub listed : goal.listed
listed c = omega (arith, kept-below c.args._store.now.shape c.args.self.now c.args.i c.requires.below, c.requires.fits.few, c.requires.fits.room)

pub bounds-self-i : goal.bounds-self-i
bounds-self-i c = omega (arith, kept-below c.args._store.now.shape c.args.self.now c.args.i c.requires.below, c.requires.fits.few)

pub returns : goal.returns
returns c =
    let s = c.args._store.now.shape in
    let b = c.args.self.now in
    let inside : c.args.i < length b.hulls = omega (arith, kept-below s b c.args.i c.requires.below, c.requires.fits.few, c.requires.fits.room) in
    if-each c.args._store.now.box _ (λ xs. c.given_of.ensures ∙ ap narrowing_of (get_or_default b.hulls c.args.i _ _ inside) ∙ ap (λ (p : Projection). p.formula xs) (sym (kept-at s b c.args.i c.requires.below)))
