use Rattle.std.proofs.Common.{◌≡◌, true, sym, ◌∙◌, refl, arith}
use Rattle.cell_readers.specs.Entries.{begins, chain}
use Rattle.cell_readers.proofs.Dropped.{drops-same}
use Rattle.cell_readers.proofs.Leading.{place-there, drops-on}
use Rattle.cell_readers.proofs.readers.past.Goals as goal

pub loop-at-init : goal.loop-at-init
loop-at-init c = record { place = c.requires; before = omega arith; drops = drops-same c.args.number (chain c.args.entries.now c.args.place) }

pub bounds-entries-at : goal.bounds-entries-at
bounds-entries-at c =
    let e : begins c.args.number (chain c.args.entries.now c.loop-at.at) ≡ true = sym c.is_first.ensures ∙ c.loop-at-test.true in
    omega (arith, c.loop-at.invariant.place.within, place-there c.args.entries.now c.args.number c.loop-at.at e)

pub loop-at-preserved : goal.loop-at-preserved
loop-at-preserved c =
    let e : begins c.args.number (chain c.args.entries.now c.loop-at.at) ≡ true = sym c.is_first.ensures ∙ c.loop-at-test.true in
    let h = drops-on c.args.entries.now c.args.number c.args.place c.loop-at.at _ c.loop-at.invariant.place e refl c.loop-at.invariant.drops in
    record { place = h.0; before = omega (arith, h.1, c.loop-at.invariant.before); drops = h.2 }

pub loop-at-smaller : goal.loop-at-smaller
loop-at-smaller c =
    let e : begins c.args.number (chain c.args.entries.now c.loop-at.at) ≡ true = sym c.is_first.ensures ∙ c.loop-at-test.true in
    (drops-on c.args.entries.now c.args.number c.args.place c.loop-at.at _ c.loop-at.invariant.place e refl c.loop-at.invariant.drops).1
