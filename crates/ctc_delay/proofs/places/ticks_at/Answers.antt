use Rattle.std.proofs.Common.{ℕ, ◌+◌, ◌/◌, List, arith, ap, slice_index}
use Rattle.ctc_delay.proofs.PlaceTicks.{place-within}
use Rattle.ctc_delay.proofs.places.ticks_at.Goals as goal

pub returns-clause-within : goal.returns-clause-within
returns-clause-within c =
    let grid = c.args.store.now.shape.grid in
    omega (arith, place-within grid c.known.ensures.shape.grid c.args.place c.requires, c.boundary-2.ensures, ap (λ (g : List ℕ). slice_index g ((c.args.place + 1) / 2)) c.grid-grid.ensures)
