use Rattle.std.proofs.Common.{◌≡◌, ℕ, ◌+◌, ◌/◌, ◌<◌, List, length, slice_index, arith, sym, ap, ◌∙◌}
use Rattle.ctc_delay.specs.Places.{place_end}
use Rattle.ctc_delay.proofs.Strides.{stands-still, odd-next, even-next, gate-next}
use Rattle.ctc_delay.proofs.places.place_on.Goals as goal

pub returns-then-tick-place_end-clause-there : goal.returns-then-tick-place_end-clause-there
returns-then-tick-place_end-clause-there c = λ from e low end few.
    let before : c.args.tick < place_end c.args.store.now.shape.grid c.args.place = omega (arith, c.if-tick-place_end.true, c.place_end.ensures.end) in
    sym (stands-still c.args.store.now.shape.grid c.known.ensures.shape.grid c.args.place from (omega (arith, low, few)) e c.args.tick low before)

pub returns-then-place-eq1-clause-there : goal.returns-then-place-eq1-clause-there
returns-then-place-eq1-clause-there c = λ from e low end few.
    let at : c.args.tick ≡ place_end c.args.store.now.shape.grid c.args.place = omega (arith, c.if-tick-place_end.false, c.place_end.ensures.end, end) in
    odd-next c.args.store.now.shape.grid c.known.ensures.shape.grid c.args.place from (omega (arith, low, few)) e c.args.tick c.if-place-eq1.true at

pub returns-then-boundary-tick-clause-there : goal.returns-then-boundary-tick-clause-there
returns-then-boundary-tick-clause-there c = λ from e low end few.
    let grid = c.args.store.now.shape.grid in
    let among : c.args.place / 2 + 1 < length grid = omega (arith, c.if-slice-slices.false, c.slices.ensures) in
    let gate : slice_index grid (c.args.place / 2 + 1) ≡ c.args.tick = sym (ap (λ (g : List ℕ). slice_index g (c.args.place / 2 + 1)) c.grid.ensures) ∙ sym c.boundary.ensures ∙ c.if-boundary-tick.true in
    gate-next grid c.known.ensures.shape.grid c.args.place c.args.tick among gate c.if-place-eq1.false

pub returns-else-boundary-tick-clause-there : goal.returns-else-boundary-tick-clause-there
returns-else-boundary-tick-clause-there c = λ from e low end few.
    let grid = c.args.store.now.shape.grid in
    let at : c.args.tick ≡ place_end grid c.args.place = omega (arith, c.if-tick-place_end.false, c.place_end.ensures.end, end) in
    let among : c.args.place / 2 + 1 < length grid = omega (arith, c.if-slice-slices.false, c.slices.ensures) in
    even-next grid c.known.ensures.shape.grid c.args.place from (omega (arith, low, few)) e c.args.tick among
    (λ d. c.if-boundary-tick.false (c.boundary.ensures ∙ ap (λ (g : List ℕ). slice_index g (c.args.place / 2 + 1)) c.grid.ensures ∙ d)) c.if-place-eq1.false at
