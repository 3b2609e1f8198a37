use Rattle.std.proofs.Common.{◌≡◌, ℕ, ◌+◌, ◌-◌, ◌<◌, ◌≤◌}
use Rattle.tube_spec.specs.Tick.{tick_place}
use Rattle.ctc_delay.specs.Places.{place_count, place_end}
use Rattle.ctc_delay.specs.Windows.{signal_at, IsOver}
use Rattle.ctc_delay.proofs.windows.carried_on.Given as goal

-- the hull up to a tick that stands at the place, and the first tick past it
abbrev pub invariant-loop-tick : goal.invariant-loop-tick
invariant-loop-tick l =
    let s = l.store.shape in
    let f = signal_at s l.store.box l.signal.0 in
    (from : ℕ) × (l.fn.at ≤ from) × (from ≤ l.last) × (l.place ≡ tick_place s.grid from) × (l.tick ≡ place_end s.grid l.place) × (l.place < place_count s.grid)
    × ((first : ℕ) → first ≤ l.fn.at → IsOver f first l.fn.at l.fn.hull → IsOver f first from l.whole)

abbrev pub decreases-loop-tick : goal.decreases-loop-tick
decreases-loop-tick l = (l.last + 1) - l.tick
