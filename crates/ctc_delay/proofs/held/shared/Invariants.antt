use Rattle.std.proofs.Common.{ℕ, ◌+◌, ◌-◌, ◌<◌, ◌≤◌}
use Rattle.tube_spec.specs.Grid.{last_tick}
use Rattle.ctc_delay.specs.Places.{place_count}
use Rattle.ctc_delay.specs.Windows.{window_first, window_last}
use Rattle.ctc_delay.proofs.held.shared.Given as goal

-- the places so far have ticks in common
abbrev pub invariant-loop-count : goal.invariant-loop-count
invariant-loop-count l = record {
  some : 0 < l.count;
  few : l.count ≤ 256;
  places : l.first + l.count ≤ place_count l.store.shape.grid;
  share : (k : ℕ) → k < l.count → (window_first l.store.shape.grid l.window (l.first + k) ≤ l.end) × (window_last l.store.shape.grid l.window (l.first + k) ≤ last_tick l.store.shape.grid);
}

abbrev pub decreases-loop-count : goal.decreases-loop-count
decreases-loop-count l = 256 - l.count
