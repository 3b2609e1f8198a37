use Rattle.std.proofs.Common.{◌≡◌, ℕ, ◌+◌, ◌<◌, ◌≤◌, length, pos, slice_index_or}
use Rattle.tube_spec.specs.Span.{point}
use Rattle.tube_spec.specs.Tick.{tick_place}
use Rattle.ctc_delay.specs.Places.{place_count}
use Rattle.ctc_delay.specs.Windows.{window_first, window_last, signal_at, IsOver, IsOverWindow}
use Rattle.ctc_delay.proofs.held.hulls_over.Given as goal

-- the hull up to the end of the last window so far, and what is kept of the places before and after
abbrev pub invariant-loop-j : goal.invariant-loop-j
invariant-loop-j l = record {
  over : IsOver (signal_at l.store.shape l.store.box l.window.signal.0) l.fn.end l.at l.hull;
  low : l.fn.end ≤ l.at;
  there : l.place ≡ tick_place l.store.shape.grid l.at;
  among : l.place < place_count l.store.shape.grid;
  order : (k : ℕ) → l.j ≤ k → k < l.fn.count → l.at ≤ window_last l.store.shape.grid l.window (l.first + k);
  room : length l.hulls ≡ 256;
  todo : (k : ℕ) → l.j ≤ k → k < l.fn.count → IsOver (signal_at l.store.shape l.store.box l.window.signal.0) (window_first l.store.shape.grid l.window (l.first + k)) l.fn.end (slice_index_or l.hulls k (point (pos 0)));
  done : (k : ℕ) → k < l.j → IsOverWindow l.store.shape l.store.box l.window (l.first + k) (slice_index_or l.hulls k (point (pos 0)));
}
