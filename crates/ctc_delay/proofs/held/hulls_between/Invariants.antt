use Rattle.std.proofs.Common.{◌≡◌, ℕ, ◌+◌, ◌<◌, ◌≤◌, length, pos, slice_index_or}
use Rattle.tube_spec.specs.Span.{point}
use Rattle.tube_spec.specs.Tick.{tick_place}
use Rattle.ctc_delay.specs.Places.{place_count}
use Rattle.ctc_delay.specs.Windows.{window_first, signal_at, IsOver}
use Rattle.ctc_delay.proofs.held.hulls_between.Given as goal

-- the begin of the window at hand and its place, and the hulls so far
abbrev pub invariant-loop-j : goal.invariant-loop-j
invariant-loop-j l =
    let grid = l.store.shape.grid in
    record {
      begun : l.at ≡ window_first grid l.window (l.first + l.j);
      there : l.place ≡ tick_place grid l.at;
      among : l.place < place_count grid;
      room : length l.hulls ≡ 256;
      between : (k : ℕ) → k < l.j → IsOver (signal_at l.store.shape l.store.box l.window.signal.0) (window_first grid l.window (l.first + k)) (window_first grid l.window (l.first + (k + 1))) (slice_index_or l.hulls k (point (pos 0)));
    }
