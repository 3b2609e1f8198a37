use Rattle.std.proofs.Common.{◌≡◌, ℕ, ◌+◌, ◌<◌, ◌≤◌, length, pos, slice_index_or}
use Rattle.tube_spec.specs.Span.{point}
use Rattle.ctc_delay.specs.Windows.{window_first, signal_at, IsOver}
use Rattle.ctc_delay.proofs.held.hulls_to_end.Given as goal

-- the hulls to the end of the places so far, and those to the next begin of the places before
abbrev pub invariant-loop-j : goal.invariant-loop-j
invariant-loop-j l =
    let s = l.fn.store.shape in
    let f = signal_at s l.fn.store.box l.fn.window.signal.0 in
    let begin = λ (k : ℕ). window_first s.grid l.fn.window (l.fn.first + k) in
    record {
      room : length l.hulls ≡ 256;
      kept : (k : ℕ) → l.j ≤ k → k < l.fn.count → IsOver f (begin k) l.fn.end (slice_index_or l.hulls k (point (pos 0)));
      todo : (k : ℕ) → k < l.j → IsOver f (begin k) (begin (k + 1)) (slice_index_or l.hulls k (point (pos 0)));
    }
