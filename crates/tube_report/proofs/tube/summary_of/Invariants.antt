use Rattle.std.proofs.Common.{◌≡◌, ◌+◌, ◌*◌, ◌≤◌, [], map, sum_by, unwrap_or}
use Rattle.std.specs.List.{range_with_len}
use Rattle.tube_spec.specs.Span.{width_of}
use Rattle.tube_spec.specs.Tick.{join_over}
use Rattle.tube_report.specs.Sections.{tube_cell}
use Rattle.tube_report.proofs.tube.summary_of.Given as goal

-- gate 0, and an envelope and a gate for each slice so far
abbrev pub invariant-loop-i : goal.invariant-loop-i
invariant-loop-i l = record {
  range : l.range ≡ join_over (tube_cell l.store.shape (unwrap_or l.store.box []) l.signal.0) 0 (2 * l.i);
  sum : l.sum ≡ sum_by width_of (map (tube_cell l.store.shape (unwrap_or l.store.box []) l.signal.0) (range_with_len 0 (2 * l.i + 1)));
  small : l.sum ≤ (2 * l.i + 1) * 1000000000;
}
