use Rattle.std.proofs.Common.{◌≡◌, ◌*◌, ◌≤◌, take, sum_by}
use Rattle.tube_spec.specs.Span.{width_of}
use Rattle.interval_box.proofs.IntervalBox.width_sum.Given as goal

abbrev pub invariant-loop-i : goal.invariant-loop-i
invariant-loop-i g l = (l.sum ≡ sum_by width_of (take l.i l.self)) × (l.sum ≤ l.i * 18446744073709551616)
