-- So many tokens were taken, and the rest comes behind them.
use Rattle.std.proofs.Common.{◌+◌, ◌≤◌, length}
use Rattle.expr_text.proofs.Faults.{Taken}
use Rattle.expr_text.proofs.scan.scan_text.Given as goal

abbrev pub invariant-loop-rest : goal.invariant-loop-rest
invariant-loop-rest l = record {
  room : l.scan.nodes + length l.rest ≤ length l.text;
  taken : Taken l.text l.rest l.scan;
}

abbrev pub decreases-loop-rest : goal.decreases-loop-rest
decreases-loop-rest l = length l.rest
