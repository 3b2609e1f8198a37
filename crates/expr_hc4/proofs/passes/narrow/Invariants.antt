use Rattle.std.proofs.Common.{◌≡◌, take}
use Rattle.expr_hc4.proofs.Runs.{run_back}
use Rattle.expr_hc4.proofs.passes.narrow.Given as goal

-- the nodes that are left make of the values what all nodes make of those at the start
abbrev pub invariant-loop-i : goal.invariant-loop-i
invariant-loop-i l = run_back 0 l.nodes l.initial.values ≡ run_back 0 (take l.i l.nodes) l.values
