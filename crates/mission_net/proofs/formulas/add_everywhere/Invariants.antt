use Rattle.std.proofs.Common.{[]}
use Rattle.expr_hc4.specs.Programs.{bound_comparison}
use Rattle.ctc_deriv.specs.Bounds.{each_below}
use Rattle.mission_net.specs.Records.{formula_at}
use Rattle.mission_net.specs.Building.{IsAdded}
use Rattle.mission_net.proofs.formulas.add_everywhere.Given as goal

abbrev pub invariant-loop-slice : goal.invariant-loop-slice
invariant-loop-slice l = IsAdded [] (each_below (formula_at l.flat.value.leaves (bound_comparison l.flat.value)) l.slice) l.fn.net l.net
