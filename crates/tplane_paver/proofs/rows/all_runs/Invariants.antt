use Rattle.std.proofs.Common.{◌≡◌}
use Rattle.tplane_paver.specs.Rows.{runs_below}
use Rattle.tplane_paver.specs.Paving.{rows_of}
use Rattle.tplane_paver.proofs.rows.all_runs.Given as goal

-- the rows so far
abbrev pub invariant-loop-a : goal.invariant-loop-a
invariant-loop-a l = l.runs.items ≡ runs_below (rows_of l.rows) l.a
