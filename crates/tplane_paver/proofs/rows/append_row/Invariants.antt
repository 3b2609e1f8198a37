use Rattle.std.proofs.Common.{◌≡◌, ◌++◌, take}
use Rattle.tplane_paver.specs.Rows.{row_runs}
use Rattle.tplane_paver.proofs.rows.append_row.Given as goal

-- the runs so far
abbrev pub invariant-loop-ticks : goal.invariant-loop-ticks
invariant-loop-ticks l = l.runs.items ≡ l.fn.runs.items ++ row_runs l.a (take l.ticks-index l.row)
