use Rattle.std.proofs.Common.{◌≡◌, replicate, []}
use Rattle.tplane_paver.specs.Paving.{rows_of}
use Rattle.tplane_paver.proofs.rows.empty_rows.Given as goal

abbrev pub invariant-loop-row : goal.invariant-loop-row
invariant-loop-row l = rows_of l.rows.items ≡ replicate l._row []
