use Rattle.std.proofs.Common.{◌≡◌}
use Rattle.area_report.specs.Marks.{counts_of}
use Rattle.area_report.proofs.Counting.{first_columns}
use Rattle.area_report.proofs.marks.count_row.Given as goal

-- the columns so far were counted
abbrev pub invariant-loop-column : goal.invariant-loop-column
invariant-loop-column l = l.counts ≡ counts_of (first_columns l.chart l.row l.column)
