use Rattle.std.proofs.Common.{◌≡◌}
use Rattle.area_report.specs.Marks.{counts_of}
use Rattle.area_report.proofs.Counting.{first_rows}
use Rattle.area_report.proofs.marks.count_marks.Given as goal

-- the rows so far were counted
abbrev pub invariant-loop-row : goal.invariant-loop-row
invariant-loop-row l = l.counts ≡ counts_of (first_rows l.chart l.row)
