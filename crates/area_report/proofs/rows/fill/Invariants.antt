use Rattle.std.proofs.Common.{◌≡◌, ℕ, ◌+◌, ◌<◌, get_or}
use Rattle.area_paver.specs.Charts.{mark_of}
use Rattle.area_report.specs.Areas.{mark_byte}
use Rattle.area_report.proofs.rows.fill.Given as goal

-- the bytes so far are those of the marks
abbrev pub invariant-loop-i : goal.invariant-loop-i
invariant-loop-i l = (k : ℕ) → k < l.i → get_or l.piece k 0 ≡ mark_byte (mark_of l.chart (l.first + k) l.row)
