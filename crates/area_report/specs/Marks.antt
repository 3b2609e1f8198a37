-- The marks of a chart, row by row, and how many there are of each kind.
use Rattle.std.specs.Prelude.{ℕ, ◌+◌, Bool, true, false, List, map, nat_eq, if◌then◌else◌}
use Rattle.std.specs.List.{count_by, flat_map, range_with_len}
use Rattle.area_paver.specs.Charts.{Chart, mark_of}
use Rattle.area_paver.specs.declared.chart.Mark.{Mark}
use Rattle.area_paver.specs.declared.chart.Mark.TheVariants.{Never, Seen, Open}
use Rattle.area_report.specs.declared.marks.Counts.{Counts}

-- how many rows have marks: none where there is no column
abbrev pub marked_rows : Chart → ℕ
marked_rows c = if nat_eq c.columns.count 0 then 0 else c.rows.count

-- the marks of a row from the west
abbrev pub row_marks : Chart → ℕ → List Mark
row_marks c row = map (λ column. mark_of c column row) (range_with_len 0 c.columns.count)

-- all marks: the rows from the south, one after the other
abbrev pub all_marks : Chart → List Mark
all_marks c = flat_map (row_marks c) (range_with_len 0 (marked_rows c))

-- two marks are the same
abbrev pub is_same : Mark → Mark → Bool
is_same Never Never = true
is_same Seen Seen = true
is_same Open Open = true
is_same a b = false

-- how many of a list are that mark
abbrev pub count_of : Mark → List Mark → ℕ
count_of mark marks = count_by (is_same mark) marks

-- how many of a list are each of the marks
abbrev pub counts_of : List Mark → Counts
counts_of marks = record { never_seen = count_of Never marks; surely_seen = count_of Seen marks; left_open = count_of Open marks }

-- two counts together
abbrev pub sum_of : Counts → Counts → Counts
sum_of a b = record { never_seen = a.never_seen + b.never_seen; surely_seen = a.surely_seen + b.surely_seen; left_open = a.left_open + b.left_open }
