-- The text of what is told of the area that a query's sensor saw.
use Rattle.std.specs.Prelude.{ℕ, Bool, List, [], ◌∷◌, ◌++◌, codes, decimal, flat_map, map, if◌then◌else◌}
use Rattle.std.specs.Fmt.{signed_decimal}
use Rattle.std.specs.List.{range_with_len}
use Rattle.area_paver.specs.Charts.{Chart}
use Rattle.area_paver.specs.Lattice.{coordinate}
use Rattle.area_paver.specs.declared.axis.Axis.{Axis}
use Rattle.area_paver.specs.declared.chart.Mark.{Mark}
use Rattle.area_paver.specs.declared.chart.Mark.TheVariants as mark
use Rattle.tube_report.specs.Lines.{line}
use Rattle.area_report.specs.Marks.{all_marks, counts_of, marked_rows, row_marks}
use Rattle.area_report.specs.declared.coverage.Coverage.{Coverage}
use Rattle.area_report.specs.declared.coverage.Coverage.TheVariants as coverage
use Rattle.area_report.specs.declared.marks.Counts.{Counts}

-- ---- rows

-- `.` where no trajectory sees the point, `#` where each one does, and `?` where neither is known
abbrev pub mark_byte : Mark → ℕ
mark_byte mark.Never = 46
mark_byte mark.Seen = 35
mark_byte mark.Open = 63

-- row Y MARKS
unfoldable pub row_line : Chart → ℕ → List ℕ
row_line c row = line (codes "row" ∷ signed_decimal (coordinate c.rows row) ∷ map mark_byte (row_marks c row) ∷ [])

-- the rows from the south, none in brief
abbrev pub rows_text : Bool → Chart → List ℕ
rows_text brief c = if brief then [] else flat_map (row_line c) (range_with_len 0 (marked_rows c))

-- ---- a query

-- area NUMBER empty
unfoldable pub empty_line : ℕ → List ℕ
empty_line number = line (codes "area" ∷ decimal number ∷ codes "empty" ∷ [])

-- area NUMBER crowded
unfoldable pub crowded_line : ℕ → List ℕ
crowded_line number = line (codes "area" ∷ decimal number ∷ codes "crowded" ∷ [])

-- columns COUNT rows COUNT west FIRST south FIRST
abbrev pub lattice_words : Axis → Axis → List (List ℕ)
lattice_words columns rows =
    codes "columns" ∷ decimal columns.count ∷ codes "rows" ∷ decimal rows.count
    ∷ codes "west" ∷ signed_decimal columns.first ∷ codes "south" ∷ signed_decimal rows.first ∷ []

-- never COUNT seen COUNT open COUNT
abbrev pub count_words : Counts → List (List ℕ)
count_words counts = codes "never" ∷ decimal counts.never_seen ∷ codes "seen" ∷ decimal counts.surely_seen ∷ codes "open" ∷ decimal counts.left_open ∷ []

-- area NUMBER, and then the words of the lattice and of how many marks there are of each kind
unfoldable pub figures_line : ℕ → Axis → Axis → Counts → List ℕ
figures_line number columns rows counts = line ((codes "area" ∷ decimal number ∷ []) ++ lattice_words columns rows ++ count_words counts)

-- the same of a chart
abbrev pub chart_line : ℕ → Chart → List ℕ
chart_line number c = figures_line number c.columns c.rows (counts_of (all_marks c))

-- done NUMBER
unfoldable pub done_line : ℕ → List ℕ
done_line number = line (codes "done" ∷ decimal number ∷ [])

-- that nothing is possible, or that there are too many points, or the chart
abbrev pub coverage_text : ℕ → Coverage → Bool → List ℕ
coverage_text number coverage.Empty brief = empty_line number
coverage_text number coverage.Crowded brief = crowded_line number
coverage_text number (coverage.Charted c) brief = chart_line number c ++ rows_text brief c

-- the same, and the line that ends a query
abbrev pub area_text : ℕ → Coverage → Bool → List ℕ
area_text number told brief = coverage_text number told brief ++ done_line number
