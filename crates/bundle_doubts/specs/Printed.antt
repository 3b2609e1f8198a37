-- The printed box of the signals of a section, over which its queries are judged.
use Rattle.std.specs.Prelude.{◌≡◌, ◌≢◌, ℕ, ◌<◌, ◌⊎◌, Option, Some, None, List, [], length, flat_map, map, pos, neg_ℤ}
use Rattle.mission_items.specs.Made.{signal_ranges}
use Rattle.mission_items.specs.Names.{declared}
use Rattle.mission_items.specs.declared.item.Item.{Item}
use Rattle.report_reader.specs.Described.{signal_lines}
use Rattle.report_reader.specs.declared.section.Line.{Line}
use Rattle.report_reader.specs.declared.section.Section.{Section}
use Rattle.tube_report.specs.declared.section.Verdict.TheVariants as verdict
use Rattle.tube_spec.specs.Box.{IsBox}
use Rattle.tube_spec.specs.Limits.{greatest_bound}
use Rattle.tube_spec.specs.Owner.{SignalIn, shape_of}
use Rattle.tube_spec.specs.Shape.{Shape}
use Rattle.tube_spec.specs.Span.{Span, IsProper, meet_of}
use Rattle.bundle_doubts.specs.Lines.{bounds, line_at}

-- the numbers from -500,000,000 to 500,000,000
abbrev pub widest : Span
widest = record { lo = neg_ℤ (pos greatest_bound); hi = pos greatest_bound }

-- the cells of the signals alone that records make
abbrev pub signals_alone : List ℕ → List Item → Shape
signals_alone grid items = shape_of grid (map (λ (range : Span). SignalIn range) (signal_ranges items))

-- the lines of all signals, with which the lines of a section begin
abbrev pub tube_lines : List ℕ → List Item → List Span → List Line
tube_lines grid items xs = flat_map (signal_lines (signals_alone grid items) xs) (declared items)

-- what a printed interval leaves of the numbers that a cell may have
abbrev pub left_of : Section → ℕ → Span
left_of s k = meet_of widest (bounds (line_at s.lines k))

-- The cells of the signals have what is left of the printed intervals.
pub record HasPrinted (grid : List ℕ) (items : List Item) (s : Section) (xs : List Span) : Type 0 where
  pub some : s.verdict ≢ verdict.Empty
  pub len : length xs ≡ (signals_alone grid items).cells
  pub box : IsBox xs
  pub each : (k : ℕ) → k < length (tube_lines grid items xs) → bounds (line_at (tube_lines grid items xs) k) ≡ left_of s k

-- The section is printed as empty, or nothing is left of a printed interval of a signal.
abbrev pub HasNothing : List ℕ → List Item → Section → Type 0
HasNothing grid items s = (s.verdict ≡ verdict.Empty) ⊎ ((k : ℕ) × (k < length (tube_lines grid items [])) × (IsProper (left_of s k) → ⊥))

-- the printed box of a section of these records
abbrev pub IsPrinted : List ℕ → List Item → Section → Option (List Span) → Type 0
IsPrinted grid items s None = HasNothing grid items s
IsPrinted grid items s (Some xs) = HasPrinted grid items s xs
