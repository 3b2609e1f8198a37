-- What the printed numbers of a section say of trajectories.
use Rattle.std.specs.Prelude.{ℕ, ◌+◌, ◌<◌, ◌≤◌, List, length, slice_index, IsSomeAnd}
use Rattle.tube_spec.specs.Span.{Span, Holds}
use Rattle.tube_spec.specs.Grid.{last_tick}
use Rattle.tube_spec.specs.Shape.{Shape, gate_cell, envelope_cell}
use Rattle.tube_spec.specs.Box.{cell_at}
use Rattle.tube_spec.specs.Assignment.{Assignment, value_at, number_of}
use Rattle.mission_items.specs.declared.mission.Mission.{Mission}
use Rattle.mission_items.specs.Valid.{IsMission}
use Rattle.mission_net.specs.Records.{shape_by, SatisfiesAll}
use Rattle.tube_report.specs.Sections.{tube_range}
use Rattle.section_report.specs.Sections.{Section, items_of, IsSectionOf}

-- The values of an assignment lie between the printed bounds: that of a signal at a boundary tick between those of the gate there, at a tick of a
-- slice, both end ticks included, between those of the slice, and at each tick between the two in brief; and that of a variable between its own.
pub record LiesIn (s : Shape) (xs : List Span) (a : Assignment) : Type 0 where
  pub gates : (x i : ℕ) → x < length s.signals → i < length s.grid → Holds (cell_at xs (gate_cell s x i)) (value_at a x (slice_index s.grid i))
  pub slices : (x i k : ℕ) → x < length s.signals → i + 1 < length s.grid → slice_index s.grid i ≤ k → k ≤ slice_index s.grid (i + 1)
      → Holds (cell_at xs (envelope_cell s x i)) (value_at a x k)
  pub brief : (x k : ℕ) → x < length s.signals → k ≤ last_tick s.grid → Holds (tube_range s xs x) (value_at a x k)
  pub variables : (v : ℕ) → v < length s.vars → Holds (cell_at xs (slice_index s.vars v)) (number_of a v)

-- Each assignment that satisfies the records of a section lies in what is printed of it. Where it is printed as empty there is none.
abbrev pub PrintedEncloses : Type 0
PrintedEncloses =
    (m : Mission) (budget : ℕ) (d : Section) → IsMission m → IsSectionOf m budget d → (a : Assignment) → SatisfiesAll m.cuts a (items_of m d)
    → IsSomeAnd d.box (λ xs. LiesIn (shape_by m.cuts (items_of m d)) xs a)
