-- What is promised of a demo: its log says what its mission says, and its true positions are where a run over it says.
use Rattle.std.specs.Prelude.{◌≡◌, ℕ, ◌+◌, ◌<◌, ◌≤◌, List, Some, length, slice_index, slice_index_or, IsSomeAnd, ℤ, pos}
use Rattle.tube_spec.specs.Span.{Span, Holds}
use Rattle.tube_spec.specs.Grid.{last_tick}
use Rattle.tube_spec.specs.Shape.{Shape, gate_cell, envelope_cell}
use Rattle.tube_spec.specs.Box.{cell_at}
use Rattle.hull_tree.specs.Revisits.{IsRevisit}
use Rattle.tube_names.specs.declared.queries.Query.{Query}
use Rattle.tplane_paver.specs.Runs.{InRuns}
use Rattle.tplane_paver.specs.Components.{set_at}
use Rattle.loop_report.specs.declared.found.Found.{Found}
use Rattle.mission_items.specs.declared.mission.Mission.{Mission}
use Rattle.mission_net.specs.Records.{shape_by}
use Rattle.section_report.specs.Sections.{Section, items_of, IsSectionOf}
use Rattle.mission_loops.specs.Findings.{IsTold, sets_in}

-- a coordinate at a tick
abbrev pub coordinate : List ℤ → ℕ → ℤ
coordinate places tick = slice_index_or places tick (pos 0)

-- Coordinates lie in the tube of a signal: at each boundary tick in the gate, and at each tick of a slice, both end ticks included, in the envelope.
pub record LieInTube (s : Shape) (xs : List Span) (signal : ℕ) (places : List ℤ) : Type 0 where
  pub gates : (i : ℕ) → signal < length s.signals → i < length s.grid → Holds (cell_at xs (gate_cell s signal i)) (coordinate places (slice_index s.grid i))
  pub slices : (i k : ℕ) → signal < length s.signals → i + 1 < length s.grid → slice_index s.grid i ≤ k → k ≤ slice_index s.grid (i + 1)
      → Holds (cell_at xs (envelope_cell s signal i)) (coordinate places k)

-- The positions with these coordinates lie in the first two tubes of each section of a mission, none of which is empty, and each of their revisits
-- is in one of the sets of each query about these two that is told and not crowded.
pub record IsTruthOf (m : Mission) (xs ys : List ℤ) : Type 0 where
  pub tubes : (budget : ℕ) (d : Section) → IsSectionOf m budget d
      → IsSomeAnd d.box (λ box. LieInTube (shape_by m.cuts (items_of m d)) box 0 xs × LieInTube (shape_by m.cuts (items_of m d)) box 1 ys)
  pub sets : (d : Section) (q : Query) (sets : List Found) → IsTold m.cuts (items_of m d) d.box q (Some sets) → q.x.0 ≡ 0 → q.y.0 ≡ 1
      → (a b : ℕ) → IsRevisit q (last_tick m.cuts) (coordinate xs) (coordinate ys) a b → (i : ℕ) × (i < length sets) × InRuns (set_at (sets_in sets) i) a b
