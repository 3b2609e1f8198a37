-- Gates one after another, and what their formulas give in one box.
use Rattle.std.specs.Prelude.{Bool, IsTrue, IsFalse, IfSome, IsSomeAnd, ◌≡◌, ℕ, ◌+◌, ◌<◌, ◌≤◌, List, Option, None, length, map, slice_index, slice_index_or}
use Rattle.std.specs.List.{range_with_len}
use Rattle.tube_spec.specs.Span.{Span}
use Rattle.tube_spec.specs.Narrowing.{narrowing_of}
use Rattle.tube_spec.specs.Shape.{Shape, gate_cell}
use Rattle.tube_spec.specs.Fixpoint.{IsFixpoint}
use Rattle.tube_spec.specs.Projection.{Projection}
use Rattle.slice_gates.specs.declared.clock.Ticks.{Ticks}
use Rattle.ctc_eval.specs.declared.block.Block.{Block}
use Rattle.ctc_eval.specs.Clock.{only_in, IsHullOver}
use Rattle.ctc_eval.specs.Evals.{reached_from}

-- the gate with a number in the block is held by what is kept of it
abbrev pub kept_projection : Shape → Block → ℕ → Projection
kept_projection s b j = record { target = gate_cell s b.x.0 (b.first + j); formula = λ xs. narrowing_of (slice_index_or b.hulls j None) }

abbrev pub block_projections : Shape → Block → List Projection
block_projections s b = map (kept_projection s b) (range_with_len 0 b.count)

-- the block is of the shape
pub record BlockFits (s : Shape) (b : Block) : Type 0 where
  pub signal : b.x.0 < length s.signals
  pub gates : b.first + b.count ≤ length s.grid
  pub few : b.count ≤ 64
  pub room : length b.hulls ≡ 65

-- what the signal may come to at a gate from the ticks of the time
abbrev pub IsFromAll : Shape → ℕ → ℕ → ℕ → List Span → Ticks → ℕ → Option Span → Type 0
IsFromAll s x v z xs ticks gate h = IsHullOver (only_in ticks (reached_from s x v z (slice_index s.grid gate) xs)) ticks.first (ticks.last + 1) h

-- the answer is true where the box is neither empty nor a fixpoint, and else false
pub record IsMoved (ps : List Projection) (box : Option (List Span)) (answer : Bool) : Type 0 where
  pub yes : IsTrue answer → IsSomeAnd box (λ xs. IsFixpoint ps xs → ⊥)
  pub no : IsFalse answer → IfSome box (IsFixpoint ps)
