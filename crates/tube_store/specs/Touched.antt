-- A list of touched cells beside a mark for each cell.
use Rattle.std.specs.Prelude.{◌≡◌, ℕ, ◌+◌, ◌≤◌, Bool, false, List, length, count_by, not, nat_eq, slice_index_or}
use Rattle.std.specs.List.{list_any, IsDistinct}

-- a cell stands in the list
abbrev pub stands_in : List ℕ → ℕ → Bool
stands_in cells c = list_any (nat_eq c) cells

-- Each mark says whether its cell stands in the list, which names no cell twice, and there is room for each cell that does not stand there.
pub record AreTouched (marks : List Bool) (cells : List ℕ) (capacity : ℕ) : Type 0 where
  pub agrees : (k : ℕ) → slice_index_or marks k false ≡ stands_in cells k
  pub distinct : IsDistinct nat_eq cells
  pub room : length cells + count_by not marks ≤ capacity
