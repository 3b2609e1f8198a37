-- Boundaries as marks on the ticks from 0 on.
use Rattle.std.specs.Prelude.{◌≡◌, ℕ, suc, ◌-◌, ◌≤◌, Bool, true, false, List, [], ◌∷◌, Option, IfSome, length, slice_index_or}
use Rattle.mission_items.specs.Room.{slices_in}

-- the ticks that are marked, where the first mark stands at a tick
abbrev pub marked : ℕ → List Bool → List ℕ
marked n [] = []
marked n (true ∷ marks) = n ∷ marked (suc n) marks
marked n (false ∷ marks) = marked (suc n) marks

-- the first and the last tick of the clock are marked, of which there are two to 100,001
pub record AreEnds (marks : List Bool) : Type 0 where
  pub some_tick : 2 ≤ length marks
  pub few_ticks : length marks ≤ 100001
  pub first : slice_index_or marks 0 false ≡ true
  pub last : slice_index_or marks (length marks - 1) false ≡ true

-- The number of slices is right, and the grid is that of the boundaries, where it is made.
pub record IsRunning (marks : List Bool) (slices : ℕ) (grid : Option (List ℕ)) : Type 0 where
  pub ends : 1 ≤ length marks → AreEnds marks
  pub small : length marks ≤ 100001
  pub count : slices ≡ slices_in (marked 0 marks)
  pub same : IfSome grid (λ g. g ≡ marked 0 marks)
