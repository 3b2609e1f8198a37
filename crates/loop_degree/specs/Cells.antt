-- Unit cells of the plane of pairs, their sides, and the boundary of a list of cells.
--
--   b
--   |   (a, b + 1) <-- (a + 1, b + 1)
--   |       |                ^
--   |       v                |
--   |     (a, b)  -->   (a + 1, b)
--   +------------------------------- a
use Rattle.std.specs.Prelude.{ℕ, zero, suc, ◌+◌, ◌≤◌, Bool, false, cond, List, [], ◌∷◌, ◌++◌}
use Rattle.std.specs.List.{flat_map}
use Rattle.loop_degree.specs.Pairs.{has}

-- A cell is named by its least corner, the pair (a, b). The corner after it in a, in b and in both, which also names the cell there.
abbrev pub next_a : ℕ × ℕ → ℕ × ℕ
next_a c = (c.0 + 1, c.1)

abbrev pub next_b : ℕ × ℕ → ℕ × ℕ
next_b c = (c.0, c.1 + 1)

abbrev pub next_both : ℕ × ℕ → ℕ × ℕ
next_both c = (c.0 + 1, c.1 + 1)

-- a pair is a corner of a cell
pub record IsCornerOf (c p : ℕ × ℕ) : Type 0 where
  pub left : c.0 ≤ p.0
  pub right : p.0 ≤ c.0 + 1
  pub low : c.1 ≤ p.1
  pub high : p.1 ≤ c.1 + 1

-- whether the cell before (a, b), in a and in b, is in the list; where a or b is 0 there is none
abbrev pub has_before_a : List (ℕ × ℕ) → ℕ → ℕ → Bool
has_before_a cells zero b = false
has_before_a cells (suc a) b = has cells (a, b)

abbrev pub has_before_b : List (ℕ × ℕ) → ℕ → ℕ → Bool
has_before_b cells a zero = false
has_before_b cells a (suc b) = has cells (a, b)

-- from a corner to a corner
pub record Edge : Type 0 where
  pub from : ℕ × ℕ
  pub to : ℕ × ℕ

-- the side from p to q, unless two cells share it
abbrev pub side_unless : Bool → ℕ × ℕ → ℕ × ℕ → List Edge
side_unless shared p q = cond shared [] (record { from = p; to = q } ∷ [])

-- the sides of a cell of which the other cell is not in the list, in the order in which the cell runs through its corners
abbrev pub outer_sides : List (ℕ × ℕ) → ℕ × ℕ → List Edge
outer_sides cells c =
    side_unless (has_before_b cells c.0 c.1) c (next_a c)
    ++ (side_unless (has cells (next_a c)) (next_a c) (next_both c)
    ++ (side_unless (has cells (next_b c)) (next_both c) (next_b c)
    ++ side_unless (has_before_a cells c.0 c.1) (next_b c) c))

-- the boundary edges of a list of cells
abbrev pub boundary : List (ℕ × ℕ) → List Edge
boundary cells = flat_map (outer_sides cells) cells

-- both ends of each edge
abbrev pub ends_of : List Edge → List (ℕ × ℕ)
ends_of edges = flat_map (λ e. e.from ∷ e.to ∷ []) edges
