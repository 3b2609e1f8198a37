-- The constellation constraint: a point is one of several marks. Points and marks have one cell a coordinate.
use Rattle.std.specs.Prelude.{◌≡◌, ◌&&◌, ℕ, ◌≤◌, ◌<◌, Bool, true, cond, Option, Some, None, List, [], ◌∷◌, ◌++◌, length, All, Contains, map, slice_index, slice_index_or}
use Rattle.std.specs.List.{range_with_len, concat}
use Rattle.tube_spec.specs.Limits.{most_variables}
use Rattle.tube_spec.specs.Span.{Span, meet_of}
use Rattle.tube_spec.specs.Hull.{hull_below}
use Rattle.tube_spec.specs.Narrowing.{narrowing_of}
use Rattle.tube_spec.specs.Shape.{Shape}
use Rattle.tube_spec.specs.Projection.{Projection}
use Rattle.tube_spec.specs.Assignment.{Assignment}
use Rattle.int_interval.specs.Inverse.{meets}
use Rattle.interval_box.specs.Parts.{part_of}
use Rattle.ctc_constell.specs.Points.{box_of, place_in}
use Rattle.tube_names.specs.Points.{cells_of}

-- two boxes share a point: they share a number in each coordinate
abbrev pub boxes_meet : List Span → List Span → Bool
boxes_meet [] ys = true
boxes_meet (x ∷ xs) [] = true
boxes_meet (x ∷ xs) (y ∷ ys) = meets x y && boxes_meet xs ys

-- what a mark leaves of coordinate i of a point: their meeting in that coordinate, where their boxes meet, and else nothing
abbrev pub left_by : List Span → List Span → ℕ → Option Span
left_by point mark i = cond (boxes_meet point mark) (Some (meet_of (part_of point i) (part_of mark i))) None

-- the cells of the mark with a number
abbrev pub mark_at : List (List ℕ) → ℕ → List ℕ
mark_at marks k = slice_index_or marks k []

-- the hull over all marks of what they leave of coordinate i, in a box where the point has the cells p
abbrev pub left_by_marks : List ℕ → List (List ℕ) → List Span → ℕ → Option Span
left_by_marks p marks xs i = hull_below (λ k. left_by (box_of xs p) (box_of xs (mark_at marks k)) i) (length marks)

-- coordinate i of the point lies in that hull
abbrev pub constell_projection : List ℕ → List (List ℕ) → ℕ → Projection
constell_projection p marks i = record { target = slice_index p i; formula = λ xs. narrowing_of (left_by_marks p marks xs i) }

abbrev pub constell_projections_at : List ℕ → List (List ℕ) → List Projection
constell_projections_at p marks = map (constell_projection p marks) (range_with_len 0 (length p))

-- the projections of a point and its marks, which are lists of variables
abbrev pub constell_projections : Shape → List ℕ → List (List ℕ) → List Projection
constell_projections s p marks = constell_projections_at (cells_of s p) (map (cells_of s) marks)

-- the cells that they read: the coordinates of the point and of every mark
abbrev pub constell_scope : Shape → List ℕ → List (List ℕ) → List ℕ
constell_scope s p marks = cells_of s p ++ concat (map (cells_of s) marks)

-- The point and 1 to 200,000 marks have two or three coordinates, all variables of the shape.
pub record ConstellFits (s : Shape) (p : List ℕ) (marks : List (List ℕ)) : Type 0 where
  pub some : 2 ≤ length p
  pub few : length p ≤ 3
  pub some_marks : 1 ≤ length marks
  pub few_marks : length marks ≤ most_variables
  pub alike : All (λ mark. length mark ≡ length p) marks
  pub point : All (λ v. v < length s.vars) p
  pub named : All (λ mark. All (λ v. v < length s.vars) mark) marks

-- what the constraint says of an assignment: the point is where one of the marks is
abbrev pub IsOneOf : Assignment → List ℕ → List (List ℕ) → Type 0
IsOneOf a p marks = Contains (map (place_in a) marks) (place_in a p)
