-- What the hull of an assignment has at the cells of points.
use Rattle.std.proofs.Common.{◌≡◌, ℕ, ◌<◌, List, ap, ◌∙◌, length, slice_index, All, Contains}
use Rattle.std.proofs.lemmas.List.{get_or-map}
use Rattle.std.proofs.lemmas.List.Elements.{Contains-get_or}
use Rattle.tube_spec.specs.Shape.{Shape}
use Rattle.tube_spec.specs.Box.{cell_at}
use Rattle.tube_spec.specs.Assignment.{Assignment, number_of, IsHull}
use Rattle.tube_spec.specs.Span.{Span, point}
use Rattle.tube_names.specs.Points.{cells_of}

pub contains-at : (xs : List ℕ) (i : ℕ) → i < length xs → Contains xs (slice_index xs i)
contains-at xs i l = Contains-get_or xs i 0 l

-- the hull of an assignment has at each cell of a point the number of its variable
pub hull-at : (s : Shape) (a : Assignment) (xs : List Span) → IsHull s a xs → (vars : List ℕ) → All (λ v. v < length s.vars) vars → (i : ℕ) → i < length vars
    → cell_at xs (slice_index (cells_of s vars) i) ≡ point (number_of a (slice_index vars i))
hull-at s a xs hull vars named i l =
    ap (cell_at xs) (get_or-map (slice_index s.vars) vars i 0 0 l) ∙ hull.vars (slice_index vars i) (named i 0 l)
