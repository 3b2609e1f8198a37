-- The definitions tried on numbers.
use Rattle.std.proofs.Common.{◌≡◌, ℕ, Some, List, [], ◌∷◌, ℤ, pos, negsuc, refl, map}
use Rattle.tube_spec.specs.Span.{Span, point}
use Rattle.tube_spec.specs.Narrowing.{Narrowing, Nothing, Within}
use Rattle.tube_spec.specs.Projection.{Projection}
use Rattle.ctc_core.specs.Given.{projection_at}
use Rattle.int_interval.specs.Inverse.{hull_where, back_sqr_of}
use Rattle.ctc_dist.specs.Distances.{squares_from, other_squares, offset_of, dist_projections_at}

abbrev from : ℤ → ℤ → Span
from lo hi = record { lo = lo; hi = hi }

-- What each projection gives: the point has the cells 0 and 1, the other one the cells 2 and 3.
abbrev given : ℤ → ℤ → List Span → ℕ → Narrowing
given near far xs i = (projection_at (dist_projections_at (0 ∷ 1 ∷ []) (2 ∷ 3 ∷ []) (squares_from near far)) i).formula xs

-- a point at (0, 0), and one somewhere on the line from (0, 0) to (100, 0), 10 from it: that is at (10, 0)
abbrev on_line : List Span
on_line = point (pos 0) ∷ point (pos 0) ∷ from (pos 0) (pos 100) ∷ point (pos 0) ∷ []

line-offset : offset_of (0 ∷ 1 ∷ []) (2 ∷ 3 ∷ []) (squares_from (pos 10) (pos 10)) on_line 0 ≡ Some (point (negsuc 9))
unfolding back_sqr_of hull_where
line-offset = refl

line-forth : given (pos 10) (pos 10) on_line 0 ≡ Within (from (negsuc 9) (pos 90))
unfolding back_sqr_of hull_where
line-forth = refl

line-back : given (pos 10) (pos 10) on_line 2 ≡ Within (point (pos 10))
unfolding back_sqr_of hull_where
line-back = refl

-- a point in 0..100 on the line, 5 from the one at (10, 0): both sides are left
both-sides : given (pos 5) (pos 5) (from (pos 0) (pos 100) ∷ point (pos 0) ∷ point (pos 10) ∷ point (pos 0) ∷ []) 0 ≡ Within (from (pos 5) (pos 15))
unfolding back_sqr_of hull_where
both-sides = refl

-- at distance 0 a point is on the other one, at (10, 20)
abbrev on_beacon : List Span
on_beacon = from (pos 0) (pos 100) ∷ from (pos 0) (pos 100) ∷ point (pos 10) ∷ point (pos 20) ∷ []

on-first : given (pos 0) (pos 0) on_beacon 0 ≡ Within (point (pos 10))
unfolding back_sqr_of hull_where
on-first = refl

on-second : given (pos 0) (pos 0) on_beacon 1 ≡ Within (point (pos 20))
unfolding back_sqr_of hull_where
on-second = refl

-- a ring of radii 50 to 60 covers both sides, though none of it is nearer than 50
ring : given (pos 50) (pos 60) (from (negsuc 99) (pos 100) ∷ point (pos 0) ∷ point (pos 0) ∷ point (pos 0) ∷ []) 0 ≡ Within (from (negsuc 59) (pos 60))
unfolding back_sqr_of hull_where
ring = refl

-- too far
too-far : given (pos 0) (pos 2) (from (pos 3) (pos 9) ∷ point (pos 0) ∷ point (pos 0) ∷ point (pos 0) ∷ []) 0 ≡ Nothing
unfolding back_sqr_of hull_where
too-far = refl

-- three coordinates: the squares of 3 and 4 leave 144 of 169
abbrev in_space : List Span
in_space = point (pos 0) ∷ point (pos 0) ∷ point (pos 0) ∷ from (pos 0) (pos 20) ∷ point (pos 3) ∷ point (pos 4) ∷ []

abbrev given_in_space : ℕ → Narrowing
given_in_space i = (projection_at (dist_projections_at (0 ∷ 1 ∷ 2 ∷ []) (3 ∷ 4 ∷ 5 ∷ []) (squares_from (pos 13) (pos 13))) i).formula in_space

space-others : other_squares (0 ∷ 1 ∷ 2 ∷ []) (3 ∷ 4 ∷ 5 ∷ []) in_space 0 ≡ point (pos 25)
space-others = refl

space-back : given_in_space 3 ≡ Within (point (pos 12))
unfolding back_sqr_of hull_where
space-back = refl

-- the targets: the coordinates of one point, then of the other
targets : map (λ (p : Projection). p.target) (dist_projections_at (7 ∷ 4 ∷ []) (9 ∷ 2 ∷ []) (squares_from (pos 0) (pos 1))) ≡ 7 ∷ 4 ∷ 9 ∷ 2 ∷ []
targets = refl
