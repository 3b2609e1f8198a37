-- The definitions tried on numbers.
use Rattle.std.proofs.Common.{◌≡◌, ℕ, Some, None, List, [], ◌∷◌, ℤ, pos, negsuc, refl, map}
use Rattle.tube_spec.specs.Span.{Span, point}
use Rattle.tube_spec.specs.Narrowing.{Narrowing, Nothing, Within}
use Rattle.tube_spec.specs.Projection.{Projection}
use Rattle.ctc_core.specs.Given.{projection_at}
use Rattle.ctc_constell.specs.Constellations.{left_by, constell_projections_at}

abbrev from : ℤ → ℤ → Span
from lo hi = record { lo = lo; hi = hi }

-- Two marks at (0, 0) and (100, 0): the point has the cells 0 and 1, the marks the cells 2, 3 and 4, 5.
abbrev among : Span → Span → List Span
among x y = x ∷ y ∷ point (pos 0) ∷ point (pos 0) ∷ point (pos 100) ∷ point (pos 0) ∷ []

abbrev given : Span → Span → ℕ → Narrowing
given x y i = (projection_at (constell_projections_at (0 ∷ 1 ∷ []) ((2 ∷ 3 ∷ []) ∷ (4 ∷ 5 ∷ []) ∷ [])) i).formula (among x y)

-- a point that may be at both: the hull of both, and not the first one
both-marks : given (from (negsuc 29) (pos 130)) (point (pos 0)) 0 ≡ Within (from (pos 0) (pos 100))
both-marks = refl

-- one that may be at the second alone
second-mark : given (from (pos 50) (pos 130)) (point (pos 0)) 0 ≡ Within (point (pos 100))
second-mark = refl

-- one that lies between both, and one that lies off their line, which its first coordinate does not tell
between : given (from (pos 10) (pos 90)) (point (pos 0)) 0 ≡ Nothing
between = refl

off-the-line : given (from (pos 0) (pos 100)) (from (pos 1) (pos 5)) 0 ≡ Nothing
off-the-line = refl

-- marks that are boxes: what they leave is the meeting
abbrev wide : Span → Narrowing
wide x = (projection_at (constell_projections_at (0 ∷ 1 ∷ []) ((2 ∷ 3 ∷ []) ∷ (4 ∷ 5 ∷ []) ∷ [])) 0).formula (x ∷ from (pos 0) (pos 9) ∷ from (pos 0) (pos 4) ∷ from (pos 5) (pos 6) ∷ from (pos 8) (pos 12) ∷ from (pos 9) (pos 11) ∷ [])

wide-marks : wide (from (pos 3) (pos 10)) ≡ Within (from (pos 3) (pos 10))
wide-marks = refl

wide-first : wide (from (pos 2) (pos 7)) ≡ Within (from (pos 2) (pos 4))
wide-first = refl

-- three coordinates: the marks agree in two of them
in-space : left_by (from (pos 0) (pos 9) ∷ point (pos 3) ∷ from (pos 4) (pos 5) ∷ []) (from (pos 7) (pos 20) ∷ point (pos 3) ∷ point (pos 5) ∷ []) 0 ≡ Some (from (pos 7) (pos 9))
in-space = refl

apart-in-space : left_by (from (pos 0) (pos 9) ∷ point (pos 3) ∷ from (pos 4) (pos 5) ∷ []) (from (pos 7) (pos 20) ∷ point (pos 3) ∷ point (pos 6) ∷ []) 0 ≡ None
apart-in-space = refl

-- the targets: the coordinates of the point
targets : map (λ (p : Projection). p.target) (constell_projections_at (7 ∷ 4 ∷ []) ((9 ∷ 2 ∷ []) ∷ [])) ≡ 7 ∷ 4 ∷ []
targets = refl
