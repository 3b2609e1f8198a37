-- The definitions tried on numbers.
use Rattle.std.proofs.Common.{◌≡◌, ℕ, List, [], ◌∷◌, ◌++◌, ℤ, pos, negsuc, refl, map}
use Rattle.tube_spec.specs.Span.{Span, point}
use Rattle.tube_spec.specs.Narrowing.{Narrowing, Whole, Nothing, Within}
use Rattle.tube_spec.specs.Shape.{Shape, no_shape, with_signal, with_var}
use Rattle.tube_spec.specs.Projection.{Projection}
use Rattle.ctc_delay.specs.Delays.{delay_to_projections, delay_from_projections, delay_shift_projections, delay_to_scope, delay_from_scope, delay_shift_scope}

abbrev from : ℤ → ℤ → Span
from lo hi = record { lo = lo; hi = hi }

abbrev free : Span
free = from (pos 0) (pos 100)

abbrev given_in : List Span → List Projection → List Narrowing
given_in box ps = map (λ (p : Projection). p.formula box) ps

abbrev targets_of : List Projection → List ℕ
targets_of ps = map (λ (p : Projection). p.target) ps

-- Two signals over four slices of one tick, x in the cells 0 to 8 and y in the cells 9 to 17, and a variable in the cell 18.
abbrev shape : Shape
shape = with_var (with_signal (with_signal (no_shape (0 ∷ 1 ∷ 2 ∷ 3 ∷ 4 ∷ []))))

-- x is at 0, 10, 20, 30, 40
abbrev rising : List Span
rising =
    point (pos 0) ∷ from (pos 0) (pos 10) ∷ point (pos 10) ∷ from (pos 10) (pos 20) ∷ point (pos 20) ∷ from (pos 20) (pos 30)
    ∷ point (pos 30) ∷ from (pos 30) (pos 40) ∷ point (pos 40) ∷ []

-- y is anywhere, and at tick 3 where it is said
abbrev with_third : Span → List Span
with_third s = free ∷ free ∷ free ∷ free ∷ free ∷ free ∷ s ∷ free ∷ free ∷ []

abbrev box_with : Span → Span → List Span
box_with third tau = rising ++ (with_third third ++ tau ∷ [])

-- with y free and a delay of 1 or 2, y is held from tick 2 on
to-free : given_in (box_with free (from (pos 1) (pos 2))) (delay_to_projections shape 0 1 0)
    ≡ Whole ∷ Whole ∷ Whole ∷ Whole ∷ Within (from (pos 0) (pos 10)) ∷ Within (from (pos 0) (pos 20)) ∷ Within (from (pos 10) (pos 20)) ∷ Within (from (pos 10) (pos 30)) ∷ Within (from (pos 20) (pos 30)) ∷ []
to-free = refl

shift-free : given_in (box_with free (from (pos 1) (pos 2))) (delay_shift_projections shape 0 1 0) ≡ Within (from (pos 1) (pos 2)) ∷ []
shift-free = refl

-- and x up to tick 2, by what y is one and two ticks later
from-third : given_in (box_with (point (pos 20)) (from (pos 1) (pos 2))) (delay_from_projections shape 0 1 0)
    ≡ Within free ∷ Within free ∷ Within free ∷ Within free ∷ Within free ∷ Whole ∷ Whole ∷ Whole ∷ Whole ∷ []
from-third = refl

-- with y at 20 at tick 3 the delay is 1
shift-third : given_in (box_with (point (pos 20)) (from (pos 1) (pos 2))) (delay_shift_projections shape 0 1 0) ≡ Within (from (pos 1) (pos 1)) ∷ []
shift-third = refl

to-third : given_in (box_with (point (pos 20)) (from (pos 1) (pos 1))) (delay_to_projections shape 0 1 0)
    ≡ Whole ∷ Whole ∷ Within (point (pos 0)) ∷ Within (from (pos 0) (pos 10)) ∷ Within (point (pos 10)) ∷ Within (from (pos 10) (pos 20)) ∷ Within (point (pos 20)) ∷ Within (from (pos 20) (pos 30)) ∷ Within (point (pos 30)) ∷ []
to-third = refl

-- back from tick 3 to tick 2
from-one : given_in (box_with (point (pos 20)) (from (pos 1) (pos 1))) (delay_from_projections shape 0 1 0)
    ≡ Within free ∷ Within free ∷ Within free ∷ Within free ∷ Within (point (pos 20)) ∷ Within free ∷ Within free ∷ Whole ∷ Whole ∷ []
from-one = refl

-- with y at 25 at tick 3 no delay is possible
shift-none : given_in (box_with (point (pos 25)) (from (pos 1) (pos 2))) (delay_shift_projections shape 0 1 0) ≡ Nothing ∷ []
shift-none = refl

-- a variable that is no number of ticks from 0 to 4
to-before : given_in (box_with free (from (negsuc 1) (negsuc 0))) (delay_to_projections shape 0 1 0)
    ≡ Nothing ∷ Nothing ∷ Nothing ∷ Nothing ∷ Nothing ∷ Nothing ∷ Nothing ∷ Nothing ∷ Nothing ∷ []
to-before = refl

shift-past : given_in (box_with free (from (pos 5) (pos 9))) (delay_shift_projections shape 0 1 0) ≡ Nothing ∷ []
shift-past = refl

-- and one that is cut to them: a delay past the last tick is none, and one of 4 asks only that x at 0 meets y at 4
shift-cut : given_in (box_with free (from (negsuc 2) (pos 9))) (delay_shift_projections shape 0 1 0) ≡ Within (from (pos 0) (pos 4)) ∷ []
shift-cut = refl

to-cut : given_in (box_with free (from (negsuc 2) (pos 1))) (delay_to_projections shape 0 1 0)
    ≡ Whole ∷ Whole ∷ Within (from (pos 0) (pos 10)) ∷ Within (from (pos 0) (pos 20)) ∷ Within (from (pos 10) (pos 20)) ∷ Within (from (pos 10) (pos 30)) ∷ Within (from (pos 20) (pos 30)) ∷ Within (from (pos 20) (pos 40)) ∷ Within (from (pos 30) (pos 40)) ∷ []
to-cut = refl

-- slices of two ticks: one tick before tick 2 is inside the first slice, where the envelope counts
abbrev wide : Shape
wide = with_var (with_signal (with_signal (no_shape (0 ∷ 2 ∷ 4 ∷ []))))

abbrev wide_box : List Span
wide_box =
    point (pos 0) ∷ from (pos 0) (pos 10) ∷ point (pos 5) ∷ from (negsuc 2) (pos 30) ∷ point (pos 20) ∷ (free ∷ free ∷ free ∷ free ∷ free ∷ from (pos 1) (pos 1) ∷ [])

to-wide : given_in wide_box (delay_to_projections wide 0 1 0) ≡ Whole ∷ Whole ∷ Within (from (pos 0) (pos 10)) ∷ Within (from (negsuc 2) (pos 30)) ∷ Within (from (negsuc 2) (pos 30)) ∷ []
to-wide = refl

-- which cells are held, and which are read
targets-to : targets_of (delay_to_projections wide 0 1 0) ≡ 5 ∷ 6 ∷ 7 ∷ 8 ∷ 9 ∷ []
targets-to = refl

targets-from : targets_of (delay_from_projections wide 0 1 0) ≡ 0 ∷ 1 ∷ 2 ∷ 3 ∷ 4 ∷ []
targets-from = refl

targets-shift : targets_of (delay_shift_projections wide 0 1 0) ≡ 10 ∷ []
targets-shift = refl

scope-to : delay_to_scope wide 0 0 ≡ 0 ∷ 1 ∷ 2 ∷ 3 ∷ 4 ∷ 10 ∷ []
scope-to = refl

scope-from : delay_from_scope wide 1 0 ≡ 5 ∷ 6 ∷ 7 ∷ 8 ∷ 9 ∷ 10 ∷ []
scope-from = refl

scope-shift : delay_shift_scope wide 0 1 0 ≡ 0 ∷ 1 ∷ 2 ∷ 3 ∷ 4 ∷ 5 ∷ 6 ∷ 7 ∷ 8 ∷ 9 ∷ 10 ∷ []
scope-shift = refl
