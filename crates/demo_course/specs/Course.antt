-- The true course of a demo mission: its rates and positions at the ticks 0 to 2000.
use Rattle.std.specs.Prelude.{ℕ, zero, suc, ◌/◌, min, List, map, ℤ, pos, ◌+ℤ◌, ◌-ℤ◌, ◌*ℤ◌}
use Rattle.std.specs.List.{range_with_len}
use Rattle.tube_spec.specs.Span.{natural}
use Rattle.demo_course.specs.Draws.{place_of, rate_of}
use Rattle.demo_course.specs.Roots.{whole_root}
use Rattle.demo_course.specs.declared.Axis.{Axis}
use Rattle.demo_course.specs.declared.Axis.TheVariants.{X, Y}

-- there are twenty stretches of a hundred ticks, and the last tick belongs to the nineteenth, counted from 0
abbrev pub stretch_of : ℕ → ℕ
stretch_of k = min (k / 100) 19

-- the rate at a tick
abbrev pub rate_at : List ℕ → Axis → ℕ → ℤ
rate_at words axis k = rate_of words axis (stretch_of k)

-- f 0 + f 1 and so on below n
unfoldable pub sum_until : (ℕ → ℤ) → ℕ → ℤ
sum_until f zero = pos 0
sum_until f (suc n) = sum_until f n +ℤ f n

-- the position at a tick: from 0 on, each tick adds its rate
abbrev pub position_at : List ℕ → Axis → ℕ → ℤ
position_at words axis k = sum_until (rate_at words axis) k

-- f 0, f 1 and so on below n
unfoldable pub values_until : (ℕ → ℤ) → ℕ → List ℤ
values_until f n = map f (range_with_len 0 n)

-- the positions at the ticks 0 to 2000
abbrev pub positions : List ℕ → Axis → List ℤ
positions words axis = values_until (position_at words axis) 2001

-- the rates at these ticks
abbrev pub rates : List ℕ → Axis → List ℤ
rates words axis = values_until (rate_at words axis) 2001

-- how far the position at a tick is from a beacon along an axis
abbrev pub difference : List ℕ → Axis → ℕ → ℕ → ℤ
difference words axis k i = position_at words axis k -ℤ place_of words axis i

-- the square of the distance of the position at a tick from a beacon
abbrev pub squared_distance : List ℕ → ℕ → ℕ → ℤ
squared_distance words k i =
    (difference words X k i *ℤ difference words X k i) +ℤ (difference words Y k i *ℤ difference words Y k i)

-- the whole part of that distance
unfoldable pub distance_of : List ℕ → ℕ → ℕ → ℕ
distance_of words k i = whole_root (natural (squared_distance words k i))
