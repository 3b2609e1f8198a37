-- What is true of every course.
use Rattle.std.specs.Prelude.{◌≡◌, ℕ, ◌+◌, ◌*◌, ◌≤◌, ◌<◌, ◌↔◌, List, ℤ, pos, neg_ℤ, ◌+ℤ◌}
use Rattle.tube_spec.specs.Span.{Span, Holds}
use Rattle.demo_course.specs.Course.{distance_of, position_at, rate_at, squared_distance}
use Rattle.demo_course.specs.Draws.{place_of, rate_of}
use Rattle.demo_course.specs.Roots.{whole_root}
use Rattle.demo_course.specs.declared.Axis.{Axis}

-- the numbers from -n to n
abbrev pub within : ℕ → Span
within n = record { lo = neg_ℤ (pos n); hi = pos n }

-- the whole root is the greatest number whose square is at most n
abbrev pub RootsAreGreatest : Type 0
RootsAreGreatest = (n r : ℕ) → (r * r ≤ n) ↔ (r ≤ whole_root n)

-- whatever is drawn, rates are at most 20, positions at most 20 a tick, and beacons at most 20000 from 0; so no distance is above 90000
pub record IsBoundedCourse (words : List ℕ) : Type 0 where
  pub rate : (axis : Axis) (j : ℕ) → Holds (within 20) (rate_of words axis j)
  pub position : (axis : Axis) (k : ℕ) → Holds (within (20 * k)) (position_at words axis k)
  pub place : (axis : Axis) (i : ℕ) → Holds (within 20000) (place_of words axis i)
  pub distance : (k i : ℕ) → k ≤ 2000 → distance_of words k i ≤ 90000

-- a course begins at 0, and from each tick to the next the position changes by the rate
pub record IsMoved (words : List ℕ) : Type 0 where
  pub begins : (axis : Axis) → position_at words axis 0 ≡ pos 0
  pub moves : (axis : Axis) (k : ℕ) → position_at words axis (k + 1) ≡ position_at words axis k +ℤ rate_at words axis k

-- the square of the distance lies between those of its whole part and of the next number
abbrev pub AreDistances : List ℕ → Type 0
AreDistances words = (k i : ℕ) → let r = distance_of words k i in Holds (record { lo = pos (r * r); hi = pos ((r + 1) * (r + 1)) }) (squared_distance words k i)
