-- A demo mission: the records that tell of a true course.
use Rattle.std.specs.Prelude.{ℕ, zero, suc, ◌+◌, ◌-◌, ◌*◌, ◌%◌, ◌==◌, if◌then◌else◌, List, [], ◌∷◌, ◌++◌, Some, codes, ℤ, pos, ◌+ℤ◌, ◌-ℤ◌}
use Rattle.tube_spec.specs.Span.{Span, point}
use Rattle.slice_gates.specs.Cuts.{uniform_cuts}
use Rattle.tube_store.specs.declared.SignalId.{SignalId}
use Rattle.tube_names.specs.declared.queries.Norm.TheVariants.{Maximum}
use Rattle.mission_items.specs.declared.item.Item.{Item}
use Rattle.mission_items.specs.declared.item.Item.TheVariants as item
use Rattle.mission_items.specs.declared.mission.Mission.{Mission}
use Rattle.demo_course.specs.Course.{distance_of}
use Rattle.demo_course.specs.Draws.{place_of, rate_of, words_of}
use Rattle.demo_course.specs.Laws.{within}
use Rattle.demo_course.specs.declared.Axis.{Axis}
use Rattle.demo_course.specs.declared.Axis.TheVariants.{X, Y}

-- ---- parts

-- the numbers at most so far from another
abbrev pub around : ℕ → ℤ → Span
around reach middle = record { lo = middle -ℤ pos reach; hi = middle +ℤ pos reach }

-- the signals are x, y, u and v: a position along each axis, and then its rate
abbrev pub position_signal : Axis → SignalId
position_signal X = record { 0 = 0 }
position_signal Y = record { 0 = 1 }

abbrev pub rate_signal : Axis → SignalId
rate_signal X = record { 0 = 2 }
rate_signal Y = record { 0 = 3 }

-- f 0, f 1 and so on below n, one after the other
unfoldable pub each_until : {A : Type 0} → (ℕ → List A) → ℕ → List A
each_until f zero = []
each_until f (suc n) = each_until f n ++ f n

-- ---- records

-- the four signals, with the ranges of their values
abbrev pub signals : List Item
signals =
    item.Signal (codes "x") (within 50000)
    ∷ item.Signal (codes "y") (within 50000)
    ∷ item.Signal (codes "u") (within 25)
    ∷ item.Signal (codes "v") (within 25)
    ∷ []

-- the course begins at 0
abbrev pub start_of : Axis → Item
start_of axis = item.At (position_signal axis) 0 (point (pos 0))

-- positions change by their rates
abbrev pub motions : List Item
motions =
    item.Deriv (position_signal X) (rate_signal X)
    ∷ item.Deriv (position_signal Y) (rate_signal Y)
    ∷ start_of X
    ∷ start_of Y
    ∷ []

-- the records before the measurements
unfoldable pub opening : List Item
opening = item.Head ∷ (signals ++ motions)

-- the last tick of stretch j: the nineteenth, counted from 0, has the last tick of the clock too
abbrev pub last_of : ℕ → ℕ
last_of j = if j == 19 then 2000 else 100 * j + 99

-- a rate was measured over a stretch, to one millimetre a tick
abbrev pub bound_of : List ℕ → ℕ → Axis → Item
bound_of words j axis = item.Bound (rate_signal axis) (100 * j) (last_of j) (around 1 (rate_of words axis j))

abbrev pub bounds_of : List ℕ → ℕ → List Item
bounds_of words j = bound_of words j X ∷ bound_of words j Y ∷ []

-- b and the digit of its number
abbrev pub beacon_name : ℕ → List ℕ
beacon_name i = 98 ∷ (48 + i) ∷ []

-- the place of a beacon was measured to two millimetres
abbrev pub beacon_of : List ℕ → ℕ → Item
beacon_of words i = item.Beacon (beacon_name i) (around 2 (place_of words X i)) (around 2 (place_of words Y i))

-- the tick at which ping i was heard, and the number of its beacon
abbrev pub heard_at : ℕ → ℕ
heard_at i = 50 * i + 25

abbrev pub heard_from : ℕ → ℕ
heard_from i = i % 5

-- Ping i was heard at most two ticks before or after some tick. Its distance was measured from three millimetres below the whole part of
-- the true one, and from 0 on, to four millimetres above.
abbrev pub ping_of : List ℕ → ℕ → Item
ping_of words i =
    let tick = heard_at i in
    let distance = distance_of words tick (heard_from i) in
    item.Ping (position_signal X) (position_signal Y) (tick - 2) (tick + 2) (Some (heard_from i)) (pos (distance - 3)) (pos (distance + 4))

-- where was the robot at most 200 millimetres from a place that it had left 200 ticks before or more?
abbrev pub question : Item
question = item.Revisit (record { x = position_signal X; y = position_signal Y; radius = pos 200; gap = 200; norm = Maximum })

-- the records of the course that some words draw
unfoldable pub demo_items : List ℕ → List Item
demo_items words =
    opening ++ each_until (bounds_of words) 20 ++ each_until (λ i. beacon_of words i ∷ []) 5 ++ each_until (λ i. ping_of words i ∷ []) 40 ++ question ∷ []

-- ---- the mission

-- slices of ten ticks, up to tick 2000
unfoldable pub demo_cuts : List ℕ
demo_cuts = uniform_cuts 2000 10

-- the mission of some words
abbrev pub mission_of : List ℕ → Mission
mission_of words = record { version = 1; ticks = 2000; width = 10; cuts = demo_cuts; items = demo_items words }

-- the mission of a seed
abbrev pub demo_mission : ℕ → Mission
demo_mission seed = mission_of (words_of seed 50)
