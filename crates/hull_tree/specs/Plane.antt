-- Which pairs of ticks are possible.
use Rattle.std.specs.Prelude.{◌≡◌, ℕ, ◌+◌, ◌≤◌, Bool, ◌&&◌, List, map, length, nat_lt, nat_le, neg_ℤ}
use Rattle.std.specs.Int.{int_max}
use Rattle.std.specs.List.{range_with_len}
use Rattle.tube_spec.specs.Limits.{greatest_radius, most_ticks}
use Rattle.tube_spec.specs.Span.{Span, sub_of, natural}
use Rattle.tube_spec.specs.Grid.{last_tick}
use Rattle.tube_spec.specs.Shape.{Shape}
use Rattle.tube_spec.specs.Box.{cell_at}
use Rattle.tube_spec.specs.Tick.{at_tick}
use Rattle.tube_names.specs.declared.queries.Norm.{Norm}
use Rattle.tube_names.specs.declared.queries.Query.{Query}
use Rattle.tube_names.specs.Nearness.{is_near}

-- What two signals may be at each tick, from tick 0 to the last, and a query: how near the two places of a pair are to be, how many
-- ticks are to lie between at least, and how nearness is measured.
pub record Plane : Type 0 where
  pub xs : List Span
  pub ys : List Span
  pub radius : ℕ
  pub gap : ℕ
  pub norm : Norm

-- both signals have an interval at each tick
pub record IsPlane (p : Plane) : Type 0 where
  pub ticks : length p.ys ≡ length p.xs
  pub some : 1 ≤ length p.xs
  pub short : length p.xs ≤ most_ticks + 1
  pub radius : p.radius ≤ greatest_radius

-- what a box gives a signal at each tick, from tick 0 to the last
abbrev pub tube_of : Shape → List Span → ℕ → List Span
tube_of s box signal = map (at_tick s box signal) (range_with_len 0 (last_tick s.grid + 1))

-- the plane of a query over a box
abbrev pub plane_of : Shape → List Span → Query → Plane
plane_of s box q = record { xs = tube_of s box q.x.0; ys = tube_of s box q.y.0; radius = natural q.radius; gap = q.gap; norm = q.norm }

-- the least and the greatest absolute value in a span
abbrev pub least_abs : Span → ℕ
least_abs d = natural (int_max d.lo (neg_ℤ d.hi))

abbrev pub greatest_abs : Span → ℕ
greatest_abs d = natural (int_max d.hi (neg_ℤ d.lo))

-- what a signal may change by from tick a to tick b
abbrev pub change : List Span → ℕ → ℕ → Span
change xs a b = sub_of (cell_at xs b) (cell_at xs a)

-- b is a tick, and a comes before it by the gap at least
abbrev pub is_valid : Plane → ℕ → ℕ → Bool
is_valid p a b = nat_lt b (length p.xs) && nat_le (a + p.gap) b

-- the two places may be near: the least changes are
abbrev pub is_possible : Plane → ℕ → ℕ → Bool
is_possible p a b = is_valid p a b && is_near p.norm p.radius (least_abs (change p.xs a b)) (least_abs (change p.ys a b))

-- the two places are near whatever they are: the greatest changes are
abbrev pub is_sure : Plane → ℕ → ℕ → Bool
is_sure p a b = is_valid p a b && is_near p.norm p.radius (greatest_abs (change p.xs a b)) (greatest_abs (change p.ys a b))
