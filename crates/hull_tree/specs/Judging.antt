-- The judgement of a box of pairs.
use Rattle.std.specs.Prelude.{◌≡◌, ℕ, zero, suc, ◌+◌, ◌-◌, ◌≤◌, Bool, true, false, cond, not, ◌&&◌, ◌||◌, List, ◌-ℤ◌, nat_lt, nat_le}
use Rattle.std.specs.Int.{int_max, int_min}
use Rattle.tube_spec.specs.Limits.{greatest_bound}
use Rattle.tube_spec.specs.Span.{Span, natural, point, IsBounded}
use Rattle.tube_spec.specs.Box.{cell_at}
use Rattle.hull_tree.specs.Plane.{Plane}
use Rattle.tube_names.specs.Nearness.{is_near}
use Rattle.hull_tree.specs.declared.hulls.Bounds.{Bounds}
use Rattle.hull_tree.specs.declared.tree.Judged.{Judged}
use Rattle.hull_tree.specs.declared.tree.Judged.TheVariants.{Out, Within, Mixed}

abbrev pub bounds_of : Span → Bounds
bounds_of s = record { least_lower = s.lo; greatest_lower = s.lo; least_upper = s.hi; greatest_upper = s.hi }

abbrev pub both : Bounds → Bounds → Bounds
both p q = record { least_lower = int_min p.least_lower q.least_lower; greatest_lower = int_max p.greatest_lower q.greatest_lower; least_upper = int_min p.least_upper q.least_upper; greatest_upper = int_max p.greatest_upper q.greatest_upper }

-- over the ticks from a to a + n
abbrev pub bounds_over : List Span → ℕ → ℕ → Bounds
bounds_over xs a zero = bounds_of (cell_at xs a)
bounds_over xs a (suc n) = both (bounds_over xs a n) (bounds_of (cell_at xs (a + suc n)))

-- no bound lies beyond 500,000,000
pub record IsSmall (p : Bounds) : Type 0 where
  pub least_lower : IsBounded greatest_bound (point p.least_lower)
  pub greatest_lower : IsBounded greatest_bound (point p.greatest_lower)
  pub least_upper : IsBounded greatest_bound (point p.least_upper)
  pub greatest_upper : IsBounded greatest_bound (point p.greatest_upper)

-- the ticks from first_a to last_a by those from first_b to last_b
pub record TickBox : Type 0 where
  pub first_a : ℕ
  pub last_a : ℕ
  pub first_b : ℕ
  pub last_b : ℕ

pub record IsInBox (x : TickBox) (a b : ℕ) : Type 0 where
  pub first_a : x.first_a ≤ a
  pub last_a : a ≤ x.last_a
  pub first_b : x.first_b ≤ b
  pub last_b : b ≤ x.last_b

-- no least distance of the pairs is below the one, and none above the other
abbrev pub least_gap : Bounds → Bounds → ℕ
least_gap p q = natural (int_max (p.least_lower -ℤ q.greatest_upper) (q.least_lower -ℤ p.greatest_upper))

abbrev pub greatest_gap : Bounds → Bounds → ℕ
greatest_gap p q = natural (int_max (p.greatest_lower -ℤ q.least_upper) (q.greatest_lower -ℤ p.least_upper))

abbrev pub over_a : List Span → TickBox → Bounds
over_a xs x = bounds_over xs x.first_a (x.last_a - x.first_a)

abbrev pub over_b : List Span → TickBox → Bounds
over_b xs x = bounds_over xs x.first_b (x.last_b - x.first_b)

abbrev pub is_out : Plane → TickBox → Bool
is_out p x = nat_lt x.last_b (x.first_a + p.gap) || not (is_near p.norm p.radius (least_gap (over_a p.xs x) (over_b p.xs x)) (least_gap (over_a p.ys x) (over_b p.ys x)))

abbrev pub is_within : Plane → TickBox → Bool
is_within p x = nat_le (x.last_a + p.gap) x.first_b && is_near p.norm p.radius (greatest_gap (over_a p.xs x) (over_b p.xs x)) (greatest_gap (over_a p.ys x) (over_b p.ys x))

abbrev pub judged : Plane → TickBox → Judged
judged p x = cond (is_out p x) Out (cond (is_within p x) Within Mixed)

-- what a judgement says of the pairs of a box
abbrev pub Says : (ℕ → ℕ → Bool) → TickBox → Judged → Type 0
Says pairs x Out = (a b : ℕ) → IsInBox x a b → pairs a b ≡ false
Says pairs x Within = (a b : ℕ) → IsInBox x a b → pairs a b ≡ true
Says pairs x Mixed = x.first_a ≡ x.last_a → x.first_b ≡ x.last_b → ⊥
