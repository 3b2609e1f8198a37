-- The labels of corners in a box: the first one that holds.
use Rattle.std.specs.Prelude.{◌≡◌, ℕ, true, cond, Option, Some, None, List, map, All, ℤ, neg_ℤ, int_le}
use Rattle.tube_spec.specs.Span.{Span}
use Rattle.tube_names.specs.declared.queries.Query.{Query}
use Rattle.loop_degree.specs.declared.labels.Label.{Label}
use Rattle.loop_degree.specs.declared.labels.Label.TheVariants.{East, West, North, South}
use Rattle.loop_degree.specs.Pairs.{IsRising, has}
use Rattle.loop_degree.specs.Cells.{boundary, ends_of}
use Rattle.loop_degree.specs.Boundary.{corner_of}
use Rattle.loop_degree.specs.Steps.{Tubes}
use Rattle.loop_degree.specs.Degree.{change_in}

-- The first label that holds of two spans under the bounds d and e, in the order East, West, North, South.
abbrev pub first_label : ℤ → ℤ → Span → Span → Option Label
first_label d e dx dy =
    cond (int_le d dx.lo) (Some East) (cond (int_le dx.hi (neg_ℤ d)) (Some West) (cond (int_le e dy.lo) (Some North) (cond (int_le dy.hi (neg_ℤ e)) (Some South) None)))

-- the label of a corner in a box
abbrev pub label_of : Tubes → Query → ℤ → ℤ → ℕ × ℕ → Option Label
label_of tubes q d e p = first_label d e (change_in tubes q.x.0 p) (change_in tubes q.y.0 p)

-- some corner of a boundary edge has no label
abbrev pub LacksLabel : (ℕ × ℕ → Option Label) → List (ℕ × ℕ) → Type 0
LacksLabel label cells = (p : ℕ × ℕ) × (has (ends_of (boundary cells)) p ≡ true) × (label p ≡ None)

-- The corners of the boundary edges in rising order, each with its label.
pub record AreLabels (label : ℕ × ℕ → Option Label) (cells : List (ℕ × ℕ)) (labels : List (ℕ × ℕ × Label)) : Type 0 where
  pub rising : IsRising (map corner_of labels)
  pub corners : (p : ℕ × ℕ) → has (map corner_of labels) p ≡ has (ends_of (boundary cells)) p
  pub own : All (λ l. label (corner_of l) ≡ Some l.2) labels
