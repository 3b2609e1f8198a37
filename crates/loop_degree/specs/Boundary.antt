-- Labelled boundaries, and the sums of the turns along them.
use Rattle.std.specs.Prelude.{ℕ, Option, Some, None, List, [], ◌∷◌, map, ℤ, pos, negsuc, neg_ℤ, ◌+ℤ◌, ◌≤ℤ◌, All, IsSome}
use Rattle.loop_degree.specs.declared.labels.Label.{Label}
use Rattle.loop_degree.specs.declared.labels.Label.TheVariants.{West, North}
use Rattle.loop_degree.specs.Pairs.{IsRising}
use Rattle.loop_degree.specs.Cells.{Edge, boundary}
use Rattle.loop_degree.specs.Labels.{label_at}

abbrev pub corner_of : ℕ × ℕ × Label → ℕ × ℕ
corner_of l = (l.0, l.1)

-- both ends of an edge have a label
abbrev pub HasLabels : List (ℕ × ℕ × Label) → Edge → Type 0
HasLabels labels e = IsSome (label_at labels e.from) × IsSome (label_at labels e.to)

-- the cells rise, the labelled corners rise, and each corner of a boundary edge has a label
pub record IsLabelledBoundary (cells : List (ℕ × ℕ)) (labels : List (ℕ × ℕ × Label)) : Type 0 where
  pub rising : IsRising cells
  pub corners : IsRising (map corner_of labels)
  pub labelled : All (HasLabels labels) (boundary cells)

-- 1 from North to West, -1 from West to North, and else 0
abbrev pub turn : Label → Label → ℤ
turn North West = pos 1
turn West North = negsuc 0
turn l m = pos 0

abbrev pub turn_option : Option Label → Option Label → Option ℤ
turn_option (Some l) (Some m) = Some (turn l m)
turn_option (Some l) None = None
turn_option None m = None

abbrev pub add_option : Option ℤ → Option ℤ → Option ℤ
add_option (Some a) (Some b) = Some (a +ℤ b)
add_option (Some a) None = None
add_option None b = None

-- the turns of edges added up, nothing where an end has no label
abbrev pub turns_of : List (ℕ × ℕ × Label) → List Edge → Option ℤ
turns_of labels [] = Some (pos 0)
turns_of labels (e ∷ edges) = add_option (turn_option (label_at labels e.from) (label_at labels e.to)) (turns_of labels edges)

-- a number lies from -n to n
abbrev pub IsSmall : ℕ → ℤ → Type 0
IsSmall n z = (neg_ℤ (pos n) ≤ℤ z) × (z ≤ℤ pos n)
