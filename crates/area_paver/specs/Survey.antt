-- What a sensor that is carried along a trajectory sees of the plane, and what is known of it from the tubes.
use Rattle.std.specs.Prelude.{◌≡◌, ℕ, ◌<◌, ◌≤◌, Bool, true, false, List, length, ℤ, ◌-ℤ◌, IsTrue}
use Rattle.tube_spec.specs.Span.{Span, natural, point, sub_of}
use Rattle.tube_spec.specs.Shape.{Shape}
use Rattle.tube_spec.specs.Box.{cell_at}
use Rattle.tube_names.specs.declared.queries.Norm.{Norm}
use Rattle.tube_names.specs.declared.queries.Query.{Query}
use Rattle.tube_names.specs.Nearness.{is_near}
use Rattle.hull_tree.specs.Plane.{tube_of, least_abs, greatest_abs}
use Rattle.hull_tree.specs.Revisits.{magnitude}
use Rattle.area_paver.specs.declared.chart.Mark.{Mark}
use Rattle.area_paver.specs.declared.chart.Mark.TheVariants.{Never, Seen, Open}

-- A trajectory whose values are x and y sees the place (p, q): at some tick up to the last it is near it, as the query measures nearness.
pub record Sees (query : Query) (last : ℕ) (x y : ℕ → ℤ) (p q : ℤ) : Type 0 where
  pub tick : ℕ
  pub within : tick ≤ last
  pub near : IsTrue (is_near query.norm (natural query.radius) (magnitude (x tick -ℤ p)) (magnitude (y tick -ℤ q)))

-- What two signals may be at each tick, from tick 0 on, and how far and by which norm the sensor sees.
pub record Survey : Type 0 where
  pub xs : List Span
  pub ys : List Span
  pub radius : ℕ
  pub norm : Norm

-- the survey of a query over a box
abbrev pub survey_of : Shape → List Span → Query → Survey
survey_of s box query = record { xs = tube_of s box query.x.0; ys = tube_of s box query.y.0; radius = natural query.radius; norm = query.norm }

-- the differences of a signal's values at a tick from a number
abbrev pub offset : List Span → ℕ → ℤ → Span
offset xs k p = sub_of (cell_at xs k) (point p)

-- at a tick some position of the tubes is near a place: the least differences are
abbrev pub may_see : Survey → ℕ → ℤ → ℤ → Bool
may_see v k p q = is_near v.norm v.radius (least_abs (offset v.xs k p)) (least_abs (offset v.ys k q))

-- at a tick every position of the tubes is near a place: the greatest differences are
abbrev pub must_see : Survey → ℕ → ℤ → ℤ → Bool
must_see v k p q = is_near v.norm v.radius (greatest_abs (offset v.xs k p)) (greatest_abs (offset v.ys k q))

-- at some tick every position of the tubes is near the place
abbrev pub IsSeen : Survey → ℤ → ℤ → Type 0
IsSeen v p q = (k : ℕ) × (k < length v.xs) × (must_see v k p q ≡ true)

-- at no tick is any position of the tubes near the place
abbrev pub IsUnseen : Survey → ℤ → ℤ → Type 0
IsUnseen v p q = (k : ℕ) → k < length v.xs → may_see v k p q ≡ false

-- what the mark of a place says, and nothing else has it
abbrev pub IsMark : Survey → ℤ → ℤ → Mark → Type 0
IsMark v p q Seen = IsSeen v p q
IsMark v p q Never = IsUnseen v p q
IsMark v p q Open = (IsSeen v p q → ⊥) × (IsUnseen v p q → ⊥)
