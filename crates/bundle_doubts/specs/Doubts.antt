-- The doubts by number and name, and which of those that are in place is the first.
use Rattle.std.specs.Prelude.{◌≡◌, ℕ, ◌<◌, ◌⊎◌, List, [], ◌∷◌, codes}
use Rattle.bundle_doubts.specs.declared.Doubt.{Doubt}
use Rattle.bundle_doubts.specs.declared.Doubt.TheVariants as doubt

abbrev pub doubt_number : Doubt → ℕ
doubt_number doubt.Form = 1
doubt_number doubt.Log = 2
doubt_number doubt.Fire = 3
doubt_number doubt.Cover = 4
doubt_number doubt.Set = 5
doubt_number doubt.Degree = 6

abbrev pub doubt_name : Doubt → List ℕ
doubt_name doubt.Form = codes "Form"
doubt_name doubt.Log = codes "Log"
doubt_name doubt.Fire = codes "Fire"
doubt_name doubt.Cover = codes "Cover"
doubt_name doubt.Set = codes "Set"
doubt_name doubt.Degree = codes "Degree"

-- ---- the order

-- of what it is a doubt: of the form, of the log, of sections, or of queries
abbrev pub stage : Doubt → ℕ
stage doubt.Form = 0
stage doubt.Log = 1
stage doubt.Fire = 2
stage doubt.Cover = 2
stage doubt.Set = 3
stage doubt.Degree = 3

-- A doubt in its place: at a record, a section or a query, and at a set of the query, each by its number from 1; 0 where it is of none.
pub record Placed : Type 0 where
  pub doubt : Doubt
  pub at : ℕ
  pub set : ℕ

-- by its stage; then by section or query; then by set; and then by its number
abbrev pub order_of : Placed → List ℕ
order_of p = stage p.doubt ∷ p.at ∷ p.set ∷ doubt_number p.doubt ∷ []

-- the first number that differs is less
abbrev pub Precedes : List ℕ → List ℕ → Type 0
Precedes (a ∷ xs) (b ∷ ys) = (a < b) ⊎ ((a ≡ b) × Precedes xs ys)
Precedes xs ys = ⊥

-- The first of those that hold: it holds, and none that holds precedes it.
pub record IsFirst (Holds : Placed → Type 0) (p : Placed) : Type 0 where
  pub holds : Holds p
  pub first : (q : Placed) → Holds q → Precedes (order_of q) (order_of p) → ⊥
