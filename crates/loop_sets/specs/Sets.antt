-- Sets of possible pairs, and the sure pairs in them.
use Rattle.std.specs.Prelude.{◌≡◌, ℕ, ◌+◌, ◌<◌, ◌≤◌, true, false, List, length, IsTrue, ℤ}
use Rattle.tube_spec.specs.Limits.{most_ticks}
use Rattle.tube_spec.specs.Span.{Span, natural}
use Rattle.tube_spec.specs.Box.{AreBounded}
use Rattle.hull_tree.specs.Asked.{IsRadius}
use Rattle.hull_tree.specs.Plane.{Plane, is_valid, is_possible, is_sure}
use Rattle.hull_tree.specs.Revisits.{IsRevisit}
use Rattle.tube_names.specs.declared.queries.Query.{Query}
use Rattle.tplane_paver.specs.declared.runs.Run.{Run}
use Rattle.tplane_paver.specs.Runs.{InRuns}
use Rattle.tplane_paver.specs.Components.{IsBeside, Reaches}
use Rattle.loop_degree.specs.Pairs.{IsBefore}

-- A component of a plane's possible pairs: any two of its pairs reach each other over possible pairs, and a possible pair beside one of
-- its pairs is in it.
pub record IsComponent (p : Plane) (runs : List Run) : Type 0 where
  pub possible : (a b : ℕ) → InRuns runs a b → is_possible p a b ≡ true
  pub linked : (a b c d : ℕ) → InRuns runs a b → InRuns runs c d → (n : ℕ) × Reaches (λ e f. IsTrue (is_possible p e f)) n a b c d
  pub closed : (a b c d : ℕ) → InRuns runs a b → IsBeside a b c d → is_possible p c d ≡ true → InRuns runs c d

-- the least sure pair of a set
pub record IsLeastSure (p : Plane) (runs : List Run) (a b : ℕ) : Type 0 where
  pub in_set : InRuns runs a b
  pub sure : is_sure p a b ≡ true
  pub least : (c d : ℕ) → InRuns runs c d → IsBefore (c, d) (a, b) → is_sure p c d ≡ false

-- no pair of a set is sure
abbrev pub IsNoneSure : Plane → List Run → Type 0
IsNoneSure p runs = (a b : ℕ) → InRuns runs a b → is_sure p a b ≡ false

-- a trajectory has a revisit of which the pair is in the set
pub record HasRevisitIn (q : Query) (last : ℕ) (x y : ℕ → ℤ) (runs : List Run) : Type 0 where
  pub a : ℕ
  pub b : ℕ
  pub in_set : InRuns runs a b
  pub revisit : IsRevisit q last x y a b

-- What two signals may be at each tick, and a query: the plane of its pairs.
abbrev pub plane_over : List Span → List Span → Query → Plane
plane_over xs ys q = record { xs = xs; ys = ys; radius = natural q.radius; gap = q.gap; norm = q.norm }

-- both signals have a bounded interval at each tick, and the radius is within bounds
pub record IsTracked (xs ys : List Span) (q : Query) : Type 0 where
  pub ticks : length ys ≡ length xs
  pub short : length xs ≤ most_ticks + 1
  pub x : AreBounded xs
  pub y : AreBounded ys
  pub radius : IsRadius q.radius

-- the pairs of a tick with a range of ticks are valid; none of them is sure; or this is the first tick that makes a sure one
abbrev pub AreValid : Plane → ℕ → ℕ → ℕ → Type 0
AreValid p a first last = (b : ℕ) → first ≤ b → b ≤ last → is_valid p a b ≡ true

abbrev pub HaveNoSure : Plane → ℕ → ℕ → ℕ → Type 0
HaveNoSure p a first last = (b : ℕ) → first ≤ b → b ≤ last → is_sure p a b ≡ false

pub record IsFirstSure (p : Plane) (a first last b : ℕ) : Type 0 where
  pub low : first ≤ b
  pub high : b ≤ last
  pub sure : is_sure p a b ≡ true
  pub none : (d : ℕ) → first ≤ d → d < b → is_sure p a d ≡ false
