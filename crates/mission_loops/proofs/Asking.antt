-- What right records ask and what rates they give, and what they say of these.
use Rattle.std.proofs.Common.{◌≡◌, ℕ, ◌+◌, ◌<◌, ◌≤◌, ◌==◌, Bool, true, false, List, [], ◌∷◌, ◌++◌, All, arith, refl, sym, subst, length, take, append_assoc, flat_map}
use Rattle.std.specs.Prelude.{if◌then◌else◌, ◌+ℤ◌}
use Rattle.std.specs.List.{Contains}
use Rattle.std.proofs.lemmas.Bool.{eqb-true}
use Rattle.std.proofs.lemmas.List.Elements.{All-nil, All-append, All-contains}
use Rattle.tube_spec.specs.Shape.{Shape}
use Rattle.tube_spec.specs.Assignment.{Assignment, value_at}
use Rattle.tube_names.specs.declared.queries.Query.{Query}
use Rattle.hull_tree.specs.Asked.{IsAsked}
use Rattle.mission_items.specs.declared.item.Item.{Item}
use Rattle.mission_items.specs.declared.item.Item.TheVariants as item
use Rattle.mission_items.specs.declared.mission.Mission.{Mission}
use Rattle.mission_items.specs.Made.{signals_in}
use Rattle.mission_items.specs.Valid.{AreRightFrom, IsMission, IsRight}
use Rattle.mission_items.proofs.Making.{signals-append}
use Rattle.mission_net.specs.Records.{shape_by, Means, SatisfiesFrom}
use Rattle.mission_net.proofs.Building.{first-right}
use Rattle.mission_net.proofs.Counts.{signals-count}
use Rattle.mission_net.proofs.Fitting.{All-one}
use Rattle.mission_loops.specs.Queries.{query_of, queries, rate_of, rates_of}

-- what holds of all that one right record gives holds of all that right records give
all-given : {X : Type 0} (P : X → Type 0) (f : Item → List X) (version end n : ℕ) → ((before : List Item) (r : Item) → signals_in before ≤ n → IsRight version end before r → All P (f r))
    → (before items : List Item) → AreRightFrom version end before items → signals_in (before ++ items) ≤ n → All P (flat_map f items)
all-given P f version end n one before [] right few = All-nil P
all-given P f version end n one before (r ∷ items) right few =
    All-append P (f r) (flat_map f items) (one before r (omega (arith, few, signals-append before (r ∷ items))) right.1)
    (all-given P f version end n one (before ++ r ∷ []) items right.2 (subst (λ (l : List Item). signals_in l ≤ n) (sym (append_assoc before (r ∷ []) items)) few))

-- ---- queries

one-asked : (version end n : ℕ) (before : List Item) (r : Item) → signals_in before ≤ n → IsRight version end before r → All (IsAsked n) (query_of r)
one-asked version end n before (item.Revisit q) few right =
    All-one (IsAsked n) q (record { signals = record { x = omega (arith, few, right.signals.0); y = omega (arith, few, right.signals.1) }; radius = record { least = right.radius.1; most = right.radius.2 } })
one-asked version end n before r few right = All-nil (IsAsked n)

-- ---- rates

-- one number, if a test holds
all-if : (P : ℕ → Type 0) (b : Bool) (v : ℕ) → (b ≡ true → P v) → All P (if b then v ∷ [] else [])
all-if P true v h = All-one P v (h refl)
all-if P false v h = All-nil P

one-below : (x version end n : ℕ) (before : List Item) (r : Item) → signals_in before ≤ n → IsRight version end before r → All (λ v. v < n) (rate_of x r)
one-below x version end n before (item.Deriv y rate) few right = all-if (λ v. v < n) (x == y.0) rate.0 (λ e. omega (arith, few, right.1))
one-below x version end n before r few right = All-nil (λ v. v < n)

-- a signal is what x gains from each tick to the next
abbrev pub Gains : ℕ → Assignment → ℕ → ℕ → Type 0
Gains end w x rate = (k : ℕ) → k < end → value_at w x (k + 1) ≡ value_at w x k +ℤ value_at w rate k

one-gains : (end : ℕ) (w : Assignment) (x : ℕ) (before : List Item) (r : Item) → Means end w before r → All (Gains end w x) (rate_of x r)
one-gains end w x before (item.Deriv y rate) means = all-if (Gains end w x) (x == y.0) rate.0 (λ e. subst (λ (z : ℕ). Gains end w z rate.0) (sym (eqb-true x y.0 e)) means)
one-gains end w x before r means = All-nil (Gains end w x)

-- the rates that records give a signal are what it gains
pub rates-gain : (end : ℕ) (w : Assignment) (x : ℕ) (before items : List Item) → SatisfiesFrom end w before items → All (Gains end w x) (rates_of items x)
rates-gain end w x before [] says = All-nil (Gains end w x)
rates-gain end w x before (r ∷ items) says =
    All-append (Gains end w x) (rate_of x r) (rates_of items x) (one-gains end w x before r says.0.means) (rates-gain end w x (before ++ r ∷ []) items says.1)

-- ---- of the first records of a mission

module _ (m : Mission) (is : IsMission m) (upto : ℕ) where
  few : signals_in (take upto m.items) ≤ length (shape_by m.cuts (take upto m.items)).signals
  few = omega (arith, signals-count m.cuts (take upto m.items))

  pub asked : (q : Query) → Contains (queries (take upto m.items)) q → IsAsked (length (shape_by m.cuts (take upto m.items)).signals) q
  asked q there =
      let n = length (shape_by m.cuts (take upto m.items)).signals in
      All-contains (IsAsked n) (queries (take upto m.items)) q
      (all-given (IsAsked n) query_of m.version m.ticks n (one-asked m.version m.ticks n) [] (take upto m.items) (first-right m is upto) few) there

  pub rates-below : (x : ℕ) → All (λ v. v < length (shape_by m.cuts (take upto m.items)).signals) (rates_of (take upto m.items) x)
  rates-below x =
      let n = length (shape_by m.cuts (take upto m.items)).signals in
      all-given (λ v. v < n) (rate_of x) m.version m.ticks n (one-below x m.version m.ticks n) [] (take upto m.items) (first-right m is upto) few

  -- the same of a shape and of records that are those of the mission's first ones
  pub asked-in : (s : Shape) → s ≡ shape_by m.cuts (take upto m.items) → (q : Query) → Contains (queries (take upto m.items)) q → IsAsked (length s.signals) q
  asked-in s same q there = subst (λ (t : Shape). IsAsked (length t.signals) q) (sym same) (asked q there)

  pub rates-in : (s : Shape) → s ≡ shape_by m.cuts (take upto m.items) → (items : List Item) → items ≡ take upto m.items → (x : ℕ) → All (λ v. v < length s.signals) (rates_of items x)
  rates-in s same items first x =
      subst (λ (t : Shape). All (λ v. v < length t.signals) (rates_of items x)) (sym same)
      (subst (λ (l : List Item). All (λ v. v < length (shape_by m.cuts (take upto m.items)).signals) (rates_of l x)) (sym first) (rates-below x))
