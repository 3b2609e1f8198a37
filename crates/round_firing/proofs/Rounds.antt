-- A round so far: what its answer says of the box, and of those that were asked.
use Rattle.std.proofs.Common.{◌≡◌, ℕ, zero, suc, ◌+◌, ◌<◌, ◌≤◌, ◌⊎◌, inl, inr, Bool, true, false, IsFalse, Option, Some, None, List, [], ◌∷◌, IsSome, IsNone, IsSomeAnd, IfSome, refl, sym, ap, subst, ◌∙◌, length, All, arith, slice_get, set, get_or, flat_map}
use Rattle.std.proofs.lemmas.Option.{slice_get-get_or}
use Rattle.tube_spec.specs.Span.{Span}
use Rattle.tube_spec.specs.Box.{measure_of}
use Rattle.tube_spec.specs.Shape.{Shape}
use Rattle.tube_spec.specs.Projection.{Projection}
use Rattle.tube_store.specs.State.{State}
use Rattle.ctc_core.specs.Answers.{MatchRevised}
use Rattle.ctc_core.specs.declared.Revised.{Revised}
use Rattle.ctc_core.specs.declared.Revised.TheVariants.{Same, Narrowed, Empty}
use Rattle.ctc_network.specs.Nets.{NetState, IsNet, IsThere, of_place, fits_place}
use Rattle.ctc_network.specs.Settling.{Fires, IsNarrowedBy, SettlesAs}
use Rattle.ctc_network.specs.declared.answers.Settled.TheVariants.{Fixpoint}
use Rattle.ctc_network.proofs.Runs.{measure-falls, net-fixpoint}
use Rattle.ctc_network.proofs.Replaying.{run-then, if-some}

-- what a firing says of the box and its measure
pub said : (ps : List Projection) (a b : State) (x : Revised) → Fires ps a b x
    → MatchRevised x (b.box ≡ a.box) (IsSome b.box × (measure_of b.box < measure_of a.box)) (IsNone b.box)
said ps a b Same f = ap (λ (s : State). s.box) (f.1.revised.same refl)
said ps a b Narrowed f = (f.1.says, measure-falls ps a (record b { touched = f.0 }) Narrowed refl f.1)
said ps a b Empty f = f.1.says

-- who rested rests when one more does
pub rest-set : (ws : List Bool) (k j : ℕ) → slice_get ws j ≡ Some false → slice_get (set ws k false) j ≡ Some false
rest-set [] k j e = absurd (cc)
rest-set (w ∷ ws) zero zero e = refl
rest-set (w ∷ ws) (suc k) zero e = e
rest-set (w ∷ ws) zero (suc j) e = e
rest-set (w ∷ ws) (suc k) (suc j) e = rest-set ws k j e

pub set-rests : (ws : List Bool) (k : ℕ) → k < length ws → slice_get (set ws k false) k ≡ Some false
set-rests [] k l = absurd (omega (arith, l))
set-rests (w ∷ ws) zero l = refl
set-rests (w ∷ ws) (suc k) l = set-rests ws k (omega (arith, l))

-- what the firing of one that waited says, of the box and of who rests
pub fired-says : (ps : List Projection) (a b : State) (before after : List Bool) (id : ℕ) (x : Revised) (P Q : Type 0) → id < length before → Fires ps a b x → MatchRevised x (after ≡ set before id false) P Q
    → MatchRevised x ((b.box ≡ a.box) × (slice_get after id ≡ Some false) × ((k : ℕ) → slice_get before k ≡ Some false → slice_get after k ≡ Some false)) (IsSome b.box × (measure_of b.box < measure_of a.box)) (IsNone b.box)
fired-says ps a b before after id Same P Q l f w = (
  said ps a b Same f,
  ap (λ (ws : List Bool). slice_get ws id) w ∙ set-rests before id l,
  λ k e. ap (λ (ws : List Bool). slice_get ws k) w ∙ rest-set before id k e,
)
fired-says ps a b before after id Narrowed P Q l f w = said ps a b Narrowed f
fired-says ps a b before after id Empty P Q l f w = said ps a b Empty f

-- ---- a round so far

-- what the answer says, where those before a number were asked
abbrev pub Says : Option (List Span) → Option (List Span) → List Bool → ℕ → Revised → Type 0
Says old new waiting number Same = (new ≡ old) × ((k : ℕ) → k < number → slice_get waiting k ≡ Some false)
Says old new waiting number Narrowed = measure_of new < measure_of old
Says old new waiting number Empty = ⊥

pub record IsRound {C : Type 0} (projections : C → Shape → List Projection) (old new : NetState C) (number : ℕ) (answer : Revised) : Type 0 where
  pub contractors : new.contractors ≡ old.contractors
  pub narrowed : IsNarrowedBy (flat_map (λ c. of_place projections c old.store.shape) old.contractors) old.store new.store
  pub some : IsSome new.store.box
  pub says : Says old.store.box new.store.box new.waiting number answer

below : (k n : ℕ) → k < n + 1 → (k < n) ⊎ (k ≡ n)
below k n h = grind arith

same-says : (old mid new : Option (List Span)) (before after : List Bool) (number : ℕ) (answer : Revised) → new ≡ mid → slice_get after number ≡ Some false → ((k : ℕ) → slice_get before k ≡ Some false → slice_get after k ≡ Some false)
    → Says old mid before number answer → Says old new after (number + 1) answer
same-says old mid new before after number Same e here rest says = (
  e ∙ says.0,
  λ k l. elim (below k number l) [
    | inl b ↦ rest k (says.1 k b)
    | inr s ↦ subst (λ (j : ℕ). slice_get after j ≡ Some false) (sym s) here
  ],
)
same-says old mid new before after number Narrowed e here rest says = subst (λ (b : Option (List Span)). measure_of b < measure_of old) (sym e) says
same-says old mid new before after number Empty e here rest says = says

pub round-same : {C : Type 0} (projections : C → Shape → List Projection) (old mid new : NetState C) (number : ℕ) (answer : Revised) → IsRound projections old mid number answer → new.contractors ≡ mid.contractors
    → IsNarrowedBy (flat_map (λ c. of_place projections c mid.store.shape) mid.contractors) mid.store new.store
    → (new.store.box ≡ mid.store.box) × (slice_get new.waiting number ≡ Some false) × ((k : ℕ) → slice_get mid.waiting k ≡ Some false → slice_get new.waiting k ≡ Some false)
    → IsRound projections old new (number + 1) answer
round-same projections old mid new number answer is same narrowed says = record {
  contractors = same ∙ is.contractors;
  narrowed = run-then (of_place projections) old.contractors mid.contractors old.store mid.store new.store is.contractors is.narrowed narrowed;
  some = subst (λ (b : Option (List Span)). IsSome b) (sym says.0) is.some;
  says = same-says old.store.box mid.store.box new.store.box mid.waiting new.waiting number answer says.0 says.1 says.2 is.says;
}

less-says : (old mid new : Option (List Span)) (before : List Bool) (number : ℕ) (answer : Revised) → IsSome mid → Says old mid before number answer → measure_of new < measure_of mid → measure_of new < measure_of old
less-says old mid new before number Same some says less = subst (λ (b : Option (List Span)). measure_of new < measure_of b) says.0 less
less-says old mid new before number Narrowed some says less = omega (arith, says, less)
less-says old mid new before number Empty some says less = absurd says

pub round-narrowed : {C : Type 0} (projections : C → Shape → List Projection) (old mid new : NetState C) (number : ℕ) (answer : Revised) → IsRound projections old mid number answer → new.contractors ≡ mid.contractors
    → IsNarrowedBy (flat_map (λ c. of_place projections c mid.store.shape) mid.contractors) mid.store new.store
    → IsSome new.store.box × (measure_of new.store.box < measure_of mid.store.box) → IsRound projections old new (number + 1) Narrowed
round-narrowed projections old mid new number answer is same narrowed says = record {
  contractors = same ∙ is.contractors;
  narrowed = run-then (of_place projections) old.contractors mid.contractors old.store mid.store new.store is.contractors is.narrowed narrowed;
  some = says.0;
  says = less-says old.store.box mid.store.box new.store.box mid.waiting number answer is.some is.says says.1;
}

all-false : (ws : List Bool) → ((k : ℕ) → k < length ws → slice_get ws k ≡ Some false) → All IsFalse ws
all-false ws none k d l = some-same (get_or ws k d) false (sym (slice_get-get_or ws k d l) ∙ none k l)
  where
    some-same : (a b : Bool) → Some a ≡ Some b → a ≡ b
    some-same a b e = cc

-- a whole round
pub round-says : {C : Type 0} (projections : C → Shape → List Projection) (scope : C → Shape → List ℕ) (fits : C → Shape → Option (List Span) → Type 0) (old new : NetState C) (number : ℕ) (answer : Revised) → IsRound projections old new number answer
    → IsNet projections scope fits new → length new.contractors ≤ number
    → MatchRevised answer
    ((new.store.box ≡ old.store.box) × SettlesAs (λ c. of_place projections c old.store.shape) old.contractors 0 old.store new.store Fixpoint)
    (IsSome new.store.box × (measure_of new.store.box < measure_of old.store.box))
    (IsNone new.store.box)
round-says projections scope fits old new number Same is net all = (
  is.says.0,
  net-fixpoint (of_place projections) (of_place scope) (fits_place fits) old.contractors 0 old.store new is.contractors is.narrowed is.some net.places
      (all-false new.waiting (λ k l. is.says.1 k (omega (arith, l, all, net.places.beside)))),
)
round-says projections scope fits old new number Narrowed is net all = (is.some, is.says)
round-says projections scope fits old new number Empty is net all = absurd is.says

some-there : {C : Type 0} (o : Option (Option C)) → IsSomeAnd o IsSome → (c : Option C) × (o ≡ Some c)
some-there None h = absurd h
some-there (Some c) h = (c, refl)

-- the same of a firing in a net
pub said-there : {C : Type 0} (projections : C → Shape → List Projection) (old new : NetState C) (id : ℕ) (x : Revised) (P Q : Type 0) → IsThere old.contractors id → id < length old.waiting
    → IfSome (slice_get old.contractors id) (λ c. Fires (of_place projections c old.store.shape) old.store new.store x) → MatchRevised x (new.waiting ≡ set old.waiting id false) P Q
    → MatchRevised x ((new.store.box ≡ old.store.box) × (slice_get new.waiting id ≡ Some false) × ((k : ℕ) → slice_get old.waiting k ≡ Some false → slice_get new.waiting k ≡ Some false)) (IsSome new.store.box × (measure_of new.store.box < measure_of old.store.box)) (IsNone new.store.box)
said-there {C} projections old new id x P Q there l fired waits =
    let at : (c : Option C) × (slice_get old.contractors id ≡ Some c) = some-there (slice_get old.contractors id) there in
    fired-says (of_place projections at.0 old.store.shape) old.store new.store old.waiting new.waiting id x P Q l
    (if-some (λ (c : Option C). Fires (of_place projections c old.store.shape) old.store new.store x) (slice_get old.contractors id) at.0 at.1 fired) waits

-- the same by the answer of one that was asked
abbrev pub Asked : {C : Type 0} → NetState C → NetState C → ℕ → Revised → Type 0
Asked old new id x =
    MatchRevised x ((new.store.box ≡ old.store.box) × (slice_get new.waiting id ≡ Some false) × ((k : ℕ) → slice_get old.waiting k ≡ Some false → slice_get new.waiting k ≡ Some false)) (IsSome new.store.box × (measure_of new.store.box < measure_of old.store.box)) (IsNone new.store.box)

pub asked-same : {C : Type 0} (projections : C → Shape → List Projection) (old mid new : NetState C) (number : ℕ) (answer x : Revised) → x ≡ Same → IsRound projections old mid number answer → new.contractors ≡ mid.contractors
    → IsNarrowedBy (flat_map (λ c. of_place projections c mid.store.shape) mid.contractors) mid.store new.store → Asked mid new number x → IsRound projections old new (number + 1) answer
asked-same projections old mid new number answer x e is same narrowed asked =
    let says = subst (Asked mid new number) e asked in
    round-same projections old mid new number answer is same narrowed says

pub asked-narrowed : {C : Type 0} (projections : C → Shape → List Projection) (old mid new : NetState C) (number : ℕ) (answer x : Revised) → x ≡ Narrowed → IsRound projections old mid number answer → new.contractors ≡ mid.contractors
    → IsNarrowedBy (flat_map (λ c. of_place projections c mid.store.shape) mid.contractors) mid.store new.store → Asked mid new number x → IsRound projections old new (number + 1) Narrowed
asked-narrowed projections old mid new number answer x e is same narrowed asked =
    let says = subst (Asked mid new number) e asked in
    round-narrowed projections old mid new number answer is same narrowed says
