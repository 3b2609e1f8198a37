-- Runs of firings, and where they end.
use Rattle.std.proofs.Common.{◌≡◌, ℕ, zero, suc, ◌<◌, ◌≤◌, Option, Some, None, List, [], ◌∷◌, ◌++◌, Bool, true, IsFalse, IsSome, IsNone, IfSome, refl, sym, ap, subst, ◌∙◌, length, get_or, All, arith, slice_get, flat_map}
use Rattle.std.proofs.lemmas.List.Elements.{All-append}
use Rattle.std.proofs.lemmas.Option.{slice_get-get_or}
use Rattle.tube_spec.specs.Span.{Span}
use Rattle.tube_spec.specs.Narrowing.{IsUnder}
use Rattle.tube_spec.specs.Shape.{Shape}
use Rattle.tube_spec.specs.Box.{cell_at, IsBox, IsBelowBox, measure_of}
use Rattle.tube_spec.specs.Projection.{Projection, IsStable}
use Rattle.tube_spec.specs.Fixpoint.{IsFixpoint, IsGreatest, KeepsFixpoints}
use Rattle.tube_spec.proofs.Boxes.{IsBelowBox-refl, IsBelowBox-trans}
use Rattle.tube_spec.proofs.Widths.{measure-le, measure-less}
use Rattle.tube_store.specs.State.{State, IsStore}
use Rattle.ctc_core.specs.Revising.{IfBoth, IsNarrower}
use Rattle.ctc_core.specs.Answers.{Revises}
use Rattle.ctc_core.specs.declared.Revised.{Revised}
use Rattle.ctc_core.specs.declared.Revised.TheVariants.{Same, Narrowed}
use Rattle.ctc_core.proofs.Composing.{fixpoint-left, fixpoint-right}
use Rattle.ctc_core.proofs.Firing.{IsBox-of}
use Rattle.cell_readers.specs.Waking.{AreAtRest}
use Rattle.ctc_network.specs.Nets.{Places, ArePlaces}
use Rattle.ctc_network.specs.Settling.{IsNarrowedBy, SettlesAs}
use Rattle.ctc_network.specs.declared.answers.Settled.TheVariants.{Fixpoint}
use Rattle.ctc_network.specs.declared.answers.Settled.TheVariants as ends

-- a contractor of a longer list
pub get-longer : {X : Type 0} (xs ys : List X) (k : ℕ) (x : X) → slice_get xs k ≡ Some x → slice_get (xs ++ ys) k ≡ Some x
get-longer [] ys k x e = absurd (cc)
get-longer (y ∷ xs) ys zero x e = e
get-longer (y ∷ xs) ys (suc k) x e = get-longer xs ys k x e

pub get-all : {X : Type 0} (P : X → Type 0) (xs : List X) (k : ℕ) (x : X) → slice_get xs k ≡ Some x → All P xs → P x
get-all P [] k x e h = absurd (cc)
get-all P (y ∷ xs) zero x e h = let same : y ≡ x = cc in subst P same (h 0 y (omega arith))
get-all P (y ∷ xs) (suc k) x e h = get-all P xs k x e (λ j d l. h (suc j) d (omega (arith, l)))

-- there is one for each number
pub get-there : {X : Type 0} (xs : List X) (k : ℕ) → k < length xs → (x : X) × (slice_get xs k ≡ Some x)
get-there [] k l = absurd (omega arith)
get-there (x ∷ xs) zero l = (x, refl)
get-there (x ∷ xs) (suc k) l = get-there xs k (omega (arith, l))

-- the projections of one contractor of a list
pub get-fixpoint : {X : Type 0} (f : X → List Projection) (xs : List X) (k : ℕ) (x : X) (q : List Span) → slice_get xs k ≡ Some x → IsFixpoint (flat_map f xs) q → IsFixpoint (f x) q
get-fixpoint f [] k x q e h = absurd (cc)
get-fixpoint f (y ∷ xs) zero x q e h = let same : y ≡ x = cc in subst (λ z. IsFixpoint (f z) q) same (fixpoint-left (f y) (flat_map f xs) q h)
get-fixpoint f (y ∷ xs) (suc k) x q e h = get-fixpoint f xs k x q e (fixpoint-right (f y) (flat_map f xs) q h)

pub narrowed-none : (ps : List Projection) (s : State) → IsNarrowedBy ps s s
narrowed-none ps s = record { shape = refl; below = IsBelowBox-refl s.box; keeps = λ q f b. b }

pub narrowed-trans : (ps : List Projection) (a b c : State) → IsNarrowedBy ps a b → IsNarrowedBy ps b c → IsNarrowedBy ps a c
narrowed-trans ps a b c n m = record {
  shape = m.shape ∙ n.shape;
  below = IsBelowBox-trans c.box b.box a.box m.below n.below;
  keeps = λ q f low. m.keeps q f (n.keeps q f low);
}

-- one firing of one contractor more
pub narrowed-fire : {C : Type 0} (f : C → List Projection) (cs : List C) (k : ℕ) (c : C) (a b d : State) (x : Revised) → slice_get cs k ≡ Some c
    → IsNarrowedBy (flat_map f cs) a b → Revises (f c) b d x → IsNarrowedBy (flat_map f cs) a d
narrowed-fire f cs k c a b d x at n r = record {
  shape = r.revised.shape ∙ n.shape;
  below = IsBelowBox-trans d.box b.box a.box r.revised.below n.below;
  keeps = λ q fix low. r.revised.keeps q (get-fixpoint f cs k c q at fix) (n.keeps q fix low);
}

-- a firing that leaves the box leaves a fixpoint
pub same-fixpoint : (ps : List Projection) (a b : State) → Revises ps a b Same → IfSome b.box (IsFixpoint ps)
same-fixpoint ps a b r = subst (λ (s : State). IfSome s.box (IsFixpoint ps)) (sym same) (at a.box (IsBox-of a r.before) stable)
  where
    same : b ≡ a
    same = r.revised.same refl

    stable : IfBoth a.box a.box (λ xs ys. All (λ (p : Projection). IsUnder (cell_at ys p.target) (p.formula xs)) ps)
    stable = subst (λ (s : State). IfBoth a.box s.box (λ xs ys. All (λ (p : Projection). IsUnder (cell_at ys p.target) (p.formula xs)) ps)) same r.revised.stable

    at : (x : Option (List Span)) → IfSome x IsBox → IfBoth x x (λ xs ys. All (λ (p : Projection). IsUnder (cell_at ys p.target) (p.formula xs)) ps) → IfSome x (IsFixpoint ps)
    at None box h = tt
    at (Some xs) box h = record { box = box; stable = h }

-- a firing that narrows lowers the measure
measure-falls_at : (ps : List Projection) (a b : State) → Revises ps a b Narrowed → measure_of b.box < measure_of a.box
measure-falls_at ps a b r = at a.box b.box r.says r.revised.below (r.revised.narrower refl)
  where
    at : (x y : Option (List Span)) → IsSome y → IsBelowBox y x → IfBoth x y (λ xs ys. (k : ℕ) × IsNarrower xs ys k) → measure_of y < measure_of x
    at x None some low h = absurd (cc)
    at None (Some ys) some low h = absurd low
    at (Some xs) (Some ys) some low h = measure-less ys xs h.0 low h.1

pub measure-falls : (ps : List Projection) (a b : State) (x : Revised) → x ≡ Narrowed → Revises ps a b x → measure_of b.box < measure_of a.box
measure-falls ps a b x e any = measure-falls_at ps a b (subst (λ (y : Revised). Revises ps a b y) e any)

pub measure-below : (a b : Option (List Span)) → IsBelowBox a b → measure_of a ≤ measure_of b
measure-below None b h = omega arith
measure-below (Some xs) None h = absurd h
measure-below (Some xs) (Some ys) h = measure-le xs ys h

-- a fixpoint of each contractor is one of all
all-fixpoints : {C : Type 0} (projections : C → List Projection) (cs : List C) (xs : List Span) → IsBox xs → All (λ c. IsFixpoint (projections c) xs) cs → IsFixpoint (flat_map projections cs) xs
all-fixpoints projections [] xs box h = record { box = box; stable = λ k d l. absurd (omega arith) }
all-fixpoints projections (c ∷ cs) xs box h =
    record { box = box; stable = All-append (IsStable xs) (projections c) (flat_map projections cs) (h 0 c (omega arith)).stable (all-fixpoints projections cs xs box (λ k d l. h (suc k) d (omega (arith, l)))).stable }

-- where nobody waits, the box is a fixpoint of each contractor
all-rest : {C : Type 0} (f : C → List Projection) (cs : List C) (ws : List Bool) (box : Option (List Span)) → length ws ≡ length cs → AreAtRest f cs ws box → All IsFalse ws
    → All (λ c. IfSome box (IsFixpoint (f c))) cs
all-rest f cs ws box len rest quiet k d l =
    rest k (get_or cs k d) (slice_get-get_or cs k d l) (slice_get-get_or ws k true (omega (arith, l, len)) ∙ ap Some (quiet k true (omega (arith, l, len))))

-- where nobody waits and the box is not empty, it is the greatest common fixpoint
pub settled-fixpoint : {C : Type 0} (f : C → List Projection) (cs : List C) (ws : List Bool) (budget : ℕ) (old new : State) → IsNarrowedBy (flat_map f cs) old new → IsStore new → IsSome new.box
    → length ws ≡ length cs → AreAtRest f cs ws new.box → All IsFalse ws → SettlesAs f cs budget old new Fixpoint
settled-fixpoint f cs ws budget old new n store some len rest quiet = (some, at new.box some (IsBox-of new store) (all-rest f cs ws new.box len rest quiet) n.below n.keeps)
  where
    at : (x : Option (List Span)) → IsSome x → IfSome x IsBox → All (λ c. IfSome x (IsFixpoint (f c))) cs → IsBelowBox x old.box → KeepsFixpoints (flat_map f cs) old.box x → IsGreatest (flat_map f cs) old.box x
    at None some box h low keeps = absurd (cc)
    at (Some xs) some box h low keeps = (all-fixpoints f cs xs box h, low, λ q fix b. keeps q fix b)

-- where the box became empty, there is no common fixpoint
pub settled-empty : {C : Type 0} (f : C → List Projection) (cs : List C) (budget : ℕ) (old new : State) → IsNarrowedBy (flat_map f cs) old new → IsNone new.box → SettlesAs f cs budget old new ends.Empty
settled-empty f cs budget old new n none = (none, at new.box none n.keeps)
  where
    at : (x : Option (List Span)) → IsNone x → KeepsFixpoints (flat_map f cs) old.box x → IsGreatest (flat_map f cs) old.box x
    at None none keeps = λ q fix b. keeps q fix b
    at (Some xs) none keeps = absurd (cc)

-- the same of a net
pub net-fixpoint : {C : Type 0} (projections : C → Shape → List Projection) (scope : C → Shape → List ℕ) (fits : C → Shape → Option (List Span) → Type 0) (cs : List C) (budget : ℕ) (old : State) (n : Places C)
    → n.contractors ≡ cs → IsNarrowedBy (flat_map (λ c. projections c old.shape) cs) old n.store → IsSome n.store.box → ArePlaces projections scope fits n → All IsFalse n.waiting
    → SettlesAs (λ c. projections c old.shape) cs budget old n.store Fixpoint
net-fixpoint {C} projections scope fits cs budget old n same narrowed some net quiet =
    settled-fixpoint (λ c. projections c old.shape) cs n.waiting budget old n.store narrowed net.store some (net.beside ∙ ap length same)
    (subst (λ (s : Shape). AreAtRest (λ c. projections c s) cs n.waiting n.store.box) narrowed.shape
    (subst (λ (ks : List C). AreAtRest (λ c. projections c n.store.shape) ks n.waiting n.store.box) same net.rest)) quiet
