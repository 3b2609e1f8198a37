-- What the laws of a firing imply.
use Rattle.std.proofs.Common.{◌≡◌, ℕ, Option, Some, None, List, ◌++◌, IfSome, IsSome, IsNone, IsSomeAnd, refl, sym, subst, All}
use Rattle.std.specs.Prelude.{Any}
use Rattle.std.proofs.lemmas.Int.{ints}
use Rattle.std.proofs.Common.{arith}
use Rattle.tube_spec.specs.Span.{Span, IsProper, IsWithin}
use Rattle.tube_spec.specs.Narrowing.{Narrowing, Whole, Nothing, Within, IsUnder}
use Rattle.tube_spec.specs.Box.{cell_at, IsBox, IsBelowBox}
use Rattle.tube_spec.specs.Projection.{Projection}
use Rattle.tube_spec.specs.Fixpoint.{IsFixpoint}
use Rattle.tube_spec.proofs.Spans.{IsWithin-meet}
use Rattle.tube_store.specs.State.{State}
use Rattle.ctc_core.specs.declared.Revised.{Revised}
use Rattle.ctc_core.specs.declared.Revised.TheVariants.{Same, Narrowed, Empty}
use Rattle.ctc_core.specs.Revising.{IfBoth, IsNarrower}
use Rattle.ctc_core.specs.Answers.{Revises, MatchRevised, IsMonotoneBelow, SharesNothing, then_of}
use Rattle.ctc_core.proofs.Firing.{Revises-then, IfSome-self, IsBox-of}

-- no box is there and not there
never-both : (b : Option (List Span)) → IsSome b → IsNone b → ⊥
never-both None s n = absurd (cc)
never-both (Some xs) s n = absurd (cc)

-- what the answer says where the new box is empty
empty-answer : (b : Option (List Span)) (answer : Revised) → MatchRevised answer (IsSome b) (IsSome b) (IsNone b) → IsNone b → answer ≡ Empty
empty-answer b Same says none = absurd (never-both b says none)
empty-answer b Narrowed says none = absurd (never-both b says none)
empty-answer b Empty says none = refl

pub Revises-on_empty : (ps : List Projection) (old new : State) (answer : Revised) → Revises ps old new answer → IsNone old.box → (answer ≡ Empty) × (new ≡ old)
Revises-on_empty ps old new answer r none =
    let same = r.empty none in
    (empty-answer new.box answer r.says (subst (λ (s : State). IsNone s.box) (sym same) none), same)

pub Revises-same : (ps : List Projection) (old new : State) (answer : Revised) → Revises ps old new answer → answer ≡ Same → IsSomeAnd old.box (IsFixpoint ps) × (new ≡ old)
Revises-same ps old new Same r e =
    let same = r.revised.same refl in
    let filled : IsSome old.box = subst (λ (s : State). IsSome s.box) same r.says in
    let stable : IfBoth old.box old.box (λ xs ys. All (λ (p : Projection). IsUnder (cell_at ys p.target) (p.formula xs)) ps) = subst (λ (s : State). IfBoth old.box s.box (λ xs ys. All (λ (p : Projection). IsUnder (cell_at ys p.target) (p.formula xs)) ps)) same r.revised.stable in
    (at old.box filled (IsBox-of old r.before) stable, same)
  where
    at : (b : Option (List Span)) → IsSome b → IfSome b IsBox → IfBoth b b (λ xs ys. All (λ (p : Projection). IsUnder (cell_at ys p.target) (p.formula xs)) ps) → IsSomeAnd b (IsFixpoint ps)
    at None s box stable = absurd (cc)
    at (Some xs) s box stable = record { box = box; stable = stable }
Revises-same ps old new Narrowed r e = absurd (cc)
Revises-same ps old new Empty r e = absurd (cc)

pub Revises-narrowed : (ps : List Projection) (old new : State) (answer : Revised) → Revises ps old new answer → answer ≡ Narrowed → IsSome new.box × IfBoth old.box new.box (λ xs ys. (k : ℕ) × IsNarrower xs ys k)
Revises-narrowed ps old new Narrowed r e = (r.says, r.revised.narrower refl)
Revises-narrowed ps old new Same r e = absurd (cc)
Revises-narrowed ps old new Empty r e = absurd (cc)

pub Revises-lost : (ps : List Projection) (old new : State) (answer : Revised) → Revises ps old new answer → answer ≡ Empty → IsNone new.box × ((q : List Span) → IsFixpoint ps q → IsBelowBox (Some q) old.box → ⊥)
Revises-lost ps old new Empty r e = (r.says, λ q fix low. at new.box r.says q (r.revised.keeps q fix low))
  where
    at : (b : Option (List Span)) → IsNone b → (q : List Span) → IsBelowBox (Some q) b → ⊥
    at None n q low = low
    at (Some xs) n q low = absurd (cc)
Revises-lost ps old new Same r e = absurd (cc)
Revises-lost ps old new Narrowed r e = absurd (cc)

-- no proper span lies within the cell and under what shares nothing with it
shares-nothing : (cell t : Span) (h : Narrowing) → SharesNothing cell h → IsProper t → IsWithin t cell → IsUnder t h → ⊥
shares-nothing cell t Whole shares good inside under = shares
shares-nothing cell t Nothing shares good inside under = under
shares-nothing cell t (Within s) shares good inside under = let both = IsWithin-meet t cell s inside under in shares (omega (arith, ints, good, both))

pub Revises-nothing : (ps : List Projection) (old new : State) (answer : Revised) → Revises ps old new answer → IfSome old.box (λ xs. Any (λ (p : Projection). SharesNothing (cell_at xs p.target) (p.formula xs)) ps) → answer ≡ Empty
Revises-nothing ps old new answer r gives = empty-answer new.box answer r.says (at old.box new.box r.revised.below (IsBox-of new r.after) r.revised.stable gives (λ none. r.empty none))
  where
    at : (a b : Option (List Span)) → IsBelowBox b a → IfSome b IsBox → IfBoth a b (λ xs ys. All (λ (p : Projection). IsUnder (cell_at ys p.target) (p.formula xs)) ps)
        → IfSome a (λ xs. Any (λ (p : Projection). SharesNothing (cell_at xs p.target) (p.formula xs)) ps) → (IsNone a → new ≡ old) → IsNone b
    at a None low box stable gives same = refl
    at None (Some ys) low box stable gives same = absurd low
    at (Some xs) (Some ys) low box stable gives same =
        let p : Projection = gives.1 in
        absurd (shares-nothing (cell_at xs p.target) (cell_at ys p.target) (p.formula xs) gives.4 (box p.target) (low.each p.target)
        (subst (λ (r : Projection). IsUnder (cell_at ys r.target) (r.formula xs)) gives.3 (stable gives.0 p gives.2)))

pub Revises-both : (ps qs : List Projection) (a b c : State) (x y : Revised) → Revises ps a b x → Revises qs b c y → All (IsMonotoneBelow a.box) qs → Revises (ps ++ qs) a c (then_of x y)
Revises-both ps qs a b c x y first second mono = Revises-then (λ xs. a.box ≡ Some xs) ps qs a b c x y (IfSome-self a.box) mono first second
