-- A firing of projections, seen as a firing of others.
use Rattle.std.proofs.Common.{◌≡◌, Option, Some, None, List, refl, All}
use Rattle.std.proofs.lemmas.List.Elements.{All-weaker}
use Rattle.tube_spec.specs.Span.{Span}
use Rattle.tube_spec.specs.Narrowing.{IsUnder}
use Rattle.tube_spec.specs.Box.{cell_at, IsBelow, IsBelowBox}
use Rattle.tube_spec.specs.Projection.{Projection, IsStable}
use Rattle.tube_spec.proofs.Spans.{IsUnder-within}
use Rattle.tube_store.specs.State.{State}
use Rattle.ctc_core.specs.Revising.{IfBoth}
use Rattle.ctc_core.specs.Answers.{Revises}
use Rattle.ctc_core.specs.declared.Revised.{Revised}

-- a target lies within what the formula gave of the old box
abbrev pub IsHeldBy : List Span → List Span → Projection → Type 0
IsHeldBy xs ys p = IsUnder (cell_at ys p.target) (p.formula xs)

-- what was stable in the old box is held by it in each lesser box
pub held-stable : (xs ys : List Span) (ps : List Projection) → IsBelow ys xs → All (IsStable xs) ps → All (IsHeldBy xs ys) ps
held-stable xs ys ps low h = All-weaker (IsStable xs) (IsHeldBy xs ys) (λ p u. IsUnder-within (cell_at ys p.target) (cell_at xs p.target) (p.formula xs) (low.each p.target) u) ps h

-- A firing of qs is one of ps, where a fixpoint of ps is one of qs, and where ps are held by the old box if qs are.
pub Revises-as : (qs ps : List Projection) (old new : State) (answer : Revised)
    → ((q : List Span) → All (IsStable q) ps → All (IsStable q) qs)
    → ((xs ys : List Span) → old.box ≡ Some xs → new.box ≡ Some ys → IsBelow ys xs → All (IsHeldBy xs ys) qs → All (IsHeldBy xs ys) ps)
    → Revises qs old new answer → Revises ps old new answer
Revises-as qs ps old new answer there back r = record {
  before = r.before;
  after = r.after;
  revised = record {
    shape = r.revised.shape;
    below = r.revised.below;
    keeps = λ q f low. r.revised.keeps q (record { box = f.box; stable = there q f.stable }) low;
    stable = at old.box new.box refl refl r.revised.below r.revised.stable;
    touched = r.revised.touched;
    same = r.revised.same;
    narrower = r.revised.narrower;
  };
  says = r.says;
  empty = r.empty;
}
  where
    at : (a b : Option (List Span)) → old.box ≡ a → new.box ≡ b → IsBelowBox b a → IfBoth a b (λ xs ys. All (IsHeldBy xs ys) qs) → IfBoth a b (λ xs ys. All (IsHeldBy xs ys) ps)
    at None b e f low h = tt
    at (Some xs) None e f low h = tt
    at (Some xs) (Some ys) e f low h = back xs ys e f low h
