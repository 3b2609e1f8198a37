-- Projections that are fired, or tested, one by one.
use Rattle.std.proofs.Common.{◌≡◌, ℕ, ◌+◌, ◌<◌, Bool, true, Option, Some, None, List, [], ◌∷◌, IfSome, refl, sym, subst, ◌∙◌, length, take, All}
use Rattle.std.proofs.lemmas.List.{take_more}
use Rattle.std.proofs.lemmas.List.Elements.{All-more}
use Rattle.tube_spec.specs.Span.{Span}
use Rattle.tube_spec.specs.Narrowing.{narrowing_of}
use Rattle.tube_spec.specs.Shape.{Shape}
use Rattle.tube_spec.specs.Box.{IsBelowBox}
use Rattle.tube_spec.specs.Projection.{Projection, IsStable, IsMonotone}
use Rattle.tube_spec.proofs.Monotone.{IfSome-map}
use Rattle.tube_store.specs.State.{State}
use Rattle.ctc_core.specs.declared.Revised.{Revised}
use Rattle.ctc_core.specs.declared.one_by_one.Given.{Given}
use Rattle.ctc_core.specs.Answers.{Revises, IsMonotoneBelow, HoldsBy, then_of}
use Rattle.ctc_core.specs.Checking.{Checks}
use Rattle.ctc_core.specs.Given.{projection_at, no_projection, narrowing_given}
use Rattle.ctc_core.proofs.Narrowing.{one-projection, only-projection}
use Rattle.ctc_core.proofs.Firing.{Revises-then}

-- a fact of the box that is there
pub IfSome-of : (Fits : Option (List Span) → Type 0) (b : Option (List Span)) → Fits b → IfSome b (λ xs. Fits (Some xs))
IfSome-of Fits None h = tt
IfSome-of Fits (Some xs) h = h

-- monotone among the boxes that fit is monotone below each box that fits
pub monotone-below : (Fits : Option (List Span) → Type 0) (b : Option (List Span)) (p : Projection) → Fits b → IsMonotone (λ xs. Fits (Some xs)) p → IsMonotoneBelow b p
monotone-below Fits b p fits mono xs ys bx by same low = mono xs ys bx by (subst Fits same fits) low

-- Contractors are functions of the shape here.
module _ (projections : Shape → List Projection) (Fits : Shape → Option (List Span) → Type 0)
    (mono : (s : Shape) → All (IsMonotone (λ xs. Fits s (Some xs))) (projections s)) (fits-below : (s : Shape) (a b : Option (List Span)) → IsBelowBox a b → Fits s b → Fits s a) where
  -- what was fired fits still
  pub still-fits : (ps : List Projection) (old new : State) (answer : Revised) → Revises ps old new answer → Fits old.shape old.box → Fits new.shape new.box
  still-fits ps old new answer fired fits =
      subst (λ (s : Shape). Fits s new.box) (sym fired.revised.shape) (fits-below old.shape new.box old.box fired.revised.below fits)

  -- what was given of a formula fires its projection
  pub given-fires : (old new : State) (i cell : ℕ) (g : Given) (to : Option Span) (answer : Revised) → Fits old.shape old.box → i < length (projections old.shape) → cell ≡ (projection_at (projections old.shape) i).target
      → IfSome old.box (λ xs. narrowing_given g ≡ (projection_at (projections old.shape) i).formula xs) → narrowing_given g ≡ narrowing_of to → HoldsBy cell to old new answer → Revises (projection_at (projections old.shape) i ∷ []) old new answer
  given-fires old new i cell g to answer fits inside named gives same holds =
      let p : Projection = projection_at (projections old.shape) i in
      holds p (sym named) (monotone-below (Fits old.shape) old.box p fits (mono old.shape i no_projection inside)) (IfSome-map _ _ old.box (λ xs e. sym e ∙ same) gives)

  -- one projection more was fired
  pub revise-step : (a b c : State) (i : ℕ) (x y z : Revised) → i < length (projections a.shape) → Fits a.shape a.box → z ≡ then_of x y → Revises (take i (projections a.shape)) a b x → Revises (projection_at (projections b.shape) i ∷ []) b c y → Revises (take (i + 1) (projections a.shape)) a c z
  revise-step a b c i x y z inside fits e first next =
      let ps : List Projection = projections a.shape in
      let one : Revises (projection_at ps i ∷ []) b c y = subst (λ (s : Shape). Revises (projection_at (projections s) i ∷ []) b c y) first.revised.shape next in
      let both = Revises-then (λ xs. Fits a.shape (Some xs)) (take i ps) (projection_at ps i ∷ []) a b c x y (IfSome-of (Fits a.shape) a.box fits) (one-projection (IsMonotone (λ xs. Fits a.shape (Some xs))) (projection_at ps i) (mono a.shape i no_projection inside)) first one in
      subst (λ (w : Revised). Revises (take (i + 1) ps) a c w) (sym e) (subst (λ (qs : List Projection). Revises qs a c (then_of x y)) (sym (take_more ps i no_projection inside)) both)

-- one projection more is stable
pub checks-step : (ps : List Projection) (b : Option (List Span)) (i : ℕ) (held : Bool) → i < length ps → held ≡ true → Checks (take i ps) b true → Checks (projection_at ps i ∷ []) b held → Checks (take (i + 1) ps) b true
checks-step ps None i held inside e h k = tt
checks-step ps (Some xs) i held inside e h k = (λ _. All-more (IsStable xs) ps i no_projection inside (h.0 refl) (only-projection (IsStable xs) (projection_at ps i) (k.0 e)), λ _. refl)
