-- Tests of projections, one after another.
use Rattle.std.proofs.Common.{◌≡◌, ◌↔◌, Bool, true, false, ◌&&◌, not, Option, Some, None, List, [], ◌∷◌, ◌++◌, IfSome, IsSome, IsTrue, IsFalse, IsSomeAnd, refl, sym, subst, ◌∙◌, All}
use Rattle.std.proofs.lemmas.List.Elements.{All-append}
use Rattle.tube_spec.specs.Span.{Span}
use Rattle.tube_spec.specs.Box.{IsBox}
use Rattle.tube_spec.specs.Projection.{Projection, IsStable}
use Rattle.tube_spec.specs.Fixpoint.{IsFixpoint}
use Rattle.tube_store.specs.State.{State, IsStore}
use Rattle.ctc_core.specs.Checking.{Checks}
use Rattle.ctc_core.proofs.Composing.{All-left, All-right}
use Rattle.ctc_core.proofs.Narrowing.{one-projection, only-projection}
use Rattle.ctc_core.proofs.Firing.{IsBox-of}

pub Checks-both : (ps qs : List Projection) (b : Option (List Span)) (x y z : Bool) → z ≡ (x && y) → Checks ps b x → Checks qs b y → Checks (ps ++ qs) b z
Checks-both ps qs None x y z e h k = tt
Checks-both ps qs (Some xs) x y z e h k = subst (λ (w : Bool). IsTrue w ↔ All (IsStable xs) (ps ++ qs)) (sym e) (at x y h k)
  where
    at : (x y : Bool) → (IsTrue x ↔ All (IsStable xs) ps) → (IsTrue y ↔ All (IsStable xs) qs) → IsTrue (x && y) ↔ All (IsStable xs) (ps ++ qs)
    at true true h k = (λ _. All-append (IsStable xs) ps qs (h.0 refl) (k.0 refl), λ _. refl)
    at true false h k = (λ t. absurd (cc), λ a. k.1 (All-right (IsStable xs) ps qs a))
    at false y h k = (λ t. absurd (cc), λ a. absurd (no (h.1 (All-left (IsStable xs) ps qs a))))
      where
        no : IsTrue false → ⊥
        no t = cc

pub Checks-one : (p : Projection) (b : Option (List Span)) (held : Bool) → IfSome b (λ xs. IsTrue held ↔ IsStable xs p) → Checks (p ∷ []) b held
Checks-one p None held h = tt
Checks-one p (Some xs) held h = (λ t. one-projection (IsStable xs) p (h.0 t), λ a. h.1 (only-projection (IsStable xs) p a))

-- what the negated test says of the fixpoint
pub still-yes : (ps : List Projection) (s : State) (held answer : Bool) → IsSome s.box → answer ≡ not held → Checks ps s.box held → IsTrue answer → IsSomeAnd s.box (λ xs. IsFixpoint ps xs → ⊥)
still-yes ps s held answer some e checks t = at s.box some checks
  where
    at : (b : Option (List Span)) → IsSome b → Checks ps b held → IsSomeAnd b (λ xs. IsFixpoint ps xs → ⊥)
    at None h k = absurd (cc)
    at (Some xs) h k = λ f. no held (e ∙ refl) (k.1 f.stable)
      where
        no : (x : Bool) → answer ≡ not x → IsTrue x → ⊥
        no true q r = cc
        no false q r = cc

pub still-no : (ps : List Projection) (s : State) (held answer : Bool) → IsStore s → answer ≡ not held → Checks ps s.box held → IsFalse answer → IfSome s.box (IsFixpoint ps)
still-no ps s held answer store e checks f = at s.box (IsBox-of s store) checks
  where
    yes : (x : Bool) → answer ≡ not x → IsTrue x
    yes true q = refl
    yes false q = absurd (cc)

    at : (b : Option (List Span)) → IfSome b IsBox → Checks ps b held → IfSome b (IsFixpoint ps)
    at None box k = tt
    at (Some xs) box k = record { box = box; stable = k.0 (yes held e) }
