-- A relation of numbers alone has no projection, and firing no projections leaves a store as it was.
use Rattle.std.proofs.Common.{◌≡◌, ℕ, true, false, Option, Some, None, IfSome, IsNone, IsSome, List, [], ◌∷◌, refl, sym, subst, length, arith}
use Rattle.std.proofs.lemmas.List.Elements.{All-nil}
use Rattle.tube_spec.specs.Span.{Span}
use Rattle.tube_spec.specs.Shape.{Shape}
use Rattle.tube_spec.specs.Box.{cell_at, IsBox, IsBelowBox}
use Rattle.tube_spec.specs.Projection.{IsStable}
use Rattle.tube_spec.specs.Fixpoint.{KeepsFixpoints}
use Rattle.tube_spec.proofs.Spans.{IsWithin-refl}
use Rattle.tube_spec.proofs.Widths.{width-le}
use Rattle.tube_store.specs.State.{State}
use Rattle.ctc_core.specs.Revising.{IsNarrower, IfBoth}
use Rattle.ctc_core.specs.Answers.{Revises, changed_by, MatchRevised}
use Rattle.ctc_core.specs.declared.Revised.{Revised}
use Rattle.ctc_core.specs.declared.Revised.TheVariants.{Same, Narrowed, Empty}
use Rattle.expr_tree.specs.Trees.{Relation}
use Rattle.expr_values.specs.Expressions.{relation_leaves, comparison_of}
use Rattle.tube_names.specs.declared.leaves.Leaf.{Leaf}
use Rattle.expr_hc4.specs.declared.places.Place.{Place}
use Rattle.expr_hc4.specs.Projections.{expr_projections}

pub no-projection : (s : Shape) (place : Place) (leaves : List Leaf) (r : Relation) → length leaves ≡ relation_leaves r → relation_leaves r ≡ 0 → expr_projections s place leaves (comparison_of r) ≡ []
no-projection s place [] r count none = refl
no-projection s place (l ∷ leaves) r count none = absurd (omega (arith, count, none))

-- each box is stable under no projections, so none is lost
kept-whole : (a b : Option (List Span)) → IfSome a IsBox → KeepsFixpoints [] a b → IsBelowBox a b
kept-whole None b box keeps = tt
kept-whole (Some xs) b box keeps = keeps xs (record { box = box; stable = All-nil (IsStable xs) }) (record { len = refl; each = λ k. IsWithin-refl (cell_at xs k) })

not-narrower : (xs : List Span) (b : Option (List Span)) → IsBelowBox (Some xs) b → IfBoth (Some xs) b (λ xs ys. (k : ℕ) × IsNarrower xs ys k) → ⊥
not-narrower xs None low h = low
not-narrower xs (Some ys) low h = omega (arith, h.1, width-le (cell_at xs h.0) (cell_at ys h.0) (low.each h.0))

not-emptied : (xs : List Span) (b : Option (List Span)) → IsBelowBox (Some xs) b → IsNone b → ⊥
not-emptied xs None low none = low
not-emptied xs (Some ys) low none = absurd (cc)

boxed : (b : Option (List Span)) (n : ℕ) → IfSome b (λ xs. IsBox xs × (length xs ≡ n)) → IfSome b IsBox
boxed None n h = tt
boxed (Some xs) n h = h.0

pub same-store : (old new : State) (answer : Revised) → Revises [] old new answer → new ≡ old
same-store old new answer r = by_box old.box refl
  where
    whole : IsBelowBox old.box new.box
    whole = kept-whole old.box new.box (boxed old.box old.shape.cells r.before.box) r.revised.keeps

    by_answer : (xs : List Span) → IsBelowBox (Some xs) new.box → old.box ≡ Some xs → (a : Revised) → answer ≡ a → new ≡ old
    by_answer xs low e Same f = r.revised.same (subst (λ (x : Revised). changed_by x ≡ false) (sym f) refl)
    by_answer xs low e Narrowed f =
        absurd (not-narrower xs new.box low (subst (λ (b : Option (List Span)). IfBoth b new.box (λ xs ys. (k : ℕ) × IsNarrower xs ys k)) e (r.revised.narrower (subst (λ (x : Revised). changed_by x ≡ true) (sym f) refl))))
    by_answer xs low e Empty f =
        absurd (not-emptied xs new.box low (subst (λ (x : Revised). MatchRevised x (IsSome new.box) (IsSome new.box) (IsNone new.box)) f r.says))

    by_box : (b : Option (List Span)) → old.box ≡ b → new ≡ old
    by_box None e = r.empty (subst (λ (b : Option (List Span)). IsNone b) (sym e) refl)
    by_box (Some xs) e = by_answer xs (subst (λ (b : Option (List Span)). IsBelowBox b new.box) e whole) e answer refl
