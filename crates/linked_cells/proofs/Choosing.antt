-- The cells that are reset, whether the box is empty or not.
use Rattle.std.proofs.Common.{◌≡◌, ◌↔◌, ℕ, Option, Some, None, List, IsNone, refl, subst}
use Rattle.tube_spec.specs.Span.{Span}
use Rattle.tube_spec.specs.Shape.{Shape}
use Rattle.tube_spec.specs.Projection.{Projection}
use Rattle.tube_store.specs.declared.CellId.{CellId}
use Rattle.disjoint_sets.specs.Ways.{Joined}
use Rattle.disjoint_sets.specs.Trees.{IsParent}
use Rattle.constraint_retraction.specs.Linked.{IsLinked, IsResetIn}
use Rattle.ctc_network.specs.declared.answers.CtcId.{CtcId}
use Rattle.ctc_network.specs.Nets.{NetState}
use Rattle.ctc_network.specs.Settling.{contractors_at}
use Rattle.linked_cells.specs.Places.{without}
use Rattle.linked_cells.specs.Classes.{AreClasses}
use Rattle.linked_cells.specs.Chosen.{AreExactly, IsLinkedIn, place_cells}
use Rattle.linked_cells.proofs.Gathered.{exactly-as}

module _ {C : Type 0} (projections : C → Shape → List Projection) (scope : C → Shape → List ℕ) (n : NetState C) (ids : List CtcId) where
  abbrev Linked : ℕ → Type 0
  Linked = IsLinked (place_cells projections scope n.store.shape) (without n.contractors ids) (contractors_at n.contractors ids)

  of-none : (box : Option (List Span)) (k : ℕ) → IsNone box → Unit {0} ↔ IsResetIn (place_cells projections scope n.store.shape) (without n.contractors ids) (contractors_at n.contractors ids) box k
  of-none None k e = (λ u. tt, λ u. tt)
  of-none (Some xs) k e = absurd (cc)

  of-some : (box : Option (List Span)) (k : ℕ) → (IsNone box → ⊥) → Linked k ↔ IsResetIn (place_cells projections scope n.store.shape) (without n.contractors ids) (contractors_at n.contractors ids) box k
  of-some None k e = absurd (e refl)
  of-some (Some xs) k e = (λ h. h, λ h. h)

  pub all-linked : (count : ℕ) (cells : List CellId) → count ≡ n.store.shape.cells → IsNone n.store.box → AreExactly (λ k. Unit {0}) count cells → AreExactly (IsLinkedIn projections scope n ids) n.store.shape.cells cells
  all-linked count cells e none h =
      subst (λ (m : ℕ). AreExactly (IsLinkedIn projections scope n ids) m cells) e (exactly-as (λ k. Unit {0}) (IsLinkedIn projections scope n ids) count cells (λ k l. of-none n.store.box k none) h)

  pub some-linked : (count : ℕ) (cells : List CellId) (parents items : List ℕ) → count ≡ n.store.shape.cells → (IsNone n.store.box → ⊥) → AreClasses Linked n.store.shape.cells items → parents ≡ items
      → AreExactly (λ k. Joined (IsParent parents) k count) count cells → AreExactly (IsLinkedIn projections scope n ids) n.store.shape.cells cells
  some-linked count cells parents items e some classes same h =
      let g = subst (λ (m : ℕ). AreExactly (λ k. Joined (IsParent items) k m) m cells) e (subst (λ (ps : List ℕ). AreExactly (λ k. Joined (IsParent ps) k count) count cells) same h) in
      exactly-as (λ k. Joined (IsParent items) k n.store.shape.cells) (IsLinkedIn projections scope n ids) n.store.shape.cells cells
      (λ k l. let one = classes.linked k l in let two = of-some n.store.box k some in (λ w. two.0 (one.0 w), λ r. one.1 (two.1 r))) g
