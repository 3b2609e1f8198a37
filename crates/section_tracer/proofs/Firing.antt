-- What the listed contractors of a net are, in the words of the records.
use Rattle.std.proofs.Common.{◌≡◌, ℕ, zero, suc, ◌<◌, true, Option, Some, None, List, [], ◌∷◌, ◌++◌, All, arith, refl, sym, ap, ap₂, subst, ◌∙◌, map, flat_map, length, slice_get, append-nil}
use Rattle.std.specs.Prelude.{slice_index_or}
use Rattle.std.specs.List.{cons_option}
use Rattle.std.proofs.lemmas.List.{length-map}
use Rattle.tube_spec.specs.Span.{Span}
use Rattle.tube_spec.specs.Shape.{Shape}
use Rattle.tube_spec.specs.Projection.{Projection}
use Rattle.tube_spec.specs.Fixpoint.{KeepsFixpoints}
use Rattle.tube_store.specs.State.{State}
use Rattle.ctc_network.specs.Nets.{NetState, IsThere, of_place}
use Rattle.ctc_network.specs.Settling.{IsNarrowedBy, contractors_at}
use Rattle.ctc_network.specs.declared.answers.CtcId.{CtcId}
use Rattle.ctc_network.specs.declared.answers.Settled.{Settled}
use Rattle.ctc_network.specs.declared.answers.Settled.TheVariants.{Fixpoint, Empty, Spent}
use Rattle.ctc_network.proofs.Holes.{there-within}
use Rattle.any_ctc.specs.Constraints.{Constraint, constraint_projections, written_of}
use Rattle.any_ctc.proofs.Written.{written-projections}
use Rattle.any_ctc.specs.declared.AnyCtc.{AnyCtc}
use Rattle.any_ctc.specs.Contractors.{constraint_of, any_projections}
use Rattle.mission_items.specs.declared.item.Item.{Item}
use Rattle.mission_net.specs.Records.{contracts, contractors_of, shape_by}
use Rattle.mission_net.specs.Building.{stands_for, each_alone, IsNetOf}
use Rattle.mission_net.proofs.Shapes.{shape-grid}
use Rattle.section_report.specs.Sections.{is_spent}
use Rattle.section_tracer.specs.Firings.{fired_projections}

-- what stands under a number, in the words of the written constraints
place-projections : (s : Shape) (place : Option AnyCtc) → flat_map (constraint_projections s) (flat_map (written_of s.grid) (stands_for place)) ≡ of_place any_projections place s
place-projections s None = refl
place-projections s (Some c) = ap (flat_map (constraint_projections s)) (append-nil (written_of s.grid (constraint_of c))) ∙ written-projections s (constraint_of c)

written-alone : (grid : List ℕ) (cs : List Constraint) → map (flat_map (written_of grid)) (each_alone cs) ≡ map (written_of grid) cs
written-alone grid [] = refl
written-alone grid (c ∷ cs) = ap₂ (λ (x : List Constraint) (xs : List (List Constraint)). x ∷ xs) (append-nil (written_of grid c)) (written-alone grid cs)

-- what stands at a place of a list that is mapped twice
at-none : {X Y Z : Type 0} (f : Y → List Z) (g : X → Y) (xs : List X) (k : ℕ) → slice_get xs k ≡ None → slice_index_or (map f (map g xs)) k [] ≡ []
at-none f g [] k e = refl
at-none f g (x ∷ xs) zero e = absurd (cc)
at-none f g (x ∷ xs) (suc k) e = at-none f g xs k e

at-some : {X Y Z : Type 0} (f : Y → List Z) (g : X → Y) (xs : List X) (k : ℕ) (x : X) → slice_get xs k ≡ Some x → slice_index_or (map f (map g xs)) k [] ≡ f (g x)
at-some f g [] k x e = absurd (cc)
at-some {X} f g (y ∷ xs) zero x e = let same : y ≡ x = inside e in ap (λ (z : X). f (g z)) same
  where
    inside : Some y ≡ Some x → y ≡ x
    inside h = cc
at-some f g (y ∷ xs) (suc k) x e = at-some f g xs k x e

-- the written constraints under the numbers of a net
abbrev written_in : Shape → List (Option AnyCtc) → List (List Constraint)
written_in s cs = map (flat_map (written_of s.grid)) (map stands_for cs)

abbrev projections_at : Shape → List (List Constraint) → CtcId → List Projection
projections_at s all id = flat_map (constraint_projections s) (slice_index_or all id.0 [])

fired-is : (cs : List (Option AnyCtc)) (s : Shape) (ids : List CtcId) → flat_map (λ c. of_place any_projections c s) (contractors_at cs ids) ≡ flat_map (projections_at s (written_in s cs)) ids
fired-is cs s [] = refl
fired-is cs s (id ∷ ids) = at (slice_get cs id.0) refl (fired-is cs s ids)
  where
    begun : (o : Option (Option AnyCtc)) → slice_get cs id.0 ≡ o → flat_map (λ c. of_place any_projections c s) (contractors_at cs (id ∷ ids)) ≡ flat_map (λ c. of_place any_projections c s) (cons_option o (contractors_at cs ids))
    begun o e = ap (λ (p : Option (Option AnyCtc)). flat_map (λ c. of_place any_projections c s) (cons_option p (contractors_at cs ids))) e

    at : (o : Option (Option AnyCtc)) → slice_get cs id.0 ≡ o → flat_map (λ c. of_place any_projections c s) (contractors_at cs ids) ≡ flat_map (projections_at s (written_in s cs)) ids
        → flat_map (λ c. of_place any_projections c s) (contractors_at cs (id ∷ ids)) ≡ flat_map (projections_at s (written_in s cs)) (id ∷ ids)
    at None e rest =
        begun None e ∙ rest
        ∙ sym (ap (λ (l : List Constraint). flat_map (constraint_projections s) l ++ flat_map (projections_at s (written_in s cs)) ids) (at-none (flat_map (written_of s.grid)) stands_for cs id.0 e))
    at (Some p) e rest =
        begun (Some p) e ∙ ap (λ (l : List Projection). of_place any_projections p s ++ l) rest
        ∙ ap (λ (l : List Projection). l ++ flat_map (projections_at s (written_in s cs)) ids) (sym (place-projections s p))
        ∙ sym (ap (λ (l : List Constraint). flat_map (constraint_projections s) l ++ flat_map (projections_at s (written_in s cs)) ids) (at-some (flat_map (written_of s.grid)) stands_for cs id.0 p e))

-- the contractors of the records are those of their net
net-written : (grid : List ℕ) (items : List Item) (net : NetState AnyCtc) → IsNetOf grid items net → written_in net.store.shape net.contractors ≡ contractors_of grid items
net-written grid items net holds =
    ap (λ (g : List ℕ). map (flat_map (written_of g)) (map stands_for net.contractors)) (ap (λ (s : Shape). s.grid) holds.shape ∙ shape-grid grid items)
    ∙ ap (map (flat_map (written_of grid))) holds.contractors ∙ written-alone grid (contracts grid items)

pub fired-enough : (grid : List ℕ) (items : List Item) (built : NetState AnyCtc) (new : State) (ids : List CtcId) (box : Option (List Span)) → IsNetOf grid items built → built.store.box ≡ box
    → IsNarrowedBy (flat_map (λ c. of_place any_projections c built.store.shape) (contractors_at built.contractors ids)) built.store new
    → KeepsFixpoints (flat_map (fired_projections grid items) ids) box new.box
fired-enough grid items built new ids box holds is narrowed =
    subst (λ (b : Option (List Span)). KeepsFixpoints (flat_map (fired_projections grid items) ids) b new.box) is
    (subst (λ (ps : List Projection). KeepsFixpoints ps built.store.box new.box)
    (fired-is built.contractors built.store.shape ids
    ∙ ap₂ (λ (s : Shape) (all : List (List Constraint)). flat_map (projections_at s all) ids) holds.shape (net-written grid items built holds))
    narrowed.keeps)

pub fired-there : (grid : List ℕ) (items : List Item) (built : NetState AnyCtc) (ids : List CtcId) → IsNetOf grid items built → All (λ (id : CtcId). IsThere built.contractors id.0) ids
    → All (λ (id : CtcId). id.0 < length (contractors_of grid items)) ids
fired-there grid items built ids holds there = λ k d l. omega (arith, there-within built.contractors _ (there k d l), many)
  where
    many : length built.contractors ≡ length (contractors_of grid items)
    many = sym (length-map (map stands_for built.contractors) (flat_map (written_of built.store.shape.grid)) ∙ length-map built.contractors stands_for) ∙ ap length (net-written grid items built holds)

-- as many are listed as may be where the answer is Spent
pub is-full : (answer : Settled) (many most : ℕ) → is_spent answer ≡ true → ((id : CtcId) → answer ≡ Spent id → many ≡ most) → many ≡ most
is-full Fixpoint many most told full = absurd (cc told)
is-full Empty many most told full = absurd (cc told)
is-full (Spent id) many most told full = full id refl
