-- Sets of runs as the components of a plane, and what is found of each.
use Rattle.std.proofs.Common.{◌≡◌, ℕ, ◌<◌, List, [], ◌∷◌, ◌++◌, Some, None, All, subst, sym, ap, length, map, ◌∙◌, refl}
use Rattle.std.specs.Prelude.{Option, IsSome, IsNone, IfSome}
use Rattle.std.proofs.lemmas.List.{map-append}
use Rattle.std.proofs.lemmas.List.Elements.{All-nil, All-cons, All-head, All-tail, All-from_get_or, All-push}
use Rattle.tube_spec.specs.Span.{Span}
use Rattle.tube_spec.specs.Shape.{Shape}
use Rattle.tube_store.specs.declared.SignalId.{SignalId}
use Rattle.hull_tree.specs.Plane.{Plane, plane_of, is_possible}
use Rattle.tube_names.specs.declared.queries.Query.{Query}
use Rattle.tplane_paver.specs.declared.runs.Run.{Run}
use Rattle.tplane_paver.specs.Runs.{InRun, InRuns, AreMaximalRuns}
use Rattle.tplane_paver.specs.Components.{set_at, AreComponents}
use Rattle.loop_sets.specs.Sets.{IsComponent}
use Rattle.loop_sets.specs.Finding.{IsFinding}
use Rattle.loop_sets.proofs.Revisiting.{component-law}
use Rattle.loop_report.specs.declared.found.Found.{Found}
use Rattle.mission_items.specs.declared.item.Item.{Item}
use Rattle.mission_loops.specs.Queries.{rates_of}
use Rattle.mission_loops.specs.Findings.{sets_in, ArePaved, AreFound, IsToldOver}

-- what holds of each value holds of each of which it is the value
pub all-unmap : {X Y : Type 0} (P : X → Type 0) (f : Y → X) (ys : List Y) → All P (map f ys) → All (λ y. P (f y)) ys
all-unmap P f [] h = All-nil (λ y. P (f y))
all-unmap P f (y ∷ ys) h = All-cons (λ z. P (f z)) y ys (All-head P (f y) (map f ys) h) (all-unmap P f ys (All-tail P (f y) (map f ys) h))

-- the sets of a plane's maximal runs are its components
pub all-components : (p : Plane) (runs : List Run) (sets : List (List Run)) → AreMaximalRuns (is_possible p) runs → AreComponents runs sets → All (IsComponent p) sets
all-components p runs sets maximal are = All-from_get_or (IsComponent p) sets [] (component-law p runs sets maximal are)

-- a pair of the runs is in one of the sets
pub in-some-set : (runs : List Run) (sets : List (List Run)) → AreComponents runs sets → (a b : ℕ) → InRuns runs a b → (i : ℕ) × (i < length sets) × InRuns (set_at sets i) a b
in-some-set runs sets are a b h =
    let f = are.full h.0 h.1 in (f.0, f.1, (f.2.0, f.2.1, subst (λ (r : Run). InRun r a b) (sym f.2.2) h.2))

-- ---- over a box that is there, or is not

pub told-none : (items : List Item) (s : Shape) (box : Option (List Span)) (q : Query) → IsNone box → IsToldOver items s box q (Some [])
told-none items s None q none = refl
told-none items s (Some xs) q none = absurd (cc none)

module _ (items : List Item) (s : Shape) (q : Query) where
  pub told-crowded : (box : Option (List Span)) → IsSome box → IfSome box (λ xs. ArePaved (plane_of s xs q) None) → IsToldOver items s box q None
  told-crowded None some h = absurd (cc some)
  told-crowded (Some xs) some h = h

  module _ (box : Option (List Span)) (paved : Option (List Run)) (runs : List Run) (some : paved ≡ Some runs) (h : IfSome box (λ xs. ArePaved (plane_of s xs q) paved))
      (sets : List (List Run)) (are : AreComponents runs sets) where
    at-runs : IfSome box (λ xs. ArePaved (plane_of s xs q) (Some runs))
    at-runs = subst (λ (p : Option (List Run)). IfSome box (λ xs. ArePaved (plane_of s xs q) p)) some h

    pub components-over : IfSome box (λ xs. All (IsComponent (plane_of s xs q)) sets)
    components-over = components-of box at-runs where
      components-of : (b : Option (List Span)) → IfSome b (λ xs. ArePaved (plane_of s xs q) (Some runs)) → IfSome b (λ xs. All (IsComponent (plane_of s xs q)) sets)
      components-of None p = tt
      components-of (Some xs) p = all-components (plane_of s xs q) runs sets p.1 are

    pub told-sets : (rates_x rates_y : List ℕ) (found made : List Found) → IsSome box → rates_x ≡ rates_of items q.x.0 → rates_y ≡ rates_of items q.y.0 → sets_in found ≡ sets
        → IfSome box (λ xs. AreFound s xs q rates_x rates_y found) → made ≡ found → IsToldOver items s box q (Some made)
    told-sets rates_x rates_y found made filled x y same all e = subst (λ (l : List Found). IsToldOver items s box q (Some l)) (sym e) (told-at box filled at-runs all) where
      told-at : (b : Option (List Span)) → IsSome b → IfSome b (λ xs. ArePaved (plane_of s xs q) (Some runs)) → IfSome b (λ xs. AreFound s xs q rates_x rates_y found) → IsToldOver items s b q (Some found)
      told-at None some p f = absurd (cc some)
      told-at (Some xs) some p f = (
        p.0,
        record {
          runs = runs;
          possible = p.1;
          components = subst (AreComponents runs) (sym same) are;
          findings = subst (λ (v : List ℕ). AreFound s xs q (rates_of items q.x.0) v found) y (subst (λ (v : List ℕ). AreFound s xs q v rates_y found) x f);
        },
      )

-- ---- the loop over the sets

-- one set more
pub sets-more : (found new : List Found) (sets : List (List Run)) (f : Found) → new ≡ found ++ f ∷ [] → sets_in found ≡ sets → sets_in new ≡ sets ++ f.set ∷ []
sets-more found new sets f more same =
    ap sets_in more ∙ (map-append (λ (g : Found). g.set) found (f ∷ []) ∙ ap (λ (l : List (List Run)). l ++ f.set ∷ []) same)

pub found-more : (s : Shape) (q : Query) (rates_x rates_y : List ℕ) (box : Option (List Span)) (found new : List Found) (f : Found) → new ≡ found ++ f ∷ []
    → IfSome box (λ xs. AreFound s xs q rates_x rates_y found) → IfSome box (λ xs. IsFinding s xs q rates_x rates_y f.set f.finding) → IfSome box (λ xs. AreFound s xs q rates_x rates_y new)
found-more s q rates_x rates_y None found new f more all one = tt
found-more s q rates_x rates_y (Some xs) found new f more all one =
    subst (AreFound s xs q rates_x rates_y) (sym more) (All-push (λ (g : Found). IsFinding s xs q rates_x rates_y g.set g.finding) found f all one)

-- the rates are among the first signals
pub rates-named : (n : ℕ) (rates slice : List SignalId) (numbers : List ℕ) → slice ≡ rates → map (λ (r : SignalId). r.0) rates ≡ numbers → All (λ v. v < n) numbers
    → All (λ (r : SignalId). r.0 < n) slice
rates-named n rates slice numbers same are below =
    subst (All (λ (r : SignalId). r.0 < n)) (sym same) (all-unmap (λ v. v < n) (λ (r : SignalId). r.0) rates (subst (All (λ v. v < n)) (sym are) below))
