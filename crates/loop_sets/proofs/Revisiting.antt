-- Components of paved runs, and what a finding says of trajectories.
use Rattle.std.proofs.Common.{◌≡◌, ℕ, zero, suc, ◌<◌, Bool, true, false, ◌&&◌, Option, Some, None, IsSome, IfSome, List, [], length, get_or, IsTrue, arith, refl, sym, subst, ◌∙◌}
use Rattle.std.proofs.lemmas.List.{get_or_default}
use Rattle.tube_spec.specs.Span.{Span}
use Rattle.tube_spec.specs.Shape.{Shape}
use Rattle.hull_tree.specs.Plane.{Plane, plane_of, tube_of, is_valid, is_possible}
use Rattle.tube_names.specs.declared.queries.Query.{Query}
use Rattle.hull_tree.proofs.Nearness.{possible-revisit, sure-revisit}
use Rattle.tplane_paver.specs.declared.runs.Run.{Run}
use Rattle.tplane_paver.specs.Runs.{InRun, InRuns, run_at, AreMaximalRuns}
use Rattle.tplane_paver.specs.Components.{IsBeside, Reaches, HasRun, set_at, AreComponents}
use Rattle.loop_degree.specs.Cells.{IsCornerOf}
use Rattle.loop_degree.proofs.Law.{degree-law}
use Rattle.loop_sets.specs.declared.finding.Finding.TheVariants.{Sure, Degree, Unproved}
use Rattle.loop_sets.specs.Sets.{IsComponent, plane_over}
use Rattle.loop_sets.specs.Finding.{FindingLaw, ComponentLaw, label_under}

reaches-map : (P Q : ℕ → ℕ → Type 0) → ((a b : ℕ) → P a b → Q a b) → (n a b c d : ℕ) → Reaches P n a b c d → Reaches Q n a b c d
reaches-map P Q h zero a b c d p = p
reaches-map P Q h (suc n) a b c d p = (p.0, p.1, h p.0 p.1 p.2, p.3, reaches-map P Q h n p.0 p.1 c d p.4)

-- a pair of a run that a list has is in the list
in-list : (runs : List Run) (r : Run) (a b : ℕ) → HasRun runs r → InRun r a b → InRuns runs a b
in-list runs r a b has h = (has.0, has.1, subst (λ (s : Run). InRun s a b) (sym has.2) h)

pub component-law : ComponentLaw
component-law p runs sets paved are i l = record {
  possible = λ a b h. (paved.same a b).0 (whole a b h);
  linked = λ a b c d h k. let n = are.linked i a b c d l h k in (n.0, reaches-map (InRuns runs) (λ e f. IsTrue (is_possible p e f)) (λ e f m. (paved.same e f).0 m) n.0 a b c d n.1);
  closed = λ a b c d h beside possible.
      let k = (paved.same c d).1 possible in
      let j = are.full k.0 k.1 in
      let there : InRuns (set_at sets j.0) c d = in-list (set_at sets j.0) (run_at runs k.0) c d j.2 k.2 in
      let same = are.apart i j.0 a b c d l j.1 h there beside in
      subst (λ (m : ℕ). InRuns (set_at sets m) c d) (sym same) there;
}
  where
    whole : (a b : ℕ) → InRuns (set_at sets i) a b → InRuns runs a b
    whole a b h = in-list runs (run_at (set_at sets i) h.0) a b (are.sound i h.0 l h.1) h.2

beside-corners : (c p r : ℕ × ℕ) → IsCornerOf c p → IsCornerOf c r → IsBeside p.0 p.1 r.0 r.1
beside-corners c p r h k = record {
  a_up = omega (arith, h.right, k.left);
  a_down = omega (arith, k.right, h.left);
  b_up = omega (arith, h.high, k.low);
  b_down = omega (arith, k.high, h.low);
}

pub finding-law : FindingLaw
finding-law s w hull xs q rates_x rates_y grid is below nx ny rx ry runs (Sure a b) component found some = record {
  a = a;
  b = b;
  in_set = found.in_set;
  revisit = sure-revisit s w hull xs q grid is below nx ny a b found.sure;
}
finding-law s w hull xs q rates_x rates_y grid is below nx ny rx ry runs (Degree d) component found some =
    let tested = found.1 in
    let r = degree-law s w hull xs q rates_x rates_y grid is below nx ny rx ry tested.cells (label_under _ q rates_x rates_y tested.cells) tested.test.0 in
    let cell = (tested.own.same r.cell).0 r.in_cells in
    let near = cell.in_set in
    record {
      a = r.corner.0;
      b = r.corner.1;
      in_set = component.closed near.0.0 near.0.1 r.corner.0 r.corner.1 near.2 (beside-corners r.cell near.0 r.corner near.1 r.of_cell)
          (possible-revisit s w hull xs q grid is below nx ny r.corner.0 r.corner.1 r.revisit);
      revisit = r.revisit;
    }
finding-law s w hull xs q rates_x rates_y grid is below nx ny rx ry runs Unproved component found some = absurd (some refl)

valid-left : (x y : Bool) → (x && y) ≡ true → x ≡ true
valid-left true y e = refl
valid-left false y e = absurd (cc)

-- what a store tells of both signals, tick by tick
module _ (s : Shape) (q : Query) (set : List Run) (xs ys : List Span) where
  pub set-valid : (box : Option (List Span)) → IsSome box → IfSome box (λ z. xs ≡ tube_of s z q.x.0) → IfSome box (λ z. ys ≡ tube_of s z q.y.0) → IfSome box (λ z. IsComponent (plane_of s z q) set)
      → (a b : ℕ) → InRuns set a b → is_valid (plane_over xs ys q) a b ≡ true
  set-valid None some x y component a b h = absurd (cc)
  set-valid (Some z) some x y component a b h =
      subst (λ (t : List Span). is_valid (plane_over t ys q) a b ≡ true) (sym x) (subst (λ (t : List Span). is_valid (plane_over (tube_of s z q.x.0) t q) a b ≡ true) (sym y) (valid-left _ _ (component.possible a b h)))

  pub plane-of : (box : Option (List Span)) (P : Plane → Type 0) → IfSome box (λ z. xs ≡ tube_of s z q.x.0) → IfSome box (λ z. ys ≡ tube_of s z q.y.0) → P (plane_over xs ys q) → IfSome box (λ z. P (plane_of s z q))
  plane-of None P x y h = tt
  plane-of (Some z) P x y h = subst (λ (t : List Span). P (plane_over (tube_of s z q.x.0) t q)) y (subst (λ (t : List Span). P (plane_over t ys q)) x h)

-- The sets of what a tree's plane was paved with are components in the store that the tree was made of.
pub component-in : (box : Option (List Span)) (s : Shape) (q : Query) (tree : Plane) (runs : List Run) (sets : List (List Run)) (i : ℕ) → IfSome box (λ xs. tree ≡ plane_of s xs q)
    → AreMaximalRuns (is_possible tree) runs → AreComponents runs sets → i < length sets → IfSome box (λ xs. IsComponent (plane_of s xs q) (set_at sets i))
component-in None s q tree runs sets i e paved are l = tt
component-in (Some xs) s q tree runs sets i e paved are l = subst (λ (p : Plane). IsComponent p (set_at sets i)) e (component-law tree runs sets paved are i l)

pub component-at : (box : Option (List Span)) (s : Shape) (q : Query) (tree : Plane) (runs : List Run) (sets : List (List Run)) (i : ℕ) (set : List Run) → IfSome box (λ xs. tree ≡ plane_of s xs q)
    → AreMaximalRuns (is_possible tree) runs → AreComponents runs sets → i < length sets → set ≡ get_or sets i set → IfSome box (λ xs. IsComponent (plane_of s xs q) set)
component-at box s q tree runs sets i set e paved are l h =
    subst (λ (o : List Run). IfSome box (λ xs. IsComponent (plane_of s xs q) o)) (sym (h ∙ get_or_default sets i set [] l)) (component-in box s q tree runs sets i e paved are l)
