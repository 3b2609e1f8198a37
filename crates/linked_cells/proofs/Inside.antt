-- The cells of contractors are of the store.
use Rattle.std.proofs.Common.{◌≡◌, ℕ, ◌<◌, inl, inr, Option, Some, None, List, length, map, slice_get, arith, refl, sym, ◌∙◌, All, Contains}
use Rattle.std.proofs.lemmas.List.{get_or-map, length-map}
use Rattle.std.proofs.lemmas.List.Elements.{All-contains, Contains-append_cases}
use Rattle.tube_spec.specs.Span.{Span}
use Rattle.tube_spec.specs.Shape.{Shape, IsShape}
use Rattle.tube_spec.specs.Projection.{Projection}
use Rattle.ctc_core.specs.Given.{no_projection}
use Rattle.ctc_network.specs.Nets.{fits_place}
use Rattle.linked_cells.specs.Places.{cells_in, cells_under}
use Rattle.linked_cells.specs.Chosen.{place_cells}
use Rattle.linked_cells.proofs.Members.{at-member}

-- a target of some projections
target-inside : (ps : List Projection) (n x : ℕ) → All (λ p. p.target < n) ps → Contains (map (λ (p : Projection). p.target) ps) x → x < n
target-inside ps n x all m =
    let l : m.0 < length ps = omega (arith, m.1, length-map ps (λ (p : Projection). p.target)) in
    omega (arith, all m.0 no_projection l, sym (get_or-map (λ (p : Projection). p.target) ps m.0 no_projection x l) ∙ m.2)

module _ (C : Type 0) (projections : C → Shape → List Projection) (scope : C → Shape → List ℕ) (fits : C → Shape → Option (List Span) → Type 0)
    (in_store : (c : C) (s : Shape) (b : Option (List Span)) → IsShape s → fits c s b → All (λ k. k < s.cells) (scope c s) × All (λ p. p.target < s.cells) (projections c s)) where
  pub place-inside : (s : Shape) (b : Option (List Span)) (o : Option C) → IsShape s → fits_place fits o s b → (x : ℕ) → Contains (place_cells projections scope s o) x → x < s.cells
  place-inside s b None shape fit x m = absurd (omega (arith, m.1))
  place-inside s b (Some c) shape fit x m = elim (Contains-append_cases (scope c s) (map (λ (p : Projection). p.target) (projections c s)) x m) [
    | inl r ↦ All-contains (λ k. k < s.cells) (scope c s) x (in_store c s b shape fit).0 r
    | inr w ↦ target-inside (projections c s) s.cells x (in_store c s b shape fit).1 w
  ]

  pub under-inside : (s : Shape) (b : Option (List Span)) (cs : List (Option C)) → IsShape s → All (λ o. fits_place fits o s b) cs → (k x : ℕ) → Contains (cells_under (place_cells projections scope s) cs k) x → x < s.cells
  under-inside s b cs shape fit k x m = at (slice_get cs k) refl m
    where
      at : (p : Option (Option C)) → slice_get cs k ≡ p → Contains (cells_in (place_cells projections scope s) p) x → x < s.cells
      at None e h = absurd (omega (arith, h.1))
      at (Some o) e h = place-inside s b o shape (All-contains (λ d. fits_place fits d s b) cs o fit (at-member cs k o e)) x h

  -- a place with none has no cell
  pub none-there : (s : Shape) (x : ℕ) → Contains (place_cells projections scope s None) x → ⊥
  none-there s x m = omega (arith, m.1)
