-- How many projections there are, and which.
use Rattle.std.proofs.Common.{◌≡◌, ℕ, ◌+◌, ◌<◌, ◌≤◌, List, refl, sym, ap, subst, ◌∙◌, length, slice_index, slice_index_or, All, arith}
use Rattle.std.proofs.lemmas.List.{get_or-map, length-map}
use Rattle.std.proofs.lemmas.List.FromFn.{get_or-map-range_with_len, length-map-range_with_len}
use Rattle.tube_spec.specs.Span.{Span}
use Rattle.tube_spec.specs.Narrowing.{Narrowing}
use Rattle.tube_spec.specs.Shape.{Shape}
use Rattle.tube_spec.specs.Projection.{Projection}
use Rattle.ctc_core.specs.Given.{projection_at, no_projection}
use Rattle.tube_names.specs.declared.leaves.Leaf.{Leaf}
use Rattle.tube_names.specs.declared.leaves.Leaf.TheVariants.{Sig}
use Rattle.expr_hc4.specs.declared.places.Place.{Place}
use Rattle.expr_hc4.specs.Places.{leaf_cell, leaf_cells, LeafFits, ExprFits}
use Rattle.expr_hc4.specs.Projections.{cell_projections}

-- the leaf with a number
abbrev pub leaf_at : List Leaf → ℕ → Leaf
leaf_at leaves i = slice_index_or leaves i (Sig (record { 0 = 0 }))

module _ (s : Shape) (place : Place) (leaves : List Leaf) (f : ℕ → List Span → Narrowing) where
  abbrev projections : List Projection
  projections = cell_projections (leaf_cells s place leaves) f

  pub projections-count : length projections ≡ length leaves
  projections-count =
      length-map-range_with_len (λ j. let p : Projection = record { target = slice_index (leaf_cells s place leaves) j; formula = f j } in p) 0 (length (leaf_cells s place leaves)) ∙ length-map leaves (leaf_cell s place)

  pub among-leaves : (i : ℕ) → i < length projections → i < length leaves
  among-leaves i l = omega (arith, l, projections-count)

  at : (i : ℕ) → i < length projections → projection_at projections i ≡ record { target = slice_index (leaf_cells s place leaves) i; formula = f i }
  at i l =
      let z : 0 + i ≡ i = omega arith in
      get_or-map-range_with_len (λ j. let p : Projection = record { target = slice_index (leaf_cells s place leaves) j; formula = f j } in p) 0 (length (leaf_cells s place leaves)) i i no_projection
      (omega (arith, among-leaves i l, length-map leaves (leaf_cell s place))) z

  pub target-at : (i : ℕ) → i < length projections → leaf_cell s place (leaf_at leaves i) ≡ (projection_at projections i).target
  target-at i l = sym (ap (λ (p : Projection). p.target) (at i l) ∙ get_or-map (leaf_cell s place) leaves i (Sig (record { 0 = 0 })) 0 (among-leaves i l))

  pub formula-at : (i : ℕ) (xs : List Span) → i < length projections → (projection_at projections i).formula xs ≡ f i xs
  formula-at i xs l = ap (λ (p : Projection). p.formula xs) (at i l)
