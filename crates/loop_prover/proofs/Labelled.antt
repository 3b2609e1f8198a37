-- Labels of corners, one corner more.
use Rattle.std.proofs.Common.{◌≡◌, ℕ, ◌+◌, ◌<◌, ◌≤◌, true, inl, inr, Option, Some, None, List, [], ◌∷◌, ◌++◌, map, take, length, get_or, arith, refl, sym, ap, ◌∙◌, subst, All, IfSome}
use Rattle.std.specs.List.{AllByRecursion}
use Rattle.std.proofs.lemmas.Bool.{or_cases}
use Rattle.std.proofs.lemmas.List.{take_more, map-append}
use Rattle.std.proofs.lemmas.List.Elements.{recursion_from_All, All-push}
use Rattle.tube_spec.specs.Span.{Span}
use Rattle.loop_degree.specs.declared.labels.Label.{Label}
use Rattle.loop_degree.specs.Pairs.{IsRising, has}
use Rattle.loop_degree.specs.Cells.{Edge, IsCornerOf, boundary, ends_of}
use Rattle.loop_degree.specs.Boundary.{corner_of}
use Rattle.loop_degree.proofs.Sharing.{same_pair}
use Rattle.loop_degree.proofs.Rising.{has-at}
use Rattle.loop_degree.proofs.Edges.{IsSide, boundary-sides}
use Rattle.loop_prover.specs.First.{LacksLabel, AreLabels}

-- what all cells have, the cell has that is in the list
pub all-at : (P : ℕ × ℕ → Type 0) (cells : List (ℕ × ℕ)) (c : ℕ × ℕ) → AllByRecursion P cells → has cells c ≡ true → P c
all-at P [] c h k = absurd (cc)
all-at P (d ∷ ds) c h k =
    elim (or_cases _ _ k) [
      | inl e ↦ subst P (same_pair d c e) h.0
      | inr t ↦ all-at P ds c h.1 t
    ]

-- an end of a boundary edge is a corner of a cell
pub record IsCornerOfSome (cells : List (ℕ × ℕ)) (p : ℕ × ℕ) : Type 0 where
  pub cell : ℕ × ℕ
  pub in_cells : has cells cell ≡ true
  pub of_cell : IsCornerOf cell p

ends-corner : (cells : List (ℕ × ℕ)) (es : List Edge) (p : ℕ × ℕ) → AllByRecursion (IsSide cells) es → has (ends_of es) p ≡ true → IsCornerOfSome cells p
ends-corner cells [] p h k = absurd (cc)
ends-corner cells (e ∷ es) p h k =
    let side = h.0 in
    elim (or_cases _ _ k) [
      | inl a ↦ record { cell = side.cell; in_cells = side.in_cells; of_cell = subst (IsCornerOf side.cell) (same_pair e.from p a) side.from }
      | inr r ↦ elim (or_cases _ _ r) [
        | inl a ↦ record { cell = side.cell; in_cells = side.in_cells; of_cell = subst (IsCornerOf side.cell) (same_pair e.to p a) side.to }
        | inr t ↦ ends-corner cells es p h.1 t
      ]
    ]

pub boundary-corner : (cells : List (ℕ × ℕ)) (p : ℕ × ℕ) → has (ends_of (boundary cells)) p ≡ true → IsCornerOfSome cells p
boundary-corner cells p h = ends-corner cells (boundary cells) p (boundary-sides cells) h

-- a corner of the boundary is at most the last tick where all cells are before it
pub corner-within : (cells corners : List (ℕ × ℕ)) (last i : ℕ) (d : ℕ × ℕ) → All (λ c. (c.0 < last) × (c.1 < last)) cells → ((p : ℕ × ℕ) → has corners p ≡ has (ends_of (boundary cells)) p) → i < length corners → ((get_or corners i d).0 ≤ last) × ((get_or corners i d).1 ≤ last)
corner-within cells corners last i d all same l =
    let p = get_or corners i d in
    let of = boundary-corner cells p (sym (same p) ∙ has-at corners i d p l refl) in
    let small = all-at (λ c. (c.0 < last) × (c.1 < last)) cells of.cell (recursion_from_All _ cells all) of.in_cells in
    let corner = of.of_cell in
    (omega (arith, corner.right, small.0), omega (arith, corner.high, small.1))

-- one label more
pub corners-more : (corners : List (ℕ × ℕ)) (i : ℕ) (d : ℕ × ℕ) (labels : List (ℕ × ℕ × Label)) (l : Label) → i < length corners → map corner_of labels ≡ take i corners
    → map corner_of (labels ++ ((get_or corners i d).0, (get_or corners i d).1, l) ∷ []) ≡ take (i + 1) corners
corners-more corners i d labels l inside h =
    map-append corner_of labels (((get_or corners i d).0, (get_or corners i d).1, l) ∷ [])
    ∙ ap (λ (ps : List (ℕ × ℕ)). ps ++ get_or corners i d ∷ []) h ∙ sym (take_more corners i d inside)

pub own-more : (box : Option (List Span)) (label : List Span → ℕ × ℕ → Option Label) (labels : List (ℕ × ℕ × Label)) (p : ℕ × ℕ) (l : Label)
    → IfSome box (λ xs. All (λ k. label xs (corner_of k) ≡ Some k.2) labels) → IfSome box (λ xs. Some l ≡ label xs p)
    → IfSome box (λ xs. All (λ k. label xs (corner_of k) ≡ Some k.2) (labels ++ (p.0, p.1, l) ∷ []))
own-more None label labels p l h e = tt
own-more (Some xs) label labels p l h e = All-push (λ k. label xs (corner_of k) ≡ Some k.2) labels (p.0, p.1, l) h (sym e)

-- a corner without a label
pub lacks : (box : Option (List Span)) (label : List Span → ℕ × ℕ → Option Label) (cells corners : List (ℕ × ℕ)) (i : ℕ) (d : ℕ × ℕ) → ((p : ℕ × ℕ) → has corners p ≡ has (ends_of (boundary cells)) p) → i < length corners
    → IfSome box (λ xs. None ≡ label xs (get_or corners i d)) → IfSome box (λ xs. LacksLabel (label xs) cells)
lacks None label cells corners i d same l h = tt
lacks (Some xs) label cells corners i d same l h = let p = get_or corners i d in (p, sym (same p) ∙ has-at corners i d p l refl, sym h)

-- all corners with their labels
pub are-labels : (box : Option (List Span)) (label : List Span → ℕ × ℕ → Option Label) (cells corners : List (ℕ × ℕ)) (labels : List (ℕ × ℕ × Label)) → IsRising corners → ((p : ℕ × ℕ) → has corners p ≡ has (ends_of (boundary cells)) p) → map corner_of labels ≡ corners
    → IfSome box (λ xs. All (λ k. label xs (corner_of k) ≡ Some k.2) labels) → IfSome box (λ xs. AreLabels (label xs) cells labels)
are-labels None label cells corners labels rising same e own = tt
are-labels (Some xs) label cells corners labels rising same e own = record {
  rising = subst IsRising (sym e) rising;
  corners = λ p. ap (λ (ps : List (ℕ × ℕ)). has ps p) e ∙ same p;
  own = own;
}

-- a label that was looked for
pub answer-of : (box : Option (List Span)) (asked label : List Span → Option Label) (r o : Option Label) → r ≡ o → ((xs : List Span) → asked xs ≡ label xs) → IfSome box (λ xs. r ≡ asked xs) → IfSome box (λ xs. o ≡ label xs)
answer-of None asked label r o e same h = tt
answer-of (Some xs) asked label r o e same h = sym e ∙ h ∙ same xs
