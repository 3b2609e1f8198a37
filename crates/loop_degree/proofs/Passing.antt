-- A degree that isn't 0 gives a cell with all three colours, and its corner of colour 0.
use Rattle.std.proofs.Common.{◌≡◌, ℕ, true, ◌⊎◌, inl, inr, Option, List, [], ◌∷◌, ℤ, pos, ◌+ℤ◌, ◌≤ℤ◌, arith, refl, sym, ◌∙◌, subst, All}
use Rattle.std.specs.List.{AllByRecursion}
use Rattle.std.proofs.lemmas.List.Elements.{recursion_from_All}
use Rattle.std.proofs.lemmas.Int.{ints}
use Rattle.std.proofs.lemmas.Bool.{or_left, or_right}
use Rattle.loop_degree.specs.Pairs.{has}
use Rattle.loop_degree.specs.Cells.{Edge, IsCornerOf, boundary}
use Rattle.loop_degree.specs.declared.labels.Label.{Label}
use Rattle.std.specs.Option.{IsSomeAnd}
use Rattle.loop_degree.specs.Labels.{degree_of}
use Rattle.loop_degree.proofs.Sums.{signed_sum}
use Rattle.loop_degree.proofs.Turns.{turns-count}
use Rattle.loop_degree.proofs.Sharing.{IsApart, is_same-self}
use Rattle.loop_degree.proofs.Alls.{all-both, all-weaker}
use Rattle.loop_degree.proofs.Edges.{IsSide, boundary-sides}
use Rattle.loop_degree.proofs.Cancelling.{ring, boundary_is}
use Rattle.loop_degree.proofs.Colours.{SaysOf, IsNear, IsMeant, Colour, Zero, One, Two, step, colour_of, step_turns, colour-meant, turn_colours, all_three}

signed_sum-same_each : {A : Type 0} (f g : A → ℤ) (xs : List A) → AllByRecursion (λ x. f x ≡ g x) xs → signed_sum f xs ≡ signed_sum g xs
signed_sum-same_each f g [] h = refl
signed_sum-same_each f g (x ∷ xs) h = omega (arith, ints, h.0, signed_sum-same_each f g xs h.1)

-- a sum is 0, or some pair of the list has Q
zero-or : (g : ℕ × ℕ → ℤ) (Q : ℕ × ℕ → Type 0) (ds : List (ℕ × ℕ)) → ((c : ℕ × ℕ) → has ds c ≡ true → (g c ≡ pos 0) ⊎ Q c) → (signed_sum g ds ≡ pos 0) ⊎ ((c : ℕ × ℕ) × (has ds c ≡ true) × Q c)
zero-or g Q [] h = inl refl
zero-or g Q (d ∷ ds) h =
    elim (h d (or_left _ _ (is_same-self d))) [
      | inr q ↦ inr (d, or_left _ _ (is_same-self d), q)
      | inl z ↦ elim (zero-or g Q ds (λ c k. h c (or_right _ _ k))) [
        | inr r ↦ inr (r.0, or_right _ _ r.1, r.2)
        | inl w ↦ inl (omega (arith, ints, z, w))
      ]
    ]

-- two differences from 0 to one less than their bounds
pub record IsPassed (d e x y : ℤ) : Type 0 where
  pub x_low : pos 0 ≤ℤ x
  pub x_high : (x +ℤ pos 1) ≤ℤ d
  pub y_low : pos 0 ≤ℤ y
  pub y_high : (y +ℤ pos 1) ≤ℤ e

module _ (d e : ℤ) (x y : ℕ × ℕ → ℤ) (label : ℕ × ℕ → Option Label) (cs : List (ℕ × ℕ)) (first : pos 1 ≤ℤ d) (second : pos 1 ≤ℤ e) where
  -- between two corners of a cell the differences change by less than the margins
  abbrev pub IsSlow : Type 0
  IsSlow = (c p q : ℕ × ℕ) → has cs c ≡ true → IsCornerOf c p → IsCornerOf c q → IsNear d (x p) (x q) × IsNear e (y p) (y q)

  abbrev colour : ℕ × ℕ → Colour
  colour p = colour_of d e (label p) (x p) (y p)

  abbrev Close : Edge → Type 0
  Close s = IsNear d (x s.from) (x s.to)

  abbrev Said : ℕ × ℕ → Type 0
  Said p = IsSomeAnd (label p) (λ l. SaysOf d e l (x p) (y p))

  close-boundary : IsSlow → AllByRecursion Close (boundary cs)
  close-boundary slow = all-weaker (IsSide cs) Close (boundary cs) (λ s h. (slow h.cell s.from s.to h.in_cells h.from h.to).0) (boundary-sides cs)

  degree_is : IsSlow → IsApart cs → All (λ s. Said s.from × Said s.to) (boundary cs) → degree_of cs label ≡ signed_sum (ring (λ p q. step (colour p) (colour q))) cs
  degree_is slow apart said =
      sym (turns-count label (boundary cs))
      ∙ signed_sum-same_each _ _ (boundary cs)
      (all-both (λ s. Said s.from × Said s.to) Close _ (boundary cs)
      (λ s l k. turn_colours d e (label s.from) (label s.to) (x s.from) (y s.from) (x s.to) (y s.to) first l.0 l.1 k)
      (recursion_from_All (λ s. Said s.from × Said s.to) (boundary cs) said) (close-boundary slow))
      ∙ boundary_is (λ p q. step (colour p) (colour q)) (λ p q. step_turns (colour p) (colour q)) cs apart

  -- the corner of colour 0 of a cell with all three
  abbrev Found : ℕ × ℕ → Type 0
  Found c = (p : ℕ × ℕ) × IsCornerOf c p × IsPassed d e (x p) (y p)

  cell-law : IsSlow → (c : ℕ × ℕ) → has cs c ≡ true → (ring (λ p q. step (colour p) (colour q)) c ≡ pos 0) ⊎ Found c
  cell-law slow c h =
      elim (all_three colour c) [
        | inl z ↦ inl z
        | inr t ↦ inr (found t.0.0 t.1.0 t.2.0 t.0.1 t.1.1 t.2.1 t.0.2 t.1.2 t.2.2)
      ]
    where
      meant : (p : ℕ × ℕ) (k : Colour) → colour p ≡ k → IsMeant d e k (x p) (y p)
      meant p k h = subst (λ (a : Colour). IsMeant d e a (x p) (y p)) h (colour-meant d e (label p) (x p) (y p) first second)

      found : (p q r : ℕ × ℕ) → IsCornerOf c p → IsCornerOf c q → IsCornerOf c r → colour p ≡ Zero → colour q ≡ One → colour r ≡ Two → Found c
      found p q r i j k none left down =
          let west = meant q One left in
          let south = meant r Two down in
          let near_x = (slow c p q h i j).0 in
          let near_y = (slow c p r h i k).1 in
          let x_high : (x p +ℤ pos 1) ≤ℤ d = omega (arith, ints, west, near_x) in
          let y_high : (y p +ℤ pos 1) ≤ℤ e = omega (arith, ints, south, near_y) in
          let low = meant p Zero none x_high y_high in
          (p, i, record { x_low = low.0; x_high = x_high; y_low = low.1; y_high = y_high })

  pub passes : IsSlow → IsApart cs → All (λ s. Said s.from × Said s.to) (boundary cs) → (degree_of cs label ≡ pos 0 → ⊥) → (c : ℕ × ℕ) × (has cs c ≡ true) × Found c
  passes slow apart said some =
      elim (zero-or (ring (λ p q. step (colour p) (colour q))) Found cs (cell-law slow)) [
        | inr r ↦ r
        | inl z ↦ absurd (some (degree_is slow apart said ∙ z))
      ]
