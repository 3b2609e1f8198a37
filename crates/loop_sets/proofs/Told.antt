-- What the sum of the turns says of labelled boundaries.
use Rattle.std.proofs.Common.{◌≡◌, ℕ, Option, Some, None, List, [], ◌∷◌, ℤ, ◌+ℤ◌, refl, ap, ◌∙◌, IsSome}
use Rattle.std.specs.List.{AllByRecursion}
use Rattle.std.specs.Option.{MatchOption}
use Rattle.loop_degree.specs.declared.labels.Label.{Label}
use Rattle.loop_degree.specs.Cells.{Edge, boundary}
use Rattle.loop_degree.specs.Labels.{degree_of}
use Rattle.loop_degree.specs.Boundary.{turn, turn_option, add_option}
use Rattle.loop_degree.proofs.Sums.{signed_sum}
use Rattle.loop_degree.proofs.Turns.{turn_at, turns-count}
use Rattle.loop_sets.specs.Turns.{turns_along}

module _ (label : ℕ × ℕ → Option Label) where
  -- both ends of an edge have a label
  abbrev pub AreLabelled : Edge → Type 0
  AreLabelled e = IsSome (label e.from) × IsSome (label e.to)

  -- The sum is there exactly where each end has a label.
  abbrev IsSumOf : List Edge → Option ℤ → Type 0
  IsSumOf es r = MatchOption r (AllByRecursion AreLabelled es → ⊥) (λ d. AllByRecursion AreLabelled es × (d ≡ signed_sum (λ e. turn_at (label e.from) (label e.to)) es))

  sum-step : (l m : Option Label) (es : List Edge) (r : Option ℤ) → IsSumOf es r
      → MatchOption (add_option (turn_option l m) r) (((IsSome l × IsSome m) × AllByRecursion AreLabelled es) → ⊥) (λ d. ((IsSome l × IsSome m) × AllByRecursion AreLabelled es) × (d ≡ turn_at l m +ℤ signed_sum (λ e. turn_at (label e.from) (label e.to)) es))
  sum-step None m es r h = λ k. absurd (let bad = k.0.0 in cc)
  sum-step (Some l) None es r h = λ k. absurd (let bad = k.0.1 in cc)
  sum-step (Some l) (Some m) es None h = λ k. h k.1
  sum-step (Some l) (Some m) es (Some d) h = (((refl, refl), h.0), ap (λ (z : ℤ). turn l m +ℤ z) h.1)

  sum-is : (es : List Edge) → IsSumOf es (turns_along label es)
  sum-is [] = (tt, refl)
  sum-is (e ∷ es) = sum-step (label e.from) (label e.to) es (turns_along label es) (sum-is es)

  -- What the sum along a boundary is: nothing where an end has no label, and else the degree.
  pub told : (cells : List (ℕ × ℕ)) → MatchOption (turns_along label (boundary cells)) (AllByRecursion AreLabelled (boundary cells) → ⊥) (λ d. AllByRecursion AreLabelled (boundary cells) × (d ≡ degree_of cells label))
  told cells = at (turns_along label (boundary cells)) (sum-is (boundary cells))
    where
      at : (r : Option ℤ) → IsSumOf (boundary cells) r → MatchOption r (AllByRecursion AreLabelled (boundary cells) → ⊥) (λ d. AllByRecursion AreLabelled (boundary cells) × (d ≡ degree_of cells label))
      at None f = f
      at (Some d) f = (f.0, f.1 ∙ turns-count label (boundary cells))
