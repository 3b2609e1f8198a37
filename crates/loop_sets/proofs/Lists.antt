-- Lists of runs, one run more.
use Rattle.std.proofs.Common.{◌≡◌, ℕ, suc, ◌+◌, ◌<◌, ◌≤◌, ◌⊎◌, inl, inr, List, [], ◌∷◌, ◌++◌, arith, ◌↔◌}
use Rattle.tplane_paver.specs.declared.runs.Run.{Run}
use Rattle.tplane_paver.specs.Runs.{InRun, InRuns, AreInOrder}
use Rattle.tplane_paver.proofs.Lists.{some-in, in-some, some-left, some-right, some-cases}

pub split : (x y : ℕ) → (x < y) ⊎ (y ≤ x)
split x y = grind arith

pub below-or-same : (x y : ℕ) → x < y + 1 → (x < y) ⊎ (x ≡ y)
below-or-same x y h = grind arith

pub run-pushed : (xs : List Run) (r : Run) (a b : ℕ) → InRuns (xs ++ r ∷ []) a b → InRuns xs a b ⊎ InRun r a b
run-pushed xs r a b h =
    elim (some-cases xs (r ∷ []) a b (in-some (xs ++ r ∷ []) a b h)) [
      | inl l ↦ inl (some-in xs a b l)
      | inr k ↦ elim k [ inl p ↦ inr p | inr none ↦ absurd none ]
    ]

pub push-run : (xs : List Run) (r : Run) (a b : ℕ) → InRuns xs a b ⊎ InRun r a b → InRuns (xs ++ r ∷ []) a b
push-run xs r a b (inl h) = some-in (xs ++ r ∷ []) a b (some-left xs (r ∷ []) a b (in-some xs a b h))
push-run xs r a b (inr p) = some-in (xs ++ r ∷ []) a b (some-right xs (r ∷ []) a b (inl p))

-- the runs after the first
pub order-tail : (r : Run) (rs : List Run) → AreInOrder (r ∷ rs) → AreInOrder rs
order-tail r rs h = record {
  some = λ i l. h.some (suc i) (omega (arith, l));
  order = λ i j l m. h.order (suc i) (suc j) (omega (arith, l)) (omega (arith, m));
}

pub iff-trans : {P Q R : Type 0} → P ↔ Q → Q ↔ R → P ↔ R
iff-trans f g = (λ p. g.0 (f.0 p), λ r. f.1 (g.1 r))

pub iff-sym : {P Q : Type 0} → P ↔ Q → Q ↔ P
iff-sym f = (f.1, f.0)
