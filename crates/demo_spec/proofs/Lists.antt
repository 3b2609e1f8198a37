-- Lists made piece by piece, and what holds of records one by one.
use Rattle.std.proofs.Common.{◌≡◌, ℕ, suc, zero, ◌+◌, ◌<◌, List, [], ◌∷◌, ◌++◌, refl, sym, ap, subst, ◌∙◌, arith, length, length-append, append_assoc, append-nil, add-one}
use Rattle.std.specs.Prelude.{slice_index_or}
use Rattle.std.proofs.Math.ListN.{get_or-append}
use Rattle.std.proofs.lemmas.List.{get_or-append_right}
use Rattle.demo_spec.specs.Mission.{each_until}

module _ {A : Type 0} (f : ℕ → List A) where
  pub each-none : each_until f 0 ≡ []
  unfolding each_until
  each-none = refl

  pub each-suc : (n : ℕ) → each_until f (suc n) ≡ each_until f n ++ f n
  unfolding each_until
  each-suc n = refl

  pub each-more : (n : ℕ) → each_until f (n + 1) ≡ each_until f n ++ f n
  each-more n = ap (each_until f) (add-one n) ∙ each-suc n

  -- what holds of some list, and stays as pieces come, holds with all of them
  pub each-step : (P : ℕ → List A → Type 0) (first : List A) (n : ℕ) → P 0 first → ((k : ℕ) (xs : List A) → k < n → P k xs → P (suc k) (xs ++ f k)) → P n (first ++ each_until f n)
  each-step P first zero begins steps = subst (P 0) (sym (ap (λ (l : List A). first ++ l) each-none ∙ append-nil first)) begins
  each-step P first (suc n) begins steps =
      subst (P (suc n)) (append_assoc first (each_until f n) (f n) ∙ ap (λ (l : List A). first ++ l) (sym (each-suc n)))
      (steps n (first ++ each_until f n) (omega arith) (each-step P first n begins (λ k xs l h. steps k xs (omega (arith, l)) h)))
