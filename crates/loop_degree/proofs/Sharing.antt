-- What two lists of pairs share gives one sum from either side.
use Rattle.std.proofs.Common.{◌≡◌, ℕ, Bool, true, false, cond, ◌||◌, List, [], ◌∷◌, ℤ, pos, ◌+ℤ◌, arith, refl, ap, ◌∙◌, subst}
use Rattle.std.proofs.lemmas.Int.{ints}
use Rattle.std.proofs.lemmas.Bool.{eqb-true, eq-eqb, and_parts}
use Rattle.loop_degree.specs.Pairs.{is_same, has}
use Rattle.loop_degree.proofs.Sums.{signed_sum, signed_sum-same, signed_sum-plus, signed_sum-zero}

-- no pair stands twice
abbrev pub IsApart : List (ℕ × ℕ) → Type 0
IsApart [] = Unit {0}
IsApart (p ∷ ps) = (has ps p ≡ false) × IsApart ps

-- pairs that pass the test of sameness are the same
pub same_pair : (p q : ℕ × ℕ) → is_same p q ≡ true → p ≡ q
same_pair p q h =
    let parts = and_parts _ _ h in
    let e = eqb-true p.0 q.0 parts.0 in
    let d = eqb-true p.1 q.1 parts.1 in
    ap (λ (a : ℕ). let r : ℕ × ℕ = (a, p.1) in r) e ∙ ap (λ (b : ℕ). let r : ℕ × ℕ = (q.0, b) in r) d

pub is_same-self : (p : ℕ × ℕ) → is_same p p ≡ true
is_same-self p = rw (eq-eqb p.0 p.0 refl, eq-eqb p.1 p.1 refl) refl

pub is_same-sym : (p q : ℕ × ℕ) → is_same p q ≡ is_same q p
is_same-sym p q = at (is_same p q) (is_same q p) refl refl
  where
    at : (b c : Bool) → is_same p q ≡ b → is_same q p ≡ c → b ≡ c
    at true true e d = refl
    at false false e d = refl
    at true false e d = let s = same_pair p q e in let t = subst (λ (r : ℕ × ℕ). is_same r p ≡ true) s (is_same-self p) in cc
    at false true e d = let s = same_pair q p d in let t = subst (λ (r : ℕ × ℕ). is_same r q ≡ true) s (is_same-self q) in cc

pick-step : (b h : Bool) (x p rest : ℤ) → (b ≡ true → (x ≡ p) × (h ≡ false)) → rest ≡ cond h p (pos 0) → cond b x (pos 0) +ℤ rest ≡ cond (b || h) p (pos 0)
pick-step true true x p rest e r = let f = (e refl).1 in cc
pick-step true false x p rest e r = let f = (e refl).0 in omega (arith, ints)
pick-step false h x p rest e r = omega (arith, ints)

module _ (g : ℕ × ℕ → ℤ) where
  -- a list has a pair once at most
  pub signed_sum-pick : (xs : List (ℕ × ℕ)) (p : ℕ × ℕ) → IsApart xs → signed_sum (λ x. cond (is_same x p) (g x) (pos 0)) xs ≡ cond (has xs p) (g p) (pos 0)
  signed_sum-pick [] p a = refl
  signed_sum-pick (x ∷ xs) p a =
      pick-step (is_same x p) (has xs p) (g x) (g p) _ (λ e. let s = same_pair x p e in (ap g s, subst (λ (r : ℕ × ℕ). has xs r ≡ false) s a.0)) (signed_sum-pick xs p a.1)

  split-step : (b h : Bool) (x : ℤ) → (b ≡ true → h ≡ false) → cond (b || h) x (pos 0) ≡ cond b x (pos 0) +ℤ cond h x (pos 0)
  split-step true true x e = let f = e refl in cc
  split-step true false x e = omega (arith, ints)
  split-step false h x e = omega (arith, ints)

  pub signed_sum-shared : (xs ys : List (ℕ × ℕ)) → IsApart xs → IsApart ys → signed_sum (λ x. cond (has ys x) (g x) (pos 0)) xs ≡ signed_sum (λ y. cond (has xs y) (g y) (pos 0)) ys
  signed_sum-shared xs [] a b = signed_sum-zero xs
  signed_sum-shared xs (y ∷ ys) a b =
      signed_sum-same (λ x. cond (is_same y x || has ys x) (g x) (pos 0)) (λ x. cond (is_same x y) (g x) (pos 0) +ℤ cond (has ys x) (g x) (pos 0)) xs each
      ∙ signed_sum-plus (λ x. cond (is_same x y) (g x) (pos 0)) (λ x. cond (has ys x) (g x) (pos 0)) xs
      ∙ plus _ _ _ _ (signed_sum-pick xs y a) (signed_sum-shared xs ys a b.1)
    where
      each : (x : ℕ × ℕ) → cond (is_same y x || has ys x) (g x) (pos 0) ≡ cond (is_same x y) (g x) (pos 0) +ℤ cond (has ys x) (g x) (pos 0)
      each x =
          rw (is_same-sym x y)
          (split-step (is_same y x) (has ys x) (g x) (λ e. subst (λ (r : ℕ × ℕ). has ys r ≡ false) (same_pair y x e) b.0))

      plus : (p q r s : ℤ) → p ≡ q → r ≡ s → p +ℤ r ≡ q +ℤ s
      plus p q r s e d = cc
