-- Ways of a relation.
use Rattle.std.proofs.Common.{◌≡◌, ℕ, zero, suc, ◌⊎◌, inl, inr, refl, sym, subst}
use Rattle.disjoint_sets.specs.Ways.{Way, Joined, Maps}

way-then : (T : ℕ → ℕ → Type 0) (n m i j k : ℕ) → Way T n i j → Way T m j k → Joined T i k
way-then T zero m i j k p q = (m, subst (λ (x : ℕ). Way T m x k) (sym p) q)
way-then T (suc n) m i j k p q = let r = way-then T n m p.0 j k p.2 q in (suc r.0, (p.0, p.1, r.1))

pub joined-then : (T : ℕ → ℕ → Type 0) (i j k : ℕ) → Joined T i j → Joined T j k → Joined T i k
joined-then T i j k p q = way-then T p.0 q.0 i j k p.1 q.1

flip : (A B : Type 0) → A ⊎ B → B ⊎ A
flip A B (inl a) = inr a
flip A B (inr b) = inl b

way-back : (T : ℕ → ℕ → Type 0) (n i j : ℕ) → Way T n i j → Joined T j i
way-back T zero i j p = (0, sym p)
way-back T (suc n) i j p =
    let r = way-back T n p.0 j p.2 in
    let one : Way T 1 p.0 i = (i, flip (T i p.0) (T p.0 i) p.1, refl) in
    way-then T r.0 1 j p.0 i r.1 one

pub joined-back : (T : ℕ → ℕ → Type 0) (i j : ℕ) → Joined T i j → Joined T j i
joined-back T i j p = way-back T p.0 i j p.1

pub joined-self : (T : ℕ → ℕ → Type 0) (i j : ℕ) → i ≡ j → Joined T i j
joined-self T i j e = (0, e)

pub joined-step : (T : ℕ → ℕ → Type 0) (i j : ℕ) → T i j → Joined T i j
joined-step T i j t = (1, (j, inl t, refl))

-- each step of the one relation is a way of the other
way-map : (S T : ℕ → ℕ → Type 0) → Maps S T → (n i j : ℕ) → Way S n i j → Joined T i j
way-map S T h zero i j p = (0, p)
way-map S T h (suc n) i j p = joined-then T i p.0 j (at p.1) (way-map S T h n p.0 j p.2)
  where
    at : S i p.0 ⊎ S p.0 i → Joined T i p.0
    at (inl s) = h i p.0 s
    at (inr s) = joined-back T p.0 i (h p.0 i s)

pub joined-map : (S T : ℕ → ℕ → Type 0) → Maps S T → (i j : ℕ) → Joined S i j → Joined T i j
joined-map S T h i j p = way-map S T h p.0 i j p.1
