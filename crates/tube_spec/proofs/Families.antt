-- Hulls of the spans of a family over a range of places.
use Rattle.std.proofs.Common.{◌≡◌, ℕ, zero, suc, ◌+◌, ◌≤◌, ◌⊎◌, inl, inr, arith, sym, subst, add-zero}
use Rattle.tube_spec.specs.Span.{Span, IsWithin}
use Rattle.tube_spec.specs.Tick.{join_over}
use Rattle.tube_spec.proofs.Spans.{IsWithin-refl, IsWithin-trans, join-left, join-right, join-least}

-- each span of a family lies within the hull of those over a range that holds it
pub join_over-holds : (f : ℕ → Span) (a n k : ℕ) → k ≤ n → IsWithin (f (a + k)) (join_over f a n)
join_over-holds f a zero k h = let e : a + k ≡ a = omega arith in subst (λ (t : ℕ). IsWithin (f t) (f a)) (sym e) (IsWithin-refl (f a))
join_over-holds f a (suc n) k h =
    elim (last k n h) [
      | inl l ↦ IsWithin-trans (f (a + k)) (join_over f a n) (join_over f a (suc n)) (join_over-holds f a n k l) (join-left (join_over f a n) (f (a + suc n)))
      | inr e ↦ subst (λ (j : ℕ). IsWithin (f (a + j)) (join_over f a (suc n))) (sym e) (join-right (join_over f a n) (f (a + suc n)))
    ]
  where
    last : (k n : ℕ) → k ≤ suc n → (k ≤ n) ⊎ (k ≡ suc n)
    last k n h = grind arith

-- and that hull is the least
pub join_over-least : (f : ℕ → Span) (a n : ℕ) (t : Span) → ((k : ℕ) → k ≤ n → IsWithin (f (a + k)) t) → IsWithin (join_over f a n) t
join_over-least f a zero t h = subst (λ (k : ℕ). IsWithin (f k) t) (add-zero a) (h 0 (omega arith))
join_over-least f a (suc n) t h = join-least (join_over f a n) (f (a + suc n)) t (join_over-least f a n t (λ k l. h k (omega (arith, l)))) (h (suc n) (omega arith))
