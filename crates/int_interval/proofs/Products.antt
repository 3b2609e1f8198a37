-- Products of whole numbers, and products that fit.
use Rattle.std.proofs.Common.{◌≡◌, refl, arith, ◌*ℤ◌, neg_ℤ, ◌≤ℤ◌, zero, suc, ℤ, pos, negsuc, SFits, w64, to_z, of_z, inl, inr, ◌⊎◌}
use Rattle.std.specs.Int.{int_min, int_max}
use Rattle.std.proofs.lemmas.Int.{ints, clamps, to_z-of_z}
use Rattle.std.proofs.Common.{Option, Some, None, IsSome, ◌↔◌, ap₂, ◌∙◌}
use borrow.Author.Differences.{product_is}
use Rattle.tube_spec.specs.Span.{Span, IsBounded, IsProper, Holds, scale_of, join_of}
use Rattle.tube_spec.proofs.Spans.{scaled-mono, same_span}

pub product_read : (f x y : ℤ) → SFits w64 f → SFits w64 x → x ≡ y → SFits w64 (f *ℤ y) → to_z w64 (of_z w64 (to_z w64 (of_z w64 f) *ℤ to_z w64 (of_z w64 x))) ≡ f *ℤ y
product_read f x y p q e r = rw (to_z-of_z w64 f p, to_z-of_z w64 x q, e, to_z-of_z w64 (f *ℤ y) r) refl

within_min_max : (a b : ℤ) → IsBounded 4000000000000000000 (record { lo = int_min a b; hi = int_max a b }) → IsBounded 4000000000000000000 (record { lo = a; hi = a }) × IsBounded 4000000000000000000 (record { lo = b; hi = b })
within_min_max a b h = (record { low = omega (arith, ints, clamps, h); high = omega (arith, ints, clamps, h) }, record { low = omega (arith, ints, clamps, h); high = omega (arith, ints, clamps, h) })

pub bounded_fits : (a : ℤ) → IsBounded 4000000000000000000 (record { lo = a; hi = a }) → SFits w64 a
bounded_fits (pos n) h = record { sfits = omega (arith, ints, h) }
bounded_fits (negsuc n) h = record { sfits = omega (arith, ints, h) }

pub left_fits : (a b : ℤ) → IsBounded 4000000000000000000 (record { lo = int_min a b; hi = int_max a b }) → SFits w64 a
left_fits a b h = bounded_fits a (within_min_max a b h).0

pub right_fits : (a b : ℤ) → IsBounded 4000000000000000000 (record { lo = int_min a b; hi = int_max a b }) → SFits w64 b
right_fits a b h = bounded_fits b (within_min_max a b h).1

-- a product with a factor that is not negative keeps the order, and with one that is not positive turns it round
pub product-mono : (k x y : ℤ) → pos 0 ≤ℤ k → x ≤ℤ y → (k *ℤ x) ≤ℤ (k *ℤ y)
product-mono (pos n) x y h l = scaled-mono n x y l
product-mono (negsuc n) x y h l = absurd (omega (arith, ints, h))

pub product-anti : (k x y : ℤ) → k ≤ℤ pos 0 → x ≤ℤ y → (k *ℤ y) ≤ℤ (k *ℤ x)
product-anti (pos zero) x y h l = omega (arith, ints, product_is)
product-anti (pos (suc n)) x y h l = absurd (omega (arith, ints, h))
product-anti (negsuc n) x y h l = omega (arith, ints, product_is, scaled-mono (suc n) x y l)

pub signs : (k : ℤ) → (pos 0 ≤ℤ k) ⊎ (k ≤ℤ pos 0)
signs (pos n) = inl (omega (arith, ints))
signs (negsuc n) = inr (omega (arith, ints))

pub neg-product : (k x : ℤ) → neg_ℤ k *ℤ x ≡ neg_ℤ (k *ℤ x)
neg-product (pos zero) x = omega (arith, ints, product_is)
neg-product (pos (suc n)) x = omega (arith, ints, product_is)
neg-product (negsuc n) x = omega (arith, ints, product_is)

pub product-neg : (k x : ℤ) → k *ℤ neg_ℤ x ≡ neg_ℤ (k *ℤ x)
product-neg k (pos zero) = omega (arith, ints, product_is)
product-neg k (pos (suc n)) = omega (arith, ints, product_is)
product-neg k (negsuc n) = omega (arith, ints, product_is)

-- the products of one number with the members of a span lie between those with its ends
pub scale-holds : (k p : ℤ) (b : Span) → Holds b p → Holds (scale_of k b) (k *ℤ p)
scale-holds k p b h = elim (signs k) [
  | inl s ↦ let l = product-mono k b.lo p s h.low in let r = product-mono k p b.hi s h.high in record { low = omega (arith, ints, clamps, l, r); high = omega (arith, ints, clamps, l, r) }
  | inr s ↦ let l = product-anti k b.lo p s h.low in let r = product-anti k p b.hi s h.high in record { low = omega (arith, ints, clamps, l, r); high = omega (arith, ints, clamps, l, r) }
]

-- what the code's products and bounds are, in whole numbers
pub read_product : (f x u v r : ℤ) → SFits w64 f → SFits w64 x → f ≡ u → x ≡ v → r ≡ to_z w64 (of_z w64 f) *ℤ to_z w64 (of_z w64 x) → r ≡ u *ℤ v
read_product f x u v r p q a b e = e ∙ ap₂ (λ (y z : ℤ). y *ℤ z) (to_z-of_z w64 f p ∙ a) (to_z-of_z w64 x q ∙ b)

pub read_bounds : (low high u v least greatest : ℤ) → SFits w64 low → SFits w64 high → SFits w64 least → SFits w64 greatest → low ≡ u → high ≡ v
    → least ≡ int_min (to_z w64 (of_z w64 low)) (to_z w64 (of_z w64 high)) → greatest ≡ int_max (to_z w64 (of_z w64 low)) (to_z w64 (of_z w64 high))
    → ◌≡◌ {A = Span} (record { lo = to_z w64 (of_z w64 least); hi = to_z w64 (of_z w64 greatest) }) (record { lo = int_min u v; hi = int_max u v })
read_bounds low high u v least greatest p q r s a b e g =
    same_span _ _ (to_z-of_z w64 least r ∙ e ∙ ap₂ int_min (to_z-of_z w64 low p ∙ a) (to_z-of_z w64 high q ∙ b)) (to_z-of_z w64 greatest s ∙ g ∙ ap₂ int_max (to_z-of_z w64 low p ∙ a) (to_z-of_z w64 high q ∙ b))

-- where the bounds are in order, an interval exists where they are within the bound
pub exists-bounded : (A : Type 0) (s : Span) → IsProper s → A ↔ (IsProper s × IsBounded 4000000000000000000 s) → A ↔ IsBounded 4000000000000000000 s
exists-bounded A s h e = (λ a. (e.0 a).1, λ b. e.1 (h, b))

pub none-exists : {X : Type 0} (P : Type 0) (o : Option X) → o ≡ None → (P → ⊥) → IsSome o ↔ P
none-exists P None e n = (λ s. absurd (cc), λ p. absurd (n p))
none-exists P (Some x) e n = absurd (cc)

pub some-exists : {X : Type 0} (P : Type 0) (x : X) → P → IsSome (Some x) ↔ P
some-exists P x h = (λ s. h, λ p. refl)

pub ends_fit : (s : Span) → IsProper s → IsBounded 4000000000000000000 s → SFits w64 s.lo × SFits w64 s.hi
ends_fit s h b = (bounded_fits s.lo (record { low = b.low; high = omega (arith, ints, h, b) }), bounded_fits s.hi (record { low = omega (arith, ints, h, b); high = b.high }))

pub join-bounded : (a b : Span) → IsBounded 4000000000000000000 a → IsBounded 4000000000000000000 b → IsBounded 4000000000000000000 (join_of a b)
join-bounded a b h k = record { low = omega (arith, ints, clamps, h, k); high = omega (arith, ints, clamps, h, k) }

pub bounded-joined : (a b : Span) → IsBounded 4000000000000000000 (join_of a b) → IsProper a → IsProper b → IsBounded 4000000000000000000 a × IsBounded 4000000000000000000 b
bounded-joined a b h p q = (record { low = omega (arith, ints, clamps, h, p, q); high = omega (arith, ints, clamps, h, p, q) }, record { low = omega (arith, ints, clamps, h, p, q); high = omega (arith, ints, clamps, h, p, q) })

pub scale-proper : (k : ℤ) (a : Span) → IsProper (scale_of k a)
scale-proper k a = omega (arith, ints, clamps)
