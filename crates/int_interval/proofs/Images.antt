-- Each operation on spans is the exact image, so it holds each value of members, and gives less for less.
use Rattle.std.proofs.Common.{◌≡◌, refl, ◌∙◌, Bool, true, false, cond, Option, None, IfSome, int_lt, int_le, sym, ap, subst, arith, ℤ, pos, ◌+ℤ◌, ◌-ℤ◌, ◌*ℤ◌, neg_ℤ, ◌≤ℤ◌, Some, inl, inr, ◌⊎◌}
use Rattle.std.specs.Int.{int_min, int_max}
use Rattle.std.proofs.lemmas.Int.{ints, clamps}
use Rattle.std.proofs.Math.IntN.{*ℤ_comm}
use Rattle.tube_spec.specs.Span.{Span, IsProper, Holds, IsWithin, meet_of, join_of, add_of, sub_of, scale_of}
use Rattle.tube_spec.specs.Hull.{IsHullOf, proper}
use Rattle.int_interval.specs.Image.{IsImage, IsImageOfTwo, IsMeeting, IsUnion, int_abs, neg_of, abs_of, min_of, max_of, mul_of, sqr_of}
use Rattle.int_interval.proofs.Hulls.{hull-within, holds-within, holds-lo, holds-hi}
use Rattle.int_interval.proofs.Products.{product-mono, signs, neg-product, product-neg, scale-holds}

-- a span is an exact image where its ends are values of members, and it holds each value of a member
module _ (f : ℤ → ℤ) (a s : Span) where
  pub is_image : (p q : ℤ) → Holds a p → f p ≡ s.lo → Holds a q → f q ≡ s.hi → ((p : ℤ) → Holds a p → Holds s (f p)) → IsImage f a s
  unfolding IsImage
  is_image p q hp ep hq eq all = ((p, hp, ep), (q, hq, eq), λ r h. subst (Holds s) h.2 (all h.0 h.1))

  pub image-holds : IsImage f a s → (p : ℤ) → Holds a p → Holds s (f p)
  unfolding IsImage
  image-holds h p hp = h.2 (f p) (p, hp, refl)

module _ (f : ℤ → ℤ → ℤ) (a b s : Span) where
  pub is_image_of_two : (p q x y : ℤ) → Holds a p → Holds b q → f p q ≡ s.lo → Holds a x → Holds b y → f x y ≡ s.hi → ((p q : ℤ) → Holds a p → Holds b q → Holds s (f p q)) → IsImageOfTwo f a b s
  unfolding IsImageOfTwo
  is_image_of_two p q x y hp hq e hx hy g all = ((p, q, hp, hq, e), (x, y, hx, hy, g), λ r h. subst (Holds s) h.4 (all h.0 h.1 h.2 h.3))

  pub image_of_two-holds : IsImageOfTwo f a b s → (p q : ℤ) → Holds a p → Holds b q → Holds s (f p q)
  unfolding IsImageOfTwo
  image_of_two-holds h p q hp hq = h.2 (f p q) (p, q, hp, hq, refl)

-- the images of spans within spans lie within their images
pub image-mono : (f : ℤ → ℤ) (a c s t : Span) → IsWithin a c → IsImage f a s → IsImage f c t → IsWithin s t
unfolding IsImage
image-mono f a c s t w hs ht =
    hull-within (λ r. (p : ℤ) × Holds a p × (f p ≡ r)) (λ r. (p : ℤ) × Holds c p × (f p ≡ r)) (Some s) (Some t) (λ r h. (h.0, holds-within h.0 a c w h.1, h.2)) hs ht

pub image_of_two-mono : (f : ℤ → ℤ → ℤ) (a b c d s t : Span) → IsWithin a c → IsWithin b d → IsImageOfTwo f a b s → IsImageOfTwo f c d t → IsWithin s t
unfolding IsImageOfTwo
image_of_two-mono f a b c d s t v w hs ht =
    hull-within (λ r. (p q : ℤ) × Holds a p × Holds b q × (f p q ≡ r)) (λ r. (p q : ℤ) × Holds c p × Holds d q × (f p q ≡ r)) (Some s) (Some t)
    (λ r h. (h.0, h.1, holds-within h.0 a c v h.2, holds-within h.1 b d w h.3, h.4)) hs ht

pub proper-within : (a b : Span) → IsProper a → IsWithin a b → IsProper b
proper-within a b h w = omega (arith, ints, h, w)

-- what holds of both holds of the lesser, and of the greater
cond-pick : (P : ℤ → Type 0) (b : Bool) (x y : ℤ) → P x → P y → P (cond b x y)
cond-pick P true x y hx hy = hx
cond-pick P false x y hx hy = hy

pub min-pick : (P : ℤ → Type 0) (x y : ℤ) → P x → P y → P (int_min x y)
min-pick P x y hx hy = cond-pick P (int_lt y x) y x hy hx

pub max-pick : (P : ℤ → Type 0) (x y : ℤ) → P x → P y → P (int_max x y)
max-pick P x y hx hy = cond-pick P (int_lt y x) x y hx hy

-- the meeting and the union
pub meeting : (a b : Span) → IsMeeting a b (proper (meet_of a b))
unfolding IsMeeting
meeting a b = at (int_le (meet_of a b).lo (meet_of a b).hi) refl
  where
    at : (t : Bool) → int_le (meet_of a b).lo (meet_of a b).hi ≡ t → IsHullOf (λ p. Holds a p × Holds b p) (cond t (Some (meet_of a b)) None)
    at true e = (
      (record { low = grind (arith, ints, clamps, e); high = grind (arith, ints, clamps, e) }, record { low = grind (arith, ints, clamps, e); high = grind (arith, ints, clamps, e) }),
      (record { low = grind (arith, ints, clamps, e); high = grind (arith, ints, clamps, e) }, record { low = grind (arith, ints, clamps, e); high = grind (arith, ints, clamps, e) }),
      λ p h. record { low = omega (arith, ints, clamps, h.0, h.1); high = omega (arith, ints, clamps, h.0, h.1) },
    )
    at false e = λ p h. absurd (grind (arith, ints, clamps, e, h))

pub union : (a b : Span) → IsProper a → IsProper b → IsUnion a b (join_of a b)
unfolding IsUnion
union a b ha hb =
    let P : ℤ → Type 0 = λ p. Holds a p ⊎ Holds b p in
    (min-pick P a.lo b.lo (inl (holds-lo a ha)) (inr (holds-lo b hb)), max-pick P a.hi b.hi (inl (holds-hi a ha)) (inr (holds-hi b hb)), all)
  where
    all : (p : ℤ) → Holds a p ⊎ Holds b p → Holds (join_of a b) p
    all p (inl h) = record { low = omega (arith, ints, clamps, h); high = omega (arith, ints, clamps, h) }
    all p (inr h) = record { low = omega (arith, ints, clamps, h); high = omega (arith, ints, clamps, h) }

-- sums and differences
pub add-image : (a b : Span) → IsProper a → IsProper b → IsImageOfTwo (λ p q. p +ℤ q) a b (add_of a b)
add-image a b ha hb =
    is_image_of_two (λ (p q : ℤ). p +ℤ q) a b (add_of a b) a.lo b.lo a.hi b.hi (holds-lo a ha) (holds-lo b hb) refl (holds-hi a ha) (holds-hi b hb) refl
    (λ p q h k. record { low = omega (arith, ints, h, k); high = omega (arith, ints, h, k) })

pub sub-image : (a b : Span) → IsProper a → IsProper b → IsImageOfTwo (λ p q. p -ℤ q) a b (sub_of a b)
sub-image a b ha hb =
    is_image_of_two (λ (p q : ℤ). p -ℤ q) a b (sub_of a b) a.lo b.hi a.hi b.lo (holds-lo a ha) (holds-hi b hb) refl (holds-hi a ha) (holds-lo b hb) refl
    (λ p q h k. record { low = omega (arith, ints, h, k); high = omega (arith, ints, h, k) })

-- opposites
pub neg-image : (a : Span) → IsProper a → IsImage neg_ℤ a (neg_of a)
neg-image a ha = is_image neg_ℤ a (neg_of a) a.hi a.lo (holds-hi a ha) refl (holds-lo a ha) refl (λ p h. record { low = omega (arith, ints, h); high = omega (arith, ints, h) })

-- the products with one number
pub scale-image : (k : ℤ) (a : Span) → IsProper a → IsImage (λ p. k *ℤ p) a (scale_of k a)
unfolding IsImage
scale-image k a ha =
    let P : ℤ → Type 0 = λ r. (p : ℤ) × Holds a p × (k *ℤ p ≡ r) in
    let lo : P (k *ℤ a.lo) = (a.lo, holds-lo a ha, refl) in
    let hi : P (k *ℤ a.hi) = (a.hi, holds-hi a ha, refl) in
    (min-pick P (k *ℤ a.lo) (k *ℤ a.hi) lo hi, max-pick P (k *ℤ a.lo) (k *ℤ a.hi) lo hi, λ r h. subst (Holds (scale_of k a)) h.2 (scale-holds k h.0 a h.1))

-- the lesser and the greater of two members
pub min-image : (a b : Span) → IsProper a → IsProper b → IsImageOfTwo int_min a b (min_of a b)
min-image a b ha hb =
    is_image_of_two int_min a b (min_of a b) a.lo b.lo a.hi b.hi (holds-lo a ha) (holds-lo b hb) refl (holds-hi a ha) (holds-hi b hb) refl
    (λ p q h k. record { low = omega (arith, ints, clamps, h, k); high = omega (arith, ints, clamps, h, k) })

pub max-image : (a b : Span) → IsProper a → IsProper b → IsImageOfTwo int_max a b (max_of a b)
max-image a b ha hb =
    is_image_of_two int_max a b (max_of a b) a.lo b.lo a.hi b.hi (holds-lo a ha) (holds-lo b hb) refl (holds-hi a ha) (holds-hi b hb) refl
    (λ p q h k. record { low = omega (arith, ints, clamps, h, k); high = omega (arith, ints, clamps, h, k) })

-- absolute values
pub abs-holds : (a : Span) (p : ℤ) → Holds a p → Holds (abs_of a) (int_abs p)
abs-holds a p h = record { low = omega (arith, ints, clamps, h); high = omega (arith, ints, clamps, h) }

pub abs-image : (a : Span) → IsProper a → IsImage int_abs a (abs_of a)
abs-image a ha = elim (signs a.lo) [
  | inl s ↦ is_image int_abs a (abs_of a) a.lo a.hi (holds-lo a ha) (omega (arith, ints, clamps, s, ha)) (holds-hi a ha) (omega (arith, ints, clamps, s, ha)) (abs-holds a)
  | inr s ↦ elim (signs a.hi) [
    | inr t ↦ is_image int_abs a (abs_of a) a.hi a.lo (holds-hi a ha) (omega (arith, ints, clamps, t, ha)) (holds-lo a ha) (omega (arith, ints, clamps, t, ha)) (abs-holds a)
    | inl t ↦
        let zero : Holds a (pos 0) = record { low = s; high = t } in
        elim (signs (a.hi +ℤ a.lo)) [
          | inl u ↦ is_image int_abs a (abs_of a) (pos 0) a.hi zero (omega (arith, ints, clamps, s, t)) (holds-hi a ha) (omega (arith, ints, clamps, t, u)) (abs-holds a)
          | inr u ↦ is_image int_abs a (abs_of a) (pos 0) a.lo zero (omega (arith, ints, clamps, s, t)) (holds-lo a ha) (omega (arith, ints, clamps, s, u)) (abs-holds a)
        ]
  ]
]

-- products
between-joined : (u v r : ℤ) (s t : Span) → int_min u v ≤ℤ r → r ≤ℤ int_max u v → Holds s u → Holds t v → Holds (join_of s t) r
between-joined u v r s t l h hu hv = record { low = omega (arith, ints, clamps, l, hu, hv); high = omega (arith, ints, clamps, h, hu, hv) }

pub mul-holds : (a b : Span) (p q : ℤ) → Holds a p → Holds b q → Holds (mul_of a b) (p *ℤ q)
mul-holds a b p q hp hq =
    let line = scale-holds q p a hp in
    let lo : Holds (scale_of a.lo b) (q *ℤ a.lo) = subst (Holds (scale_of a.lo b)) (*ℤ_comm a.lo q) (scale-holds a.lo q b hq) in
    let hi : Holds (scale_of a.hi b) (q *ℤ a.hi) = subst (Holds (scale_of a.hi b)) (*ℤ_comm a.hi q) (scale-holds a.hi q b hq) in
    subst (Holds (mul_of a b)) (*ℤ_comm q p) (between-joined (q *ℤ a.lo) (q *ℤ a.hi) (q *ℤ p) (scale_of a.lo b) (scale_of a.hi b) line.low line.high lo hi)

pub mul-image : (a b : Span) → IsProper a → IsProper b → IsImageOfTwo (λ p q. p *ℤ q) a b (mul_of a b)
unfolding IsImageOfTwo
mul-image a b ha hb =
    let P : ℤ → Type 0 = λ r. (p q : ℤ) × Holds a p × Holds b q × (p *ℤ q ≡ r) in
    let ll : P (a.lo *ℤ b.lo) = (a.lo, b.lo, holds-lo a ha, holds-lo b hb, refl) in
    let lh : P (a.lo *ℤ b.hi) = (a.lo, b.hi, holds-lo a ha, holds-hi b hb, refl) in
    let hl : P (a.hi *ℤ b.lo) = (a.hi, b.lo, holds-hi a ha, holds-lo b hb, refl) in
    let hh : P (a.hi *ℤ b.hi) = (a.hi, b.hi, holds-hi a ha, holds-hi b hb, refl) in (
      min-pick P (scale_of a.lo b).lo (scale_of a.hi b).lo (min-pick P (a.lo *ℤ b.lo) (a.lo *ℤ b.hi) ll lh) (min-pick P (a.hi *ℤ b.lo) (a.hi *ℤ b.hi) hl hh),
      max-pick P (scale_of a.lo b).hi (scale_of a.hi b).hi (max-pick P (a.lo *ℤ b.lo) (a.lo *ℤ b.hi) ll lh) (max-pick P (a.hi *ℤ b.lo) (a.hi *ℤ b.hi) hl hh),
      λ r h. subst (Holds (mul_of a b)) h.4 (mul-holds a b h.0 h.1 h.2 h.3),
    )

-- squares
pub square-mono : (x y : ℤ) → pos 0 ≤ℤ x → x ≤ℤ y → (x *ℤ x) ≤ℤ (y *ℤ y)
square-mono x y h l =
    let one = product-mono x x y h l in
    let two = product-mono y x y (omega (arith, ints, h, l)) l in
    let same = *ℤ_comm x y in
    omega (arith, ints, one, two, same)

pub square-neg : (p : ℤ) → neg_ℤ p *ℤ neg_ℤ p ≡ p *ℤ p
square-neg p = omega (arith, ints, neg-product p (neg_ℤ p), product-neg p p)

pub square-abs : (p : ℤ) → int_abs p *ℤ int_abs p ≡ p *ℤ p
square-abs p = max-pick (λ x. x *ℤ x ≡ p *ℤ p) p (neg_ℤ p) refl (square-neg p)

abs-least : (a : Span) → pos 0 ≤ℤ (abs_of a).lo
abs-least a = omega (arith, ints, clamps)

abs-positive : (p : ℤ) → pos 0 ≤ℤ int_abs p
abs-positive p = omega (arith, ints, clamps)

pub sqr-holds : (a : Span) (p : ℤ) → Holds a p → Holds (sqr_of a) (p *ℤ p)
sqr-holds a p h =
    let inside = abs-holds a p h in
    subst (Holds (sqr_of a)) (square-abs p) (record { low = square-mono (abs_of a).lo (int_abs p) (abs-least a) inside.low; high = square-mono (int_abs p) (abs_of a).hi (abs-positive p) inside.high })

pub sqr-image : (a : Span) → IsProper a → IsImage (λ p. p *ℤ p) a (sqr_of a)
unfolding IsImage
sqr-image a ha =
    let h = abs-image a ha in
    let square : (r : ℤ) → (p : ℤ) × Holds a p × (int_abs p ≡ r) → (p : ℤ) × Holds a p × (p *ℤ p ≡ r *ℤ r) = λ r w. (w.0, w.1, sym (square-abs w.0) ∙ ap (λ (x : ℤ). x *ℤ x) w.2) in
    (square (abs_of a).lo h.0, square (abs_of a).hi h.1, λ r w. subst (Holds (sqr_of a)) w.2 (sqr-holds a w.0 w.1))

-- what the calls' proofs cite: an equal span is the image too
pub image-same : (f : ℤ → ℤ) (a s t : Span) → s ≡ t → IsImage f a t → IsImage f a s
image-same f a s t e h = subst (IsImage f a) (sym e) h

pub image_of_two-same : (f : ℤ → ℤ → ℤ) (a b s t : Span) → s ≡ t → IsImageOfTwo f a b t → IsImageOfTwo f a b s
image_of_two-same f a b s t e h = subst (IsImageOfTwo f a b) (sym e) h

pub union-same : (a b s : Span) → s ≡ join_of a b → IsProper a → IsProper b → IsUnion a b s
union-same a b s e ha hb = subst (IsUnion a b) (sym e) (union a b ha hb)

pub meeting-some : (a b s : Span) → s ≡ meet_of a b → IsProper (meet_of a b) → IsMeeting a b (Some s)
unfolding IsMeeting
meeting-some a b s e h =
    let m : IsHullOf (λ p. Holds a p × Holds b p) (Some (meet_of a b)) = (
      (record { low = omega (arith, ints, clamps, h); high = omega (arith, ints, clamps, h) }, record { low = omega (arith, ints, clamps, h); high = omega (arith, ints, clamps, h) }),
      (record { low = omega (arith, ints, clamps, h); high = omega (arith, ints, clamps, h) }, record { low = omega (arith, ints, clamps, h); high = omega (arith, ints, clamps, h) }),
      λ p k. record { low = omega (arith, ints, clamps, k.0, k.1); high = omega (arith, ints, clamps, k.0, k.1) },
    ) in
    subst (λ (t : Span). IsHullOf (λ p. Holds a p × Holds b p) (Some t)) (sym e) m

pub meeting-none : (a b : Span) → (IsProper (meet_of a b) → ⊥) → IsMeeting a b None
unfolding IsMeeting
meeting-none a b h p k = h (omega (arith, ints, clamps, k.0, k.1))

pub abs-proper : (a : Span) → IsProper (abs_of a) → IsProper a
abs-proper a h = omega (arith, ints, clamps, h)

pub sqr-proper : (a : Span) → IsProper (abs_of a) → IsProper (sqr_of a)
sqr-proper a h = square-mono (abs_of a).lo (abs_of a).hi (abs-least a) h

pub some-image : (f : ℤ → ℤ) (a s : Span) (o : Option Span) → IsImage f a s → IfSome o (λ r. r ≡ s) → IfSome o (IsImage f a)
some-image f a s None h e = tt
some-image f a s (Some r) h e = image-same f a r s e h

pub image-proper : (f : ℤ → ℤ) (a s : Span) → IsImage f a s → IsProper a
unfolding IsImage
image-proper f a s h = let k = h.0.1 in omega (arith, ints, k)
