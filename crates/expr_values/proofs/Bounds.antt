-- The test of the bound.
use Rattle.std.proofs.Common.{◌≡◌, Bool, true, false, pos, neg_ℤ, int_le, ◌&&◌, arith, refl}
use Rattle.std.proofs.lemmas.Int.{ints}
use Rattle.tube_spec.specs.Span.{Span, IsBounded, IsWithin}
use Rattle.tube_spec.proofs.Spans.{IsWithin-trans}
use Rattle.expr_values.specs.Operators.{is_bounded}

pub is_bounded-true : (s : Span) → IsBounded 4000000000000000000 s → is_bounded s ≡ true
is_bounded-true s h = both (int_le (neg_ℤ (pos 4000000000000000000)) s.lo) (int_le s.hi (pos 4000000000000000000)) (grind (arith, ints, h)) (grind (arith, ints, h))
  where
    both : (x y : Bool) → x ≡ true → y ≡ true → (x && y) ≡ true
    both true y e f = f
    both false y e f = e

pub true-is_bounded : (s : Span) → is_bounded s ≡ true → IsBounded 4000000000000000000 s
true-is_bounded s e = at (int_le (neg_ℤ (pos 4000000000000000000)) s.lo) (int_le s.hi (pos 4000000000000000000)) refl refl e
  where
    at : (x y : Bool) → int_le (neg_ℤ (pos 4000000000000000000)) s.lo ≡ x → int_le s.hi (pos 4000000000000000000) ≡ y → (x && y) ≡ true → IsBounded 4000000000000000000 s
    at true true p q t = record { low = grind (arith, ints, p); high = grind (arith, ints, q) }
    at true false p q t = absurd (cc)
    at false y p q t = absurd (cc)

pub is_bounded-within : (a c : Span) → IsWithin a c → is_bounded c ≡ true → is_bounded a ≡ true
is_bounded-within a c w e = is_bounded-true a (IsWithin-trans a c _ w (true-is_bounded c e))

pub and-left : (x y : Bool) → (x && y) ≡ true → x ≡ true
and-left true y e = refl
and-left false y e = e

pub and-right : (x y : Bool) → (x && y) ≡ true → y ≡ true
and-right true y e = e
and-right false y e = absurd (cc)

pub and-both : (x y : Bool) → x ≡ true → y ≡ true → (x && y) ≡ true
and-both true y e f = f
and-both false y e f = e
