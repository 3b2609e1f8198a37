-- Sums and differences, upward and downward.
use Rattle.std.proofs.Common.{◌≡◌, ◌↔◌, Bool, true, false, cond, Option, Some, None, IfSome, IsSome, ℤ, ◌+ℤ◌, ◌-ℤ◌, arith, refl, sym, ap, subst, ◌∙◌}
use Rattle.std.specs.Int.{int_max}
use Rattle.std.proofs.lemmas.Int.{ints, clamps}
use Rattle.tube_spec.specs.Span.{Span, IsProper, IsBounded, Holds, add_of, sub_of}
use Rattle.tube_spec.proofs.Spans.{same_span}
use Rattle.int_interval.specs.Image.{IsMeeting, neg_of}
use Rattle.int_interval.specs.Inverse.{TakesInto, back_add_of}
use Rattle.int_interval.proofs.Hulls.{hull-same, hull-unique}
use Rattle.int_interval.proofs.Images.{meeting}
use Rattle.int_interval.proofs.Inverses.{back_add-hull}
use Rattle.expr_values.specs.Operators.{shared, bounded, is_bounded}
use Rattle.expr_values.proofs.Bounds.{is_bounded-true, true-is_bounded}

-- a number has a sum in c with some member of b where it is a member of c less b
takes-sub : (b c : Span) (p : ℤ) → TakesInto (λ p q. p +ℤ q) b c p → Holds (sub_of c b) p
takes-sub b c p h = record { low = omega (arith, ints, h.1, h.2); high = omega (arith, ints, h.1, h.2) }

sub-takes : (b c : Span) (p : ℤ) → IsProper b → IsProper c → Holds (sub_of c b) p → TakesInto (λ p q. p +ℤ q) b c p
sub-takes b c p hb hc h = (
  int_max b.lo (c.lo -ℤ p),
  record { low = omega (arith, ints, clamps); high = omega (arith, ints, clamps, hb, h) },
  record { low = omega (arith, ints, clamps); high = omega (arith, ints, clamps, hc, h) },
)

pub back_add-shared : (a b c : Span) → IsProper b → IsProper c → back_add_of a b c ≡ shared a (sub_of c b)
unfolding IsMeeting
back_add-shared a b c hb hc =
    hull-unique (λ p. Holds a p × Holds (sub_of c b) p) (back_add_of a b c) (shared a (sub_of c b))
    (hull-same (λ p. Holds a p × TakesInto (λ p q. p +ℤ q) b c p) (λ p. Holds a p × Holds (sub_of c b) p) (back_add_of a b c) (λ p h. (h.0, takes-sub b c p h.1)) (λ p h. (h.0, sub-takes b c p hb hc h.1)) (back_add-hull a b c))
    (meeting a (sub_of c b))

-- the two sides of a difference
pub left_of_difference : (a b c m : Span) → m ≡ neg_of b → IsProper b → IsProper c → back_add_of a m c ≡ shared a (add_of c b)
left_of_difference a b c m e hb hc =
    ap (λ (s : Span). back_add_of a s c) e ∙ back_add-shared a (neg_of b) c (omega (arith, ints, hb)) hc
    ∙ ap (shared a) (same_span (sub_of c (neg_of b)) (add_of c b) (omega (arith, ints)) (omega (arith, ints)))

pub right_of_difference : (a b c m n : Span) → m ≡ neg_of a → n ≡ neg_of c → IsProper a → IsProper c → back_add_of b m n ≡ shared b (sub_of a c)
right_of_difference a b c m n e f ha hc =
    ap (λ (s : Span). back_add_of b s n) e ∙ ap (back_add_of b (neg_of a)) f ∙ back_add-shared b (neg_of a) (neg_of c) (omega (arith, ints, ha)) (omega (arith, ints, hc))
    ∙ ap (shared b) (same_span (sub_of (neg_of c) (neg_of a)) (sub_of a c) (omega (arith, ints)) (omega (arith, ints)))

-- an interval that is made where it stays within the bound
pub made-bounded : (s : Span) (o : Option Span) → IsProper s → IfSome o (λ r. r ≡ s) → IsSome o ↔ (IsProper s × IsBounded 4000000000000000000 s) → o ≡ bounded s
made-bounded s None good e some = at (is_bounded s) refl
  where
    at : (b : Bool) → is_bounded s ≡ b → None ≡ cond b (Some s) None
    at true p = let h = some.1 (good, true-is_bounded s p) in absurd (cc)
    at false p = refl
made-bounded s (Some r) good e some =
    let h = some.0 refl in
    ap Some e ∙ sym (ap (λ (b : Bool). cond b (Some s) None) (is_bounded-true s h.1))

pub made-at : (s t : Span) (o : Option Span) → IfSome o (λ r. r ≡ t) → IsSome o ↔ (IsProper t × IsBounded 4000000000000000000 t) → t.lo ≡ s.lo → t.hi ≡ s.hi → IsProper s → o ≡ bounded s
made-at s t o e some el eh good =
    let same = same_span t s el eh in
    made-bounded s o good (subst (λ (u : Span). IfSome o (λ r. r ≡ u)) same e) (subst (λ (u : Span). IsSome o ↔ (IsProper u × IsBounded 4000000000000000000 u)) same some)
