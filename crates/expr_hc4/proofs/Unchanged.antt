-- Where the target of a node is its value, so is that of each node below it.
use Rattle.std.proofs.Common.{◌≡◌, ℕ, ◌+◌, List, [], ◌∷◌, ◌++◌, Option, Some, None, IsSome, IfSome, ℤ, ◌*ℤ◌, refl, sym, ap, ap₂, subst, ◌∙◌, length, length-append, append_assoc, map, arith}
use Rattle.std.specs.Int.{int_min, int_max}
use Rattle.std.proofs.lemmas.Int.{ints, clamps}
use Rattle.std.proofs.lemmas.List.{map-append}
use Rattle.std.proofs.Math.IntN.{*ℤ_comm}
use Rattle.tube_spec.specs.Span.{Span, IsProper, Holds, meet_of, add_of, sub_of, scale_of}
use Rattle.tube_spec.specs.Hull.{IsHullOf, proper}
use Rattle.tube_spec.specs.Box.{cell_at, IsBox}
use Rattle.tube_spec.proofs.Spans.{IsWithin-refl}
use Rattle.tube_spec.proofs.Boxes.{IsBox-nil, IsBox-cons}
use Rattle.int_interval.specs.Image.{int_abs, neg_of, abs_of, sqr_of, mul_of, min_of, max_of}
use Rattle.int_interval.specs.Inverse.{Meets, TakesInto, back_mul_of, back_sqr_of, back_abs_of, back_min_of, back_max_of}
use Rattle.int_interval.proofs.Hulls.{hull-same, hull-unique, holds-lo, holds-hi}
use Rattle.int_interval.proofs.Sets.{set-hull, set-meet}
use Rattle.int_interval.proofs.Products.{scale-holds}
use Rattle.int_interval.proofs.Images.{mul-holds, sqr-holds, abs-holds}
use Rattle.int_interval.proofs.Monotone.{min-holds, max-holds}
use Rattle.int_interval.proofs.Inverses.{back_mul-hull, back_sqr-hull, back_abs-hull, back_min-hull, back_max-hull}
use Rattle.expr_values.specs.declared.operators.UnaryOp.{UnaryOp}
use Rattle.expr_values.specs.declared.operators.UnaryOp.TheVariants.{Neg, Sqr, Abs}
use Rattle.expr_values.specs.declared.operators.BinaryOp.{BinaryOp}
use Rattle.expr_values.specs.declared.operators.BinaryOp.TheVariants.{Add, Sub, Mul, Min, Max}
use Rattle.expr_values.specs.Expressions.{Expression, Constant, Entry, Unary, Binary}
use Rattle.expr_values.specs.Operators.{unary_value, binary_value, unary_target, left_target, right_target, shared}
use Rattle.expr_values.specs.Values.{value_of}
use Rattle.expr_values.specs.Targets.{through, both, targets_of}
use Rattle.expr_values.proofs.Monotone.{value-proper}
use Rattle.expr_hc4.specs.Projections.{entries_at}
use Rattle.expr_hc4.specs.Programs.{size, places_of, values_below, node_values}
use Rattle.expr_hc4.proofs.Codes.{length-node_values, cell-seam}

-- the hull of the members with a property that all have is the span itself
all-have : (a : Span) (P : ℤ → Type 0) (o : Option Span) → IsProper a → ((p : ℤ) → Holds a p → P p) → IsHullOf (λ p. Holds a p × P p) o → o ≡ Some a
all-have a P o good each h =
    hull-unique (Holds a) o (Some a) (hull-same (λ p. Holds a p × P p) (Holds a) o (λ p k. k.0) (λ p k. (k, each p k)) h) (holds-lo a good, holds-hi a good, λ p k. k)

shared-all : (a b : Span) → IsProper a → ((p : ℤ) → Holds a p → Holds b p) → shared a b ≡ Some a
shared-all a b good each = all-have a (Holds b) (shared a b) good each (set-hull (λ p. Holds a p × Holds b p) (proper (meet_of a b)) (set-meet a b))

-- operator by operator
unary-all : (op : UnaryOp) (a : Span) → IsProper a → unary_target op a (unary_value op a) ≡ Some a
unary-all Neg a good = shared-all a (neg_of (neg_of a)) good (λ p h. record { low = omega (arith, ints, h); high = omega (arith, ints, h) })
unary-all Sqr a good = all-have a (λ p. Holds (sqr_of a) (p *ℤ p)) (back_sqr_of a (sqr_of a)) good (λ p h. sqr-holds a p h) (back_sqr-hull a (sqr_of a))
unary-all Abs a good = all-have a (λ p. Holds (abs_of a) (int_abs p)) (back_abs_of a (abs_of a)) good (λ p h. abs-holds a p h) (back_abs-hull a (abs_of a))

left-all : (op : BinaryOp) (a b : Span) → IsProper a → IsProper b → left_target op a b (binary_value op a b) ≡ Some a
left-all Add a b good fine = shared-all a (sub_of (add_of a b) b) good (λ p h. record { low = omega (arith, ints, h, fine); high = omega (arith, ints, h, fine) })
left-all Sub a b good fine = shared-all a (add_of (sub_of a b) b) good (λ p h. record { low = omega (arith, ints, h, fine); high = omega (arith, ints, h, fine) })
left-all Mul a b good fine =
    all-have a (λ p. Meets (scale_of p b) (mul_of a b)) (back_mul_of a b (mul_of a b)) good
    (λ p h. (p *ℤ b.lo, scale-holds p b.lo b (holds-lo b fine), mul-holds a b p b.lo h (holds-lo b fine))) (back_mul-hull a b (mul_of a b))
left-all Min a b good fine =
    all-have a (TakesInto int_min b (min_of a b)) (back_min_of a b (min_of a b)) good (λ p h. (b.lo, holds-lo b fine, min-holds a b p b.lo h (holds-lo b fine))) (back_min-hull a b (min_of a b) fine)
left-all Max a b good fine =
    all-have a (TakesInto int_max b (max_of a b)) (back_max_of a b (max_of a b)) good (λ p h. (b.lo, holds-lo b fine, max-holds a b p b.lo h (holds-lo b fine))) (back_max-hull a b (max_of a b) fine)

right-all : (op : BinaryOp) (a b : Span) → IsProper a → IsProper b → right_target op a b (binary_value op a b) ≡ Some b
right-all Add a b good fine = shared-all b (sub_of (add_of a b) a) fine (λ p h. record { low = omega (arith, ints, h, good); high = omega (arith, ints, h, good) })
right-all Sub a b good fine = shared-all b (sub_of a (sub_of a b)) fine (λ p h. record { low = omega (arith, ints, h, good); high = omega (arith, ints, h, good) })
right-all Mul a b good fine =
    all-have b (λ q. Meets (scale_of q a) (mul_of a b)) (back_mul_of b a (mul_of a b)) fine
    (λ q h. (q *ℤ a.lo, scale-holds q a.lo a (holds-lo a good), subst (Holds (mul_of a b)) (*ℤ_comm a.lo q) (mul-holds a b a.lo q (holds-lo a good) h))) (back_mul-hull b a (mul_of a b))
right-all Min a b good fine =
    all-have b (TakesInto int_min a (min_of a b)) (back_min_of b a (min_of a b)) fine
    (λ q h. (a.lo, holds-lo a good, let l = min-holds a b a.lo q (holds-lo a good) h in record { low = omega (arith, ints, clamps, l); high = omega (arith, ints, clamps, l) })) (back_min-hull b a (min_of a b) good)
right-all Max a b good fine =
    all-have b (TakesInto int_max a (max_of a b)) (back_max_of b a (max_of a b)) fine
    (λ q h. (a.lo, holds-lo a good, let l = max-holds a b a.lo q (holds-lo a good) h in record { low = omega (arith, ints, clamps, l); high = omega (arith, ints, clamps, l) })) (back_max-hull b a (max_of a b) good)

-- the values of the entries of an expression, from the left
abbrev pub entry_values : List Span → Expression → List Span
entry_values xs (Constant n) = []
entry_values xs (Entry k) = cell_at xs k ∷ []
entry_values xs (Unary op a) = entry_values xs a
entry_values xs (Binary op a b) = entry_values xs a ++ entry_values xs b

module _ (xs : List Span) (box : IsBox xs) where
  is-proper : (e : Expression) → IsProper (value_of xs e)
  is-proper e = value-proper xs xs box (λ k. IsWithin-refl (cell_at xs k)) e

  pub targets-all : (e : Expression) → targets_of xs e (value_of xs e) ≡ Some (entry_values xs e)
  targets-all (Constant n) = refl
  targets-all (Entry k) = refl
  targets-all (Unary op a) = ap (λ (o : Option Span). through o (λ d. targets_of xs a d)) (unary-all op (value_of xs a) (is-proper a)) ∙ targets-all a
  targets-all (Binary op a b) =
      ap₂ (λ (o p : Option Span). both (through o (λ d. targets_of xs a d)) (through p (λ d. targets_of xs b d)))
      (left-all op (value_of xs a) (value_of xs b) (is-proper a) (is-proper b)) (right-all op (value_of xs a) (value_of xs b) (is-proper a) (is-proper b))
      ∙ ap₂ both (targets-all a) (targets-all b)

-- in a list of the values of an expression's nodes these stand in the places of its entries
pub places-all : (xs us : List Span) (e : Expression) (ps qs : List Span) (i : ℕ) → i ≡ length ps → us ≡ ps ++ (node_values xs e ++ qs) → map (cell_at us) (places_of e i) ≡ entry_values xs e
places-all xs us (Constant n) ps qs i at whole = refl
places-all xs us (Entry k) ps qs i at whole = ap (λ (s : Span). s ∷ []) (cell-seam us ps (cell_at xs k) qs i whole at)
places-all xs us (Unary op a) ps qs i at whole = places-all xs us a ps (value_of xs (Unary op a) ∷ qs) i at (whole ∙ simp append_assoc)
places-all xs us (Binary op a b) ps qs i at whole =
    let v = value_of xs (Binary op a b) in
    let first : us ≡ ps ++ (node_values xs a ++ (node_values xs b ++ (v ∷ qs))) = whole ∙ simp append_assoc in
    let second : us ≡ (ps ++ node_values xs a) ++ (node_values xs b ++ (v ∷ qs)) = whole ∙ simp append_assoc in
    map-append (cell_at us) (places_of a i) (places_of b (i + size a))
    ∙ ap₂ (λ (ss ts : List Span). ss ++ ts) (places-all xs us a ps (node_values xs b ++ (v ∷ qs)) i at first)
    (places-all xs us b (ps ++ node_values xs a) (v ∷ qs) (i + size a) (omega (arith, at, length-node_values xs a, length-append ps (node_values xs a))) second)

-- the intervals of cells of a box
entries-proper : (xs : List Span) → IsBox xs → (cells : List ℕ) → IsBox (entries_at cells xs)
entries-proper xs box [] = IsBox-nil
entries-proper xs box (cell ∷ cells) = IsBox-cons (cell_at xs cell) (entries_at cells xs) (box cell) (entries-proper xs box cells)

pub read-proper : (b : Option (List Span)) (es : List Span) (cells : List ℕ) → IsSome b → IfSome b IsBox → IfSome b (λ xs. es ≡ entries_at cells xs) → IsBox es
read-proper None es cells some box read = absurd (cc)
read-proper (Some xs) es cells some box read = subst IsBox (sym read) (entries-proper xs box cells)
