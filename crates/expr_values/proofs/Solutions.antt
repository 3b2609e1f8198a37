-- Solutions stay: members have their values in the interval values, and are held by the targets.
use Rattle.std.proofs.Common.{◌≡◌, ℕ, ◌+◌, ◌-◌, ◌<◌, ◌≤◌, ◌⊎◌, inl, inr, ◌++◌, List, [], ◌∷◌, Option, Some, None, ℤ, pos, ◌≤ℤ◌, length, length-append, get_or-append-add, arith, refl, sym, ap, subst, ◌∙◌, zero-add}
use Rattle.std.specs.Int.{int_min, int_max}
use Rattle.std.proofs.lemmas.Int.{ints, clamps}
use Rattle.std.proofs.Math.IntN.{*ℤ_comm}
use Rattle.std.proofs.Math.ListN.{get_or-append}
use Rattle.tube_spec.specs.Span.{Span, Holds, point, meet_of, add_of, sub_of}
use Rattle.tube_spec.specs.Hull.{IsWithinOption}
use Rattle.tube_spec.specs.Box.{cell_at}
use Rattle.tube_spec.proofs.Spans.{IsWithin-meet}
use Rattle.tube_spec.proofs.Assignments.{point-proper}
use Rattle.expr_tree.specs.Trees.{Tree, Number, Named, Apply, Join, Relation}
use Rattle.expr_tree.specs.declared.RelOp.{RelOp}
use Rattle.expr_tree.specs.declared.RelOp.TheVariants.{Eq, Lt, Le, Gt, Ge}
use Rattle.int_interval.specs.Image.{neg_of}
use Rattle.int_interval.proofs.Images.{mul-holds, sqr-holds, abs-holds}
use Rattle.int_interval.proofs.Monotone.{neg-holds, add-holds, sub-holds, min-holds, max-holds}
use Rattle.int_interval.proofs.Inverses.{back_mul-holds, back_sqr-holds, back_abs-holds, back_min-holds, back_max-holds}
use Rattle.expr_values.specs.declared.operators.UnaryOp.{UnaryOp}
use Rattle.expr_values.specs.declared.operators.UnaryOp.TheVariants.{Neg, Sqr, Abs}
use Rattle.expr_values.specs.declared.operators.BinaryOp.{BinaryOp}
use Rattle.expr_values.specs.declared.operators.BinaryOp.TheVariants.{Add, Sub, Mul, Min, Max}
use Rattle.expr_values.specs.Expressions.{Expression, Constant, Entry, Unary, Binary, numbered, leaves, relation_leaves, comparison_of, unary_op, binary_op}
use Rattle.expr_values.specs.Operators.{unary_value, binary_value, unary_number, binary_number, unary_target, left_target, right_target, shared}
use Rattle.expr_values.specs.Comparisons.{Compares, up_to, from, left_of, right_of}
use Rattle.expr_values.specs.Values.{value_of, number_value, number_at, HoldEach, IsTrueOf}
use Rattle.expr_values.specs.Targets.{through, both, targets_of, comparison_targets, AreHeld}

-- operator by operator, upward
unary-holds : (op : UnaryOp) (a : Span) (p : ℤ) → Holds a p → Holds (unary_value op a) (unary_number op p)
unary-holds Neg a p h = neg-holds a p h
unary-holds Sqr a p h = sqr-holds a p h
unary-holds Abs a p h = abs-holds a p h

binary-holds : (op : BinaryOp) (a b : Span) (p q : ℤ) → Holds a p → Holds b q → Holds (binary_value op a b) (binary_number op p q)
binary-holds Add a b p q h k = add-holds a b p q h k
binary-holds Sub a b p q h k = sub-holds a b p q h k
binary-holds Mul a b p q h k = mul-holds a b p q h k
binary-holds Min a b p q h k = min-holds a b p q h k
binary-holds Max a b p q h k = max-holds a b p q h k

-- operator by operator, downward
shared-holds : (a b : Span) (p : ℤ) → Holds a p → Holds b p → IsWithinOption (Some (point p)) (shared a b)
shared-holds a b p h k =
    point-proper p (meet_of a b) (IsWithin-meet (point p) a b (record { low = h.low; high = h.high }) (record { low = k.low; high = k.high }))

unary_target-holds : (op : UnaryOp) (a c : Span) (p : ℤ) → Holds a p → Holds c (unary_number op p) → IsWithinOption (Some (point p)) (unary_target op a c)
unary_target-holds Neg a c p h k = shared-holds a (neg_of c) p h (record { low = omega (arith, ints, k); high = omega (arith, ints, k) })
unary_target-holds Sqr a c p h k = back_sqr-holds a c p h k
unary_target-holds Abs a c p h k = back_abs-holds a c p h k

left_target-holds : (op : BinaryOp) (a b c : Span) (p q : ℤ) → Holds a p → Holds b q → Holds c (binary_number op p q) → IsWithinOption (Some (point p)) (left_target op a b c)
left_target-holds Add a b c p q h k l = shared-holds a (sub_of c b) p h (record { low = omega (arith, ints, k, l); high = omega (arith, ints, k, l) })
left_target-holds Sub a b c p q h k l = shared-holds a (add_of c b) p h (record { low = omega (arith, ints, k, l); high = omega (arith, ints, k, l) })
left_target-holds Mul a b c p q h k l = back_mul-holds a b c p q h k l
left_target-holds Min a b c p q h k l = back_min-holds a b c p q h k l
left_target-holds Max a b c p q h k l = back_max-holds a b c p q h k l

right_target-holds : (op : BinaryOp) (a b c : Span) (p q : ℤ) → Holds a p → Holds b q → Holds c (binary_number op p q) → IsWithinOption (Some (point q)) (right_target op a b c)
right_target-holds Add a b c p q h k l = shared-holds b (sub_of c a) q k (record { low = omega (arith, ints, h, l); high = omega (arith, ints, h, l) })
right_target-holds Sub a b c p q h k l = shared-holds b (sub_of a c) q k (record { low = omega (arith, ints, h, l); high = omega (arith, ints, h, l) })
right_target-holds Mul a b c p q h k l = back_mul-holds b a c q p k h (subst (Holds c) (*ℤ_comm p q) l)
right_target-holds Min a b c p q h k l = back_min-holds b a c q p k h (record { low = omega (arith, ints, clamps, l); high = omega (arith, ints, clamps, l) })
right_target-holds Max a b c p q h k l = back_max-holds b a c q p k h (record { low = omega (arith, ints, clamps, l); high = omega (arith, ints, clamps, l) })

up_to-holds : (a : Span) (m p : ℤ) → Holds a p → p ≤ℤ m → IsWithinOption (Some (point p)) (up_to a m)
up_to-holds a m p h l =
    let s : Span = record { lo = a.lo; hi = int_min a.hi m } in
    point-proper p s (record { low = h.low; high = omega (arith, ints, clamps, h, l) })

from-holds : (a : Span) (m p : ℤ) → Holds a p → m ≤ℤ p → IsWithinOption (Some (point p)) (from a m)
from-holds a m p h l =
    let s : Span = record { lo = int_max a.lo m; hi = a.hi } in
    point-proper p s (record { low = omega (arith, ints, clamps, h, l); high = h.high })

left_of-holds : (op : RelOp) (a b : Span) (p q : ℤ) → Holds a p → Holds b q → Compares op p q → IsWithinOption (Some (point p)) (left_of op a b)
left_of-holds Eq a b p q h k e = shared-holds a b p h (subst (Holds b) (sym e) k)
left_of-holds Lt a b p q h k l = up_to-holds a _ p h (omega (arith, ints, k, l))
left_of-holds Le a b p q h k l = up_to-holds a b.hi p h (omega (arith, ints, k, l))
left_of-holds Gt a b p q h k l = from-holds a _ p h (omega (arith, ints, k, l))
left_of-holds Ge a b p q h k l = from-holds a b.lo p h (omega (arith, ints, k, l))

right_of-holds : (op : RelOp) (a b : Span) (p q : ℤ) → Holds a p → Holds b q → Compares op p q → IsWithinOption (Some (point q)) (right_of op a b)
right_of-holds Eq a b p q h k e = shared-holds b a q k (subst (Holds a) e h)
right_of-holds Lt a b p q h k l = from-holds b _ q k (omega (arith, ints, h, l))
right_of-holds Le a b p q h k l = from-holds b a.lo q k (omega (arith, ints, h, l))
right_of-holds Gt a b p q h k l = up_to-holds b _ q k (omega (arith, ints, h, l))
right_of-holds Ge a b p q h k l = up_to-holds b a.hi q k (omega (arith, ints, h, l))

-- lists of targets
through-held : (ns : List ℤ) (k n : ℕ) (p : ℤ) (x : Option Span) (f : Span → Option (List Span)) → IsWithinOption (Some (point p)) x → ((d : Span) → Holds d p → AreHeld ns k n (f d)) → AreHeld ns k n (through x f)
through-held ns k n p None f w h = absurd w
through-held ns k n p (Some d) f w h = h d (record { low = w.low; high = w.high })

first-or-second : (j m n : ℕ) → j < m + n → (j < m) ⊎ ((m ≤ j) × (j - m < n))
first-or-second j m n l = grind arith

both-held : (ns : List ℤ) (k m n : ℕ) (x y : Option (List Span)) → AreHeld ns k m x → AreHeld ns (k + m) n y → AreHeld ns k (m + n) (both x y)
both-held ns k m n None y h i = absurd h
both-held ns k m n (Some cs) None h i = absurd i
both-held ns k m n (Some cs) (Some ds) h i = (
  length-append cs ds ∙ omega (arith, h.0, i.0),
  λ j l. elim (first-or-second j m n l) [
    | inl a ↦ subst (λ (s : Span). Holds s (number_at ns (k + j))) (sym (get_or-append cs ds (point (pos 0)) j (omega (arith, a, h.0)))) (h.1 j a)
    | inr b ↦
        let e : length cs + (j - m) ≡ j = omega (arith, b.0, h.0) in
        let f : (k + m) + (j - m) ≡ k + j = omega (arith, b.0) in
        let at : cell_at (cs ++ ds) j ≡ cell_at ds (j - m) = ap (cell_at (cs ++ ds)) (sym e) ∙ get_or-append-add cs ds (j - m) (point (pos 0)) in
        subst (λ (s : Span). Holds s (number_at ns (k + j))) (sym at) (subst (λ (i : ℕ). Holds (cell_at ds (j - m)) (number_at ns i)) f (i.1 (j - m) b.1))
  ],
)

-- over numbers of which each is a member of the entry in its place
module _ (xs : List Span) (ns : List ℤ) (each : HoldEach xs ns) where
  pub value-holds : (e : Expression) → Holds (value_of xs e) (number_value ns e)
  value-holds (Constant n) = record { low = omega (arith, ints); high = omega (arith, ints) }
  value-holds (Entry k) = each k
  value-holds (Unary op a) = unary-holds op (value_of xs a) (number_value ns a) (value-holds a)
  value-holds (Binary op a b) = binary-holds op (value_of xs a) (value_of xs b) (number_value ns a) (number_value ns b) (value-holds a) (value-holds b)

  pub targets-hold : (t : Tree) (k : ℕ) (c : Span) → Holds c (number_value ns (numbered t k)) → AreHeld ns k (leaves t) (targets_of xs (numbered t k) c)
  targets-hold (Number n) k c h = (refl, λ j l. absurd (omega (arith, l)))
  targets-hold (Named name) k c h = (refl, λ j l. at j (omega (arith, l)))
    where
      at : (j : ℕ) → j ≡ 0 → Holds (cell_at (c ∷ []) j) (number_at ns (k + j))
      at j e = subst (λ (i : ℕ). Holds (cell_at (c ∷ []) i) (number_at ns (k + i))) (sym e) (let z : k + 0 ≡ k = omega arith in subst (λ (i : ℕ). Holds c (number_at ns i)) (sym z) h)
  targets-hold (Apply op a) k c h =
      let e = numbered a k in
      through-held ns k (leaves a) (number_value ns e) _ (λ (d : Span). targets_of xs e d)
      (unary_target-holds (unary_op op) (value_of xs e) c (number_value ns e) (value-holds e) h) (λ d i. targets-hold a k d i)
  targets-hold (Join op a b) k c h =
      let e = numbered a k in
      let f = numbered b (k + leaves a) in
      both-held ns k (leaves a) (leaves b) _ _
      (through-held ns k (leaves a) (number_value ns e) _ (λ (d : Span). targets_of xs e d)
      (left_target-holds (binary_op op) (value_of xs e) (value_of xs f) c (number_value ns e) (number_value ns f) (value-holds e) (value-holds f) h) (λ d i. targets-hold a k d i))
      (through-held ns (k + leaves a) (leaves b) (number_value ns f) _ (λ (d : Span). targets_of xs f d)
      (right_target-holds (binary_op op) (value_of xs e) (value_of xs f) c (number_value ns e) (number_value ns f) (value-holds e) (value-holds f) h) (λ d i. targets-hold b (k + leaves a) d i))

  pub comparison-holds : (r : Relation) → IsTrueOf ns (comparison_of r) → AreHeld ns 0 (relation_leaves r) (comparison_targets xs (comparison_of r))
  comparison-holds r says =
      let e = numbered r.left 0 in
      let f = numbered r.right (leaves r.left) in
      let z : 0 + leaves r.left ≡ leaves r.left = zero-add (leaves r.left) in
      both-held ns 0 (leaves r.left) (leaves r.right) _ _
      (through-held ns 0 (leaves r.left) (number_value ns e) _ (λ (d : Span). targets_of xs e d)
      (left_of-holds r.op (value_of xs e) (value_of xs f) (number_value ns e) (number_value ns f) (value-holds e) (value-holds f) says) (λ d i. targets-hold r.left 0 d i))
      (subst (λ (i : ℕ). AreHeld ns i (leaves r.right) (through (right_of r.op (value_of xs e) (value_of xs f)) (λ (d : Span). targets_of xs f d))) (sym z)
      (through-held ns (leaves r.left) (leaves r.right) (number_value ns f) _ (λ (d : Span). targets_of xs f d)
      (right_of-holds r.op (value_of xs e) (value_of xs f) (number_value ns e) (number_value ns f) (value-holds e) (value-holds f) says) (λ d i. targets-hold r.right (leaves r.left) d i)))
