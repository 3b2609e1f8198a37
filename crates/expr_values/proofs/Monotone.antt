-- Values and targets are less where the intervals are less.
use Rattle.std.proofs.Common.{◌≡◌, ℕ, ◌++◌, ◌&&◌, Bool, true, false, cond, List, [], ◌∷◌, Option, Some, None, ℤ, ◌≤ℤ◌, suc, refl, arith}
use Rattle.std.specs.Int.{int_min, int_max}
use Rattle.std.proofs.lemmas.Int.{ints, clamps}
use Rattle.tube_spec.specs.Span.{Span, IsProper, IsWithin, meet_of, add_of, sub_of}
use Rattle.tube_spec.specs.Hull.{IsWithinOption}
use Rattle.tube_spec.specs.Narrowing.{Whole, IsWithinNarrowing}
use Rattle.tube_spec.specs.Box.{cell_at, IsBox, IsBelow, IsBelowBox}
use Rattle.tube_spec.proofs.Spans.{IsWithin-refl, meet-mono, add-mono, sub-mono, proper-mono}
use Rattle.tube_spec.proofs.Boxes.{IsBelow-cons}
use Rattle.expr_tree.specs.declared.RelOp.{RelOp}
use Rattle.expr_tree.specs.declared.RelOp.TheVariants.{Eq, Lt, Le, Gt, Ge}
use Rattle.int_interval.specs.Image.{neg_of}
use Rattle.int_interval.proofs.Images.{sqr-proper}
use Rattle.int_interval.proofs.Monotone.{neg-mono, abs-mono, min-mono, max-mono, mul-mono, sqr-mono, neg-proper, min-proper, max-proper, add-proper, sub-proper, proper-abs}
use Rattle.int_interval.proofs.Inverses.{back_mul-mono, back_sqr-mono, back_abs-mono, back_min-mono, back_max-mono}
use Rattle.expr_values.specs.declared.operators.UnaryOp.{UnaryOp}
use Rattle.expr_values.specs.declared.operators.UnaryOp.TheVariants.{Neg, Sqr, Abs}
use Rattle.expr_values.specs.declared.operators.BinaryOp.{BinaryOp}
use Rattle.expr_values.specs.declared.operators.BinaryOp.TheVariants.{Add, Sub, Mul, Min, Max}
use Rattle.expr_values.specs.Expressions.{Expression, Constant, Entry, Unary, Binary, Comparison}
use Rattle.expr_values.specs.Operators.{unary_value, binary_value, unary_target, left_target, right_target, shared, is_bounded}
use Rattle.expr_values.specs.Comparisons.{up_to, from, left_of, right_of}
use Rattle.expr_values.specs.Values.{value_of, stays_bounded}
use Rattle.expr_values.specs.Targets.{through, both, targets_of, comparison_targets, narrowing_at, entry_narrowing}
use Rattle.expr_values.proofs.Bounds.{is_bounded-within, and-left, and-right, and-both}

-- operator by operator, upward
unary-proper : (op : UnaryOp) (a : Span) → IsProper a → IsProper (unary_value op a)
unary-proper Neg a h = neg-proper a h
unary-proper Sqr a h = sqr-proper a (proper-abs a h)
unary-proper Abs a h = proper-abs a h

binary-proper : (op : BinaryOp) (a b : Span) → IsProper a → IsProper b → IsProper (binary_value op a b)
binary-proper Add a b h k = add-proper a b h k
binary-proper Sub a b h k = sub-proper a b h k
binary-proper Mul a b h k = omega (arith, ints, clamps)
binary-proper Min a b h k = min-proper a b h k
binary-proper Max a b h k = max-proper a b h k

unary-mono : (op : UnaryOp) (a c : Span) → IsProper a → IsWithin a c → IsWithin (unary_value op a) (unary_value op c)
unary-mono Neg a c h w = neg-mono a c w
unary-mono Sqr a c h w = sqr-mono a c h w
unary-mono Abs a c h w = abs-mono a c w

binary-mono : (op : BinaryOp) (a b c d : Span) → IsProper a → IsProper b → IsWithin a c → IsWithin b d → IsWithin (binary_value op a b) (binary_value op c d)
binary-mono Add a b c d h k v w = add-mono a b c d v w
binary-mono Sub a b c d h k v w = sub-mono a b c d v w
binary-mono Mul a b c d h k v w = mul-mono a b c d h k v w
binary-mono Min a b c d h k v w = min-mono a b c d v w
binary-mono Max a b c d h k v w = max-mono a b c d v w

-- operator by operator, downward
shared-mono : (a b c d : Span) → IsWithin a c → IsWithin b d → IsWithinOption (shared a b) (shared c d)
shared-mono a b c d v w = proper-mono (meet_of a b) (meet_of c d) (meet-mono a b c d v w)

unary_target-mono : (op : UnaryOp) (a c d f : Span) → IsWithin a d → IsWithin c f → IsWithinOption (unary_target op a c) (unary_target op d f)
unary_target-mono Neg a c d f u w = shared-mono a (neg_of c) d (neg_of f) u (neg-mono c f w)
unary_target-mono Sqr a c d f u w = back_sqr-mono a c d f u w
unary_target-mono Abs a c d f u w = back_abs-mono a c d f u w

left_target-mono : (op : BinaryOp) (a b c d e f : Span) → IsProper b → IsWithin a d → IsWithin b e → IsWithin c f → IsWithinOption (left_target op a b c) (left_target op d e f)
left_target-mono Add a b c d e f good u v w = shared-mono a (sub_of c b) d (sub_of f e) u (sub-mono c b f e w v)
left_target-mono Sub a b c d e f good u v w = shared-mono a (add_of c b) d (add_of f e) u (add-mono c b f e w v)
left_target-mono Mul a b c d e f good u v w = back_mul-mono a b c d e f good u v w
left_target-mono Min a b c d e f good u v w = back_min-mono a b c d e f good u v w
left_target-mono Max a b c d e f good u v w = back_max-mono a b c d e f good u v w

right_target-mono : (op : BinaryOp) (a b c d e f : Span) → IsProper a → IsWithin a d → IsWithin b e → IsWithin c f → IsWithinOption (right_target op a b c) (right_target op d e f)
right_target-mono Add a b c d e f good u v w = shared-mono b (sub_of c a) e (sub_of f d) v (sub-mono c a f d w u)
right_target-mono Sub a b c d e f good u v w = shared-mono b (sub_of a c) e (sub_of d f) v (sub-mono a c d f u w)
right_target-mono Mul a b c d e f good u v w = back_mul-mono b a c e d f good v u w
right_target-mono Min a b c d e f good u v w = back_min-mono b a c e d f good v u w
right_target-mono Max a b c d e f good u v w = back_max-mono b a c e d f good v u w

up_to-mono : (a c : Span) (m n : ℤ) → IsWithin a c → m ≤ℤ n → IsWithinOption (up_to a m) (up_to c n)
up_to-mono a c m n w l =
    let s : Span = record { lo = a.lo; hi = int_min a.hi m } in
    let t : Span = record { lo = c.lo; hi = int_min c.hi n } in
    proper-mono s t (record { low = omega (arith, ints, w); high = omega (arith, ints, clamps, w, l) })

from-mono : (a c : Span) (m n : ℤ) → IsWithin a c → n ≤ℤ m → IsWithinOption (from a m) (from c n)
from-mono a c m n w l =
    let s : Span = record { lo = int_max a.lo m; hi = a.hi } in
    let t : Span = record { lo = int_max c.lo n; hi = c.hi } in
    proper-mono s t (record { low = omega (arith, ints, clamps, w, l); high = omega (arith, ints, w) })

left_of-mono : (op : RelOp) (a b c d : Span) → IsWithin a c → IsWithin b d → IsWithinOption (left_of op a b) (left_of op c d)
left_of-mono Eq a b c d v w = shared-mono a b c d v w
left_of-mono Lt a b c d v w = up_to-mono a c _ _ v (omega (arith, ints, w))
left_of-mono Le a b c d v w = up_to-mono a c _ _ v w.high
left_of-mono Gt a b c d v w = from-mono a c _ _ v (omega (arith, ints, w))
left_of-mono Ge a b c d v w = from-mono a c _ _ v w.low

right_of-mono : (op : RelOp) (a b c d : Span) → IsWithin a c → IsWithin b d → IsWithinOption (right_of op a b) (right_of op c d)
right_of-mono Eq a b c d v w = shared-mono b a d c w v
right_of-mono Lt a b c d v w = from-mono b d _ _ w (omega (arith, ints, v))
right_of-mono Le a b c d v w = from-mono b d _ _ w v.low
right_of-mono Gt a b c d v w = up_to-mono b d _ _ w (omega (arith, ints, v))
right_of-mono Ge a b c d v w = up_to-mono b d _ _ w v.high

-- side by side
IsBelow-append : (ps qs rs ss : List Span) → IsBelow ps rs → IsBelow qs ss → IsBelow (ps ++ qs) (rs ++ ss)
IsBelow-append [] qs [] ss h k = k
IsBelow-append [] qs (r ∷ rs) ss h k = absurd (omega (arith, h.len))
IsBelow-append (p ∷ ps) qs [] ss h k = absurd (omega (arith, h.len))
IsBelow-append (p ∷ ps) qs (r ∷ rs) ss h k =
    IsBelow-cons p r (ps ++ qs) (rs ++ ss) (h.each 0) (IsBelow-append ps qs rs ss (record { len = omega (arith, h.len); each = λ k. h.each (suc k) }) k)

both-mono : (a b c d : Option (List Span)) → IsBelowBox a c → IsBelowBox b d → IsBelowBox (both a b) (both c d)
both-mono None b c d p q = tt
both-mono (Some a) None c d p q = tt
both-mono (Some a) (Some b) None d p q = absurd p
both-mono (Some a) (Some b) (Some c) None p q = absurd q
both-mono (Some a) (Some b) (Some c) (Some d) p q = IsBelow-append a b c d p q

through-mono : (x y : Option Span) (f g : Span → Option (List Span)) → IsWithinOption x y → ((c d : Span) → IsWithin c d → IsBelowBox (f c) (g d)) → IsBelowBox (through x f) (through y g)
through-mono None y f g w h = tt
through-mono (Some c) None f g w h = absurd w
through-mono (Some c) (Some d) f g w h = h c d w

-- over the entries of lists of which one lies below the other
module _ (xs ys : List Span) (box : IsBox xs) (low : (k : ℕ) → IsWithin (cell_at xs k) (cell_at ys k)) where
  pub value-proper : (e : Expression) → IsProper (value_of xs e)
  value-proper (Constant n) = omega (arith, ints)
  value-proper (Entry k) = box k
  value-proper (Unary op a) = unary-proper op (value_of xs a) (value-proper a)
  value-proper (Binary op a b) = binary-proper op (value_of xs a) (value_of xs b) (value-proper a) (value-proper b)

  pub value-mono : (e : Expression) → IsWithin (value_of xs e) (value_of ys e)
  value-mono (Constant n) = IsWithin-refl _
  value-mono (Entry k) = low k
  value-mono (Unary op a) = unary-mono op (value_of xs a) (value_of ys a) (value-proper a) (value-mono a)
  value-mono (Binary op a b) = binary-mono op (value_of xs a) (value_of xs b) (value_of ys a) (value_of ys b) (value-proper a) (value-proper b) (value-mono a) (value-mono b)

  pub bounded-mono : (e : Expression) → stays_bounded ys e ≡ true → stays_bounded xs e ≡ true
  bounded-mono (Constant n) t = t
  bounded-mono (Entry k) t = is_bounded-within (cell_at xs k) (cell_at ys k) (low k) t
  bounded-mono (Unary op a) t =
      let v = is_bounded (value_of ys (Unary op a)) in
      and-both (stays_bounded xs a) _ (bounded-mono a (and-left (stays_bounded ys a) v t))
      (is_bounded-within (value_of xs (Unary op a)) (value_of ys (Unary op a)) (value-mono (Unary op a)) (and-right (stays_bounded ys a) v t))
  bounded-mono (Binary op a b) t =
      let v = is_bounded (value_of ys (Binary op a b)) in
      let u = and-right (stays_bounded ys a) (stays_bounded ys b && v) t in
      and-both (stays_bounded xs a) _ (bounded-mono a (and-left (stays_bounded ys a) (stays_bounded ys b && v) t))
      (and-both (stays_bounded xs b) _ (bounded-mono b (and-left (stays_bounded ys b) v u))
      (is_bounded-within (value_of xs (Binary op a b)) (value_of ys (Binary op a b)) (value-mono (Binary op a b)) (and-right (stays_bounded ys b) v u)))

  pub targets-mono : (e : Expression) (c d : Span) → IsWithin c d → IsBelowBox (targets_of xs e c) (targets_of ys e d)
  targets-mono (Constant n) c d w = record { len = refl; each = λ k. IsWithin-refl (cell_at [] k) }
  targets-mono (Entry k) c d w = IsBelow-cons c d [] [] w (record { len = refl; each = λ k. IsWithin-refl (cell_at [] k) })
  targets-mono (Unary op a) c d w =
      through-mono _ _ (λ (t : Span). targets_of xs a t) (λ (t : Span). targets_of ys a t) (unary_target-mono op (value_of xs a) c (value_of ys a) d (value-mono a) w) (λ s t v. targets-mono a s t v)
  targets-mono (Binary op a b) c d w =
      both-mono _ _ _ _
      (through-mono _ _ (λ (t : Span). targets_of xs a t) (λ (t : Span). targets_of ys a t)
      (left_target-mono op (value_of xs a) (value_of xs b) c (value_of ys a) (value_of ys b) d (value-proper b) (value-mono a) (value-mono b) w) (λ s t v. targets-mono a s t v))
      (through-mono _ _ (λ (t : Span). targets_of xs b t) (λ (t : Span). targets_of ys b t)
      (right_target-mono op (value_of xs a) (value_of xs b) c (value_of ys a) (value_of ys b) d (value-proper a) (value-mono a) (value-mono b) w) (λ s t v. targets-mono b s t v))

  pub comparison-mono : (c : Comparison) → IsBelowBox (comparison_targets xs c) (comparison_targets ys c)
  comparison-mono c =
      both-mono _ _ _ _
      (through-mono _ _ (λ (t : Span). targets_of xs c.left t) (λ (t : Span). targets_of ys c.left t)
      (left_of-mono c.op (value_of xs c.left) (value_of xs c.right) (value_of ys c.left) (value_of ys c.right) (value-mono c.left) (value-mono c.right)) (λ s t v. targets-mono c.left s t v))
      (through-mono _ _ (λ (t : Span). targets_of xs c.right t) (λ (t : Span). targets_of ys c.right t)
      (right_of-mono c.op (value_of xs c.left) (value_of xs c.right) (value_of ys c.left) (value_of ys c.right) (value-mono c.left) (value-mono c.right)) (λ s t v. targets-mono c.right s t v))

  pub entry-mono : (c : Comparison) (j : ℕ) → IsWithinNarrowing (entry_narrowing xs c j) (entry_narrowing ys c j)
  entry-mono c j = at (stays_bounded ys c.left && stays_bounded ys c.right) (stays_bounded xs c.left && stays_bounded xs c.right) refl refl
    where
      narrowed : (a b : Option (List Span)) → IsBelowBox a b → IsWithinNarrowing (narrowing_at a j) (narrowing_at b j)
      narrowed None None p = tt
      narrowed None (Some b) p = tt
      narrowed (Some a) None p = absurd p
      narrowed (Some a) (Some b) p = p.each j

      at : (y x : Bool) → (stays_bounded ys c.left && stays_bounded ys c.right) ≡ y → (stays_bounded xs c.left && stays_bounded xs c.right) ≡ x
          → IsWithinNarrowing (cond x (narrowing_at (comparison_targets xs c) j) Whole) (cond y (narrowing_at (comparison_targets ys c) j) Whole)
      at false x e f = tt
      at true true e f = narrowed (comparison_targets xs c) (comparison_targets ys c) (comparison-mono c)
      at true false e f =
          let t = and-both (stays_bounded xs c.left) (stays_bounded xs c.right) (bounded-mono c.left (and-left (stays_bounded ys c.left) (stays_bounded ys c.right) e)) (bounded-mono c.right (and-right (stays_bounded ys c.left) (stays_bounded ys c.right) e)) in
          absurd (cc)
