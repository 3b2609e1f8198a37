-- The values of a program's nodes, one after another.
use Rattle.std.proofs.Common.{◌≡◌, ℕ, ◌+◌, ◌<◌, ◌≤◌, ◌⊎◌, inl, inr, Bool, true, false, cond, List, Option, Some, None, pos, refl, ap, ap₂, ◌∙◌, sym, length, set, get_or-set_same, get_or-set_other, arith}
use Rattle.tube_spec.specs.Span.{Span, point}
use Rattle.tube_spec.specs.Box.{cell_at}
use Rattle.expr_values.specs.Operators.{bounded, is_bounded, unary_value, binary_value}
use Rattle.expr_hc4.specs.declared.nodes.Node.{Node}
use Rattle.expr_hc4.specs.declared.nodes.Node.TheVariants as nodes
use Rattle.expr_hc4.specs.Programs.{node_value, node_at, IsOrdered, AreOrdered, AreValues}

pub node_value-same : (entries us vs : List Span) (count i : ℕ) (n : Node) → IsOrdered count i n → ((k : ℕ) → k < i → cell_at us k ≡ cell_at vs k) → node_value entries us n ≡ node_value entries vs n
node_value-same entries us vs count i (nodes.Constant n) o same = refl
node_value-same entries us vs count i (nodes.Entry k) o same = refl
node_value-same entries us vs count i (nodes.Unary op a) o same = ap (unary_value op) (same a o)
node_value-same entries us vs count i (nodes.Binary op a b) o same = ap₂ (binary_value op) (same a o.0) (same b o.1)

pub bounded-none : (s : Span) → None ≡ bounded s → is_bounded s ≡ false
bounded-none s e = at (is_bounded s) refl e
  where
    at : (b : Bool) → is_bounded s ≡ b → None ≡ cond b (Some s) None → is_bounded s ≡ false
    at true p q = absurd (cc)
    at false p q = p

pub bounded-some : (s v : Span) → Some v ≡ bounded s → (is_bounded s ≡ true) × (v ≡ s)
bounded-some s v e = at (is_bounded s) refl e
  where
    at : (b : Bool) → is_bounded s ≡ b → Some v ≡ cond b (Some s) None → (is_bounded s ≡ true) × (v ≡ s)
    at true p q = (p, cc)
    at false p q = absurd (cc)

-- the value that a step gives is that of the node in every list of values
pub next-value : (entries us vs : List Span) (ns : List Node) (i : ℕ) → i < length ns → IsOrdered (length entries) i (node_at ns i) → AreValues entries ns vs → ((k : ℕ) → k < i → cell_at us k ≡ cell_at vs k) → node_value entries us (node_at ns i) ≡ cell_at vs i
next-value entries us vs ns i l o are same = node_value-same entries us vs (length entries) i (node_at ns i) o same ∙ sym (are i l)

last-or-before : (k i : ℕ) → k < i + 1 → (k < i) ⊎ (k ≡ i)
last-or-before k i l = grind arith

-- one more value
pub one-more : (entries us vs : List Span) (ns : List Node) (i : ℕ) (n : Node) (v : Span) → i < length ns → length ns ≤ length us → AreOrdered (length entries) ns → n ≡ node_at ns i → Some v ≡ bounded (node_value entries us n) → AreValues entries ns vs
    → ((k : ℕ) → k < i → (cell_at us k ≡ cell_at vs k) × (is_bounded (cell_at vs k) ≡ true)) → (k : ℕ) → k < i + 1 → (cell_at (set us i v) k ≡ cell_at vs k) × (is_bounded (cell_at vs k) ≡ true)
one-more entries us vs ns i n v l room ordered e gives are before k m =
    let next : node_value entries us n ≡ cell_at vs i = ap (node_value entries us) e ∙ next-value entries us vs ns i l (ordered i l) are (λ j b. (before j b).0) in
    let some = bounded-some (node_value entries us n) v gives in
    elim (last-or-before k i m) [
      | inl b ↦ (get_or-set_other us i k v (point (pos 0)) (λ q. omega (arith, b, q)) ∙ (before k b).0, (before k b).1)
      | inr q ↦ (
        ap (cell_at (set us i v)) q ∙ get_or-set_same us i v (point (pos 0)) (omega (arith, l, room)) ∙ some.1 ∙ next ∙ ap (cell_at vs) (sym q),
        ap (λ (j : ℕ). is_bounded (cell_at vs j)) q ∙ ap is_bounded (sym next) ∙ some.0,
      )
    ]
