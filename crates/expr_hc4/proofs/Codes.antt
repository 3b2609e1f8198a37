-- The programs of expressions: their lengths, their order, and their values.
use Rattle.std.proofs.Common.{◌≡◌, ℕ, zero, suc, ◌+◌, ◌<◌, ◌≤◌, ◌⊎◌, inl, inr, List, [], ◌∷◌, ◌++◌, pos, refl, sym, ap, ap₂, subst, ◌∙◌, length, length-append, append_assoc, set, map, arith}
use Rattle.std.proofs.Math.Seq.{get_or-append_seam, set-append_seam}
use Rattle.tube_spec.specs.Span.{Span, point}
use Rattle.tube_spec.specs.Box.{cell_at}
use Rattle.expr_tree.specs.Trees.{Tree, Number, Named, Apply, Join}
use Rattle.expr_values.specs.Expressions.{Expression, Constant, Entry, Unary, Binary, Comparison, numbered, leaves, unary_op, binary_op}
use Rattle.expr_values.specs.Operators.{unary_value, binary_value}
use Rattle.expr_values.specs.Values.{value_of}
use Rattle.expr_hc4.specs.declared.nodes.Node.{Node}
use Rattle.expr_hc4.specs.declared.nodes.Node.TheVariants as nodes
use Rattle.expr_hc4.specs.Programs.{below, size, code_of, places_of, node_at, IsOrdered, AreOrdered, node_value, AreValues, values_below, node_values}

-- lengths
pub length-code : (e : Expression) (i : ℕ) → length (code_of e i) ≡ size e
length-code (Constant n) i = refl
length-code (Entry k) i = refl
length-code (Unary op a) i = length-append (code_of a i) _ ∙ omega (arith, length-code a i)
length-code (Binary op a b) i =
    length-append (code_of a i) _ ∙ ap (λ (n : ℕ). length (code_of a i) + n) (length-append (code_of b (i + size a)) _) ∙ omega (arith, length-code a i, length-code b (i + size a))

pub length-values : (xs : List Span) (e : Expression) → length (values_below xs e) ≡ below e
length-values xs (Constant n) = refl
length-values xs (Entry k) = refl
length-values xs (Unary op a) = length-append (values_below xs a) _ ∙ omega (arith, length-values xs a)
length-values xs (Binary op a b) =
    length-append (values_below xs a ++ value_of xs a ∷ []) _
    ∙ ap₂ (λ (m n : ℕ). m + n) (length-append (values_below xs a) (value_of xs a ∷ [])) (length-append (values_below xs b) (value_of xs b ∷ []))
    ∙ omega (arith, length-values xs a, length-values xs b)

pub length-node_values : (xs : List Span) (e : Expression) → length (node_values xs e) ≡ size e
length-node_values xs e = length-append (values_below xs e) _ ∙ omega (arith, length-values xs e)

pub length-places : (t : Tree) (k i : ℕ) → length (places_of (numbered t k) i) ≡ leaves t
length-places (Number n) k i = refl
length-places (Named name) k i = refl
length-places (Apply op a) k i = length-places a k i
length-places (Join op a b) k i =
    length-append (places_of (numbered a k) i) _ ∙ omega (arith, length-places a k i, length-places b (k + leaves a) (i + size (numbered a k)))

-- a fact of each node and its index, of which the first is i
abbrev pub AllFrom : (ℕ → Node → Type 0) → ℕ → List Node → Type 0
AllFrom P i [] = Unit {0}
AllFrom P i (n ∷ ns) = P i n × AllFrom P (suc i) ns

pub AllFrom-append : (P : ℕ → Node → Type 0) (i : ℕ) (ms ns : List Node) → AllFrom P i ms → AllFrom P (i + length ms) ns → AllFrom P i (ms ++ ns)
AllFrom-append P i [] ns h k = let e : i + 0 ≡ i = omega arith in subst (λ (j : ℕ). AllFrom P j ns) e k
AllFrom-append P i (m ∷ ms) ns h k =
    let e : i + suc (length ms) ≡ suc i + length ms = omega arith in
    (h.0, AllFrom-append P (suc i) ms ns h.1 (subst (λ (j : ℕ). AllFrom P j ns) e k))

pub AllFrom-at : (P : ℕ → Node → Type 0) (i : ℕ) (ns : List Node) → AllFrom P i ns → (j : ℕ) → j < length ns → P (i + j) (node_at ns j)
AllFrom-at P i [] h j l = absurd (omega (arith, l))
AllFrom-at P i (n ∷ ns) h zero l = let e : i + 0 ≡ i = omega arith in subst (λ (k : ℕ). P k n) (sym e) h.0
AllFrom-at P i (n ∷ ns) h (suc j) l =
    let e : suc i + j ≡ i + suc j = omega arith in
    subst (λ (k : ℕ). P k (node_at ns j)) e (AllFrom-at P (suc i) ns h.1 j (omega (arith, l)))

-- operands stand before operators
pub ordered-code : (count : ℕ) (t : Tree) (k i : ℕ) → k + leaves t ≤ count → AllFrom (IsOrdered count) i (code_of (numbered t k) i)
ordered-code count (Number n) k i l = (tt, tt)
ordered-code count (Named name) k i l = (omega (arith, l), tt)
ordered-code count (Apply op a) k i l =
    AllFrom-append (IsOrdered count) i (code_of (numbered a k) i) _ (ordered-code count a k i l) (omega (arith, length-code (numbered a k) i), tt)
ordered-code count (Join op a b) k i l =
    let e = numbered a k in
    let f = numbered b (k + leaves a) in
    let ea = length-code e i in
    let eb = length-code f (i + size e) in
    let at : i + length (code_of e i) ≡ i + size e = omega (arith, ea) in
    AllFrom-append (IsOrdered count) i (code_of e i) _ (ordered-code count a k i (omega (arith, l)))
    (subst (λ (j : ℕ). AllFrom (IsOrdered count) j (code_of f (i + size e) ++ nodes.Binary (binary_op op) (i + below e) ((i + size e) + below f) ∷ [])) (sym at)
    (AllFrom-append (IsOrdered count) (i + size e) (code_of f (i + size e)) _ (ordered-code count b (k + leaves a) (i + size e) (omega (arith, l)))
    ((omega (arith, eb), omega (arith, eb)), tt)))

-- what stands at a seam
pub cell-seam : (vs ps : List Span) (x : Span) (qs : List Span) (i : ℕ) → vs ≡ ps ++ x ∷ qs → i ≡ length ps → cell_at vs i ≡ x
cell-seam vs ps x qs i e f = ap₂ cell_at e f ∙ get_or-append_seam ps x qs (point (pos 0))

pub set-seam : (vs ps : List Span) (x y : Span) (qs : List Span) (i : ℕ) → vs ≡ ps ++ x ∷ qs → i ≡ length ps → set vs i y ≡ ps ++ y ∷ qs
set-seam vs ps x y qs i e f = ap₂ (λ (us : List Span) (j : ℕ). set us j y) e f ∙ set-append_seam ps x qs y

-- the values of an expression's nodes are those of its program
abbrev pub IsValueOf : List Span → List Span → ℕ → Node → Type 0
IsValueOf xs vs i n = cell_at vs i ≡ node_value xs vs n

pub values-code : (xs vs : List Span) (e : Expression) (ps qs : List Span) (i : ℕ) → i ≡ length ps → vs ≡ ps ++ (node_values xs e ++ qs) → AllFrom (IsValueOf xs vs) i (code_of e i)
values-code xs vs (Constant n) ps qs i at whole = (cell-seam vs ps (point n) qs i whole at, tt)
values-code xs vs (Entry k) ps qs i at whole = (cell-seam vs ps (cell_at xs k) qs i whole at, tt)
values-code xs vs (Unary op a) ps qs i at whole =
    let v = value_of xs (Unary op a) in
    let na = length-node_values xs a in
    let first : vs ≡ ps ++ (node_values xs a ++ (v ∷ qs)) = whole ∙ simp append_assoc in
    let operand : vs ≡ (ps ++ values_below xs a) ++ value_of xs a ∷ (v ∷ qs) = whole ∙ simp append_assoc in
    let root : vs ≡ (ps ++ node_values xs a) ++ v ∷ qs = whole ∙ simp append_assoc in
    AllFrom-append (IsValueOf xs vs) i (code_of a i) _ (values-code xs vs a ps (v ∷ qs) i at first) (
      cell-seam vs (ps ++ node_values xs a) v qs (i + length (code_of a i)) root (omega (arith, at, length-code a i, na, length-append ps (node_values xs a)))
          ∙ ap (unary_value op) (sym (cell-seam vs (ps ++ values_below xs a) (value_of xs a) (v ∷ qs) (i + below a) operand (omega (arith, at, length-values xs a, length-append ps (values_below xs a))))),
      tt,
    )
values-code xs vs (Binary op a b) ps qs i at whole =
    let v = value_of xs (Binary op a b) in
    let na = length-node_values xs a in
    let nb = length-node_values xs b in
    let lb = length-append (ps ++ node_values xs a) (node_values xs b) in
    let lc = length-append (ps ++ node_values xs a) (values_below xs b) in
    let la = length-append ps (node_values xs a) in
    let first : vs ≡ ps ++ (node_values xs a ++ (node_values xs b ++ (v ∷ qs))) = whole ∙ simp append_assoc in
    let second : vs ≡ (ps ++ node_values xs a) ++ (node_values xs b ++ (v ∷ qs)) = whole ∙ simp append_assoc in
    let left : vs ≡ (ps ++ values_below xs a) ++ value_of xs a ∷ (node_values xs b ++ (v ∷ qs)) = whole ∙ simp append_assoc in
    let right : vs ≡ ((ps ++ node_values xs a) ++ values_below xs b) ++ value_of xs b ∷ (v ∷ qs) = whole ∙ simp append_assoc in
    let root : vs ≡ ((ps ++ node_values xs a) ++ node_values xs b) ++ v ∷ qs = whole ∙ simp append_assoc in
    let here : i + length (code_of a i) ≡ i + size a = omega (arith, length-code a i) in
    let there : i + size a ≡ length (ps ++ node_values xs a) = omega (arith, at, na, la) in
    AllFrom-append (IsValueOf xs vs) i (code_of a i) _ (values-code xs vs a ps (node_values xs b ++ (v ∷ qs)) i at first)
    (subst (λ (j : ℕ). AllFrom (IsValueOf xs vs) j (code_of b (i + size a) ++ nodes.Binary op (i + below a) ((i + size a) + below b) ∷ [])) (sym here)
    (AllFrom-append (IsValueOf xs vs) (i + size a) (code_of b (i + size a)) _ (values-code xs vs b (ps ++ node_values xs a) (v ∷ qs) (i + size a) there second) (
      cell-seam vs ((ps ++ node_values xs a) ++ node_values xs b) v qs ((i + size a) + length (code_of b (i + size a))) root (omega (arith, there, length-code b (i + size a), nb, lb))
          ∙ sym (ap₂ (binary_value op)
          (cell-seam vs (ps ++ values_below xs a) (value_of xs a) (node_values xs b ++ (v ∷ qs)) (i + below a) left (omega (arith, at, length-values xs a, length-append ps (values_below xs a))))
          (cell-seam vs ((ps ++ node_values xs a) ++ values_below xs b) (value_of xs b) (v ∷ qs) ((i + size a) + below b) right (omega (arith, there, length-values xs b, lc)))),
      tt,
    )))
