-- A program is built term by term, and its expression is found in it again.
use Rattle.std.proofs.Common.{◌≡◌, ℕ, zero, suc, ◌+◌, ◌-◌, ◌<◌, ◌≤◌, List, [], ◌∷◌, ◌++◌, pos, refl, sym, ap, ap₂, subst, ◌∙◌, length, length-append, append_assoc, append-nil, arith}
use Rattle.std.proofs.Math.Seq.{get_or-append_seam}
use Rattle.expr_tree.specs.Trees.{Tree, Relation}
use Rattle.expr_tree.specs.Measures.{nodes, relation_nodes}
use Rattle.expr_tree.specs.Trees as trees
use Rattle.expr_tree.specs.declared.RelOp.{RelOp}
use Rattle.expr_values.specs.Expressions.{Expression, Constant, Entry, Unary, Binary, Comparison, numbered, leaves, relation_leaves, comparison_of}
use Rattle.tube_names.specs.declared.leaves.Leaf.{Leaf}
use Rattle.expr_hc4.specs.declared.nodes.Node.{Node}
use Rattle.expr_hc4.specs.declared.nodes.Node.TheVariants as kinds
use Rattle.tube_names.specs.Leaves.{first_uses}
use Rattle.expr_hc4.specs.Programs.{below, size, code_of, places_of, node_at, expression_of, expression_at, comparison_code, comparison_places, program_comparison, IsProgram, IsFlat, IsOrdered, AreOrdered}
use Rattle.expr_hc4.proofs.Codes.{length-code, length-places, AllFrom, AllFrom-append, AllFrom-at, ordered-code}

node-seam : (ns ms : List Node) (n : Node) (ls : List Node) (i : ℕ) → ns ≡ ms ++ n ∷ ls → i ≡ length ms → node_at ns i ≡ n
node-seam ns ms n ls i e f = ap₂ node_at e f ∙ get_or-append_seam ms n ls (kinds.Constant (pos 0))

-- the expression at the root of its program
pub expression-found : (ns : List Node) (e : Expression) (ps qs : List Node) (i depth : ℕ) → ns ≡ ps ++ (code_of e i ++ qs) → i ≡ length ps → i + below e < depth → expression_at ns depth (i + below e) ≡ e
expression-found ns e ps qs i zero whole at deep = absurd (omega (arith, deep))
expression-found ns (Constant n) ps qs i (suc depth) whole at deep = ap (λ (m : Node). expression_of m (λ k. expression_at ns depth k)) (node-seam ns ps (kinds.Constant n) qs (i + 0) whole (omega (arith, at)))
expression-found ns (Entry k) ps qs i (suc depth) whole at deep = ap (λ (m : Node). expression_of m (λ k. expression_at ns depth k)) (node-seam ns ps (kinds.Entry k) qs (i + 0) whole (omega (arith, at)))
expression-found ns (Unary op a) ps qs i (suc depth) whole at deep =
    let root = kinds.Unary op (i + below a) in
    let split : ns ≡ (ps ++ code_of a i) ++ root ∷ qs = whole ∙ simp append_assoc in
    let first : ns ≡ ps ++ (code_of a i ++ (root ∷ qs)) = whole ∙ simp append_assoc in
    ap (λ (m : Node). expression_of m (λ k. expression_at ns depth k)) (node-seam ns (ps ++ code_of a i) root qs (i + (below a + 1)) split (omega (arith, at, length-code a i, length-append ps (code_of a i))))
    ∙ ap (Unary op) (expression-found ns a ps (root ∷ qs) i depth first at (omega (arith, deep)))
expression-found ns (Binary op a b) ps qs i (suc depth) whole at deep =
    let j = i + size a in
    let root = kinds.Binary op (i + below a) (j + below b) in
    let split : ns ≡ ((ps ++ code_of a i) ++ code_of b j) ++ root ∷ qs = whole ∙ simp append_assoc in
    let first : ns ≡ ps ++ (code_of a i ++ (code_of b j ++ (root ∷ qs))) = whole ∙ simp append_assoc in
    let second : ns ≡ (ps ++ code_of a i) ++ (code_of b j ++ (root ∷ qs)) = whole ∙ simp append_assoc in
    let la = length-append ps (code_of a i) in
    ap (λ (m : Node). expression_of m (λ k. expression_at ns depth k))
    (node-seam ns ((ps ++ code_of a i) ++ code_of b j) root qs (i + ((below a + 1) + (below b + 1))) split (omega (arith, at, length-code a i, length-code b j, la, length-append (ps ++ code_of a i) (code_of b j))))
    ∙ ap₂ (Binary op) (expression-found ns a ps (code_of b j ++ (root ∷ qs)) i depth first at (omega (arith, deep))) (expression-found ns b (ps ++ code_of a i) (root ∷ qs) j depth second (omega (arith, at, length-code a i, la)) (omega (arith, deep)))

-- a comparison in its program
pub comparison-found : (ns : List Node) (left : ℕ) (c : Comparison) → ns ≡ comparison_code c → left ≡ below c.left → program_comparison c.op ns left ≡ c
comparison-found ns left c code at =
    let l = code_of c.left 0 in
    let r = code_of c.right (size c.left) in
    let n : length ns ≡ size c.left + size c.right = ap length code ∙ length-append l r ∙ omega (arith, length-code c.left 0, length-code c.right (size c.left)) in
    let z : left ≡ 0 + below c.left = omega (arith, at) in
    let y : length ns - 1 ≡ size c.left + below c.right = omega (arith, n) in
    let whole : ns ≡ l ++ (r ++ []) = code ∙ simp append-nil in
    ap₂ (λ (e f : Expression). let d : Comparison = record { op = c.op; left = e; right = f } in d)
    (ap (expression_at ns (length ns)) z ∙ expression-found ns c.left [] r 0 (length ns) code refl (omega (arith, n)))
    (ap (expression_at ns (length ns)) y ∙ expression-found ns c.right l [] (size c.left) (length ns) whole (sym (length-code c.left 0)) (omega (arith, n)))

-- adding two terms and a node over them
module _ (ta tb : Tree) (ns ms : List Node) (ps qs : List ℕ) (first : ms ≡ ns ++ code_of (numbered ta (length ps)) (length ns)) (second : qs ≡ ps ++ places_of (numbered ta (length ps)) (length ns)) where
  entries-so-far : length qs ≡ length ps + leaves ta
  entries-so-far = ap length second ∙ length-append ps (places_of (numbered ta (length ps)) (length ns)) ∙ omega (arith, length-places ta (length ps) (length ns))

  nodes-so-far : length ms ≡ length ns + size (numbered ta (length ps))
  nodes-so-far = ap length first ∙ length-append ns (code_of (numbered ta (length ps)) (length ns)) ∙ omega (arith, length-code (numbered ta (length ps)) (length ns))

  pub two-nodes : (op : _) (ls os : List Node) (a b : ℕ) → ls ≡ ms ++ code_of (numbered tb (length qs)) (length ms) → a ≡ length ns + below (numbered ta (length ps)) → b ≡ length ms + below (numbered tb (length qs))
      → os ≡ ls ++ kinds.Binary op a b ∷ [] → os ≡ ns ++ code_of (Binary op (numbered ta (length ps)) (numbered tb (length ps + leaves ta))) (length ns)
  two-nodes op ls os a b third ra rb last =
      let e = numbered ta (length ps) in
      let f = numbered tb (length ps + leaves ta) in
      let code : code_of (numbered tb (length qs)) (length ms) ≡ code_of f (length ns + size e) = ap₂ (λ (k i : ℕ). code_of (numbered tb k) i) entries-so-far nodes-so-far in
      let root : b ≡ (length ns + size e) + below f = rb ∙ ap₂ (λ (k i : ℕ). i + below (numbered tb k)) entries-so-far nodes-so-far in
      last ∙ ap₂ (λ (xs : List Node) (n : Node). xs ++ n ∷ []) (third ∙ ap₂ (λ (xs ys : List Node). xs ++ ys) first code) (ap₂ (kinds.Binary op) ra root) ∙ simp append_assoc

  pub two-places : (op : _) (os : List ℕ) → os ≡ qs ++ places_of (numbered tb (length qs)) (length ms) → os ≡ ps ++ places_of (Binary op (numbered ta (length ps)) (numbered tb (length ps + leaves ta))) (length ns)
  two-places op os third =
      third ∙ ap₂ (λ (xs ys : List ℕ). xs ++ ys) second (ap₂ (λ (k i : ℕ). places_of (numbered tb k) i) entries-so-far nodes-so-far) ∙ simp append_assoc

  pub two-roots : (op : _) (ls : List Node) (root : ℕ) → ls ≡ ms ++ code_of (numbered tb (length qs)) (length ms) → root ≡ length ls → root ≡ length ns + below (Binary op (numbered ta (length ps)) (numbered tb (length ps + leaves ta)))
  two-roots op ls root third at =
      let f = numbered tb (length qs) in
      let same : below f ≡ below (numbered tb (length ps + leaves ta)) = ap (λ (k : ℕ). below (numbered tb k)) entries-so-far in
      omega (arith, at, ap length third, length-append ms (code_of f (length ms)), length-code f (length ms), nodes-so-far, same)

pub one-root : (op : _) (e : Expression) (ns ms : List Node) (root : ℕ) → ms ≡ ns ++ code_of e (length ns) → root ≡ length ms → root ≡ length ns + below (Unary op e)
one-root op e ns ms root first at = omega (arith, at, ap length first, length-append ns (code_of e (length ns)), length-code e (length ns))

-- the nodes of an expression are as many as those of its tree
pub size-nodes : (t : Tree) (k : ℕ) → size (numbered t k) ≡ nodes t
size-nodes (trees.Number n) k = refl
size-nodes (trees.Named name) k = refl
size-nodes (trees.Apply op a) k = omega (arith, size-nodes a k)
size-nodes (trees.Join op a b) k = omega (arith, size-nodes a k, size-nodes b (k + leaves a))

-- both sides of a relation, added one after the other
module _ (rel : Relation) (ns ms : List Node) (ps qs : List ℕ) (left : ℕ) (one : ns ≡ [] ++ code_of (numbered rel.left 0) 0) (two : ps ≡ [] ++ places_of (numbered rel.left 0) 0) (at : left ≡ 0 + below (numbered rel.left 0))
    (three : ms ≡ ns ++ code_of (numbered rel.right (length ps)) (length ns)) (four : qs ≡ ps ++ places_of (numbered rel.right (length ps)) (length ns)) where
  entries-left : length ps ≡ leaves rel.left
  entries-left = ap length two ∙ length-places rel.left 0 0

  nodes-left : length ns ≡ size (numbered rel.left 0)
  nodes-left = ap length one ∙ length-code (numbered rel.left 0) 0

  abbrev c : Comparison
  c = comparison_of rel

  code-is : ms ≡ comparison_code c
  code-is = three ∙ ap₂ (λ (xs ys : List Node). xs ++ ys) one (ap₂ (λ (k i : ℕ). code_of (numbered rel.right k) i) entries-left nodes-left)

  places-are : qs ≡ comparison_places c
  places-are = four ∙ ap₂ (λ (xs ys : List ℕ). xs ++ ys) two (ap₂ (λ (k i : ℕ). places_of (numbered rel.right k) i) entries-left nodes-left)

  length-whole : length ms ≡ nodes rel.left + nodes rel.right
  length-whole = ap length code-is ∙ length-append (code_of c.left 0) (code_of c.right (size c.left)) ∙ omega (arith, length-code c.left 0, length-code c.right (size c.left), size-nodes rel.left 0, size-nodes rel.right (leaves rel.left))

  length-entries : length qs ≡ relation_leaves rel
  length-entries = ap length places-are ∙ length-append (places_of c.left 0) (places_of c.right (size c.left)) ∙ omega (arith, length-places rel.left 0 0, length-places rel.right (leaves rel.left) (size c.left))

  pub comparison-is : program_comparison rel.op ms left ≡ c
  comparison-is = comparison-found ms left c code-is (omega (arith, at))

  ordered : (count : ℕ) → relation_leaves rel ≤ count → AreOrdered count ms
  ordered count many i l =
      let z : 0 + length (code_of c.left 0) ≡ size c.left = omega (arith, length-code c.left 0) in
      let right = subst (λ (j : ℕ). AllFrom (IsOrdered count) j (code_of c.right (size c.left))) (sym z) (ordered-code count rel.right (leaves rel.left) (size c.left) (omega (arith, many))) in
      let all = AllFrom-append (IsOrdered count) 0 (code_of c.left 0) (code_of c.right (size c.left)) (ordered-code count rel.left 0 0 (omega (arith, many))) right in
      let s : 0 + i ≡ i = omega arith in
      subst (λ (xs : List Node). IsOrdered count i (node_at xs i)) (sym code-is) (subst (λ (j : ℕ). IsOrdered count j (node_at (comparison_code c) i)) s (AllFrom-at (IsOrdered count) 0 (comparison_code c) all i (subst (λ (xs : List Node). i < length xs) code-is l)))

  pub flat-is : (leafs names : List Leaf) → relation_nodes rel ≤ 256 → length leafs ≡ relation_leaves rel → names ≡ first_uses leafs → IsFlat rel.op ms left qs leafs names
  flat-is leafs names few each uses =
      let program : IsProgram ms left qs c = record { code = code-is; left_root = omega (arith, at); entries = places-are; few = omega (arith, length-whole, few) } in
      record {
        program = subst (IsProgram ms left qs) (sym comparison-is) program;
        ordered = ordered (length leafs) (omega (arith, each));
        each = omega (arith, length-entries, each);
        few = omega (arith, length-entries, few-leaves rel.left, few-leaves rel.right, few);
        uses = uses;
      }
    where
      few-leaves : (t : Tree) → leaves t ≤ nodes t
      few-leaves (trees.Number n) = omega arith
      few-leaves (trees.Named name) = omega arith
      few-leaves (trees.Apply op a) = omega (arith, few-leaves a)
      few-leaves (trees.Join op a b) = omega (arith, few-leaves a, few-leaves b)

-- the first side is added to empty lists
module _ (t : Tree) (ns : List Node) (ps : List ℕ) (no_nodes : ns ≡ []) (no_places : ps ≡ []) where
  pub first-nodes : (ms : List Node) → ms ≡ ns ++ code_of (numbered t (length ps)) (length ns) → ms ≡ [] ++ code_of (numbered t 0) 0
  first-nodes ms e = e ∙ ap₂ (λ (xs : List Node) (qs : List ℕ). xs ++ code_of (numbered t (length qs)) (length xs)) no_nodes no_places

  pub first-places : (rs : List ℕ) → rs ≡ ps ++ places_of (numbered t (length ps)) (length ns) → rs ≡ [] ++ places_of (numbered t 0) 0
  first-places rs e = e ∙ ap₂ (λ (xs : List Node) (qs : List ℕ). qs ++ places_of (numbered t (length qs)) (length xs)) no_nodes no_places

  pub first-root : (root : ℕ) → root ≡ length ns + below (numbered t (length ps)) → root ≡ 0 + below (numbered t 0)
  first-root root e = e ∙ ap₂ (λ (xs : List Node) (qs : List ℕ). length xs + below (numbered t (length qs))) no_nodes no_places
