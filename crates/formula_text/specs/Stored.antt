-- How the logic stores a relation: how its terms are compared, and the words of both, each operator before its terms.
use Rattle.std.specs.Prelude.{◌≡◌, ℕ, ℤ, List, [], ◌∷◌}
use Rattle.std.proofs.Common.{ap}
use base.Stored.{coded_via}
use Rattle.std.specs.Coded.{Coded}
use Rattle.expr_tree.specs.declared.RelOp.{RelOp}
use Rattle.expr_tree.specs.Trees.{Tree, Number, Named, Apply, Join, Unary, Binary, Relation}

-- a number, a name, or an operator without its terms
pub data Word : Type 0 where
  Value : ℤ → Word
  Reference : List ℕ → Word
  One : Unary → Word
  Two : Binary → Word

-- the words of a tree, and then others
abbrev pub words : Tree → List Word → List Word
words (Number n) others = Value n ∷ others
words (Named name) others = Reference name ∷ others
words (Apply op a) others = One op ∷ words a others
words (Join op a b) others = Two op ∷ words a (words b others)

-- words are those of one tree
pub words_apart : (a b : Tree) (xs ys : List Word) → words a xs ≡ words b ys → (a ≡ b) × (xs ≡ ys)
words_apart (Number n) (Number m) xs ys e = (cc, cc)
words_apart (Number n) (Named name) xs ys e = cc
words_apart (Number n) (Apply op b) xs ys e = cc
words_apart (Number n) (Join op b d) xs ys e = cc
words_apart (Named name) (Number m) xs ys e = cc
words_apart (Named name) (Named other) xs ys e = (cc, cc)
words_apart (Named name) (Apply op b) xs ys e = cc
words_apart (Named name) (Join op b d) xs ys e = cc
words_apart (Apply op a) (Number m) xs ys e = cc
words_apart (Apply op a) (Named name) xs ys e = cc
words_apart (Apply op a) (Apply or b) xs ys e = let t = words_apart a b xs ys cc in (cc, t.1)
words_apart (Apply op a) (Join or b d) xs ys e = cc
words_apart (Join op a c) (Number m) xs ys e = cc
words_apart (Join op a c) (Named name) xs ys e = cc
words_apart (Join op a c) (Apply or b) xs ys e = cc
words_apart (Join op a c) (Join or b d) xs ys e =
    let t = words_apart a b (words c xs) (words d ys) cc in
    let u = words_apart c d xs ys t.1 in
    (cc, u.1)

-- the words of a relation
abbrev pub relation_words : Relation → RelOp × List Word
relation_words r = (r.op, words r.left (words r.right []))

pub relation_words_apart : (r s : Relation) → relation_words r ≡ relation_words s → r ≡ s
relation_words_apart r s e =
    let t = words_apart r.left s.left (words r.right []) (words s.right []) (ap (λ (w : RelOp × List Word). w.1) e) in
    let u = words_apart r.right s.right [] [] t.1 in
    let ops : r.op ≡ s.op = ap (λ (w : RelOp × List Word). w.0) e in
    λ i. record { op = ops i; left = t.0 i; right = u.0 i }

abbrev pub relation_code : Coded (RelOp × List Word) → Coded Relation
relation_code pairs = coded_via pairs relation_words relation_words_apart
