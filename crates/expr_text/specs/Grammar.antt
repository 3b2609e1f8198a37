-- The grammar. A phrase is a derivation: it has the tokens that it derives, and the tree that they mean.
use Rattle.std.specs.Prelude.{ℕ, ℤ, List, [], ◌∷◌, ◌++◌}
use Rattle.expr_tree.specs.declared.RelOp.{RelOp}
use Rattle.expr_tree.specs.Trees.{Tree, Number, Named, Apply, Join, Minus, Square, Absolute, Sum, Difference, Product, Least, Greatest, Relation}
use Rattle.expr_text.specs.declared.token.Token.{Token}
use Rattle.expr_text.specs.declared.token.Token.TheVariants as token

mutual
  -- sum: a product, then any number of `+` or `-` and a product
  pub data SumPhrase : Type 0 where
    SumOf : ProductPhrase → Addends → SumPhrase

  pub data Addends : Type 0 where
    NoAddend : Addends
    Added : ProductPhrase → Addends → Addends
    Subtracted : ProductPhrase → Addends → Addends

  -- product: a unary, then any number of `*` and a unary
  pub data ProductPhrase : Type 0 where
    ProductOf : UnaryPhrase → Factors → ProductPhrase

  pub data Factors : Type 0 where
    NoFactor : Factors
    Multiplied : UnaryPhrase → Factors → Factors

  -- unary: `-` and a unary, or a primary
  pub data UnaryPhrase : Type 0 where
    Negated : UnaryPhrase → UnaryPhrase
    Plain : PrimaryPhrase → UnaryPhrase

  -- primary: a number, a name, a sum in brackets, or a function of one or two sums
  pub data PrimaryPhrase : Type 0 where
    Literal : ℤ → PrimaryPhrase
    Symbol : List ℕ → PrimaryPhrase
    Bracketed : SumPhrase → PrimaryPhrase
    SquareOf : SumPhrase → PrimaryPhrase
    AbsoluteOf : SumPhrase → PrimaryPhrase
    LeastOf : SumPhrase → SumPhrase → PrimaryPhrase
    GreatestOf : SumPhrase → SumPhrase → PrimaryPhrase

-- relation: a sum, a comparison and a sum
pub record RelationPhrase : Type 0 where
  pub op : RelOp
  pub left : SumPhrase
  pub right : SumPhrase

-- the tokens of each phrase
abbrev mutual
  pub sum_tokens : SumPhrase → List Token
  sum_tokens (SumOf product more) = product_tokens product ++ addend_tokens more

  pub addend_tokens : Addends → List Token
  addend_tokens NoAddend = []
  addend_tokens (Added product more) = token.Plus ∷ (product_tokens product ++ addend_tokens more)
  addend_tokens (Subtracted product more) = token.Minus ∷ (product_tokens product ++ addend_tokens more)

  pub product_tokens : ProductPhrase → List Token
  product_tokens (ProductOf unary more) = unary_tokens unary ++ factor_tokens more

  pub factor_tokens : Factors → List Token
  factor_tokens NoFactor = []
  factor_tokens (Multiplied unary more) = token.Times ∷ (unary_tokens unary ++ factor_tokens more)

  pub unary_tokens : UnaryPhrase → List Token
  unary_tokens (Negated unary) = token.Minus ∷ unary_tokens unary
  unary_tokens (Plain primary) = primary_tokens primary

  pub primary_tokens : PrimaryPhrase → List Token
  primary_tokens (Literal n) = token.Number n ∷ []
  primary_tokens (Symbol name) = token.Name name ∷ []
  primary_tokens (Bracketed a) = token.Open ∷ (sum_tokens a ++ token.Close ∷ [])
  primary_tokens (SquareOf a) = token.Sqr ∷ token.Open ∷ (sum_tokens a ++ token.Close ∷ [])
  primary_tokens (AbsoluteOf a) = token.Abs ∷ token.Open ∷ (sum_tokens a ++ token.Close ∷ [])
  primary_tokens (LeastOf a b) = token.Min ∷ token.Open ∷ (sum_tokens a ++ token.Comma ∷ (sum_tokens b ++ token.Close ∷ []))
  primary_tokens (GreatestOf a b) = token.Max ∷ token.Open ∷ (sum_tokens a ++ token.Comma ∷ (sum_tokens b ++ token.Close ∷ []))

abbrev pub relation_tokens : RelationPhrase → List Token
relation_tokens r = sum_tokens r.left ++ token.Compare r.op ∷ sum_tokens r.right

-- The tree of each phrase. What comes after the first term of a sum or a product is joined to what stands
-- before it: grouping is to the left.
abbrev mutual
  pub sum_tree : SumPhrase → Tree
  sum_tree (SumOf product more) = with_addends more (product_tree product)

  pub with_addends : Addends → Tree → Tree
  with_addends NoAddend left = left
  with_addends (Added product more) left = with_addends more (Join Sum left (product_tree product))
  with_addends (Subtracted product more) left = with_addends more (Join Difference left (product_tree product))

  pub product_tree : ProductPhrase → Tree
  product_tree (ProductOf unary more) = with_factors more (unary_tree unary)

  pub with_factors : Factors → Tree → Tree
  with_factors NoFactor left = left
  with_factors (Multiplied unary more) left = with_factors more (Join Product left (unary_tree unary))

  pub unary_tree : UnaryPhrase → Tree
  unary_tree (Negated unary) = Apply Minus (unary_tree unary)
  unary_tree (Plain primary) = primary_tree primary

  pub primary_tree : PrimaryPhrase → Tree
  primary_tree (Literal n) = Number n
  primary_tree (Symbol name) = Named name
  primary_tree (Bracketed a) = sum_tree a
  primary_tree (SquareOf a) = Apply Square (sum_tree a)
  primary_tree (AbsoluteOf a) = Apply Absolute (sum_tree a)
  primary_tree (LeastOf a b) = Join Least (sum_tree a) (sum_tree b)
  primary_tree (GreatestOf a b) = Join Greatest (sum_tree a) (sum_tree b)

abbrev pub phrase_relation : RelationPhrase → Relation
phrase_relation r = record { op = r.op; left = sum_tree r.left; right = sum_tree r.right }
