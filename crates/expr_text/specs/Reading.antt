-- What a text means, and where its first fault stands.
use Rattle.std.specs.Prelude.{◌≡◌, ◌≢◌, ℕ, ◌+◌, ◌-◌, ◌<◌, ◌≤◌, ◌⊎◌, max, List, [], ◌∷◌, ◌++◌, length, drop, Some}
use Rattle.expr_tree.specs.Measures.{relation_depth, relation_nodes}
use Rattle.expr_text.specs.declared.token.Token.{Token}
use Rattle.expr_text.specs.declared.token.Token.TheVariants as token
use Rattle.expr_text.specs.Spelling.{token_at, without_spaces}
use Rattle.expr_text.specs.Grammar.{RelationPhrase, phrase_relation, relation_tokens}

-- The text begins with these tokens, with spaces or none between them, and then the rest comes.
abbrev pub Begins : List ℕ → List Token → List ℕ → Type 0
Begins text [] rest = without_spaces text ≡ rest
Begins text (t ∷ ts) rest =
    (size : ℕ) × (token_at (without_spaces text) ≡ Some (t, size)) × Begins (drop size (without_spaces text)) ts rest

-- the text is this phrase
abbrev pub Spells : List ℕ → RelationPhrase → Type 0
Spells text phrase = Begins text (relation_tokens phrase) []

-- some relation begins with these tokens
abbrev pub CanBegin : List Token → Type 0
CanBegin tokens = (more : List Token) × (phrase : RelationPhrase) × (relation_tokens phrase ≡ tokens ++ more)

-- Behind these tokens the rest can't go on: it is no token, or one that can't follow them; or it is
-- at its end, and the tokens are no relation.
abbrev pub Stops : List Token → List ℕ → Type 0
Stops tokens [] = (phrase : RelationPhrase) → relation_tokens phrase ≢ tokens
Stops tokens (c ∷ cs) = (t : Token) (size : ℕ) → token_at (c ∷ cs) ≡ Some (t, size) → CanBegin (tokens ++ t ∷ []) → ⊥

-- The text is no relation, and what can't go on stands at this place, the first byte of it: all that
-- stands before are tokens that some relation begins with.
pub record FaultAt (text : List ℕ) (place : ℕ) : Type 0 where
  pub tokens : List Token
  pub rest : List ℕ
  pub begins : Begins text tokens rest
  pub viable : CanBegin tokens
  pub stops : Stops tokens rest
  pub place_is : place + length rest ≡ length text

-- how many brackets are open behind a token
abbrev pub open_behind : ℕ → Token → ℕ
open_behind n token.Open = n + 1
open_behind n token.Close = n - 1
open_behind n _ = n

-- the greatest number of brackets that are open at one time, where n are open at first
abbrev pub most_open : ℕ → List Token → ℕ
most_open n [] = n
most_open n (t ∷ ts) = max n (most_open (open_behind n t) ts)

-- how many nodes of the tree a token makes: one, but for brackets and commas
abbrev pub token_nodes : Token → ℕ
token_nodes token.Open = 0
token_nodes token.Close = 0
token_nodes token.Comma = 0
token_nodes _ = 1

-- at most 256 nodes, depth 32, and 32 brackets open at one time
pub record IsWithinLimits (phrase : RelationPhrase) : Type 0 where
  pub nodes : relation_nodes (phrase_relation phrase) ≤ 256
  pub depth : relation_depth (phrase_relation phrase) ≤ 32
  pub brackets : most_open 0 (relation_tokens phrase) ≤ 32

abbrev pub PassesALimit : RelationPhrase → Type 0
PassesALimit phrase =
    (256 < relation_nodes (phrase_relation phrase)) ⊎ ((32 < relation_depth (phrase_relation phrase)) ⊎ (32 < most_open 0 (relation_tokens phrase)))
