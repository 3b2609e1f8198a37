-- What a text of a log says: the relation that it is, or why it is none.
use Rattle.std.specs.Prelude.{ℕ, ◌*◌, ◌&&◌, Bool, false, nat_le, List, length, Option, None, Result, Ok, Err, if◌then◌else◌}
use Rattle.std.specs.Option.{option_map_or}
use Rattle.expr_tree.specs.Trees.{Relation}
use Rattle.expr_tree.specs.Measures.{relation_depth, relation_nodes}
use Rattle.expr_text.specs.declared.token.Token.{Token}
use Rattle.expr_text.specs.Acceptor.{is_whole, run, start}
use Rattle.expr_text.specs.Descent.{relation_at}
use Rattle.expr_text.specs.Reading.{most_open}
use Rattle.formula_text.specs.Tokens.{tokens_of}

-- it is no relation; it is one that passes a limit
pub data TextCause : Type 0 where
  Text : TextCause
  Deep : TextCause

-- the tokens are a relation: a whole one stands before their end
abbrev pub are_relation : List Token → Bool
are_relation ts = option_map_or is_whole (run start ts) false

-- the relation that tokens are, if they are one; six calls for each token build it
abbrev pub relation_of_tokens : List Token → Option Relation
relation_of_tokens ts = if are_relation ts then relation_at (6 * length ts) ts else None

-- at most 256 nodes, depth 32, and 32 brackets open at one time
abbrev pub is_within_limits : List Token → Relation → Bool
is_within_limits ts r = nat_le (relation_nodes r) 256 && (nat_le (relation_depth r) 32 && nat_le (most_open 0 ts) 32)

-- the relation, where it and its tokens are within the limits
abbrev pub reading_of_relation : List Token → Relation → Result Relation TextCause
reading_of_relation ts r = if is_within_limits ts r then Ok r else Err Deep

-- what some tokens say
abbrev pub reading_of_tokens : List Token → Result Relation TextCause
reading_of_tokens ts = option_map_or (reading_of_relation ts) (relation_of_tokens ts) (Err Text)

-- what a text says
unfoldable pub reading_of : List ℕ → Result Relation TextCause
reading_of text = option_map_or reading_of_tokens (tokens_of text) (Err Text)
