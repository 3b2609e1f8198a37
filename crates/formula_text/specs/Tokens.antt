-- The tokens of a text, taken from its left.
use Rattle.std.specs.Prelude.{ℕ, zero, suc, List, [], ◌∷◌, length, drop, Option, Some, None, option_and_then, option_map}
use Rattle.expr_text.specs.declared.token.Token.{Token}
use Rattle.expr_text.specs.Spelling.{token_at, without_spaces}

-- the token at the front, and then the tokens that others has of what is behind it
abbrev pub front_then : (List ℕ → Option (List Token)) → List ℕ → Option (List Token)
front_then others [] = Some []
front_then others (c ∷ cs) =
    option_and_then (λ found. option_map (λ ts. found.0 ∷ ts) (others (drop found.1 (c ∷ cs)))) (token_at (c ∷ cs))

-- the tokens of a text, taken in so many turns; none where a part of it is no token
abbrev pub tokens_within : ℕ → List ℕ → Option (List Token)
tokens_within zero text = None
tokens_within (suc turns) text = front_then (tokens_within turns) (without_spaces text)

-- The tokens of a text. Each takes a byte at least, so that a turn for each byte and one for the end are enough.
unfoldable pub tokens_of : List ℕ → Option (List Token)
tokens_of text = tokens_within (suc (length text)) text
