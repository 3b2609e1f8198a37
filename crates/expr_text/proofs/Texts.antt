-- Tokens of a text, one after the other.
use Rattle.std.proofs.Common.{◌≡◌, ℕ, ◌==◌, Bool, true, false, cond, ◌≤◌, List, [], ◌∷◌, ◌++◌, length, drop, Some, ap, ◌∙◌, arith}
use Rattle.expr_text.specs.declared.token.Token.{Token}
use Rattle.expr_text.specs.Spelling.{token_at, without_spaces}
use Rattle.expr_text.specs.Reading.{Begins}

-- one token more
pub begins_more : (text : List ℕ) (ts : List Token) (rest : List ℕ) (t : Token) (size : ℕ) → Begins text ts rest → token_at rest ≡ Some (t, size) → Begins text (ts ++ t ∷ []) (without_spaces (drop size rest))
begins_more text [] rest t size b h =
    (size, ap token_at b ∙ h, ap (λ (r : List ℕ). without_spaces (drop size r)) b)
begins_more text (x ∷ xs) rest t size b h = (b.0, b.1, begins_more (drop b.0 (without_spaces text)) xs rest t size b.2 h)

-- no longer without its spaces
pub without-le : (text : List ℕ) → length (without_spaces text) ≤ length text
without-le [] = omega arith
without-le (c ∷ cs) = pick (c == 32) (without-le cs)
  where
    pick : (b : Bool) → length (without_spaces cs) ≤ length cs → length (cond b (without_spaces cs) (c ∷ cs)) ≤ length (c ∷ cs)
    pick true h = omega arith
    pick false h = omega arith
