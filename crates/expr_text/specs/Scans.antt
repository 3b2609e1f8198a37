-- What is known of a text once its tokens were taken one after the other.
use Rattle.std.specs.Prelude.{◌≡◌, ℕ, ◌≤◌, Bool, true, false, List, [], ◌∷◌, ◌++◌, Result, Ok, Err, Some, sum_by}
use Rattle.expr_text.specs.declared.token.Token.{Token}
use Rattle.expr_text.specs.declared.fault.ExprFault.{ExprFault}
use Rattle.expr_text.specs.declared.fault.ExprFault.TheVariants as fault
use Rattle.expr_text.specs.declared.scan.Scan.{Scan}
use Rattle.expr_text.specs.Accepts.{state_of}
use Rattle.expr_text.specs.Acceptor.{is_whole, run, start}
use Rattle.expr_text.specs.Reading.{Begins, CanBegin, FaultAt, most_open, token_nodes}

-- these tokens were taken
pub record Follows (tokens : List Token) (scan : Scan) : Type 0 where
  pub ran : run start tokens ≡ Some (state_of scan.acceptor)
  pub nodes : scan.nodes ≡ sum_by token_nodes tokens
  pub brackets : scan.most_open ≡ most_open 0 tokens
  pub kept : scan.nodes ≤ 256 → scan.most_open ≤ 32 → scan.tokens.items ≡ tokens

-- A token was taken, or no relation goes on with it.
abbrev pub Goes : Bool → Token → Scan → Scan → Type 0
Goes true t old new = (tokens : List Token) → Follows tokens old → Follows (tokens ++ t ∷ []) new
Goes false t old new = (tokens : List Token) → Follows tokens old → CanBegin (tokens ++ t ∷ []) → ⊥

-- all tokens of the text were taken, and they are a relation; or its first fault was found
abbrev pub Scanned : List ℕ → Result Scan ExprFault → Type 0
Scanned text (Ok scan) =
    (tokens : List Token) × Begins text tokens [] × Follows tokens scan × (is_whole (state_of scan.acceptor) ≡ true)
Scanned text (Err (fault.Text place)) = FaultAt text place
Scanned text (Err fault.Deep) = ⊥
Scanned text (Err fault.NoMemory) = Unit {0}
