-- What can follow, told from the brackets that are open. The innermost bracket is the first of them.
use Rattle.std.specs.Prelude.{Bool, true, false, List, [], ◌∷◌, Option, Some, None, option_and_then}
use Rattle.expr_text.specs.declared.token.Token.{Token}
use Rattle.expr_text.specs.declared.token.Token.TheVariants as token
use Rattle.expr_text.specs.declared.acceptor.Bracket.{Bracket}
use Rattle.expr_text.specs.declared.acceptor.Bracket.TheVariants as bracket
use Rattle.expr_text.specs.declared.acceptor.Wanted.{Wanted}
use Rattle.expr_text.specs.declared.acceptor.Wanted.TheVariants as wanted

pub record State : Type 0 where
  pub wants : Wanted
  pub open_brackets : List Bracket
  pub is_right : Bool

abbrev pub state : Wanted → List Bracket → Bool → State
state wants open_brackets is_right = record { wants = wants; open_brackets = open_brackets; is_right = is_right }

abbrev pub at_operand : Token → List Bracket → Bool → Option State
at_operand (token.Number n) bs right = Some (state wanted.Operator bs right)
at_operand (token.Name name) bs right = Some (state wanted.Operator bs right)
at_operand token.Sqr bs right = Some (state (wanted.Opening bracket.Last) bs right)
at_operand token.Abs bs right = Some (state (wanted.Opening bracket.Last) bs right)
at_operand token.Min bs right = Some (state (wanted.Opening bracket.First) bs right)
at_operand token.Max bs right = Some (state (wanted.Opening bracket.First) bs right)
at_operand token.Minus bs right = Some (state wanted.Operand bs right)
at_operand token.Open bs right = Some (state wanted.Operand (bracket.Last ∷ bs) right)
at_operand _ bs right = None

abbrev pub at_opening : Bracket → Token → List Bracket → Bool → Option State
at_opening b token.Open bs right = Some (state wanted.Operand (b ∷ bs) right)
at_opening b _ bs right = None

abbrev pub at_close : List Bracket → Bool → Option State
at_close (bracket.Last ∷ bs) right = Some (state wanted.Operator bs right)
at_close _ right = None

abbrev pub at_comma : List Bracket → Bool → Option State
at_comma (bracket.First ∷ bs) right = Some (state wanted.Operand (bracket.Last ∷ bs) right)
at_comma _ right = None

abbrev pub at_compare : List Bracket → Bool → Option State
at_compare [] false = Some (state wanted.Operand [] true)
at_compare _ right = None

abbrev pub at_operator : Token → List Bracket → Bool → Option State
at_operator token.Plus bs right = Some (state wanted.Operand bs right)
at_operator token.Minus bs right = Some (state wanted.Operand bs right)
at_operator token.Times bs right = Some (state wanted.Operand bs right)
at_operator token.Close bs right = at_close bs right
at_operator token.Comma bs right = at_comma bs right
at_operator (token.Compare op) bs right = at_compare bs right
at_operator _ bs right = None

abbrev pub at_wanted : Wanted → Token → List Bracket → Bool → Option State
at_wanted wanted.Operand t bs right = at_operand t bs right
at_wanted (wanted.Opening b) t bs right = at_opening b t bs right
at_wanted wanted.Operator t bs right = at_operator t bs right

-- the state behind a token, where the token can come next
unfoldable pub step : State → Token → Option State
step s t = at_wanted s.wants t s.open_brackets s.is_right

-- the state behind some tokens
abbrev pub run : State → List Token → Option State
run s [] = Some s
run s (t ∷ ts) = option_and_then (λ next. run next ts) (step s t)

abbrev pub start : State
start = state wanted.Operand [] false

abbrev pub is_end : Wanted → List Bracket → Bool → Bool
is_end wanted.Operator [] right = right
is_end _ bs right = false

-- a whole relation stands before
abbrev pub is_whole : State → Bool
is_whole s = is_end s.wants s.open_brackets s.is_right
