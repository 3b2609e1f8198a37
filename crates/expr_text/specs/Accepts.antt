-- The state of an acceptor, whose vector has the innermost bracket at its end.
use Rattle.std.specs.Prelude.{◌≡◌, Bool, true, false, List, Option, Some, None, reverse}
use Rattle.expr_text.specs.declared.acceptor.Acceptor.{Acceptor}
use Rattle.expr_text.specs.declared.acceptor.Bracket.{Bracket}
use Rattle.expr_text.specs.Acceptor.{State, state}

abbrev pub brackets : Acceptor → List Bracket
brackets a = reverse a.open.items

abbrev pub state_of : Acceptor → State
state_of a = state a.wants (brackets a) a.is_right

-- whether a token was taken, and the state behind it
abbrev pub Takes : Bool → Option State → State → Type 0
Takes true next new = next ≡ Some new
Takes false next new = next ≡ None
