-- The words for the kinds of records.
use Rattle.std.specs.Prelude.{ℕ, List, Option, codes, bytes_eq, find}
use Rattle.log_spelling.specs.declared.kind.Kind.{Kind}
use Rattle.log_spelling.specs.declared.kind.Kind.TheVariants.{Mission, Signal, Variable, Deriv, Bound, At, Eval, Delay, Beacon, Range, Range3, Constell, Ping, Expr, Exprv, Revisit, Settle, Cut}
use Rattle.log_spelling.specs.declared.kind.TheConstants.Kind.{ALL}

-- the word for a kind
abbrev pub word_of : Kind → List ℕ
word_of Mission = codes "mission"
word_of Signal = codes "signal"
word_of Variable = codes "var"
word_of Deriv = codes "deriv"
word_of Bound = codes "bound"
word_of At = codes "at"
word_of Eval = codes "eval"
word_of Delay = codes "delay"
word_of Beacon = codes "beacon"
word_of Range = codes "range"
word_of Range3 = codes "range3"
word_of Constell = codes "constell"
word_of Ping = codes "ping"
word_of Expr = codes "expr"
word_of Exprv = codes "exprv"
word_of Revisit = codes "revisit"
word_of Settle = codes "settle"
word_of Cut = codes "cut"

-- the kind that a word stands for, in lower case
unfoldable pub kind_of : List ℕ → Option Kind
kind_of word = find (λ kind. bytes_eq word (word_of kind)) ALL
