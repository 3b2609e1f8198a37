-- The word for a kind stands for it.
use Rattle.std.proofs.Common.{◌≡◌, Some, refl}
use Rattle.log_spelling.specs.Kinds.{kind_of, word_of}
use Rattle.log_spelling.specs.declared.kind.Kind.{Kind}
use Rattle.log_spelling.specs.declared.kind.Kind.TheVariants.{Mission, Signal, Variable, Deriv, Bound, At, Eval, Delay, Beacon, Range, Range3, Constell, Ping, Expr, Exprv, Revisit, Settle, Cut}

pub kind_read : (k : Kind) → kind_of (word_of k) ≡ Some k
unfolding kind_of
kind_read Mission = refl
kind_read Signal = refl
kind_read Variable = refl
kind_read Deriv = refl
kind_read Bound = refl
kind_read At = refl
kind_read Eval = refl
kind_read Delay = refl
kind_read Beacon = refl
kind_read Range = refl
kind_read Range3 = refl
kind_read Constell = refl
kind_read Ping = refl
kind_read Expr = refl
kind_read Exprv = refl
kind_read Revisit = refl
kind_read Settle = refl
kind_read Cut = refl
