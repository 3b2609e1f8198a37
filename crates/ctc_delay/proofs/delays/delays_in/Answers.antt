use Rattle.std.proofs.Common.{arith}
use Rattle.std.proofs.lemmas.Int.{ints, clamps}
use Rattle.ctc_delay.proofs.DelayHulls.{delays-are}
use Rattle.ctc_delay.proofs.delays.delays_in.Goals as goal

pub returns-then-least-greatest : goal.returns-then-least-greatest
returns-then-least-greatest c = delays-are c.args.tau c.args.last _ _ (omega (arith, ints, clamps)) (omega (arith, ints, clamps)) (omega (arith, ints, clamps))
