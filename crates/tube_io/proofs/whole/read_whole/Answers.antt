use Rattle.std.proofs.Common.{arith}
use Rattle.std.proofs.lemmas.Grind.{common_steps}
use Rattle.tube_io.proofs.Moved.{gave_more}
use Rattle.tube_io.proofs.whole.read_whole.Goals as goal

pub returns-then-is_err-clause-taken : goal.returns-then-is_err-clause-taken
returns-then-is_err-clause-taken g c = gave_more _ _ _ c.loop-chunk.bytes.items c.read.new.into c.in-Bytes.n _ c.loop-chunk.invariant.taken c.in-Bytes.ensures.bytes (grind (arith, common_steps))
