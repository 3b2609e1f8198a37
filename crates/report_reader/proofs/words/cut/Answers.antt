use Rattle.std.proofs.Common.{arith}
use Rattle.report_reader.proofs.Cuts.{cut_here}
use Rattle.report_reader.proofs.words.cut.Goals as goal

pub returns-then-b-at : goal.returns-then-b-at
returns-then-b-at c =
    cut_here c.args.at c.args.text.now c.loop-i.i _ _ _ (omega arith) (omega arith) c.loop-i.invariant c.split_at.ensures.front c.split_at.ensures.back c.split_at-then-b-at.ensures.back
