use Rattle.std.proofs.Common.{rules}
use Rattle.tube_io.proofs.Moved.{appends_more}
use Rattle.tube_io.proofs.whole.write_all.Goals as goal

pub loop-at-preserved : goal.loop-at-preserved
loop-at-preserved g c = record {
  taken = appends_more _ _ _ c.args.bytes.now _ c.loop-at.at c.in-Took.n c.split_at.ensures.back c.loop-at.invariant.taken c.in-Took.ensures.bytes.2;
  within = search rules;
  steady = search rules;
  flushed = search rules;
}
