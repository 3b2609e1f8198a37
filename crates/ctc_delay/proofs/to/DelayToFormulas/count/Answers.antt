use Rattle.std.proofs.Common.{sym, ◌∙◌}
use Rattle.ctc_delay.proofs.Counts.{length-to}
use Rattle.ctc_delay.proofs.to.DelayToFormulas.count.Goals as goal

pub returns : goal.returns
returns c = let me = c.args.self.now in c.place_count.ensures.count ∙ sym (length-to c.args.store.now.shape me.x.0 me.y.0 me.tau.0)
