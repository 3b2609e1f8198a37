use Rattle.std.proofs.Common.{sym}
use Rattle.std.proofs.lemmas.List.FromFn.{length-map-range_with_len}
use Rattle.ctc_delay.specs.Windows.{held_projection}
use Rattle.ctc_delay.proofs.held.HeldFormulas.count.Goals as goal

pub returns : goal.returns
returns c = sym (length-map-range_with_len (held_projection c.args._store.now.shape c.args.self.now) 0 c.args.self.now.count)
