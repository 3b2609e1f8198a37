use Rattle.std.proofs.Common.{arith}
use Rattle.ctc_constell.proofs.Reading.{both-at}
use Rattle.ctc_constell.proofs.constell.ConstellCtc.var.Goals as goal

pub returns : goal.returns
returns g c = both-at g.row.N c.args.self.now.p c.args.self.now.marks.items (omega arith) (omega arith) c.requires.alike c.args.i (omega arith) (omega arith) c.index.result.now c.index.ensures (record { 0 = 0 })
