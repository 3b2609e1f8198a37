use Rattle.tplane_paver.proofs.Filling.{puts-row, count-row}
use Rattle.tplane_paver.proofs.paving.put.Goals as goal

pub returns-clause-put : goal.returns-clause-put
returns-clause-put c = puts-row c.args.work.now.rows.items c.args.a c.args.first c.args.last c.index_mut.result.now c.extend.new.row c.requires.row c.index_mut.ensures.value c.in_ok-begun.ensures.row

pub returns-clause-counted : goal.returns-clause-counted
returns-clause-counted c = count-row c.args.work.now.rows.items c.args.a c.args.work.now.count c.in_ok-begun.begun c.index_mut.result.now c.extend.new.row c.requires.row c.index_mut.ensures.value c.in_ok-begun.ensures.count c.requires.counted
