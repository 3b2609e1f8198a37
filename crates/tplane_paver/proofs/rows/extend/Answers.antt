use Rattle.std.proofs.Common.{◌∙◌, arith}
use Rattle.tplane_paver.proofs.Putting.{row-joined_at}
use Rattle.tplane_paver.proofs.rows.extend.Goals as goal

pub returns-then-joined-clause-row : goal.returns-then-joined-clause-row
returns-then-joined-clause-row c = λ l e.
    row-joined_at c.args.row.now.items l c.args.first c.args.last c.len-n.result c.index_mut.result.now (omega arith) c.index_mut.ensures.value e
    (cc (c.ends_before-joined.ensures.joins l (c.deref.ensures.value ∙ e)))
