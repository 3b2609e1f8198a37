use Rattle.std.proofs.Common.{List, ℤ, IfSome, subst}
use Rattle.loop_sets.specs.Tables.{IsTop}
use Rattle.loop_sets.proofs.Tabling.{table-some}
use Rattle.loop_sets.proofs.table.Sparse.over.Goals as goal

pub returns : goal.returns
returns c =
    subst (λ (values : List ℤ). IfSome c.top_over.result (IsTop values c.args.first c.args.last)) c.self.view_is
    (table-some c.self.inside.values.items c.self.inside.levels.items c.deref.result.now c.args.first c.args.last c.top_over.result c.deref.ensures.value c.self.invariant c.top_over.ensures)
