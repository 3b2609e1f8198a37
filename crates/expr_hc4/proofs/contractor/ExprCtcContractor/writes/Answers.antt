use Rattle.std.proofs.Common.{List, length, sym, ap, ◌∙◌}
use Rattle.expr_values.specs.Targets.{entry_narrowing}
use Rattle.expr_hc4.specs.Places.{leaf_cells}
use Rattle.expr_hc4.specs.Projections.{entries_at}
use Rattle.expr_hc4.specs.Programs.{bound_comparison, Program}
use Rattle.expr_hc4.proofs.Counts.{projections-count}
use Rattle.expr_hc4.proofs.contractor.ExprCtcContractor.writes.Goals as goal

pub returns : goal.returns
returns c =
    let p = c.args.self.now.flat.value in
    ap length (c.leaves.ensures.value ∙ ap (λ (q : Program). q.leaves) c.deref.ensures)
    ∙ sym (projections-count c.args._store.now.shape c.args.self.now.place p.leaves (λ j xs. entry_narrowing (entries_at (leaf_cells c.args._store.now.shape c.args.self.now.place p.leaves) xs) (bound_comparison p) j))
