use Rattle.std.proofs.Common.{sym}
use Rattle.expr_hc4.specs.Outcomes.{outcome_at}
use Rattle.expr_hc4.proofs.Counts.{projections-count}
use Rattle.expr_hc4.proofs.contractor.FoundFormulas.count.Goals as goal

pub returns : goal.returns
returns c = sym (projections-count c.args._store.now.shape c.args.self.now.place c.args.self.now.leaves.now (λ j xs. outcome_at c.args.self.now.ending c.args.self.now.targets.now j))
