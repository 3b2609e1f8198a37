use Rattle.std.proofs.Common.{◌∙◌}
use Rattle.expr_hc4.specs.Outcomes.{outcome_at}
use Rattle.expr_hc4.proofs.Counts.{among-leaves, target-at}
use Rattle.expr_hc4.proofs.contractor.FoundFormulas.target.Goals as goal

pub bounds-self-i : goal.bounds-self-i
bounds-self-i c = among-leaves c.args.store.now.shape c.args.self.now.place c.args.self.now.leaves.now (λ j xs. outcome_at c.args.self.now.ending c.args.self.now.targets.now j) c.args.i c.requires.below

pub cell_of-requires : goal.cell_of-requires
cell_of-requires c = c.requires.fits.0 c.args.i _ (among-leaves c.args.store.now.shape c.args.self.now.place c.args.self.now.leaves.now (λ j xs. outcome_at c.args.self.now.ending c.args.self.now.targets.now j) c.args.i c.requires.below)

pub returns : goal.returns
returns c = c.cell_of.ensures.cell ∙ target-at c.args.store.now.shape c.args.self.now.place c.args.self.now.leaves.now (λ j xs. outcome_at c.args.self.now.ending c.args.self.now.targets.now j) c.args.i c.requires.below
