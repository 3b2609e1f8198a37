use Rattle.std.proofs.Common.{◌≡◌, ◌<◌, length, sym, ◌∙◌, arith}
use Rattle.tube_spec.proofs.Monotone.{IfSome-any}
use Rattle.expr_hc4.specs.Outcomes.{outcome_at}
use Rattle.expr_hc4.proofs.Counts.{among-leaves, formula-at}
use Rattle.expr_hc4.proofs.contractor.FoundFormulas.given.Goals as goal

pub given-requires : goal.given-requires
given-requires c =
    let few = c.requires.fits.1 in
    omega (arith, among-leaves c.args._store.now.shape c.args.self.now.place c.args.self.now.leaves.now (λ j xs. outcome_at c.args.self.now.ending c.args.self.now.targets.now j) c.args.i c.requires.below, few)

pub returns : goal.returns
returns c =
    IfSome-any _ c.args._store.now.box (λ xs.
    c.given.ensures ∙ sym (formula-at c.args._store.now.shape c.args.self.now.place c.args.self.now.leaves.now (λ j ys. outcome_at c.args.self.now.ending c.args.self.now.targets.now j) c.args.i xs c.requires.below))
