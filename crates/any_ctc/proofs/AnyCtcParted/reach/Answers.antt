use Rattle.any_ctc.specs.declared.AnyCtc.TheVariants as any
use Rattle.any_ctc.proofs.Marked.{reach-of}
use Rattle.any_ctc.proofs.AnyCtcParted.reach.Goals as goal

pub returns-in-Slices : goal.returns-in-Slices
returns-in-Slices c = reach-of c.args.store.now.shape c.args.cell.0 c.reach.result.start c.reach.result.end c.args.self.now (any.Slices c.in-Slices.c) c.in-Slices.is c.reach.ensures

pub returns-in-Derivs : goal.returns-in-Derivs
returns-in-Derivs c = reach-of c.args.store.now.shape c.args.cell.0 c.reach-in-Derivs.result.start c.reach-in-Derivs.result.end c.args.self.now (any.Derivs c.in-Derivs.c) c.in-Derivs.is c.reach-in-Derivs.ensures
