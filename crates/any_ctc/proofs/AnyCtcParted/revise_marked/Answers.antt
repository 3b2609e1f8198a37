use Rattle.ctc_parts.specs.Parts.{marked_in}
use Rattle.any_ctc.specs.declared.AnyCtc.TheVariants as any
use Rattle.any_ctc.proofs.Marked.{clean-of}
use Rattle.any_ctc.proofs.AnyCtcParted.revise_marked.Goals as goal

pub revise_marked-requires-clause-clean : goal.revise_marked-requires-clause-clean
revise_marked-requires-clause-clean g c = clean-of c.args.store.now.shape (marked_in c.args.marks.now c.args.within.start c.args.within.end) c.args.store.now.box c.args.self.now (any.Slices c.in-Slices.c) c.in-Slices.is c.requires.clean

pub revise_marked-requires-in-Derivs-clause-clean : goal.revise_marked-requires-in-Derivs-clause-clean
revise_marked-requires-in-Derivs-clause-clean g c = clean-of c.args.store.now.shape (marked_in c.args.marks.now c.args.within.start c.args.within.end) c.args.store.now.box c.args.self.now (any.Derivs c.in-Derivs.c) c.in-Derivs.is c.requires.clean

pub revise_whole-requires-clause-clean : goal.revise_whole-requires-clause-clean
revise_whole-requires-clause-clean g c = clean-of c.args.store.now.shape (marked_in c.args.marks.now c.args.within.start c.args.within.end) c.args.store.now.box c.args.self.now (any.Bound c.in-Bound.c) c.in-Bound.is c.requires.clean

pub revise_whole-requires-in-Eval-clause-clean : goal.revise_whole-requires-in-Eval-clause-clean
revise_whole-requires-in-Eval-clause-clean g c = clean-of c.args.store.now.shape (marked_in c.args.marks.now c.args.within.start c.args.within.end) c.args.store.now.box c.args.self.now (any.Eval c.in-Eval.c) c.in-Eval.is c.requires.clean

pub revise_whole-requires-in-DelayTo-clause-clean : goal.revise_whole-requires-in-DelayTo-clause-clean
revise_whole-requires-in-DelayTo-clause-clean g c = clean-of c.args.store.now.shape (marked_in c.args.marks.now c.args.within.start c.args.within.end) c.args.store.now.box c.args.self.now (any.DelayTo c.in-DelayTo.c) c.in-DelayTo.is c.requires.clean

pub revise_whole-requires-in-DelayFrom-clause-clean : goal.revise_whole-requires-in-DelayFrom-clause-clean
revise_whole-requires-in-DelayFrom-clause-clean g c = clean-of c.args.store.now.shape (marked_in c.args.marks.now c.args.within.start c.args.within.end) c.args.store.now.box c.args.self.now (any.DelayFrom c.in-DelayFrom.c) c.in-DelayFrom.is c.requires.clean

pub revise_whole-requires-in-DelayShift-clause-clean : goal.revise_whole-requires-in-DelayShift-clause-clean
revise_whole-requires-in-DelayShift-clause-clean g c = clean-of c.args.store.now.shape (marked_in c.args.marks.now c.args.within.start c.args.within.end) c.args.store.now.box c.args.self.now (any.DelayShift c.in-DelayShift.c) c.in-DelayShift.is c.requires.clean

pub revise_whole-requires-in-Dist2-clause-clean : goal.revise_whole-requires-in-Dist2-clause-clean
revise_whole-requires-in-Dist2-clause-clean g c = clean-of c.args.store.now.shape (marked_in c.args.marks.now c.args.within.start c.args.within.end) c.args.store.now.box c.args.self.now (any.Dist2 c.in-Dist2.c) c.in-Dist2.is c.requires.clean

pub revise_whole-requires-in-Dist3-clause-clean : goal.revise_whole-requires-in-Dist3-clause-clean
revise_whole-requires-in-Dist3-clause-clean g c = clean-of c.args.store.now.shape (marked_in c.args.marks.now c.args.within.start c.args.within.end) c.args.store.now.box c.args.self.now (any.Dist3 c.in-Dist3.c) c.in-Dist3.is c.requires.clean

pub revise_whole-requires-in-Constell-clause-clean : goal.revise_whole-requires-in-Constell-clause-clean
revise_whole-requires-in-Constell-clause-clean g c = clean-of c.args.store.now.shape (marked_in c.args.marks.now c.args.within.start c.args.within.end) c.args.store.now.box c.args.self.now (any.Constell c.in-Constell.c) c.in-Constell.is c.requires.clean

pub revise_whole-requires-in-Expr-clause-clean : goal.revise_whole-requires-in-Expr-clause-clean
revise_whole-requires-in-Expr-clause-clean g c = clean-of c.args.store.now.shape (marked_in c.args.marks.now c.args.within.start c.args.within.end) c.args.store.now.box c.args.self.now (any.Expr c.in-Expr.c) c.in-Expr.is c.requires.clean
