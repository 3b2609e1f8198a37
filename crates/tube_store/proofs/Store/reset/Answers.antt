use Rattle.std.proofs.Common.{◌<◌, arith, sym, subst, length, rules}
use Rattle.tube_spec.specs.Shape.{Shape}
use Rattle.tube_store.specs.State.{State}
use Rattle.tube_store.specs.Resets.{cell_in}
use Rattle.tube_store.proofs.Resetting.{AreGiven, given-start, given-step, named-next, all-given, all-others}
use Rattle.tube_store.proofs.Store.reset.Goals as goal

pub loop-cell-init : goal.loop-cell-init
loop-cell-init c =
    let s = c.self.inside in
    let shape : Shape = record { grid = s.grid; signals = s.firsts.items; vars = s.places.items; cells = length s.cells.items } in
    subst (λ (old : State). AreGiven old c.untouch.new.self c.args.cells.now 0) c.self.view_is (given-start shape s.cells.items s.ring.items s.emptied c.untouch.new.self c.args.cells.now (search rules) c.untouch.ensures)

pub put-requires-clause-named : goal.put-requires-clause-named
put-requires-clause-named c =
    subst (λ (s : Shape). cell_in c.loop-cell-item.result < s.cells) (sym c.loop-cell.invariant.shape)
    (named-next c.args.cells.now c.loop-cell.cell-index c.args.self.now.shape.cells c.loop-cell-item.result c.requires.named c.loop-cell-test.true c.loop-cell-item.is)

pub loop-cell-preserved : goal.loop-cell-preserved
loop-cell-preserved c =
    given-step c.args.self.now c.loop-cell.self c.put.new.self c.args.cells.now c.loop-cell.cell-index c.loop-cell-item.result c.loop-cell.invariant c.requires.rising c.loop-cell-test.true c.loop-cell-item.is
    (named-next c.args.cells.now c.loop-cell.cell-index c.args.self.now.shape.cells c.loop-cell-item.result c.requires.named c.loop-cell-test.true c.loop-cell-item.is) c.put.ensures

pub returns-clause-shape : goal.returns-clause-shape
returns-clause-shape c = c.loop-cell.invariant.shape

pub returns-clause-filled : goal.returns-clause-filled
returns-clause-filled c = c.loop-cell.invariant.filled

pub returns-clause-given : goal.returns-clause-given
returns-clause-given c = all-given c.args.cells.now c.loop-cell.cell-index c.loop-cell.self.box (omega arith) c.loop-cell.invariant.given

pub returns-clause-others : goal.returns-clause-others
returns-clause-others c = all-others c.args.cells.now c.loop-cell.cell-index c.args.self.now.box c.loop-cell.self.box (omega arith) c.loop-cell.invariant.others

pub returns-clause-untouched : goal.returns-clause-untouched
returns-clause-untouched c = c.loop-cell.invariant.touched
