use Rattle.std.proofs.Common.{◌≡◌, ℕ, length, subst, arith}
use Rattle.linked_cells.specs.Classes.{ShareOne, JoinsBy}
use Rattle.linked_cells.specs.Chosen.{place_cells}
use Rattle.linked_cells.proofs.Progress.{share-none, share-more}
use Rattle.linked_cells.proofs.classes.join_each.Goals as goal

pub loop-number-init : goal.loop-number-init
loop-number-init g c = share-none (place_cells g.C.Contractor.projections g.C.Contractor.scope c.args.net.now.store.shape) c.args.net.now.contractors c.args.parents.now c.requires.down

pub loop-number-preserved : goal.loop-number-preserved
loop-number-preserved g c =
    share-more (place_cells g.C.Contractor.projections g.C.Contractor.scope c.args.net.now.store.shape) c.args.net.now.contractors c.args.parents.now c.loop-number.parents c.join_under.new.parents c.loop-number.number
    c.loop-number.invariant c.join_under.ensures

pub returns : goal.returns
returns g c =
    let e : c.loop-number.number ≡ length c.args.net.now.contractors = omega (arith, c.loop-number-test.false, c.numbers-number-end.ensures, c.loop-number.auto.number-end) in
    subst (λ (n : ℕ). JoinsBy (ShareOne (place_cells g.C.Contractor.projections g.C.Contractor.scope c.args.net.now.store.shape) c.args.net.now.contractors n) c.args.parents.now c.loop-number.parents) e c.loop-number.invariant
