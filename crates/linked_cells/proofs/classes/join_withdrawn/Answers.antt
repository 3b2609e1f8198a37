use Rattle.std.proofs.Common.{◌≡◌, ℕ, length, subst, arith}
use Rattle.linked_cells.specs.Classes.{IsFromOne, JoinsBy}
use Rattle.linked_cells.specs.Chosen.{place_cells}
use Rattle.linked_cells.proofs.Members.{number-at}
use Rattle.linked_cells.proofs.Progress.{one-none, one-more}
use Rattle.linked_cells.proofs.classes.join_withdrawn.Goals as goal

pub loop-i-init : goal.loop-i-init
loop-i-init g c = one-none c.args.to (place_cells g.C.Contractor.projections g.C.Contractor.scope c.args.net.now.store.shape) c.args.net.now.contractors c.args.withdrawn.now c.args.parents.now c.requires.down

pub loop-i-preserved : goal.loop-i-preserved
loop-i-preserved g c =
    one-more c.args.to (place_cells g.C.Contractor.projections g.C.Contractor.scope c.args.net.now.store.shape) c.args.net.now.contractors c.args.withdrawn.now c.args.parents.now c.loop-i.parents c.join_to.new.parents c.loop-i.i _
    (number-at c.args.withdrawn.now c.loop-i.i _ c.loop-i-test.true) c.loop-i.invariant c.join_to.ensures

pub returns : goal.returns
returns g c =
    let e : c.loop-i.i ≡ length c.args.withdrawn.now = omega (arith, c.loop-i-test.false, c.loop-i.auto.i-end) in
    subst (λ (n : ℕ). JoinsBy (IsFromOne c.args.to (place_cells g.C.Contractor.projections g.C.Contractor.scope c.args.net.now.store.shape) c.args.net.now.contractors c.args.withdrawn.now n) c.args.parents.now c.loop-i.parents) e c.loop-i.invariant
