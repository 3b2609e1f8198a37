use Rattle.std.proofs.Common.{◌≡◌, ◌<◌, length, arith}
use Rattle.linked_cells.proofs.Progress.{first-none, first-more, first-all}
use Rattle.linked_cells.proofs.joining.join_reads.Goals as goal

pub loop-i-init : goal.loop-i-init
loop-i-init g c = first-none c.args.to (g.C.Contractor.scope c.args.c.now c.args.store.now.shape) c.args.parents.now c.requires.down

pub join-requires-clause-i : goal.join-requires-clause-i
join-requires-clause-i g c = omega (arith, c.requires.to, c.loop-i.invariant.len)

pub join-requires-clause-j : goal.join-requires-clause-j
join-requires-clause-j g c =
    let l : c.loop-i.i < length (g.C.Contractor.scope c.args.c.now c.args.store.now.shape) = omega (arith, c.loop-i-test.true, c.reads-i-end.ensures) in
    omega (arith, c.read.ensures, (g.met.C.Contractor.in_store c.args.c.now c.args.store.now.shape c.args.store.now.box c.known.ensures.shape c.requires.fits).0 c.loop-i.i 0 l, c.requires.room, c.loop-i.invariant.len)

pub join-requires-clause-down : goal.join-requires-clause-down
join-requires-clause-down g c = c.loop-i.invariant.down

pub loop-i-preserved : goal.loop-i-preserved
loop-i-preserved g c = first-more c.args.to (g.C.Contractor.scope c.args.c.now c.args.store.now.shape) c.args.parents.now c.loop-i.parents c.join.new.parents c.loop-i.i c.read.result.0 c.read.ensures c.loop-i.invariant c.join.ensures

pub returns : goal.returns
returns g c =
    let l : c.loop-i.i ≡ length (g.C.Contractor.scope c.args.c.now c.args.store.now.shape) = omega (arith, c.loop-i-test.false, c.reads-i-end.ensures, c.loop-i.auto.i-end) in
    first-all c.args.to (g.C.Contractor.scope c.args.c.now c.args.store.now.shape) c.args.parents.now c.loop-i.parents c.loop-i.i l c.loop-i.invariant
