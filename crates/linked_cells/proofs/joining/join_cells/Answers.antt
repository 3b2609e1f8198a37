use Rattle.std.proofs.Common.{map, arith}
use Rattle.tube_spec.specs.Projection.{Projection}
use Rattle.linked_cells.proofs.Progress.{from-both}
use Rattle.linked_cells.proofs.joining.join_cells.Goals as goal

pub join_writes-requires-clause-to : goal.join_writes-requires-clause-to
join_writes-requires-clause-to g c = omega (arith, c.requires.to, c.join_reads.ensures.len)

pub join_writes-requires-clause-room : goal.join_writes-requires-clause-room
join_writes-requires-clause-room g c = omega (arith, c.requires.room, c.join_reads.ensures.len)

pub join_writes-requires-clause-down : goal.join_writes-requires-clause-down
join_writes-requires-clause-down g c = c.join_reads.ensures.down

pub returns : goal.returns
returns g c =
    let s = c.args.store.now.shape in
    from-both c.args.to (g.C.Contractor.scope c.args.c.now s) (map (λ (p : Projection). p.target) (g.C.Contractor.projections c.args.c.now s)) c.args.parents.now c.join_reads.new.parents c.join_writes.new.parents
    c.join_reads.ensures c.join_writes.ensures
