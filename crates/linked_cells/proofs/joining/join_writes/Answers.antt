use Rattle.std.proofs.Common.{◌≡◌, ◌<◌, ◌∙◌, length, map, arith, sym}
use Rattle.std.proofs.lemmas.List.{length-map}
use Rattle.tube_spec.specs.Projection.{Projection}
use Rattle.ctc_core.specs.Given.{no_projection}
use Rattle.ctc_network.proofs.Naming.{target-at}
use Rattle.linked_cells.proofs.Progress.{first-none, first-more, first-all}
use Rattle.linked_cells.proofs.joining.join_writes.Goals as goal

pub loop-i-init : goal.loop-i-init
loop-i-init g c = first-none c.args.to (map (λ (p : Projection). p.target) (g.C.Contractor.projections c.args.c.now c.args.store.now.shape)) c.args.parents.now c.requires.down

pub join-requires-clause-i : goal.join-requires-clause-i
join-requires-clause-i g c = omega (arith, c.requires.to, c.loop-i.invariant.len)

pub join-requires-clause-j : goal.join-requires-clause-j
join-requires-clause-j g c =
    let l : c.loop-i.i < length (g.C.Contractor.projections c.args.c.now c.args.store.now.shape) = omega (arith, c.loop-i-test.true, c.writes-i-end.ensures) in
    omega (arith, c.written.ensures, (g.met.C.Contractor.in_store c.args.c.now c.args.store.now.shape c.args.store.now.box c.known.ensures.shape c.requires.fits).1 c.loop-i.i no_projection l, c.requires.room, c.loop-i.invariant.len)

pub join-requires-clause-down : goal.join-requires-clause-down
join-requires-clause-down g c = c.loop-i.invariant.down

pub loop-i-preserved : goal.loop-i-preserved
loop-i-preserved g c =
    let ps = g.C.Contractor.projections c.args.c.now c.args.store.now.shape in
    let l : c.loop-i.i < length ps = omega (arith, c.loop-i-test.true, c.writes-i-end.ensures) in
    first-more c.args.to (map (λ (p : Projection). p.target) ps) c.args.parents.now c.loop-i.parents c.join.new.parents c.loop-i.i c.written.result.0 (c.written.ensures ∙ sym (target-at ps c.loop-i.i l)) c.loop-i.invariant c.join.ensures

pub returns : goal.returns
returns g c =
    let ps = g.C.Contractor.projections c.args.c.now c.args.store.now.shape in
    let l : c.loop-i.i ≡ length (map (λ (p : Projection). p.target) ps) = omega (arith, c.loop-i-test.false, c.writes-i-end.ensures, c.loop-i.auto.i-end, length-map ps (λ (p : Projection). p.target)) in
    first-all c.args.to (map (λ (p : Projection). p.target) ps) c.args.parents.now c.loop-i.parents c.loop-i.i l c.loop-i.invariant
