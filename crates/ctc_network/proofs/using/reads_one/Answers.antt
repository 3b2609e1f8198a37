use Rattle.std.proofs.Common.{map, refl, arith}
use Rattle.tube_store.specs.Resets.{cell_in}
use Rattle.ctc_network.proofs.Naming.{named-one, none-more, none-all}
use Rattle.ctc_network.proofs.using.reads_one.Goals as goal

pub loop-i-init : goal.loop-i-init
loop-i-init g c = λ j l n. absurd (omega (arith, l))

pub loop-i-preserved : goal.loop-i-preserved
loop-i-preserved g c =
    none-more (g.C.Contractor.scope c.args.c.now c.args.store.now.shape) (map cell_in c.args.cells.now) c.loop-i.i c.read.result.0 c.read.ensures (λ n. let yes = c.is_among.ensures.1 n in absurd (cc (yes, c.if-is_among.false))) c.loop-i.invariant

pub returns-then-is_among : goal.returns-then-is_among
returns-then-is_among g c = (
  λ yes. named-one (g.C.Contractor.scope c.args.c.now c.args.store.now.shape) (map cell_in c.args.cells.now) c.loop-i.i c.read.result.0 (omega (arith, c.loop-i-test.true, c.reads-i-end.ensures)) c.read.ensures (c.is_among.ensures.0 c.if-is_among.true),
  λ there. refl,
)

pub returns : goal.returns
returns g c = (
  λ yes. absurd (cc),
  λ there. absurd (none-all (g.C.Contractor.scope c.args.c.now c.args.store.now.shape) (map cell_in c.args.cells.now) c.loop-i.i (omega (arith, c.loop-i-test.false, c.reads-i-end.ensures)) c.loop-i.invariant there),
)
