use Rattle.std.proofs.Common.{◌≡◌, true, arith}
use Rattle.tplane_paver.proofs.Sweeps.{swept-low, swept-join, swept-next, none-later}
use Rattle.tplane_paver.proofs.sweep.link_back.Goals as goal

pub loop-i-init : goal.loop-i-init
loop-i-init c = swept-low c.args.runs.now c.args.parents.now c.args.j c.args.low c.requires.swept c.requires.clear

pub loop-i-preserved : goal.loop-i-preserved
loop-i-preserved c = swept-join c.args.runs.now c.loop-i.parents c.join.new.parents c.args.j c.loop-i.i c.loop-i.invariant c.loop-i-test.true c.requires.j (c.touches.ensures.0 c.if-not-touches.false) c.join.ensures

pub returns-then-not-touches : goal.returns-then-not-touches
returns-then-not-touches c =
    swept-next c.args.runs.now c.loop-i.parents c.args.j c.loop-i.i c.loop-i.invariant
    (none-later c.args.runs.now c.args.low c.loop-i.i c.args.j c.requires.order c.loop-i.auto.i c.loop-i-test.true c.requires.j (c.requires.near (omega (arith, c.loop-i.auto.i, c.loop-i-test.true))) (λ t. let e : c.touches.result ≡ true = c.touches.ensures.1 t in cc))

pub returns : goal.returns
returns c = swept-next c.args.runs.now c.loop-i.parents c.args.j c.loop-i.i c.loop-i.invariant (λ k u v t. absurd (omega (arith, u, v, c.loop-i-test.false)))
