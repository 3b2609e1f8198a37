use Rattle.std.proofs.Common.{◌+◌, ◌<◌, true, arith}
use Rattle.ctc_parts.proofs.Members.{below-more}
use Rattle.ctc_parts.proofs.Visiting.{swept-none, sweep-step}
use Rattle.ctc_parts.proofs.all.visit_up.Goals as goal

pub loop-i-init : goal.loop-i-init
loop-i-init g c =
    let P = g.P.Parts in
    let me = c.args.parts.now in
    let a = c.args.store.now in
    swept-none (P.parts me a.shape) (P.part me a.shape) (λ i. true) 0 a c.start-answer.result (λ i l m. omega (arith, l)) c.start-answer.ensures.none

pub loop-i-preserved : goal.loop-i-preserved
loop-i-preserved g c =
    let P = g.P.Parts in
    let me = c.args.parts.now in
    let a = c.args.store.now in
    let i = c.loop-i.i in
    let inside : i < P.parts me a.shape = omega (arith, c.loop-i-test.true, c.count-i-end.ensures) in
    sweep-step (P.parts me) (P.part me) (P.fits me) (g.met.P.Parts.monotone me) (λ j. true) i i (i + 1) a c.loop-i.store c.visit-visit.new.store c.loop-i.answer c.visit-visit.result.answer c.then-answer.result inside c.requires c.then-answer.ensures (below-more i) c.loop-i.invariant c.visit-visit.ensures
