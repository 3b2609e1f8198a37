use Rattle.std.proofs.Common.{◌-◌, ◌<◌, inl, false, arith}
use Rattle.ctc_parts.proofs.Visiting.{swept-none, sweep-step}
use Rattle.ctc_parts.proofs.all.visit_down.Goals as goal

pub loop-i-init : goal.loop-i-init
loop-i-init g c =
    let P = g.P.Parts in
    let me = c.args.parts.now in
    let a = c.args.store.now in
    swept-none (P.parts me a.shape) (P.part me a.shape) (λ i. false) 0 a c.start-answer.result (λ i l m. omega (arith, l)) c.start-answer.ensures.none

pub loop-i-preserved : goal.loop-i-preserved
loop-i-preserved g c =
    let P = g.P.Parts in
    let me = c.args.parts.now in
    let a = c.args.store.now in
    let i = c.loop-i.i - 1 in
    let inside : i < P.parts me a.shape = omega (arith, c.loop-i-test.true, c.loop-i.auto.i, c.count-i.ensures) in
    sweep-step (P.parts me) (P.part me) (P.fits me) (g.met.P.Parts.monotone me) (λ j. false) i 0 0 a c.loop-i.store c.visit-visit.new.store c.loop-i.answer c.visit-visit.result.answer c.then-answer.result inside c.requires c.then-answer.ensures (λ j l. inl l) c.loop-i.invariant c.visit-visit.ensures
