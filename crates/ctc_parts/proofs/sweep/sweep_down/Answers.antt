use Rattle.std.proofs.Common.{◌-◌, ◌<◌, false, arith, slice_index_or}
use Rattle.ctc_parts.proofs.Visiting.{swept-none, sweep-back}
use Rattle.ctc_parts.proofs.sweep.sweep_down.Goals as goal

pub loop-i-init : goal.loop-i-init
loop-i-init g c =
    let P = g.P.Parts in
    let me = c.args.parts.now in
    let a = c.args.store.now in
    swept-none (P.parts me a.shape) (P.part me a.shape) (λ i. false) 0 a c.start.result (λ i l m. omega (arith, l)) c.start.ensures.none

pub loop-i-preserved : goal.loop-i-preserved
loop-i-preserved g c =
    let P = g.P.Parts in
    let me = c.args.parts.now in
    let a = c.args.store.now in
    let i = c.loop-i.i - 1 in
    let visit = c.visit_flagged-sweep in
    let inside : i < P.parts me a.shape = grind (arith, c.loop-i-test.true, c.loop-i.auto.i, c.min-i.ensures, c.count.ensures) in
    sweep-back (P.parts me) (P.part me) (P.fits me) (g.met.P.Parts.monotone me) (λ j. false) (slice_index_or c.loop-i.marks i false) i a c.loop-i.store visit.new.store c.loop-i.sweep.answer visit.result.answer inside c.requires c.loop-i.invariant visit.ensures.turn

pub returns-in-Empty : goal.returns-in-Empty
returns-in-Empty g c =
    let P = g.P.Parts in
    let me = c.args.parts.now in
    let a = c.args.store.now in
    let i = c.loop-i.i - 1 in
    let visit = c.visit_flagged-sweep in
    let inside : i < P.parts me a.shape = grind (arith, c.loop-i-test.true, c.loop-i.auto.i, c.min-i.ensures, c.count.ensures) in
    sweep-back (P.parts me) (P.part me) (P.fits me) (g.met.P.Parts.monotone me) (λ j. false) (slice_index_or c.loop-i.marks i false) i a c.loop-i.store visit.new.store c.loop-i.sweep.answer visit.result.answer inside c.requires c.loop-i.invariant visit.ensures.turn
