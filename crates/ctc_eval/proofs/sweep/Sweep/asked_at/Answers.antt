use Rattle.std.proofs.Common.{slice_index, arith, sym, ◌∙◌}
use Rattle.tube_spec.proofs.Ticks.{tick_place-gate}
use Rattle.ctc_eval.specs.Clock.{cells_of}
use Rattle.ctc_eval.specs.Asking.{asked_at}
use Rattle.ctc_eval.proofs.Hulls.{only-inside}
use Rattle.ctc_eval.proofs.Stretches.{part-gate}
use Rattle.ctc_eval.proofs.sweep.Sweep.asked_at.Goals as goal

pub returns : goal.returns
returns c =
    let s = c.args.store.now in
    let me = c.args.self.now in
    let grid = s.shape.grid in
    let gate = c.args.gate in
    let tick = c.tick_of-tick.ensures.value in
    let place = tick_place-gate grid c.known.ensures.shape.grid.rising gate c.requires.gate in
    c.part.ensures ∙ part-gate s.shape me.x.0 me.z.0 (cells_of s.box) c.args.asked (slice_index grid gate) _ _ tick tick place
    ∙ sym (only-inside c.args.ticks (asked_at s.shape me.x.0 me.z.0 (cells_of s.box) c.args.asked) (slice_index grid gate) (omega (arith, tick, c.if-tick-ticks.false)) (omega (arith, tick, c.if-ticks-tick.false)))
