use Rattle.std.proofs.Common.{pos, ◌≤ℤ◌, w64, arith, ◌∙◌}
use Rattle.std.proofs.lemmas.Int.{ints, to_z-of_z}
use Rattle.tube_spec.specs.Tick.{at_tick}
use Rattle.loop_prover.proofs.Stepping.{step-start, step-more, step-end, fits}
use Rattle.loop_prover.proofs.bounds.greatest_left.Goals as goal

pub loop-rate-init : goal.loop-rate-init
loop-rate-init c = record {
  value = step-start c.args.store.now.box c.args.change c.known-2.ensures.proper;
  bounded = c.requires.change;
}

pub loop-rate-preserved : goal.loop-rate-preserved
loop-rate-preserved c =
    let s = c.args.store.now.shape in
    record {
      value = step-more c.args.store.now.box (λ xs. c.args.change) (λ xs r. at_tick s xs r c.args.tick) c.args.rates.now c.loop-rate.rate-index (record { 0 = 0 })
          c.loop-rate.step c.narrowed-step.result c.at_tick-speed.result (omega arith) c.loop-rate.invariant.value c.at_tick-speed.ensures.value c.narrowed-step.ensures.value;
      bounded = c.narrowed-step.ensures.bounded;
    }

pub returns-clause-value : goal.returns-clause-value
returns-clause-value c =
    let s = c.args.store.now.shape in
    let most : c.greatest.result ≤ℤ pos 4000000000 = omega (arith, ints, c.greatest.ensures.most) in
    let read = to_z-of_z w64 c.greatest.result (fits c.greatest.result c.greatest.ensures.least most) in
    step-end c.args.store.now.box (λ xs. c.args.change) (λ xs r. at_tick s xs r c.args.tick) c.args.rates.now c.loop-rate.rate-index
    c.loop-rate.step _ (omega arith) c.loop-rate.invariant.value (read ∙ c.greatest.ensures.value)
