use Rattle.std.proofs.Common.{map, arith}
use Rattle.std.proofs.lemmas.Int.{ints, clamps}
use Rattle.tube_spec.specs.Tick.{at_tick}
use Rattle.loop_degree.specs.Steps.{step_of, greatest_in}
use Rattle.loop_prover.proofs.Stepping.{bound-more}
use Rattle.loop_prover.proofs.bounds.step_bound.Goals as goal

pub loop-cell-preserved : goal.loop-cell-preserved
loop-cell-preserved c =
    let s = c.args.store.now.shape in
    let before = c.loop-cell.invariant in
    let a = c.greatest_step-at_a.ensures in
    let b = c.greatest_step-at_b.ensures in
    let value = c.max-top.ensures.value in
    record {
      value = bound-more c.args.store.now.box (λ xs k. greatest_in (step_of (at_tick s xs) c.args.x.0 (map (λ r. r.0) c.args.rates.now) k)) c.args.cells.now c.loop-cell.cell-index (0, 0)
          _ c.greatest_step-at_a.result c.greatest_step-at_b.result _ (omega arith) before.value a.value b.value
          (omega (arith, ints, clamps, before.least, before.most, a.least, a.most, b.least, b.most, value));
      least = omega (arith, ints, clamps, before.least, before.most, a.least, a.most, b.least, b.most, value);
      most = omega (arith, ints, clamps, before.least, before.most, a.least, a.most, b.least, b.most, value);
    }
