use Rattle.std.proofs.Common.{w64, SFits, arith}
use Rattle.std.proofs.lemmas.Int.{ints, to_z-of_z}
use Rattle.loop_prover.proofs.Stepping.{fits}
use Rattle.loop_sets.specs.Bounds.{step_at}
use Rattle.loop_sets.proofs.Stepping.{bound-run}
use Rattle.loop_sets.proofs.bounds.bound_over.Goals as goal

pub loop-run-preserved : goal.loop-run-preserved
loop-run-preserved c =
    let r = c.raised-top.result in
    let e = c.raised-top.ensures in
    let small : SFits w64 r = fits r (omega (arith, ints, e.least)) (omega (arith, ints, e.most)) in
    rw (to_z-of_z w64 r small) (record {
      value = bound-run (step_at c.args.steps.now) c.args.cells.now c.loop-run.run-index _ r c.loop-run-test.true c.loop-run.invariant.value e.value;
      least = e.least;
      most = e.most;
    })
