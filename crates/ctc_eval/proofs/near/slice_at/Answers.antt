use Rattle.std.proofs.Common.{arith}
use Rattle.ctc_eval.proofs.Covering.{slice-here}
use Rattle.ctc_eval.proofs.near.slice_at.Goals as goal

pub returns-then-tick-boundary : goal.returns-then-tick-boundary
returns-then-tick-boundary c =
    slice-here c.args.grid.now c.known.ensures c.args.tick c.min-guess.result (omega (arith, c.slices.ensures, c.min-guess.ensures, c.known.ensures.slices)) (omega (arith, c.boundary-2.ensures, c.if-boundary-tick.true))
    (omega (arith, c.boundary-then-boundary-tick.ensures, c.if-tick-boundary.true))
