use Rattle.tube_io.proofs.Sent.{sends_fail}
use Rattle.tube_report.proofs.Written.{sends_error}
use Rattle.loop_report.specs.Loops.{run_line}
use Rattle.loop_report.proofs.found.write_runs.Goals as goal

pub returns-in_err-write_run : goal.returns-in_err-write_run
returns-in_err-write_run g c =
    sends_error _ _ _ _ _ _ _ _ c.from_residual.ensures.0
    (sends_fail _ _ _ run_line c.args.runs.now c.loop-run.run-index _ _ _ _ _ c.loop-run-test.true c.loop-run.invariant c.in_err-write_run.ensures)
