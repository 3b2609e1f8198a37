use Rattle.tube_io.proofs.Sent.{sends_fail}
use Rattle.tube_report.proofs.Written.{sends_error}
use Rattle.ctc_network.specs.declared.answers.CtcId.{CtcId}
use Rattle.bundle_text.specs.Bundles.{fire_text}
use Rattle.section_tracer.proofs.part.write_each.Goals as goal

pub returns-in_err-write_line : goal.returns-in_err-write_line
returns-in_err-write_line g c =
    sends_error _ _ _ _ _ _ _ _ c.from_residual.ensures.0
    (sends_fail _ _ _ (λ (id : CtcId). fire_text id.0) c.args.fired.now c.loop-id.id-index _ _ _ _ _ c.loop-id-test.true c.loop-id.invariant c.in_err-write_line.ensures)
