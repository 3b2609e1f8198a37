use Rattle.tube_io.proofs.Sent.{sends_stops, sends_then}
use Rattle.tube_report.specs.Sections.{section_text}
use Rattle.tube_report.proofs.Written.{sends_error}
use Rattle.tube_report.proofs.section.write_records.Goals as goal

pub returns-in_err-write_box : goal.returns-in_err-write_box
unfolding section_text
returns-in_err-write_box g c =
    sends_error _ _ _ _ _ _ _ _ c.from_residual-in_err-write_box.ensures.0
    (sends_then _ _ _ _ _ _ _ _ _ c.in_ok-write_first_line.ensures (sends_stops _ _ _ _ _ _ _ _ c.in_err-write_box.ensures))

pub returns : goal.returns
unfolding section_text
returns g c = sends_then _ _ _ _ _ _ _ _ _ c.in_ok-write_first_line.ensures (sends_then _ _ _ _ _ _ _ _ _ c.in_ok-write_box.ensures c.write_last_line.ensures)
