use Rattle.tube_io.proofs.Sent.{sends_stops, sends_then}
use Rattle.tube_report.proofs.Written.{sends_error}
use Rattle.tube_report.proofs.section.write_beacon.Goals as goal

pub returns-in_err-write_var_line : goal.returns-in_err-write_var_line
returns-in_err-write_var_line g c =
    let one = rw (c.held-x.ensures.value, c.var.ensures.cell) at c.in_err-write_var_line.ensures in
    sends_error _ _ _ _ _ _ _ _ c.from_residual.ensures.0 (sends_stops _ _ _ _ _ _ _ _ one)

pub returns : goal.returns
returns g c =
    let one = rw (c.held-x.ensures.value, c.var.ensures.cell) at c.in_ok-write_var_line.ensures in
    let two = rw (c.held-y.ensures.value, c.var-2.ensures.cell) at c.write_var_line-2.ensures in
    sends_then _ _ _ _ _ _ _ _ _ one two
