use Rattle.tube_io.proofs.Sent.{sends_then}
use Rattle.section_tracer.proofs.part.write_fires.Goals as goal

pub returns : goal.returns
returns g c = sends_then _ _ _ _ _ _ _ _ _ c.in_ok-write_line.ensures c.write_each.ensures
