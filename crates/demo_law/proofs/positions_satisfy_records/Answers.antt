use Rattle.demo_law.proofs.Satisfied.{is-course}
use Rattle.demo_law.proofs.positions_satisfy_records.Goals as goal

pub returns : goal.returns
returns c = is-course
