use Rattle.mission_log.proofs.Told.{first_is_told}
use Rattle.mission_log.proofs.laws.first_is_told.Goals as goal

pub returns : goal.returns
returns c = first_is_told
