use Rattle.mission_area.proofs.Law.{areas-law}
use Rattle.mission_area.proofs.laws.areas_law.Goals as goal

pub returns : goal.returns
returns c = areas-law
