use Rattle.area_paver.proofs.Seeing.{tells}
use Rattle.area_paver.proofs.laws.area_law.Goals as goal

pub returns : goal.returns
returns c = tells
