use Rattle.area_paver.proofs.Seeing.{one-mark}
use Rattle.area_paver.proofs.laws.mark_law.Goals as goal

pub returns : goal.returns
returns c = one-mark
