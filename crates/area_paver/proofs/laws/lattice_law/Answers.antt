use Rattle.area_paver.proofs.Axes.{on-axis}
use Rattle.area_paver.proofs.laws.lattice_law.Goals as goal

pub returns : goal.returns
returns c = on-axis
