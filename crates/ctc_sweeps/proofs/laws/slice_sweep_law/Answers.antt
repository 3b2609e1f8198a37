use Rattle.ctc_sweeps.proofs.Stable.{slice-sweep-stable}
use Rattle.ctc_sweeps.proofs.laws.slice_sweep_law.Goals as goal

pub returns : goal.returns
returns c = λ s a hull grid is x fits. slice-sweep-stable s a hull grid is x fits
