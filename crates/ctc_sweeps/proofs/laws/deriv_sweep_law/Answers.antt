use Rattle.ctc_sweeps.proofs.Stable.{deriv-sweep-stable}
use Rattle.ctc_sweeps.proofs.laws.deriv_sweep_law.Goals as goal

pub returns : goal.returns
returns c = λ s a hull grid is x rate fits says. deriv-sweep-stable s a hull grid is x rate fits says
