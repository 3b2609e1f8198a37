use Rattle.ctc_constell.proofs.Stable.{constell-stable}
use Rattle.ctc_constell.proofs.laws.constell_law.Goals as goal

pub returns : goal.returns
returns c = constell-stable
