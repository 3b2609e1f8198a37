use Rattle.ctc_delay.proofs.Stable.{delay_from-stable}
use Rattle.ctc_delay.proofs.laws.delay_from_law.Goals as goal

pub returns : goal.returns
returns c = delay_from-stable
