use Rattle.ctc_delay.proofs.Stable.{delay_to-stable}
use Rattle.ctc_delay.proofs.laws.delay_to_law.Goals as goal

pub returns : goal.returns
returns c = delay_to-stable
