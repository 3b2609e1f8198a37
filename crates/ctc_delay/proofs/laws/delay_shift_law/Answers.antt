use Rattle.ctc_delay.proofs.Stable.{delay_shift-stable}
use Rattle.ctc_delay.proofs.laws.delay_shift_law.Goals as goal

pub returns : goal.returns
returns c = delay_shift-stable
