use Rattle.loop_report.proofs.Ends.{printed_ticks_are_ends}
use Rattle.loop_report.proofs.laws.printed_ticks_are_ends.Goals as goal

pub returns : goal.returns
returns c = printed_ticks_are_ends
