use Rattle.log_round_trip.proofs.Folding.{text-read}
use Rattle.log_round_trip.proofs.printed_is_read.Goals as goal

pub returns : goal.returns
returns c = λ m is. text-read c.printing_law.ensures.again c.printing_law.ensures.field m is (c.records_are_read.ensures m is)
