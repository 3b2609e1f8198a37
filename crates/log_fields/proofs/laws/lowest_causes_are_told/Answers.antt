use Rattle.log_fields.proofs.Lowest.{lowest_told}
use Rattle.log_fields.proofs.laws.lowest_causes_are_told.Goals as goal

pub returns : goal.returns
returns c = lowest_told
