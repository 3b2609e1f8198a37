use Rattle.log_causes.proofs.Judging.{records_judged}
use Rattle.log_causes.proofs.Telling.{lowest_told}
use Rattle.log_causes.proofs.lowest_is_told.Goals as goal

pub returns-clause-judged : goal.returns-clause-judged
returns-clause-judged c = records_judged

pub returns-clause-first : goal.returns-clause-first
returns-clause-first c = lowest_told
