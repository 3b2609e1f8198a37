use Rattle.mission_net.proofs.Tabling.{none-at}
use Rattle.mission_net.proofs.made.no_rates.Goals as goal

pub returns-clause-none : goal.returns-clause-none
returns-clause-none c = λ x. none-at 64 x
