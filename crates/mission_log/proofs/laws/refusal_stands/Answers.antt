use Rattle.mission_log.proofs.Standing.{refusal_stands}
use Rattle.mission_log.proofs.laws.refusal_stands.Goals as goal

pub returns : goal.returns
returns c = refusal_stands
