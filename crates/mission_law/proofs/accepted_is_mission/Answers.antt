use Rattle.mission_law.proofs.Logs.{accepted_mission}
use Rattle.mission_law.proofs.accepted_is_mission.Goals as goal

pub returns : goal.returns
returns c = λ log m h. accepted_mission c.printing_law.ensures.printable log m h
