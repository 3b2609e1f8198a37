use Rattle.demo_course.specs.Draws.{words_of}
use Rattle.demo_mission.proofs.Short.{log-short}
use Rattle.demo_mission.proofs.laws.demo_log_is_short.Goals as goal

pub returns : goal.returns
returns c = λ seed. log-short (words_of seed 50)
