use Rattle.demo_course.specs.Draws.{words_of}
use Rattle.demo_spec.proofs.Told.{is-mission}
use Rattle.demo_spec.proofs.demo_is_a_mission.Goals as goal

pub returns : goal.returns
returns c = λ seed. is-mission (words_of seed 50)
