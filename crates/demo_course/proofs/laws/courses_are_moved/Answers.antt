use Rattle.demo_course.proofs.Reaching.{moved}
use Rattle.demo_course.proofs.laws.courses_are_moved.Goals as goal

pub returns : goal.returns
returns c = moved
