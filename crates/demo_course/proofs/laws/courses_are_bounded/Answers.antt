use Rattle.demo_course.proofs.Squares.{bounded}
use Rattle.demo_course.proofs.laws.courses_are_bounded.Goals as goal

pub returns : goal.returns
returns c = bounded
