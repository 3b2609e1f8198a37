use Rattle.demo_course.proofs.Squares.{distances}
use Rattle.demo_course.proofs.laws.distances_are_whole.Goals as goal

pub returns : goal.returns
returns c = distances
