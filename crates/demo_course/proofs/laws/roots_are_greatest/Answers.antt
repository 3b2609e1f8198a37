use Rattle.demo_course.proofs.Rooting.{roots-greatest}
use Rattle.demo_course.proofs.laws.roots_are_greatest.Goals as goal

pub returns : goal.returns
returns c = roots-greatest
