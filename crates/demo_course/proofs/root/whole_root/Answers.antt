use Rattle.demo_course.proofs.Rooting.{root-is}
use Rattle.demo_course.proofs.root.whole_root.Goals as goal

pub returns : goal.returns
returns c = root-is _ _ c.isqrt.ensures.square_le c.isqrt.ensures.next_square_gt
