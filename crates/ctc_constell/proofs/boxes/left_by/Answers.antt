use Rattle.std.proofs.Common.{arith, refl}
use Rattle.ctc_constell.proofs.Meeting.{left-some, left-none}
use Rattle.ctc_constell.proofs.boxes.left_by.Goals as goal

pub returns-in-Some : goal.returns-in-Some
returns-in-Some g c = left-some c.args.point.now c.args.mark.now c.in-Some.shared c.args.i c.part.result (omega arith) (omega arith) (c.in-Some.ensures.exists.0 refl) c.in-Some.ensures.value c.part.ensures

pub returns-in-None : goal.returns-in-None
returns-in-None g c = left-none c.args.point.now c.args.mark.now c.args.i (omega arith) (λ h. let none = c.in-None.ensures.exists.1 h in absurd (cc))
