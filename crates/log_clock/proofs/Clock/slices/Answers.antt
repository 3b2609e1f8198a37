use Rattle.log_clock.proofs.Marking.{slices-few}
use Rattle.log_clock.proofs.Clock.slices.Goals as goal

pub returns-clause-few : goal.returns-clause-few
returns-clause-few c = slices-few c.self.inside.marks.items c.self.inside.slices c.self.inside.grid c.self.invariant
