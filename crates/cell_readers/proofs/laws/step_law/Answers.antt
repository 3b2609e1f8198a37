use Rattle.cell_readers.proofs.Steps.{step}
use Rattle.cell_readers.proofs.laws.step_law.Goals as goal

pub returns : goal.returns
returns g c reads cs ps k before after old new x fired some drained waits len says = step reads cs ps k before after old new x fired some drained waits len says
