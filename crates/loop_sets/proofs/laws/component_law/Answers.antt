use Rattle.loop_sets.proofs.Revisiting.{component-law}
use Rattle.loop_sets.proofs.laws.component_law.Goals as goal

pub returns : goal.returns
returns c = component-law
