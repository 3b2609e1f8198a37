use Rattle.loop_degree.proofs.Law.{degree-law}
use Rattle.loop_degree.proofs.laws.degree_law.Goals as goal

pub returns : goal.returns
returns c = degree-law
