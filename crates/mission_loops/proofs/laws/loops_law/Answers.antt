use Rattle.mission_loops.proofs.Law.{loops-law}
use Rattle.mission_loops.proofs.laws.loops_law.Goals as goal

pub returns : goal.returns
returns c = loops-law
