use Rattle.mission_loops.proofs.Spans.{spans-law}
use Rattle.mission_loops.proofs.laws.spans_law.Goals as goal

pub returns : goal.returns
returns c = spans-law
