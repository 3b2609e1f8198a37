use Rattle.ctc_dist.proofs.Stable.{dist-stable}
use Rattle.ctc_dist.proofs.laws.dist_law.Goals as goal

pub returns : goal.returns
returns c = dist-stable
