use Rattle.tube_spec.proofs.Spans.{hull-mono}
use Rattle.tube_spec.proofs.hull_law.Goals as goal

pub returns : goal.returns
returns c = hull-mono
