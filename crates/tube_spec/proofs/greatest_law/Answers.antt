use Rattle.tube_spec.proofs.Boxes.{IsGreatest-unique}
use Rattle.tube_spec.proofs.greatest_law.Goals as goal

pub returns : goal.returns
returns c ps start a b p q = IsGreatest-unique ps start a b p q
