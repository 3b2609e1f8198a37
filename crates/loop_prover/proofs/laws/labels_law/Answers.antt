use Rattle.loop_prover.proofs.Holding.{labels-hold, labelled}
use Rattle.loop_prover.proofs.laws.labels_law.Goals as goal

pub returns-clause-hold : goal.returns-clause-hold
returns-clause-hold c tubes q d e cells labels are = labels-hold tubes q d e cells labels are

pub returns-clause-counted : goal.returns-clause-counted
returns-clause-counted c tubes q d e cells labels are rising = labelled tubes q d e cells labels are rising
