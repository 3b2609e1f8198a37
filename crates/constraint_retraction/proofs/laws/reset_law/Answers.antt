use Rattle.std.proofs.Common.{refl}
use Rattle.constraint_retraction.proofs.Resets.{reset-linked, reset-others, reset-below, below-reset}
use Rattle.constraint_retraction.proofs.laws.reset_law.Goals as goal

pub returns-clause-linked : goal.returns-clause-linked
returns-clause-linked c = reset-linked

pub returns-clause-others : goal.returns-clause-others
returns-clause-others c = reset-others

pub returns-clause-empty : goal.returns-clause-empty
returns-clause-empty c linked start = refl

pub returns-clause-between : goal.returns-clause-between
returns-clause-between c linked start old low = (below-reset linked start old low, reset-below linked start old low)
