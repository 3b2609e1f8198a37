use Rattle.slice_gates.proofs.Shares.{slices-exact, gates-exact, places-exact}
use Rattle.slice_gates.proofs.laws.near_law.Goals as goal

pub returns-clause-slices : goal.returns-clause-slices
returns-clause-slices c = slices-exact

pub returns-clause-gates : goal.returns-clause-gates
returns-clause-gates c = gates-exact

pub returns-clause-places : goal.returns-clause-places
returns-clause-places c = places-exact
