use Rattle.std.proofs.Common.{refl, slice_index, slice_set}
use Rattle.disjoint_sets.proofs.Trees.{keeps-halved, written-set}
use Rattle.disjoint_sets.proofs.forest.halve.Goals as goal

pub returns-clause-keeps : goal.returns-clause-keeps
returns-clause-keeps c =
    (keeps-halved c.args.parents.now _ c.args.at (slice_index c.args.parents.now c.args.at) (slice_index c.args.parents.now (slice_index c.args.parents.now c.args.at)) c.requires.within c.requires.down c.requires.inner refl refl
    (written-set c.args.parents.now (slice_set c.args.parents.now c.args.at (slice_index c.args.parents.now (slice_index c.args.parents.now c.args.at))) c.args.at (slice_index c.args.parents.now (slice_index c.args.parents.now c.args.at)) c.requires.within refl)).0
