use Rattle.tplane_paver.specs.Forests.{AreGathered}
use Rattle.tplane_paver.proofs.classes.gather.Given as goal

abbrev pub invariant-loop-i : goal.invariant-loop-i
invariant-loop-i l = AreGathered l.runs l.parents l.i l.labels.items l.sets.items
