use Rattle.tplane_paver.specs.Forests.{IsSweptTo}
use Rattle.tplane_paver.proofs.sweep.link_back.Given as goal

abbrev pub invariant-loop-i : goal.invariant-loop-i
invariant-loop-i l = IsSweptTo l.runs l.parents l.fn.j l.i
