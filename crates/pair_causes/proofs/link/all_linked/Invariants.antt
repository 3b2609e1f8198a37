use Rattle.std.proofs.Common.{◌≡◌, Some, map, take}
use Rattle.pair_causes.specs.Links.{link_said}
use Rattle.pair_causes.proofs.link.all_linked.Given as goal

abbrev pub invariant-loop-i : goal.invariant-loop-i
invariant-loop-i l = map (link_said l.first l.second l.offset) (take l.i l.links) ≡ map Some l.all.items
