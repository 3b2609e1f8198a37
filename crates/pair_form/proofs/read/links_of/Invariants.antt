use Rattle.std.proofs.Common.{length}
use Rattle.pair_form.proofs.Links.{IsReadTo}
use Rattle.pair_form.proofs.read.links_of.Given as goal

abbrev pub invariant-loop-links : goal.invariant-loop-links
invariant-loop-links l = IsReadTo l.bytes l.rest l.links.items

abbrev pub decreases-loop-links : goal.decreases-loop-links
decreases-loop-links l = length l.rest
