use Rattle.std.proofs.Common.{length}
use Rattle.bundle_reader.proofs.Lists.{IsReadTo}
use Rattle.bundle_reader.proofs.many.all.Given as goal

abbrev pub invariant-loop-items : goal.invariant-loop-items
invariant-loop-items g l = IsReadTo g.T.Told.text g.T.Told.IsTold l.bytes l.rest l.items.items

abbrev pub decreases-loop-items : goal.decreases-loop-items
decreases-loop-items g l = length l.rest
