use Rattle.std.proofs.Common.{◌≡◌, length}
use Rattle.tube_store.proofs.Store.untouch.Given as goal

-- the touched cells become fewer, and nothing else changes
abbrev pub invariant-loop-cell : goal.invariant-loop-cell
invariant-loop-cell l = l.self ≡ record l.fn.self { touched = l.self.touched }

abbrev pub decreases-loop-cell : goal.decreases-loop-cell
decreases-loop-cell l = length l.self.touched
