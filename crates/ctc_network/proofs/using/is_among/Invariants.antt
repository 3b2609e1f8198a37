use Rattle.std.proofs.Common.{◌-◌, map}
use Rattle.tube_store.specs.Resets.{cell_in}
use Rattle.ctc_network.proofs.Among.{IsSought}
use Rattle.ctc_network.proofs.using.is_among.Given as goal

-- where the cell is among them, it is between the ends
abbrev pub invariant-loop-first : goal.invariant-loop-first
invariant-loop-first l = IsSought (map cell_in l.cells) l.cell.0 l.first l.end

abbrev pub decreases-loop-first : goal.decreases-loop-first
decreases-loop-first l = l.end - l.first
