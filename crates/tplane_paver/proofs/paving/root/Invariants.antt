use Rattle.std.proofs.Common.{◌≡◌, ◌≤◌, ◌<◌, ◌*◌, ◌^◌, ◌-◌, ◌⊎◌}
use Rattle.tplane_paver.proofs.paving.root.Given as goal

-- the side is the power, and half of it is below the number of ticks
abbrev pub invariant-loop-side : goal.invariant-loop-side
invariant-loop-side l = (l.side ≡ 2 ^ l.depth) × ((l.depth ≡ 0) ⊎ (l.side < 2 * l.ticks)) × (l.depth < l.side) × (l.side ≤ 200002)

abbrev pub decreases-loop-side : goal.decreases-loop-side
decreases-loop-side l = l.ticks - l.side
