use Rattle.std.proofs.Common.{◌≡◌, map, take}
use Rattle.loop_sets.specs.Tables.{AreSmall}
use Rattle.loop_sets.proofs.tube.lower_bounds.Given as goal

-- the bounds so far
abbrev pub invariant-loop-tick : goal.invariant-loop-tick
invariant-loop-tick l = record {
  items : l.bounds.items ≡ map (λ s. s.lo) (take l.tick-index l.ticks);
  small : AreSmall l.bounds.items;
}
