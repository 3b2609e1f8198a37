use Rattle.std.proofs.Common.{◌≡◌, map, length}
use Rattle.std.specs.Option.{IfSome}
use Rattle.std.specs.List.{range_with_len}
use Rattle.tube_spec.specs.Tick.{at_tick}
use Rattle.tube_spec.specs.Box.{AreBounded}
use Rattle.area_paver.proofs.tube.ticks_of.Given as goal

-- the intervals of the ticks so far
abbrev pub invariant-loop-tick : goal.invariant-loop-tick
invariant-loop-tick l = record {
  len : length l.ticks.items ≡ l.tick;
  made : IfSome l.store.box (λ xs. l.ticks.items ≡ map (at_tick l.store.shape xs l.signal.0) (range_with_len 0 l.tick));
  bounded : AreBounded l.ticks.items;
}
