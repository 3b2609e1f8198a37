use Rattle.std.proofs.Common.{◌≡◌, ◌≤◌, length, map, take}
use Rattle.pair_causes.specs.Links.{signal_names}
use Rattle.pair_causes.proofs.log.names_of.Given as goal

abbrev pub invariant-loop-item : goal.invariant-loop-item
invariant-loop-item l = record {
  named : map (λ n. n.now) l.names.items ≡ signal_names (take l.item-index l.items);
  few : length l.names.items ≤ l.item-index;
}
