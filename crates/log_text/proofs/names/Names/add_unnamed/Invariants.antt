use Rattle.std.proofs.Common.{◌≡◌, ◌++◌, [], map}
use Rattle.std.specs.Prelude.{replicate}
use Rattle.log_text.specs.Written.{field_text}
use Rattle.log_text.proofs.names.Names.add_unnamed.Given as goal

abbrev pub invariant-loop : goal.invariant-loop
invariant-loop l = record {
  signals : map field_text l.self-inside.signals.items ≡ l.fn.self.signals;
  variables : map field_text l.self-inside.variables.items ≡ l.fn.self.variables ++ replicate l.counter [];
  beacons : map field_text l.self-inside.beacons.items ≡ l.fn.self.beacons;
}
