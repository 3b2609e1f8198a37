use Rattle.std.proofs.Common.{◌≡◌, map, take}
use Rattle.mission_loops.specs.Queries.{rates_of}
use Rattle.mission_loops.proofs.records.rates_of.Given as goal

-- the rates of the records so far
abbrev pub invariant-loop-item : goal.invariant-loop-item
invariant-loop-item l = map (λ r. r.0) l.rates.items ≡ rates_of (take l.item-index l.items) l.x.0
