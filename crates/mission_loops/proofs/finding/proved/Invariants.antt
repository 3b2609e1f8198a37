use Rattle.std.proofs.Common.{◌≡◌, map, IfSome}
use Rattle.mission_loops.specs.Findings.{sets_in, AreFound}
use Rattle.mission_loops.proofs.finding.proved.Given as goal

-- the sets so far, with what is found of each
abbrev pub invariant-loop-set : goal.invariant-loop-set
invariant-loop-set l = record {
  sets : sets_in l.found.items ≡ l.yielded;
  found : IfSome l.store.box (λ xs. AreFound l.store.shape xs l.q (map (λ r. r.0) l.rates_x) (map (λ r. r.0) l.rates_y) l.found.items);
}
