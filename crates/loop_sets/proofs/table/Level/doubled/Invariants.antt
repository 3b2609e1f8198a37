use Rattle.std.proofs.Common.{◌≡◌, ℕ, ◌+◌, ◌<◌, length}
use Rattle.std.specs.Int.{int_max}
use Rattle.loop_sets.specs.Tables.{number_at}
use Rattle.loop_sets.proofs.table.Level.doubled.Given as goal

-- the greater of two neighbouring tops so far
abbrev pub invariant-loop-i : goal.invariant-loop-i
invariant-loop-i l = record {
  len : length l.tops.items ≡ l.i;
  tops : (k : ℕ) → k < l.i → number_at l.tops.items k ≡ int_max (number_at l.self.tops.items k) (number_at l.self.tops.items (k + l.self.side));
}
