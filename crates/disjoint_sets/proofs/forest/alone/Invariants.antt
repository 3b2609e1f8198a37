use Rattle.std.proofs.Common.{◌≡◌, ℕ, ◌<◌, length, slice_index}
use Rattle.disjoint_sets.proofs.forest.alone.Given as goal

abbrev pub invariant-loop-k : goal.invariant-loop-k
invariant-loop-k l = record {
  len : length l.parents.items ≡ l.k;
  own : (k : ℕ) → k < l.k → slice_index l.parents.items k ≡ k;
}
