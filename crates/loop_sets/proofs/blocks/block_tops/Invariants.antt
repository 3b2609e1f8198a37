use Rattle.std.proofs.Common.{◌≡◌, ℕ, ◌<◌, ◌≤ℤ◌, length}
use Rattle.loop_sets.specs.Tables.{number_at, AreSmall, IsInBlock}
use Rattle.loop_sets.proofs.blocks.block_tops.Given as goal

-- the blocks so far
abbrev pub invariant-loop-i : goal.invariant-loop-i
invariant-loop-i l = record {
  len : length l.tops.items ≡ l.i;
  over : (i k : ℕ) → i < l.i → k < length l.values → IsInBlock i k → number_at l.values k ≤ℤ number_at l.tops.items i;
  small : AreSmall l.tops.items;
}
