use Rattle.std.proofs.Common.{ℕ, ◌<◌, ◌≤◌, ◌≤ℤ◌}
use Rattle.loop_sets.specs.Tables.{number_at, IsSmallNumber}
use Rattle.loop_sets.proofs.blocks.greatest.Given as goal

-- no number so far is above the greatest
abbrev pub invariant-loop-place : goal.invariant-loop-place
invariant-loop-place l = record {
  begun : l.first < l.place;
  over : (k : ℕ) → l.first ≤ k → k < l.place → number_at l.values k ≤ℤ l.top;
  small : IsSmallNumber l.top;
}
