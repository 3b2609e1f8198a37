use Rattle.std.proofs.Common.{◌≡◌, ◌<◌, ℕ, length, slice_index}
use Rattle.tube_spec.specs.Box.{cell_at}
use Rattle.expr_hc4.proofs.passes.gather.Given as goal

-- the places so far
abbrev pub invariant-loop-j : goal.invariant-loop-j
invariant-loop-j l = record {
  len : length l.targets ≡ length l.fn.targets;
  so_far : (k : ℕ) → k < l.j → cell_at l.targets k ≡ cell_at l.values (slice_index l.places k);
}
