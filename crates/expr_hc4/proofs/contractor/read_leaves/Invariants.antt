use Rattle.std.proofs.Common.{◌≡◌, take, length, IfSome}
use Rattle.expr_hc4.specs.Places.{leaf_cells}
use Rattle.expr_hc4.specs.Projections.{entries_at}
use Rattle.expr_hc4.proofs.contractor.read_leaves.Given as goal

-- the leaves so far
abbrev pub invariant-loop-j : goal.invariant-loop-j
invariant-loop-j l = record {
  len : length l.entries ≡ length l.fn.entries;
  so_far : IfSome l.store.box (λ xs. take l.j l.entries ≡ entries_at (leaf_cells l.store.shape l.place (take l.j l.leaves)) xs);
}
