use Rattle.std.proofs.Common.{◌≡◌, ◌+◌, vec_len, vec_capacity}
use Rattle.slice_gates.specs.Cuts.{multiples}
use Rattle.slice_gates.proofs.Grid.uniform.Given as goal

abbrev pub invariant-loop-i : goal.invariant-loop-i
invariant-loop-i l = record {
  made : l.bounds.items ≡ multiples l.width l.i;
  filled : vec_len l.bounds ≡ l.i;
  room : vec_capacity l.bounds ≡ l.count + 1;
}
