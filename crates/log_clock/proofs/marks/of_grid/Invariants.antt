use Rattle.std.proofs.Common.{◌≡◌, ℕ, ◌+◌, ◌<◌, length, take, true, false, slice_index}
use Rattle.std.specs.Prelude.{slice_index_or}
use Rattle.tube_spec.specs.Grid.{last_tick}
use Rattle.log_clock.specs.Marks.{marked}
use Rattle.log_clock.proofs.marks.of_grid.Given as goal

abbrev pub invariant-loop-i : goal.invariant-loop-i
invariant-loop-i l = record {
  size : length l.marks.items ≡ last_tick l.grid + 1;
  value : marked 0 l.marks.items ≡ take l.i l.grid;
  all : (k : ℕ) → k < l.i → slice_index_or l.marks.items (slice_index l.grid k) false ≡ true;
}
