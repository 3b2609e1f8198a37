use Rattle.std.proofs.Common.{◌≡◌, ℕ, ◌<◌, None, length, slice_index_or}
use Rattle.tube_spec.specs.Hull.{join_option}
use Rattle.ctc_constell.specs.Constellations.{left_by}
use Rattle.ctc_constell.proofs.boxes.joined.Given as goal

-- the coordinates so far have what the mark leaves
abbrev pub invariant-loop-i : goal.invariant-loop-i
invariant-loop-i g l = record {
  size : length l.more ≡ g.row.N;
  done : (k : ℕ) → k < l.i → slice_index_or l.more k None ≡ join_option (slice_index_or l.hulls k None) (left_by l.point l.mark k);
}
