use Rattle.std.proofs.Common.{◌≡◌, ℕ, ◌+◌, ◌-◌, ◌<◌, ◌≤◌, None, length, slice_index, slice_index_or}
use Rattle.ctc_eval.specs.Clock.{cells_of}
use Rattle.ctc_eval.specs.Walks.{IsFromOn}
use Rattle.ctc_eval.proofs.block.hulls_back.Given as goal

-- what the ticks from the last gate so far on give at it, and what is kept of the gates from there on
abbrev pub invariant-loop-j : goal.invariant-loop-j
invariant-loop-j l = record {
  back : IsFromOn l.store.shape l.sweep.x.0 l.rate.0 l.sweep.z.0 (cells_of l.store.box) l.stretch.ticks (slice_index l.store.shape.grid l.at) (slice_index_or l.hulls l.j None);
  order : 0 < l.j → l.first + (l.j - 1) ≤ l.at;
  named : l.at < length l.store.shape.grid;
  room : length l.hulls ≡ 65;
  kept : (k : ℕ) → l.j ≤ k → k < l.fn.count → IsFromOn l.store.shape l.sweep.x.0 l.rate.0 l.sweep.z.0 (cells_of l.store.box) l.stretch.ticks (slice_index l.store.shape.grid (l.first + k)) (slice_index_or l.hulls k None);
}
