use Rattle.std.proofs.Common.{◌≡◌, ℕ, ◌<◌, None, IfSome, map, length, slice_index_or}
use Rattle.tube_spec.specs.Hull.{hull_below}
use Rattle.ctc_constell.specs.Points.{box_of}
use Rattle.tube_names.specs.Points.{numbers, cells_of}
use Rattle.ctc_constell.specs.Constellations.{left_by, mark_at}
use Rattle.ctc_constell.proofs.constell.ConstellCtc.lefts.Given as goal

-- the hulls over the marks so far
abbrev pub invariant-loop-mark : goal.invariant-loop-mark
invariant-loop-mark g l =
    let s = l.fn.store.shape in
    let marks = map (cells_of s) (map numbers l.fn.self.marks.items) in
    record {
      size : length l.hulls ≡ g.row.N;
      each : (k : ℕ) → k < g.row.N → IfSome l.fn.store.box (λ xs. slice_index_or l.hulls k None ≡ hull_below (λ j. left_by (box_of xs (cells_of s (numbers l.fn.self.p))) (box_of xs (mark_at marks j)) k) l.mark-index);
    }
