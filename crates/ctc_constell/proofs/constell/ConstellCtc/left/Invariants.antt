use Rattle.std.proofs.Common.{◌≡◌, IfSome, map}
use Rattle.tube_spec.specs.Hull.{hull_below}
use Rattle.ctc_constell.specs.Points.{box_of}
use Rattle.tube_names.specs.Points.{numbers, cells_of}
use Rattle.ctc_constell.specs.Constellations.{left_by, mark_at}
use Rattle.ctc_constell.proofs.constell.ConstellCtc.left.Given as goal

-- the hull over the marks so far
abbrev pub invariant-loop-mark : goal.invariant-loop-mark
invariant-loop-mark g l =
    let s = l.fn.store.shape in
    let marks = map (cells_of s) (map numbers l.fn.self.marks.items) in
    IfSome l.fn.store.box (λ xs. l.hull ≡ hull_below (λ k. left_by (box_of xs (cells_of s (numbers l.fn.self.p))) (box_of xs (mark_at marks k)) l.fn.i) l.mark-index)
