use Rattle.std.proofs.Common.{◌+◌, length}
use Rattle.hull_tree.specs.Plane.{is_possible}
use Rattle.tplane_paver.specs.Paving.{Advances, IsWork}
use Rattle.tplane_paver.specs.Paving.{rows_of}
use Rattle.tplane_paver.proofs.paving.fill.Given as goal

-- the rows so far are filled
abbrev pub invariant-loop-i : goal.invariant-loop-i
invariant-loop-i l =
    Advances (is_possible l.tree) (length l.tree.xs) (rows_of l.fn.work.rows.items) (rows_of l.work.rows.items) l.fn.a l.i (l.fn.b_last + 1)
    × IsWork (is_possible l.tree) (length l.tree.xs) (rows_of l.work.rows.items) l.work.count
