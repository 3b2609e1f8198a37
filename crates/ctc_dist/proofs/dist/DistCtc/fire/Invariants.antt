use Rattle.tube_names.specs.Points.{numbers, cells_of}
use Rattle.ctc_core.specs.Answers.{Revises}
use Rattle.ctc_dist.specs.Distances.{squares_from}
use Rattle.ctc_dist.proofs.Pairs.{pairs_below}
use Rattle.ctc_dist.proofs.dist.DistCtc.fire.Given as goal

-- the coordinates so far were fired
abbrev pub invariant-loop-i : goal.invariant-loop-i
invariant-loop-i g l =
    Revises (pairs_below (cells_of l.fn.store.shape (numbers l.self.p)) (cells_of l.fn.store.shape (numbers l.self.b)) (squares_from l.self.near l.self.far) l.i) l.fn.store l.store l.answer
