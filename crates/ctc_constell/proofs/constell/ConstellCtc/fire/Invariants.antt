use Rattle.std.proofs.Common.{map}
use Rattle.std.specs.List.{range_with_len}
use Rattle.tube_names.specs.Points.{numbers, cells_of}
use Rattle.ctc_core.specs.Answers.{Revises}
use Rattle.ctc_constell.proofs.Passes.{fixed_at}
use Rattle.ctc_constell.proofs.constell.ConstellCtc.fire.Given as goal

-- the coordinates so far were held
abbrev pub invariant-loop-i : goal.invariant-loop-i
invariant-loop-i g l = Revises (map (fixed_at (cells_of l.fn.store.shape (numbers l.fn.self.p)) l.lefts) (range_with_len 0 l.i)) l.fn.store l.store l.answer
