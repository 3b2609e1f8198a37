use Rattle.std.proofs.Common.{◌-◌, ◌≤◌, false, map}
use Rattle.std.specs.List.{range_with_len}
use Rattle.ctc_eval.specs.Evals.{reached_projection}
use Rattle.ctc_eval.specs.Blocks.{IsMoved}
use Rattle.ctc_eval.proofs.eval.EvalCtc.moves_reached.Given as goal

-- no gate so far would be narrowed
abbrev pub invariant-loop-done : goal.invariant-loop-done
invariant-loop-done l = record {
  still : IsMoved (map (reached_projection l.store.shape l.self.x.0 l.rate.0 l.self.t.0 l.self.z.0 l.self.declared) (range_with_len l.from l.done)) l.store.box false;
  low : l.done ≤ l.count;
}

abbrev pub decreases-loop-done : goal.decreases-loop-done
decreases-loop-done l = l.count - l.done
