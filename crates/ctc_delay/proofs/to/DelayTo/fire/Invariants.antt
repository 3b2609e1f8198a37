use Rattle.std.proofs.Common.{◌-◌, ◌≤◌, map, slice_index}
use Rattle.std.specs.List.{range_with_len}
use Rattle.ctc_core.specs.Answers.{Revises}
use Rattle.ctc_delay.specs.Places.{place_count}
use Rattle.ctc_delay.specs.Delays.{delay_to_at}
use Rattle.ctc_delay.proofs.to.DelayTo.fire.Given as goal

-- the places so far were fired
abbrev pub invariant-loop-done : goal.invariant-loop-done
invariant-loop-done l =
    let s = l.fn.store.shape in
    record {
      fired : Revises (map (delay_to_at s.grid (slice_index s.signals l.self.x.0) (slice_index s.signals l.self.y.0) (slice_index s.vars l.self.tau.0)) (range_with_len 0 l.done)) l.fn.store l.store l.answer;
      among : l.done ≤ place_count s.grid;
    }

abbrev pub decreases-loop-done : goal.decreases-loop-done
decreases-loop-done l = place_count l.fn.store.shape.grid - l.done
