use Rattle.std.proofs.Common.{◌-◌, ◌≤◌, true, map, slice_index}
use Rattle.std.specs.List.{range_with_len}
use Rattle.ctc_core.specs.Checking.{Checks}
use Rattle.ctc_delay.specs.Delays.{delay_from_at}
use Rattle.ctc_delay.specs.Places.{place_count}
use Rattle.ctc_delay.proofs.from.DelayFrom.holds.Given as goal

-- the places so far hold
abbrev pub invariant-loop-done : goal.invariant-loop-done
invariant-loop-done l =
    let s = l.store.shape in
    record {
      checks : Checks (map (delay_from_at s.grid (slice_index s.signals l.self.x.0) (slice_index s.signals l.self.y.0) (slice_index s.vars l.self.tau.0)) (range_with_len 0 l.done)) l.store.box true;
      among : l.done ≤ place_count s.grid;
    }

abbrev pub decreases-loop-done : goal.decreases-loop-done
decreases-loop-done l = l.count - l.done
