use Rattle.std.proofs.Common.{◌≡◌, ◌+◌, ◌-◌, ℕ, ◌<◌, ◌≤◌, true, IfSome, slice_index}
use Rattle.tube_spec.specs.Grid.{last_tick}
use Rattle.tube_spec.specs.Tick.{tick_place}
use Rattle.ctc_delay.specs.Places.{place_count}
use Rattle.ctc_delay.specs.Delays.{at_tick_from}
use Rattle.int_interval.specs.Inverse.{meets}
use Rattle.ctc_delay.proofs.possible.is_possible.Given as goal

-- the signals meet at the ticks so far, and the places are those of the next one
abbrev pub invariant-loop-tick : goal.invariant-loop-tick
invariant-loop-tick l =
    let s = l.store.shape in
    record {
      met : IfSome l.store.box (λ xs. (k : ℕ) → l.delay ≤ k → k < l.tick → meets (at_tick_from s.grid xs (slice_index s.signals l.x.0) (k - l.delay)) (at_tick_from s.grid xs (slice_index s.signals l.y.0) k) ≡ true);
      low : l.delay ≤ l.tick;
      before_among : l.before < place_count s.grid;
      now_among : l.now < place_count s.grid;
      before_there : l.tick ≤ last_tick s.grid → l.before ≡ tick_place s.grid (l.tick - l.delay);
      now_there : l.tick ≤ last_tick s.grid → l.now ≡ tick_place s.grid l.tick;
    }

abbrev pub decreases-loop-tick : goal.decreases-loop-tick
decreases-loop-tick l = (last_tick l.store.shape.grid + 1) - l.tick
