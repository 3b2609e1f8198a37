use Rattle.std.proofs.Common.{◌≡◌, ℕ, arith, subst, true, map, slice_index}
use Rattle.std.specs.List.{range_with_len}
use Rattle.tube_spec.specs.Projection.{Projection}
use Rattle.ctc_core.specs.Checking.{Checks}
use Rattle.ctc_delay.specs.Delays.{delay_to_at}
use Rattle.ctc_delay.specs.Places.{place_count}
use Rattle.ctc_delay.proofs.Tests.{none-checked, more-checked, one-fails}
use Rattle.ctc_delay.proofs.to.DelayTo.holds.Goals as goal

pub loop-done-init : goal.loop-done-init
loop-done-init c =
    let s = c.args.store.now in
    let me = c.args.self.now in
    let p : ℕ → Projection = delay_to_at s.shape.grid (slice_index s.shape.signals me.x.0) (slice_index s.shape.signals me.y.0) (slice_index s.shape.vars me.tau.0) in
    record { checks = none-checked p s.box; among = omega arith }

pub returns-then-not-holds : goal.returns-then-not-holds
returns-then-not-holds c =
    let s = c.args.store.now in
    let me = c.args.self.now in
    let p : ℕ → Projection = delay_to_at s.shape.grid (slice_index s.shape.signals me.x.0) (slice_index s.shape.signals me.y.0) (slice_index s.shape.vars me.tau.0) in
    one-fails p s.box c.loop-done.done c.holds_some-holds.result.1 (place_count s.shape.grid) c.holds_some-holds.result.0 c.if-not-holds.true c.holds_some-holds.ensures.among c.holds_some-holds.ensures.checks

pub loop-done-preserved : goal.loop-done-preserved
loop-done-preserved c =
    let s = c.args.store.now in
    let me = c.args.self.now in
    let p : ℕ → Projection = delay_to_at s.shape.grid (slice_index s.shape.signals me.x.0) (slice_index s.shape.signals me.y.0) (slice_index s.shape.vars me.tau.0) in
    record {
      checks = more-checked p s.box c.loop-done.done c.holds_some-holds.result.1 c.holds_some-holds.result.0 c.if-not-holds.false c.loop-done.invariant.checks c.holds_some-holds.ensures.checks;
      among = c.holds_some-holds.ensures.among;
    }

pub returns : goal.returns
returns c =
    let s = c.args.store.now in
    let me = c.args.self.now in
    let p : ℕ → Projection = delay_to_at s.shape.grid (slice_index s.shape.signals me.x.0) (slice_index s.shape.signals me.y.0) (slice_index s.shape.vars me.tau.0) in
    let all : c.loop-done.done ≡ place_count s.shape.grid = omega (arith, c.loop-done-test.false, c.loop-done.invariant.among, c.place_count-count.ensures.count) in
    subst (λ (n : ℕ). Checks (map p (range_with_len 0 n)) s.box true) all c.loop-done.invariant.checks
