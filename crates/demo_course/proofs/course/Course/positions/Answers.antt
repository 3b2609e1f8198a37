use Rattle.std.proofs.Common.{◌≡◌, ◌+◌, ℤ, List, [], ◌∷◌, ◌++◌, arith, ap₂, sym, ◌∙◌}
use Rattle.std.proofs.lemmas.Int.{ints}
use Rattle.demo_course.specs.Course.{position_at, rate_at, stretch_of, values_until}
use Rattle.demo_course.proofs.Listing.{values-more, values-none}
use Rattle.demo_course.proofs.Reaching.{moved, position-within, rate-within}
use Rattle.demo_course.proofs.course.Course.positions.Goals as goal

pub loop-tick-init : goal.loop-tick-init
loop-tick-init c = record {
  made = c.new-all.ensures.items ∙ sym (values-none (position_at c.args.self.now c.args.axis));
  here = sym ((moved c.args.self.now).begins c.args.axis);
}

pub overflow_add-position : goal.overflow_add-position
overflow_add-position c =
    let p = position-within c.args.self.now c.args.axis c.loop-tick.tick in
    let v = rate-within c.args.self.now c.args.axis (stretch_of c.loop-tick.tick) in
    omega (arith, ints, p.low, p.high, v.low, v.high, c.loop-tick.invariant.here, c.rate_at-position.ensures)

pub loop-tick-preserved : goal.loop-tick-preserved
loop-tick-preserved c =
    let p = position-within c.args.self.now c.args.axis c.loop-tick.tick in
    let v = rate-within c.args.self.now c.args.axis (stretch_of c.loop-tick.tick) in
    let more = values-more (position_at c.args.self.now c.args.axis) c.loop-tick.tick in
    let moves = (moved c.args.self.now).moves c.args.axis c.loop-tick.tick in
    record { made = c.in_ok-push.ensures.items ∙ ap₂ (λ (l : List ℤ) (z : ℤ). l ++ z ∷ []) c.loop-tick.invariant.made c.loop-tick.invariant.here ∙ sym more; here = omega (arith, ints, p.low, p.high, v.low, v.high, c.loop-tick.invariant.here, c.rate_at-position.ensures, moves) }
