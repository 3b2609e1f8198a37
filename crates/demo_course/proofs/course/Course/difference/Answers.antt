use Rattle.std.proofs.Common.{◌≡◌, ℤ, pos, length, List, arith, ap, ◌∙◌, slice_index_or}
use Rattle.std.proofs.lemmas.Int.{ints}
use Rattle.tube_spec.specs.Span.{Holds}
use Rattle.demo_course.specs.Course.{position_at}
use Rattle.demo_course.proofs.Listing.{length-values, value-at}
use Rattle.demo_course.proofs.Reaching.{place-within, position-within}
use Rattle.demo_course.proofs.course.Course.difference.Goals as goal

pub bounds-track-tick : goal.bounds-track-tick
bounds-track-tick c = omega (arith, ap length c.requires.track, length-values (position_at c.args.self.now c.args.axis) 2001)

here : (c : goal.After-place) → slice_index_or c.args.track.now c.args.tick (pos 0) ≡ position_at c.args.self.now c.args.axis c.args.tick
here c = ap (λ (l : List ℤ). slice_index_or l c.args.tick (pos 0)) c.requires.track ∙ value-at (position_at c.args.self.now c.args.axis) 2001 c.args.tick (pos 0) (omega arith)

pub overflow_sub-result : goal.overflow_sub-result
overflow_sub-result c =
    let p = position-within c.args.self.now c.args.axis c.args.tick in
    let q = place-within c.args.self.now c.args.axis c.args.beacon in
    omega (arith, ints, here c, p.low, p.high, q.low, q.high, c.place.ensures.value, c.requires.tick)

pub returns-clause-value : goal.returns-clause-value
returns-clause-value c =
    let p = position-within c.args.self.now c.args.axis c.args.tick in
    let q = place-within c.args.self.now c.args.axis c.args.beacon in
    omega (arith, ints, here c, p.low, p.high, q.low, q.high, c.place.ensures.value, c.requires.tick)

pub returns-clause-near : goal.returns-clause-near
returns-clause-near c =
    let p = position-within c.args.self.now c.args.axis c.args.tick in
    let q = place-within c.args.self.now c.args.axis c.args.beacon in
    record {
      low = omega (arith, ints, here c, p.low, p.high, q.low, q.high, c.place.ensures.value, c.requires.tick);
      high = omega (arith, ints, here c, p.low, p.high, q.low, q.high, c.place.ensures.value, c.requires.tick);
    }
