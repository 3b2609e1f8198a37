use Rattle.std.proofs.Common.{ℕ, ◌+◌, ◌*◌, ◌^◌, ◌<◌, arith, sym, subst, ap, ◌∙◌}
use Rattle.std.proofs.Math.Nat.{pow-suc}
use Rattle.hull_tree.proofs.Blocks.{block-above, apart}
use Rattle.hull_tree.proofs.ranges.lowest_block.Goals as goal

pub overflow_add-level : goal.overflow_add-level
overflow_add-level c =
    let v = c.loop-low.invariant in
    omega (arith, v.deep, apart c.loop-low.low c.loop-low.high c.loop-low.side c.args.last v.order c.loop-low-test.true v.last_begins)

pub overflow_mul-side : goal.overflow_mul-side
overflow_mul-side c =
    let v = c.loop-low.invariant in
    omega (arith, apart c.loop-low.low c.loop-low.high c.loop-low.side c.args.last v.order c.loop-low-test.true v.last_begins)

pub loop-low-init : goal.loop-low-init
loop-low-init c = record { side = omega arith; deep = omega arith; order = c.requires.order; begins = omega arith; first_ends = omega arith; last_begins = omega arith; ends = omega arith; low = omega arith }

pub loop-low-smaller : goal.loop-low-smaller
loop-low-smaller c = omega (arith, c.loop-low.invariant.order, c.loop-low-test.true)

pub loop-low-preserved : goal.loop-low-preserved
loop-low-preserved c =
    let v = c.loop-low.invariant in
    let low = block-above c.loop-low.low c.loop-low.side c.args.first v.begins v.first_ends in
    let high = block-above c.loop-low.high c.loop-low.side c.args.last v.last_begins v.ends in
    let less = apart c.loop-low.low c.loop-low.high c.loop-low.side c.args.last v.order c.loop-low-test.true v.last_begins in
    record {
      side = ap (λ (n : ℕ). n * 2) v.side ∙ sym (pow-suc 2 c.loop-low.level) ∙ ap (λ (n : ℕ). 2 ^ n) (omega arith);
      deep = omega (arith, v.deep);
      order = omega (arith, v.order);
      begins = low.0;
      first_ends = low.1;
      last_begins = high.0;
      ends = high.1;
      low = omega (arith, less);
    }

pub returns-clause-ends : goal.returns-clause-ends
returns-clause-ends c = subst (λ (n : ℕ). c.args.last < n * c.loop-low.side + c.loop-low.side) (sym c.loop-low-test.false) c.loop-low.invariant.ends
