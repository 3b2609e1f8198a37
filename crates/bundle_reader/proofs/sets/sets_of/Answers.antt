use Rattle.std.proofs.Common.{◌+◌, ℕ, ◌∷◌, [], length, sym, ap, subst, arith, length-append}
use Rattle.bundle_text.specs.Bundles.{IsTracedSet, set_text}
use Rattle.bundle_reader.specs.Fronts.{IsInFront, NoneInFront}
use Rattle.bundle_reader.specs.Sets.{AfterSet}
use Rattle.bundle_reader.proofs.SetLists.{none_left, one_read}
use Rattle.bundle_reader.proofs.sets.sets_of.Goals as goal

pub returns-in_default : goal.returns-in_default
returns-in_default c =
    let none = rw c.in_default.is at c.in_ok-set.ensures in
    none_left c.args.count c.args.bytes.now c.loop-read.rest.now c.loop-read.sets.items c.loop-read.invariant.read (omega (arith, c.loop-read.invariant.counted, c.loop-read-test.true))
    (subst (λ (m : ℕ). NoneInFront (set_text (m + 1)) IsTracedSet AfterSet c.loop-read.rest.now) (sym c.loop-read.invariant.counted) none)

pub loop-read-preserved : goal.loop-read-preserved
loop-read-preserved c =
    let here = rw c.in-Some.is at c.in_ok-set.ensures in
    record {
      counted = omega (arith, ap length c.in_ok-push.ensures.items, length-append c.loop-read.sets.items (c.in-Some.set ∷ []), c.loop-read.invariant.counted);
      read =
          rw (c.in_ok-push.ensures.items)
          (one_read c.args.count c.args.bytes.now c.loop-read.rest.now c.loop-read.sets.items c.loop-read.invariant.read c.in-Some.set c.in-Some.others.now
          (omega (arith, c.loop-read.invariant.counted, c.loop-read-test.true))
          (subst (λ (m : ℕ). IsInFront (set_text (m + 1)) IsTracedSet AfterSet c.loop-read.rest.now c.in-Some.set c.in-Some.others.now) (sym c.loop-read.invariant.counted) here));
    }
