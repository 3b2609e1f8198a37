use Rattle.std.proofs.Common.{◌≡◌, ◌+◌, ◌<◌, ◌⊎◌, inl, inr, ℕ, Bool, cond, Some, arith, refl, subst, count_by, slice_get}
use Rattle.std.proofs.lemmas.Option.{slice_get_within}
use Rattle.std.proofs.lemmas.List.Sums.{sum_by-take-le}
use Rattle.traced_settling.proofs.Waits.{count-asked}
use Rattle.traced_settling.proofs.sought.Goals as goal

split : (k n : ℕ) → k < n + 1 → (k < n) ⊎ (k ≡ n)
split k n h = grind arith

pub loop-number-preserved : goal.loop-number-preserved
loop-number-preserved g c = record {
  rests = λ k d before at. elim (split k c.loop-number.number before) [
    | inl b ↦ c.loop-number.invariant.rests k d b at
    | inr e ↦ c.if-narrows.ensures.no refl d (subst (λ (j : ℕ). slice_get c.args.net.now.contractors j ≡ Some d) e at)
  ];
  steps = count-asked c.args.net.now.waiting c.loop-number.number c.args.steps.now c.loop-number.steps c.narrows.new.steps (omega (arith, c.loop-number-test.true, c.numbers-number-end.ensures, c.known.ensures.places.beside)) c.loop-number.invariant.steps c.if-narrows.ensures.step c.if-narrows.ensures.quiet;
}

pub returns-then-narrows-clause-bound : goal.returns-then-narrows-clause-bound
returns-then-narrows-clause-bound g c =
    let next = count-asked c.args.net.now.waiting c.loop-number.number c.args.steps.now c.loop-number.steps c.narrows.new.steps (omega (arith, c.loop-number-test.true, c.numbers-number-end.ensures, c.known.ensures.places.beside)) c.loop-number.invariant.steps c.if-narrows.ensures.step c.if-narrows.ensures.quiet in
    omega (arith, next, sum_by-take-le (λ (w : Bool). cond w 1 0) c.args.net.now.waiting (c.loop-number.number + 1))

pub returns-clause-rests : goal.returns-clause-rests
returns-clause-rests g c = λ e k d at. c.loop-number.invariant.rests k d (omega (arith, slice_get_within c.args.net.now.contractors k d at, c.loop-number-test.false, c.numbers-number-end.ensures)) at

pub returns-clause-bound : goal.returns-clause-bound
returns-clause-bound g c = omega (arith, c.loop-number.invariant.steps, sum_by-take-le (λ (w : Bool). cond w 1 0) c.args.net.now.waiting c.loop-number.number)
