use Rattle.std.proofs.Common.{◌+◌, ◌∙◌, pos, ◌≤ℤ◌, w64, to_z, of_z, arith, ap, subst, sym, map, ℤ, IfSome}
use Rattle.std.proofs.lemmas.Int.{ints, to_z-of_z}
use Rattle.tube_spec.specs.Tick.{at_tick}
use Rattle.loop_degree.specs.Steps.{step_of, greatest_in}
use Rattle.loop_prover.proofs.Stepping.{step-left, sub-bounded, fits}
use Rattle.loop_prover.proofs.bounds.greatest_step.Goals as goal

pub greatest_left-requires-clause-change : goal.greatest_left-requires-clause-change
greatest_left-requires-clause-change c = sub-bounded c.at_tick-later.result c.at_tick-now.result c.sub.result c.at_tick-later.ensures.bounded c.at_tick-now.ensures.bounded c.sub.ensures.value

pub returns-clause-value : goal.returns-clause-value
returns-clause-value c =
    let s = c.args.store.now.shape in
    let x = c.args.x.0 in
    let k = c.args.tick in
    let r = c.greatest_left.result in
    let most : r ≤ℤ pos 4000000000 = omega (arith, ints, c.greatest_left.ensures.most) in
    let read = to_z-of_z w64 r (fits r c.greatest_left.ensures.least most) in
    rw read (step-left c.args.store.now.box (λ xs. at_tick s xs x (k + 1)) (λ xs. at_tick s xs x k) (λ xs v. at_tick s xs v k) (map (λ r. r.0) c.args.rates.now) c.at_tick-later.result c.at_tick-now.result c.sub.result r
    c.at_tick-later.ensures.value c.at_tick-now.ensures.value c.sub.ensures.value c.greatest_left.ensures.value)
