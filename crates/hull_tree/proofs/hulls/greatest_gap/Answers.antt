use Rattle.std.proofs.Common.{◌-ℤ◌, arith}
use Rattle.std.proofs.lemmas.Int.{ints}
use Rattle.hull_tree.proofs.Gaps.{small_fits, diff_read, same-gap}
use Rattle.hull_tree.proofs.hulls.greatest_gap.Goals as goal

pub overflow_sub-p : goal.overflow_sub-p
overflow_sub-p c = small_fits _ (omega (arith, ints)) (omega (arith, ints))

pub overflow_sub-q : goal.overflow_sub-q
overflow_sub-q c = small_fits _ (omega (arith, ints)) (omega (arith, ints))

pub distance-requires-clause-a : goal.distance-requires-clause-a
distance-requires-clause-a c = omega (arith, ints)

pub distance-requires-clause-b : goal.distance-requires-clause-b
distance-requires-clause-b c = omega (arith, ints)

pub returns-clause-gap : goal.returns-clause-gap
returns-clause-gap c =
    same-gap _ _ (c.args.p.greatest_lower -ℤ c.args.q.least_upper) (c.args.q.greatest_lower -ℤ c.args.p.least_upper) c.distance.result c.distance.ensures.value
    (diff_read c.args.p.greatest_lower c.args.q.least_upper (small_fits c.args.p.greatest_lower (omega (arith, ints)) (omega (arith, ints))) (small_fits c.args.q.least_upper (omega (arith, ints)) (omega (arith, ints))) (omega (arith, ints)) (omega (arith, ints)) (omega (arith, ints)) (omega (arith, ints)))
    (diff_read c.args.q.greatest_lower c.args.p.least_upper (small_fits c.args.q.greatest_lower (omega (arith, ints)) (omega (arith, ints))) (small_fits c.args.p.least_upper (omega (arith, ints)) (omega (arith, ints))) (omega (arith, ints)) (omega (arith, ints)) (omega (arith, ints)) (omega (arith, ints)))
