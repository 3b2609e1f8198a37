use Rattle.std.proofs.Common.{w64, SFits, arith, ◌∙◌, ap, ℤ, ◌+◌, ◌-◌, ◌/◌}
use Rattle.std.proofs.lemmas.Int.{ints, clamps, to_z-of_z}
use Rattle.std.specs.List.{fold}
use Rattle.loop_sets.specs.Cells.{column}
use Rattle.loop_prover.proofs.Stepping.{fits}
use Rattle.loop_sets.specs.Bounds.{step_at, greater_sum}
use Rattle.loop_sets.proofs.Stepping.{topped-range, topped-true, fold-halves}
use Rattle.loop_sets.proofs.bounds.+raised.Goals as goal

pub returns-then-are_topped-clause-value : goal.returns-then-are_topped-clause-value
returns-then-are_topped-clause-value t c =
    let f = step_at c.args.steps.now in
    let small : SFits w64 c.args.top = fits c.args.top (omega (arith, ints, c.requires.least)) (omega (arith, ints, c.requires.most)) in
    to_z-of_z w64 c.args.top small ∙ topped-range f c.args.top c.args.a c.args.first c.args.last c.requires.order (topped-true f c.args.a _ c.args.top c.args.first c.args.last c.are_topped.result (to_z-of_z w64 c.args.top small) c.if-are_topped.true c.are_topped.ensures)

pub returns-then-first-last-clause-most : goal.returns-then-first-last-clause-most
returns-then-first-last-clause-most t c =
    let a = c.requires.steps c.args.a in
    let b = c.requires.steps c.args.first in
    let value = c.max.ensures.value in
    omega (arith, ints, clamps, a, b, value, c.at.ensures, c.at-then-first-last.ensures, c.requires.least, c.requires.most)

pub returns-clause-value : goal.returns-clause-value
returns-clause-value t c =
    let f = step_at c.args.steps.now in
    let h = c.raised-higher.result in
    let r = c.raised.result in
    let one = c.raised-higher.ensures in
    let two = c.raised.ensures in
    let small_h : SFits w64 h = fits h (omega (arith, ints, one.least)) (omega (arith, ints, one.most)) in
    let small_r : SFits w64 r = fits r (omega (arith, ints, two.least)) (omega (arith, ints, two.most)) in
    let small : SFits w64 c.args.top = fits c.args.top (omega (arith, ints, c.requires.least)) (omega (arith, ints, c.requires.most)) in
    to_z-of_z w64 r small_r ∙ fold-halves f c.args.top h _ r c.args.a c.args.first _ c.args.last (omega arith) (omega arith)
    (one.value ∙ ap (λ (z : ℤ). fold (greater_sum f) z (column c.args.a c.args.first (c.args.first + (c.args.last - c.args.first) / 2 + 1 - c.args.first))) (to_z-of_z w64 c.args.top small)) (to_z-of_z w64 h small_h) two.value
