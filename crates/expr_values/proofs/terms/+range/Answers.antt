use Rattle.std.proofs.Common.{◌+◌, ℕ, refl, ap, arith, ◌∙◌}
use Rattle.expr_tree.specs.Trees.{tree_of}
use Rattle.expr_values.specs.Expressions.{leaves, numbered}
use Rattle.expr_values.specs.Values.{range_value}
use Rattle.expr_values.proofs.Ranges.{range-two}
use Rattle.expr_values.proofs.terms.+range.Goals as goal

pub range_of_two-range_from-requires-2 : goal.range_of_two-range_from-requires-2
range_of_two-range_from-requires-2 t c = let n = c.in_ok-a.ensures.next refl in (omega (arith, c.decreases), omega (arith, n))

pub range_of_two-returns-clause-value : goal.range_of_two-returns-clause-value
range_of_two-returns-clause-value t c =
    let n = c.in_ok-a.ensures.next refl in
    range-two c.args.ranges.now c.args.op (numbered (tree_of c.args.a.now) c.args.next.now) (numbered (tree_of c.args.b.now) (c.args.next.now + leaves (tree_of c.args.a.now))) c.in_ok-a.a c.in_ok-b.b c.value.result
    c.in_ok-a.ensures.value (c.in_ok-b.ensures.value ∙ ap (λ (k : ℕ). range_value c.args.ranges.now (numbered (tree_of c.args.b.now) k)) n) c.value.ensures
