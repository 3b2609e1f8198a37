use Rattle.std.proofs.Common.{◌+◌, ◌-◌, arith}
use Rattle.loop_degree.proofs.Turns.{small-more, add_option-small}
use Rattle.loop_sets.specs.Views.{label_by}
use Rattle.loop_sets.proofs.Beside.{run-told, turned}
use Rattle.loop_sets.proofs.turns.run_turns.Goals as goal

pub add_turns-two-requires-clause-y_small : goal.add_turns-two-requires-clause-y_small
add_turns-two-requires-clause-y_small c = small-more (c.args.run.last + 1 - c.args.run.first) 10000000000000 c.open_turns-left.result (omega arith) c.open_turns-left.ensures.small

pub add_turns-three-requires-clause-x_small : goal.add_turns-three-requires-clause-x_small
add_turns-three-requires-clause-x_small c = small-more (c.args.run.last + 1 - c.args.run.first) 10000000000000 c.open_turns-right.result (omega arith) c.open_turns-right.ensures.small

pub add_turns-three-requires-clause-y_small : goal.add_turns-three-requires-clause-y_small
add_turns-three-requires-clause-y_small c =
    let n = c.args.run.last + 1 - c.args.run.first in
    rw c.add_turns-two.ensures (small-more (1 + n) 10000000000000 _ (omega arith) (add_option-small 1 n _ _ c.turn-upper.ensures.small c.open_turns-left.ensures.small))

pub add_turns-requires-clause-y_small : goal.add_turns-requires-clause-y_small
add_turns-requires-clause-y_small c =
    let n = c.args.run.last + 1 - c.args.run.first in
    rw (c.add_turns-three.ensures, c.add_turns-two.ensures)
    (small-more (n + (1 + n)) 10000000000000 _ (omega arith) (add_option-small n (1 + n) _ _ c.open_turns-right.ensures.small (add_option-small 1 n _ _ c.turn-upper.ensures.small c.open_turns-left.ensures.small)))

pub returns-clause-value : goal.returns-clause-value
returns-clause-value c =
    let label = label_by c.args.view.now in
    let r = c.args.run in
    run-told label c.args.cells.now r c.requires.order c.requires.named c.row_before.result c.turn-lower.result c.open_turns-right.result c.turn-upper.result c.open_turns-left.result c.add_turns-two.result c.add_turns-three.result c.add_turns.result
    (turned label (r.a, r.first) (r.a + 1, r.first) c.label_at.result c.label_at-2.result c.turn-lower.result c.turn-lower.ensures.value c.label_at.ensures c.label_at-2.ensures)
    c.open_turns-right.ensures.value
    (turned label (r.a + 1, r.last + 1) (r.a, r.last + 1) c.label_at-3.result c.label_at-4.result c.turn-upper.result c.turn-upper.ensures.value c.label_at-3.ensures c.label_at-4.ensures)
    c.row_before.ensures c.open_turns-left.ensures.value c.add_turns-two.ensures c.add_turns-three.ensures c.add_turns.ensures

pub returns-clause-small : goal.returns-clause-small
returns-clause-small c =
    let n = c.args.run.last + 1 - c.args.run.first in
    rw (c.add_turns.ensures, c.add_turns-three.ensures, c.add_turns-two.ensures)
    (small-more (1 + (n + (1 + n))) 400000 _ (omega arith)
    (add_option-small 1 (n + (1 + n)) _ _ c.turn-lower.ensures.small (add_option-small n (1 + n) _ _ c.open_turns-right.ensures.small (add_option-small 1 n _ _ c.turn-upper.ensures.small c.open_turns-left.ensures.small))))
