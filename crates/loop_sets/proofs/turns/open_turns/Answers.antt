use Rattle.std.proofs.Common.{arith, ◌+◌, ◌-◌}
use Rattle.loop_degree.proofs.Turns.{small-more}
use Rattle.loop_sets.specs.Views.{label_by}
use Rattle.loop_sets.proofs.Beside.{open-skip, open-more, small-open}
use Rattle.loop_sets.proofs.turns.open_turns.Goals as goal

pub loop-b-preserved-in-Some : goal.loop-b-preserved-in-Some
loop-b-preserved-in-Some c =
    let shares = c.in-Some.ensures in
    record {
      sum = open-skip (label_by c.args.view.now) c.args.cells.now c.args.beside c.args.a c.args.up c.args.first c.loop-b.b c.loop-b.invariant.low c.in-Some.run' c.args.last c.min-b.result c.loop-b.total shares c.min-b.ensures c.loop-b-test.true c.loop-b.invariant.sum;
      small = small-more (c.loop-b.b - c.args.first) (c.min-b.result + 1 - c.args.first) c.loop-b.total (omega (arith, shares.last)) c.loop-b.invariant.small;
      low = omega (arith, shares.last);
      high = omega arith;
    }

pub add_turns-total-requires-clause-x_small : goal.add_turns-total-requires-clause-x_small
add_turns-total-requires-clause-x_small c = small-more (c.loop-b.b - c.args.first) 10000000000000 c.loop-b.total (omega arith) c.loop-b.invariant.small

pub loop-b-preserved : goal.loop-b-preserved
loop-b-preserved c = record {
  sum = open-more (label_by c.args.view.now) c.args.cells.now c.args.beside c.args.a c.args.up c.args.first c.loop-b.b c.loop-b.invariant.low c.loop-b.total c.upright_turn-turn.result c.add_turns-total.result c.in-None.ensures c.loop-b.invariant.sum c.upright_turn-turn.ensures.value c.add_turns-total.ensures;
  small = small-open (label_by c.args.view.now) c.args.cells.now c.args.beside c.args.a c.args.up c.args.first c.loop-b.b c.loop-b.invariant.low c.loop-b.total c.upright_turn-turn.result c.add_turns-total.result c.loop-b.invariant.small c.upright_turn-turn.ensures.small c.add_turns-total.ensures;
  low = omega arith;
  high = omega arith;
}
