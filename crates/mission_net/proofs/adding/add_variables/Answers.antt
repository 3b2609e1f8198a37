use Rattle.tube_spec.specs.Owner.{VariableIn}
use Rattle.mission_net.proofs.Additions.{cells-more, cells-room}
use Rattle.mission_net.proofs.adding.add_variables.Goals as goal

pub add_variable-requires-clause-room : goal.add_variable-requires-clause-room
add_variable-requires-clause-room c =
    let l = c.loop-range in
    cells-room VariableIn c.args.ranges.now l.range-index c.range-item.result c.args.net.now l.net c.loop-range-test.true c.range-item.is c.requires.room l.invariant

pub loop-range-preserved : goal.loop-range-preserved
loop-range-preserved c =
    let l = c.loop-range in
    cells-more VariableIn c.args.ranges.now l.range-index c.range-item.result c.args.net.now l.net c.add_variable.new.net c.loop-range-test.true c.range-item.is l.invariant c.in_ok-add_variable.ensures.added
