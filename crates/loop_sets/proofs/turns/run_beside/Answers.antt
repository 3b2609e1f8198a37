use Rattle.loop_sets.proofs.Beside.{beside-of}
use Rattle.loop_sets.proofs.turns.run_beside.Goals as goal

pub returns : goal.returns
returns c = beside-of c.args.cells.now c.args.beside c.in_ok-beside.field-0 c.args.b c.run_with.result c.in_ok-beside.was c.run_with.ensures
