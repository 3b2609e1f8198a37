use Rattle.loop_degree.proofs.Searching.{found-has}
use Rattle.loop_degree.proofs.cells.has_cell.Goals as goal

pub returns : goal.returns
returns c = cc (found-has c.args.cells.now c.requires c.args.cell c.binary_search.result c.binary_search.ensures.bound c.binary_search.ensures.position)
