use Rattle.tube_names.proofs.laws.cells_law.Goals as goal
use Rattle.tube_names.proofs.PointCells.{cells-in, cells-same}

pub returns-clause-in_store : goal.returns-clause-in_store
returns-clause-in_store c = cells-in

pub returns-clause-same : goal.returns-clause-same
returns-clause-same c = cells-same
