use Rattle.cell_readers.proofs.Weights.{lost-left_box}
use Rattle.cell_readers.proofs.Steps.{run-bound}
use Rattle.cell_readers.proofs.laws.cost_law.Goals as goal

pub returns-clause-whole : goal.returns-clause-whole
returns-clause-whole c r new old low = lost-left_box r new old low

pub returns-clause-bound : goal.returns-clause-bound
returns-clause-bound c r start now before after old new low h = run-bound r start now before after old new low h
