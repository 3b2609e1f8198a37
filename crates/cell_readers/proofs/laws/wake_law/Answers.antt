use Rattle.cell_readers.proofs.Counts.{union}
use Rattle.cell_readers.proofs.laws.wake_law.Goals as goal

pub returns : goal.returns
returns g c reads cs cells k before after len woken = union reads cs cells k before after len woken
