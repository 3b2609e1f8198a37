use Rattle.cell_readers.proofs.Weights.{weighted-falls}
use Rattle.cell_readers.proofs.laws.fall_law.Goals as goal

pub returns : goal.returns
returns c r xs ys cells low once narrower = weighted-falls r xs ys cells low once narrower
