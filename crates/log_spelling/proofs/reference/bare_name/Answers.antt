use Rattle.std.proofs.Common.{arith}
use Rattle.log_spelling.proofs.Cutting.{part_short}
use Rattle.log_spelling.proofs.reference.bare_name.Goals as goal

pub slice_bounds-result-count : goal.slice_bounds-result-count
slice_bounds-result-count c = grind (arith, part_short)
