use Rattle.bundle_text.specs.Lines.{cell_line}
use Rattle.bundle_reader.proofs.lines.cell_of.Goals as goal

pub returns : goal.returns
unfolding cell_line
returns c = c.ticks_after.ensures
