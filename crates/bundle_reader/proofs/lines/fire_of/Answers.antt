use Rattle.bundle_text.specs.Lines.{fire_line}
use Rattle.bundle_reader.proofs.lines.fire_of.Goals as goal

pub returns : goal.returns
unfolding fire_line
returns c = c.number_after.ensures
