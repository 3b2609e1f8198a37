use Rattle.section_tracer.proofs.Bundling.{sections-bundled}
use Rattle.section_tracer.proofs.laws.sections_are_bundled.Goals as goal

pub returns : goal.returns
returns c = sections-bundled c.sections_are_read.ensures
