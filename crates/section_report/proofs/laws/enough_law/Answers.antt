use Rattle.std.proofs.Common.{arith}
use Rattle.section_report.specs.Sections.{IsSectionOf}
use Rattle.section_report.proofs.Ends.{at-last}
use Rattle.section_report.proofs.laws.enough_law.Goals as goal

pub returns : goal.returns
returns c m budget above earlier last are = omega (arith, above, (at-last (IsSectionOf m budget) earlier last are.sections.each).small)
