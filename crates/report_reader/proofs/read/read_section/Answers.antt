use Rattle.report_reader.proofs.SameTexts.{only_section}
use Rattle.report_reader.proofs.read.read_section.Goals as goal

pub returns-clause-only : goal.returns-clause-only
returns-clause-only c = only_section c.args.bytes.now c.section_of.result c.section_of.ensures.ok c.section_of.ensures.fault
