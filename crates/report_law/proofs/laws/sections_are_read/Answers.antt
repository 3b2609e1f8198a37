use Rattle.std.proofs.Common.{◌+◌}
use Rattle.section_report.specs.Sections.{items_of}
use Rattle.section_report.specs.Texts.{verdict_of}
use Rattle.mission_net.specs.Records.{shape_by}
use Rattle.report_law.proofs.Writable.{can-be-written}
use Rattle.report_law.proofs.laws.sections_are_read.Goals as goal

pub returns : goal.returns
returns c m budget ds i d is are here = c.written_is_read.ensures (items_of m d) (i + 1) (verdict_of d.answer) (shape_by m.cuts (items_of m d)) d.box (can-be-written m budget ds i d is are here)
