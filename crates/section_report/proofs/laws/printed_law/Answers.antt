use Rattle.std.proofs.Common.{take}
use Rattle.section_report.proofs.Printed.{enclosed-lies}
use Rattle.section_report.proofs.laws.printed_law.Goals as goal

pub returns : goal.returns
returns c m budget d is section a says = enclosed-lies m.cuts (take d.upto m.items) d.box is.clock.grid section.encloses a says
