use Rattle.std.proofs.Common.{refl}
use Rattle.std.specs.Fmt.{digits}
use Rattle.tube_report.specs.Lines.{brief_line, first_line, gate_line, last_line, signal_line, slice_line, var_line}
use Rattle.tube_report.specs.Sections.{brief_text, section_text, tube_text}
use Rattle.tube_report.proofs.laws.section_example.Goals as goal

pub returns-clause-full : goal.returns-clause-full
unfolding digits section_text tube_text first_line last_line signal_line gate_line slice_line var_line
returns-clause-full c = refl

pub returns-clause-brief : goal.returns-clause-brief
unfolding digits section_text brief_text first_line last_line brief_line var_line
returns-clause-brief c = refl
