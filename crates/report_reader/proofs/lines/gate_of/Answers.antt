use Rattle.report_reader.specs.declared.section.Line.TheVariants as line
use Rattle.report_reader.proofs.Readings.{no_gate, of_kind}
use Rattle.report_reader.proofs.lines.gate_of.Goals as goal

pub returns-in_default : goal.returns-in_default
returns-in_default c = no_gate c.args.rest.now c.in_default.ensures

pub returns : goal.returns
returns c = (c.in-Some.ensures.0, of_kind (line.Gate c.in-Some.gate.tick c.in-Some.gate.range) c.args.rest.now c.in-Some.ensures.1)
