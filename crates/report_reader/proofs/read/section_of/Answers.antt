use Rattle.report_reader.proofs.Faults.{bad_first_line, no_first_line}
use Rattle.report_reader.proofs.read.section_of.Goals as goal

pub returns-in_default-clause-fault : goal.returns-in_default-clause-fault
returns-in_default-clause-fault c = no_first_line c.args.bytes.now c.in_default.ensures

pub returns-in_default-head_of-clause-fault : goal.returns-in_default-head_of-clause-fault
returns-in_default-head_of-clause-fault c = bad_first_line c.args.bytes.now _ _ c.in-Some.ensures c.in_default-head_of.ensures
