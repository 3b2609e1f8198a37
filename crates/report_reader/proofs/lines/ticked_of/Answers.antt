use Rattle.report_reader.proofs.Readings.{no_range, no_tick}
use Rattle.report_reader.proofs.lines.ticked_of.Goals as goal

pub returns-in_default-count_up_to : goal.returns-in_default-count_up_to
returns-in_default-count_up_to c = no_tick c.args.text.now _ _ c.in-Some.ensures c.in_default-count_up_to.ensures

pub returns-in_default-range_of : goal.returns-in_default-range_of
returns-in_default-range_of c = no_range c.args.text.now _ _ c.in-Some.ensures c.in_default-range_of.ensures
