use Rattle.report_reader.specs.declared.section.Line.TheVariants as line
use Rattle.std.specs.Prelude.{decimal}
use Rattle.report_reader.specs.Words.{ticked_text}
use Rattle.report_reader.proofs.Readings.{no_end, no_from, of_kind, parts_whole, slice_uncut}
use Rattle.report_reader.proofs.lines.slice_of.Goals as goal

pub returns-in_default : goal.returns-in_default
returns-in_default c = slice_uncut c.args.rest.now c.in_default.ensures

pub returns-in_default-count_up_to : goal.returns-in_default-count_up_to
returns-in_default-count_up_to c = no_from c.args.rest.now _ _ c.in-Some.ensures c.in_default-count_up_to.ensures

pub returns-in_default-ticked_of : goal.returns-in_default-ticked_of
returns-in_default-ticked_of c = no_end c.args.rest.now _ _ c.in-Some.ensures c.in_default-ticked_of.ensures

pub returns : goal.returns
returns c =
    let from = c.in-Some-count_up_to.from in
    let end = c.in-Some-ticked_of.end in
    let told = c.in-Some-ticked_of.ensures in (
      (c.in-Some-count_up_to.ensures.0, told.0.0, told.0.1),
      of_kind (line.Slice from end.tick end.range) c.args.rest.now (parts_whole c.args.rest.now _ _ (decimal from) (ticked_text end) c.in-Some.ensures c.in-Some-count_up_to.ensures.1 told.1),
    )
