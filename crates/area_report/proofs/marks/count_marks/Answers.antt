use Rattle.std.proofs.Common.{ap₂, sym, ◌∙◌, arith}
use Rattle.area_report.specs.Marks.{sum_of}
use Rattle.area_report.proofs.Counting.{one_row, row_room}
use Rattle.area_report.proofs.marks.count_marks.Goals as goal

pub and-counts-requires : goal.and-counts-requires
and-counts-requires c =
    let few = row_room c.args.chart.now c.loop-row.row _ _ (omega arith) c.count_row.ensures.narrow c.loop-row.invariant c.count_row.ensures.counts in
    record { never_seen = few.never_seen; surely_seen = few.surely_seen; left_open = few.left_open }

pub loop-row-preserved : goal.loop-row-preserved
loop-row-preserved c = c.and-counts.ensures ∙ (ap₂ sum_of c.loop-row.invariant c.count_row.ensures.counts ∙ sym (one_row c.args.chart.now c.loop-row.row))
