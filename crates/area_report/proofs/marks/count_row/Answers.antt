use Rattle.std.proofs.Common.{[], ◌∷◌, ap, ap₂, sym, ◌∙◌, arith}
use Rattle.area_paver.specs.declared.chart.Mark.{Mark}
use Rattle.area_report.specs.Marks.{counts_of, sum_of}
use Rattle.area_report.proofs.Counting.{column_room, one_column}
use Rattle.area_report.proofs.marks.count_row.Goals as goal

pub and-counts-requires : goal.and-counts-requires
and-counts-requires c =
    let few = column_room c.args.chart.now c.args.row c.loop-column.column _ _ c.mark.result (omega arith) c.loop-column.invariant c.of.ensures in
    record { never_seen = few.never_seen; surely_seen = few.surely_seen; left_open = few.left_open }

pub loop-column-preserved : goal.loop-column-preserved
loop-column-preserved c =
    c.and-counts.ensures
    ∙ (ap₂ sum_of c.loop-column.invariant (c.of.ensures ∙ ap (λ (m : Mark). counts_of (m ∷ [])) c.mark.ensures)
    ∙ sym (one_column c.args.chart.now c.args.row c.loop-column.column))
