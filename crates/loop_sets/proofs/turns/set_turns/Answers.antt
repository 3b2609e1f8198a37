use Rattle.std.proofs.Common.{◌≡◌, ◌+◌, ◌*◌, List, take, arith, ap, sym, ◌∙◌}
use Rattle.std.proofs.lemmas.List.{take_all}
use Rattle.tplane_paver.specs.declared.runs.Run.{Run}
use Rattle.loop_degree.proofs.Turns.{small-more, add_option-small}
use Rattle.loop_sets.specs.Cells.{pairs_in}
use Rattle.loop_sets.specs.Turns.{sum_cells, cell_turns}
use Rattle.loop_sets.specs.Views.{label_by}
use Rattle.loop_sets.proofs.Turning.{turns-told, boundary-sum}
use Rattle.loop_sets.proofs.turns.set_turns.Goals as goal

pub loop-run-preserved : goal.loop-run-preserved
loop-run-preserved c =
    let i = c.loop-run.run-index in
    record {
      sum = turns-told (cell_turns (label_by c.args.view.now) (pairs_in c.args.cells.now)) c.args.cells.now i c.loop-run.total c.run_turns-turns.result c.add_turns-total.result c.loop-run-test.true c.loop-run.invariant.sum c.run_turns-turns.ensures.value c.add_turns-total.ensures;
      small = rw c.add_turns-total.ensures (small-more (400000 * i + 400000) (400000 * (i + 1)) _ (omega arith) (add_option-small (400000 * i) 400000 _ _ c.loop-run.invariant.small c.run_turns-turns.ensures.small));
    }

pub returns-clause-value : goal.returns-clause-value
returns-clause-value c =
    let cells = c.args.cells.now in
    let g = cell_turns (label_by c.args.view.now) (pairs_in cells) in
    let whole : take c.loop-run.run-index cells ≡ cells = take_all c.loop-run.run-index cells c.loop-run-test.false in
    c.loop-run.invariant.sum ∙ ap (λ (runs : List Run). sum_cells g (pairs_in runs)) whole ∙ sym (boundary-sum (label_by c.args.view.now) cells)

pub returns-clause-small : goal.returns-clause-small
returns-clause-small c = small-more (400000 * c.loop-run.run-index) 10000000000000 c.loop-run.total (omega arith) c.loop-run.invariant.small
