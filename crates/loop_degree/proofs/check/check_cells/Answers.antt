use Rattle.std.proofs.Common.{◌≡◌, ◌+◌, ◌*◌, ℕ, List, Option, ℤ, map, arith, ap, ◌∙◌, take}
use Rattle.std.specs.List.{flat_map}
use Rattle.std.proofs.lemmas.List.{take_all}
use Rattle.std.proofs.lemmas.List.Elements.{recursion_from_All}
use Rattle.loop_degree.specs.Pairs.{IsRising}
use Rattle.loop_degree.specs.Cells.{outer_sides}
use Rattle.loop_degree.specs.Boundary.{corner_of, turns_of, add_option}
use Rattle.loop_degree.proofs.Rising.{rising-short}
use Rattle.loop_degree.proofs.Turns.{add_option-small, small-more, turns_of-more, checked, checked-degree}
use Rattle.loop_degree.proofs.check.check_cells.Goals as goal

sum-step : (degree turns r before part after : Option ℤ) → degree ≡ before → turns ≡ part → r ≡ add_option degree turns → after ≡ add_option before part → r ≡ after
sum-step degree turns r before part after a b c d = cc

pub add_turns-degree-requires-clause-x_small : goal.add_turns-degree-requires-clause-x_small
add_turns-degree-requires-clause-x_small c =
    let rising : IsRising c.args.cells.now = c.is_rising-cells_rise.ensures.0 c.if-not-cells_rise.false in
    let short = rising-short c.args.cells.now rising (recursion_from_All _ c.args.cells.now c.requires) in
    small-more (4 * c.loop-cell.cell-index) 100000000000 c.loop-cell.degree (omega (arith, short)) c.loop-cell.invariant.small

pub loop-cell-preserved : goal.loop-cell-preserved
loop-cell-preserved c =
    let i = c.loop-cell.cell-index in
    let cells = c.args.cells.now in
    let more = turns_of-more c.args.labels.now (outer_sides cells) cells i (0, 0) (omega arith) in
    record {
      sum = sum-step c.loop-cell.degree c.cell_turns-turns.result _ _ _ _ c.loop-cell.invariant.sum c.cell_turns-turns.ensures.value c.add_turns-degree.ensures more;
      small = rw c.add_turns-degree.ensures (small-more (4 * i + 4) (4 * (i + 1)) _ (omega arith) (add_option-small (4 * i) 4 _ _ c.loop-cell.invariant.small c.cell_turns-turns.ensures.small));
    }

pub returns-clause-labelled : goal.returns-clause-labelled
returns-clause-labelled c =
    let cells = c.args.cells.now in
    let labels = c.args.labels.now in
    let rising : IsRising cells = c.is_rising-cells_rise.ensures.0 c.if-not-cells_rise.false in
    let corners : IsRising (map corner_of labels) = c.corners_rise-labels_rise.ensures.0 c.if-not-labels_rise.false in
    let whole : take c.loop-cell.cell-index cells ≡ cells = take_all c.loop-cell.cell-index cells (omega arith) in
    checked labels cells rising corners c.loop-cell.degree (c.loop-cell.invariant.sum ∙ ap (λ (xs : List (ℕ × ℕ)). turns_of labels (flat_map (outer_sides cells) xs)) whole)

pub returns-clause-degree : goal.returns-clause-degree
returns-clause-degree c =
    let cells = c.args.cells.now in
    let labels = c.args.labels.now in
    let whole : take c.loop-cell.cell-index cells ≡ cells = take_all c.loop-cell.cell-index cells (omega arith) in
    checked-degree labels cells c.loop-cell.degree (c.loop-cell.invariant.sum ∙ ap (λ (xs : List (ℕ × ℕ)). turns_of labels (flat_map (outer_sides cells) xs)) whole)
