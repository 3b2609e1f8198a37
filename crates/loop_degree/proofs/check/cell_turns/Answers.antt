use Rattle.std.proofs.Common.{List, ap, sym, ◌∙◌}
use Rattle.loop_degree.specs.declared.cells.Side.{Side}
use Rattle.loop_degree.specs.declared.cells.Sides.{Sides}
use Rattle.loop_degree.specs.Cells.{Edge, next_a, next_b, next_both, has_before_a, has_before_b, side_unless}
use Rattle.loop_degree.specs.Pairs.{has}
use Rattle.loop_degree.specs.Boundary.{turns_of}
use Rattle.loop_degree.proofs.Turns.{turns_of-four, joined, joined-small}
use Rattle.loop_degree.proofs.check.cell_turns.Goals as goal

-- the list of a side, which is empty where it is shared
abbrev outer : Side → List Edge
outer s = side_unless s.shared s.from s.to

pub returns-clause-value : goal.returns-clause-value
returns-clause-value c =
    let labels = c.args.labels.now in
    let cells = c.args.cells.now in
    let cell = c.args.cell in
    let e = c.sides_of-sides.ensures in
    joined _ _ _ _ _ _ _ _ _ _ _
    (c.side_turn-lower.ensures.value ∙ ap (λ (s : Sides). turns_of labels (outer s.lower)) e)
    (c.side_turn-right.ensures.value ∙ ap (λ (s : Sides). turns_of labels (outer s.right)) e)
    (c.side_turn-upper.ensures.value ∙ ap (λ (s : Sides). turns_of labels (outer s.upper)) e)
    (c.side_turn-left.ensures.value ∙ ap (λ (s : Sides). turns_of labels (outer s.left)) e)
    c.add_turns-two.ensures c.add_turns-three.ensures c.add_turns.ensures
    ∙ sym (turns_of-four labels (side_unless (has_before_b cells cell.0 cell.1) cell (next_a cell)) (side_unless (has cells (next_a cell)) (next_a cell) (next_both cell))
    (side_unless (has cells (next_b cell)) (next_both cell) (next_b cell)) (side_unless (has_before_a cells cell.0 cell.1) (next_b cell) cell))

pub returns-clause-small : goal.returns-clause-small
returns-clause-small c =
    joined-small _ _ _ _ _ _ _ c.add_turns-two.ensures c.add_turns-three.ensures c.add_turns.ensures
    c.side_turn-lower.ensures.small c.side_turn-right.ensures.small c.side_turn-upper.ensures.small c.side_turn-left.ensures.small
