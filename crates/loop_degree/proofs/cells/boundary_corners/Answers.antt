use Rattle.std.proofs.Common.{◌≡◌, ℕ, List, take, arith, ap, ◌∙◌}
use Rattle.std.specs.List.{flat_map}
use Rattle.std.proofs.lemmas.List.{take_all}
use Rattle.loop_degree.specs.Cells.{outer_sides, ends_of}
use Rattle.loop_degree.specs.Pairs.{has}
use Rattle.loop_degree.proofs.Corners.{sorted-rising, sorted-has}
use Rattle.loop_degree.proofs.cells.boundary_corners.Goals as goal

pub returns-clause-rising : goal.returns-clause-rising
returns-clause-rising c = sorted-rising c.sort_unstable.new.self.items c.dedup.new.self.items c.sort_unstable.ensures.sorted c.dedup.ensures.filtered

pub returns-clause-corners : goal.returns-clause-corners
returns-clause-corners c =
    let cells = c.args.cells.now in
    let whole : take c.loop-cell.cell-index cells ≡ cells = take_all c.loop-cell.cell-index cells (omega arith) in
    let all = c.loop-cell.invariant ∙ ap (λ (xs : List (ℕ × ℕ)). ends_of (flat_map (outer_sides cells) xs)) whole in
    λ p. sorted-has c.loop-cell.ends.items c.sort_unstable.new.self.items c.dedup.new.self.items c.sort_unstable.ensures.permutation c.dedup.ensures.filtered p ∙ ap (λ (es : List (ℕ × ℕ)). has es p) all
