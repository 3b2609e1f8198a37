use Rattle.std.proofs.Common.{◌≡◌, ◌+◌, ◌-◌, ◌≤◌, IfSome}
use Rattle.loop_degree.specs.Boundary.{IsSmall}
use Rattle.loop_sets.specs.Cells.{pairs_in}
use Rattle.loop_sets.specs.Turns.{sum_along, open_turn}
use Rattle.loop_sets.specs.Views.{label_by}
use Rattle.loop_sets.proofs.turns.open_turns.Given as goal

-- the open sides so far
abbrev pub invariant-loop-b : goal.invariant-loop-b
invariant-loop-b l = record {
  sum : l.total ≡ sum_along (open_turn (label_by l.view) (pairs_in l.cells) l.beside l.a l.up) l.first (l.b - l.first);
  small : IfSome l.total (IsSmall (l.b - l.first));
  low : l.first ≤ l.b;
  high : l.b ≤ l.last + 1;
}

abbrev pub decreases-loop-b : goal.decreases-loop-b
decreases-loop-b l = l.last + 1 - l.b
