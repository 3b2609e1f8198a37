use Rattle.std.proofs.Common.{◌≤◌, List, [], subst, sym, map, drop}
use Rattle.tube_spec.specs.Span.{Span}
use Rattle.tube_spec.specs.Owner.{SignalIn, VariableIn, with_owners}
use Rattle.mission_net.specs.Building.{IsAdded}
use Rattle.mission_net.proofs.Additions.{added-then}
use Rattle.mission_net.proofs.Steps.{first-cells, rest-cells}
use Rattle.mission_net.proofs.Tabling.{on_ok}
use Rattle.mission_net.proofs.records.add_cells.Goals as goal

pub add_signals-requires-clause-room : goal.add_signals-requires-clause-room
add_signals-requires-clause-room c =
    let t = c.args.table.now in
    let s = c.args.net.now.store.shape in
    subst (λ (xs : List Span). (with_owners s (map SignalIn xs)).cells ≤ 2000000) (sym c.signals_from.ensures) (first-cells (map SignalIn (drop c.args.signals t.signals)) (map VariableIn (drop c.args.variables t.variables)) s c.requires.room)

pub add_variables-requires-clause-room : goal.add_variables-requires-clause-room
add_variables-requires-clause-room c =
    let t = c.args.table.now in
    let xs = drop c.args.signals t.signals in
    let added : IsAdded (map SignalIn xs) [] c.args.net.now c.add_signals.new.net = subst (λ (xs : List Span). IsAdded (map SignalIn xs) [] c.args.net.now c.add_signals.new.net) c.signals_from.ensures c.in_ok-add_signals.ensures.added in
    subst (λ (ys : List Span). (with_owners c.add_signals.new.net.store.shape (map VariableIn ys)).cells ≤ 2000000) (sym c.variables_from.ensures)
    (rest-cells (map SignalIn xs) (map VariableIn (drop c.args.variables t.variables)) c.args.net.now c.add_signals.new.net c.requires.room added)

pub returns : goal.returns
returns c =
    let t = c.args.table.now in
    let xs = drop c.args.signals t.signals in
    let ys = drop c.args.variables t.variables in
    let added : IsAdded (map SignalIn xs) [] c.args.net.now c.add_signals.new.net = subst (λ (xs : List Span). IsAdded (map SignalIn xs) [] c.args.net.now c.add_signals.new.net) c.signals_from.ensures c.in_ok-add_signals.ensures.added in
    on_ok c.add_variables.result _ _ (λ next. added-then (map SignalIn xs) (map VariableIn ys) [] [] c.args.net.now c.add_signals.new.net c.add_variables.new.net added
    (subst (λ (ys : List Span). IsAdded (map VariableIn ys) [] c.add_signals.new.net c.add_variables.new.net) c.variables_from.ensures next)) c.add_variables.ensures.added
