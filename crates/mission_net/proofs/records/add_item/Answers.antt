use Rattle.std.proofs.Common.{ℕ, ◌≤◌, List, [], All, arith, ap, subst, sym, ◌∙◌, append-nil, length}
use Rattle.mission_items.proofs.Making.{length-signal_ranges, length-variable_ranges}
use Rattle.tube_spec.specs.Span.{IsBounded}
use Rattle.tube_spec.specs.Owner.{Owner, with_owners}
use Rattle.mission_net.specs.Records.{contracts_of, made}
use Rattle.mission_net.specs.Building.{IsAdded}
use Rattle.mission_net.proofs.Additions.{added-grid, added-then}
use Rattle.mission_net.proofs.Steps.{cells-beside, cells-can, more-variables, new-made, new-signals, new-variables, so-many-signals, so-many-variables}
use Rattle.mission_net.proofs.Tabling.{on_ok}
use Rattle.mission_net.proofs.records.add_item.Goals as goal

pub overflow_cast-signals : goal.overflow_cast-signals
overflow_cast-signals c =
    let e = ap length c.requires.table.signals in
    omega (arith, c.signals-signals.ensures, c.requires.next.few_signals, e, length-signal_ranges c.args.before.now)

pub overflow_cast-variables : goal.overflow_cast-variables
overflow_cast-variables c =
    let e = ap length c.requires.table.variables in
    omega (arith, c.variables-variables.ensures, c.requires.next.few_variables, e, length-variable_ranges c.args.before.now)

pub add-requires-clause-few : goal.add-requires-clause-few
add-requires-clause-few c =
    let e = ap length c.requires.table.variables in
    omega (arith, c.requires.next.few_variables, e, length-variable_ranges c.args.before.now)

pub add_cells-requires-clause-variables : goal.add_cells-requires-clause-variables
add_cells-requires-clause-variables c =
    let more = more-variables c.args.before.now c.args.item.now c.args.table.now c.add.new.self c.requires.table c.in_ok-add.ensures in
    omega (arith, more, c.variables-variables.ensures)

pub add_cells-requires-clause-ranges : goal.add_cells-requires-clause-ranges
add_cells-requires-clause-ranges c =
    let b = c.args.before.now in
    let r = c.args.item.now in (
      subst (All (IsBounded 500000000)) (sym (new-signals b r c.args.table.now c.add.new.self c.requires.table c.in_ok-add.ensures c.signals-signals.result c.signals-signals.ensures)) c.requires.next.signals,
      subst (All (IsBounded 500000000)) (sym (new-variables b r c.args.table.now c.add.new.self c.requires.table c.in_ok-add.ensures c.variables-variables.result c.variables-variables.ensures)) c.requires.next.variables,
    )

pub add_cells-requires-clause-room : goal.add_cells-requires-clause-room
add_cells-requires-clause-room c =
    let made_here = new-made c.args.before.now c.args.item.now c.args.table.now c.add.new.self c.requires.table c.in_ok-add.ensures c.signals-signals.result c.variables-variables.result c.signals-signals.ensures c.variables-variables.ensures in
    subst (λ (os : List Owner). (with_owners c.args.net.now.store.shape os).cells ≤ 2000000) (sym made_here) c.requires.next.cells

pub add_contractors-requires-clause-beside : goal.add_contractors-requires-clause-beside
add_contractors-requires-clause-beside c =
    let b = c.args.before.now in
    let r = c.args.item.now in
    let net = c.args.net.now in
    let made_here = new-made b r c.args.table.now c.add.new.self c.requires.table c.in_ok-add.ensures c.signals-signals.result c.variables-variables.result c.signals-signals.ensures c.variables-variables.ensures in
    cells-beside b r c.args.table.now c.add.new.self c.requires.table c.in_ok-add.ensures net c.add_cells.new.net c.requires.next (subst (λ (os : List Owner). IsAdded os [] net c.add_cells.new.net) made_here c.in_ok-add_cells.ensures)

pub add_contractors-requires-clause-signals : goal.add_contractors-requires-clause-signals
add_contractors-requires-clause-signals c =
    c.signals-signals.ensures ∙ so-many-signals c.args.before.now c.args.item.now c.args.table.now c.add.new.self c.requires.table c.in_ok-add.ensures

pub add_contractors-requires-clause-variables : goal.add_contractors-requires-clause-variables
add_contractors-requires-clause-variables c =
    c.variables-variables.ensures ∙ so-many-variables c.args.before.now c.args.item.now c.args.table.now c.add.new.self c.requires.table c.in_ok-add.ensures

pub add_contractors-requires-clause-few : goal.add_contractors-requires-clause-few
add_contractors-requires-clause-few c =
    let e = so-many-variables c.args.before.now c.args.item.now c.args.table.now c.add.new.self c.requires.table c.in_ok-add.ensures in
    omega (arith, c.variables-variables.ensures, e, c.requires.next.few_variables)

pub add_contractors-requires-clause-room : goal.add_contractors-requires-clause-room
add_contractors-requires-clause-room c =
    let b = c.args.before.now in
    let r = c.args.item.now in
    let net = c.args.net.now in
    let made_here = new-made b r c.args.table.now c.add.new.self c.requires.table c.in_ok-add.ensures c.signals-signals.result c.variables-variables.result c.signals-signals.ensures c.variables-variables.ensures in
    cells-can b r net c.add_cells.new.net c.requires.next (subst (λ (os : List Owner). IsAdded os [] net c.add_cells.new.net) made_here c.in_ok-add_cells.ensures)

pub returns-clause-added : goal.returns-clause-added
returns-clause-added c =
    let b = c.args.before.now in
    let r = c.args.item.now in
    let net = c.args.net.now in
    let made_here = new-made b r c.args.table.now c.add.new.self c.requires.table c.in_ok-add.ensures c.signals-signals.result c.variables-variables.result c.signals-signals.ensures c.variables-variables.ensures in
    let cells = subst (λ (os : List Owner). IsAdded os [] net c.add_cells.new.net) made_here c.in_ok-add_cells.ensures in
    let same = added-grid (made b r) [] net c.add_cells.new.net cells in
    on_ok c.add_contractors.result _ _ (λ h.
    subst (λ (os : List Owner). IsAdded os (contracts_of net.store.shape.grid b r) net c.add_contractors.new.net) (append-nil (made b r))
    (added-then (made b r) [] [] (contracts_of net.store.shape.grid b r) net c.add_cells.new.net c.add_contractors.new.net cells
    (subst (λ (g : List ℕ). IsAdded [] (contracts_of g b r) c.add_cells.new.net c.add_contractors.new.net) same h))) c.add_contractors.ensures
