use Rattle.std.proofs.Common.{◌+◌, ap, ap₂, arith}
use Rattle.tube_store.specs.declared.VarId.{VarId}
use Rattle.mission_items.specs.Made.{variables_in}
use Rattle.mission_items.specs.Names.{variable_of}
use Rattle.mission_items.specs.declared.mission.Mission.{Mission}
use Rattle.mission_items.proofs.Standing.{variable-found}
use Rattle.log_draft.proofs.draft.Draft.variable.Goals as goal

pub overflow_add-result : goal.overflow_add-result
overflow_add-result c =
    let next : VarId = record { 0 = c.in-Beacon-Y.first.0 + 1 } in
    let found = variable-found c.requires.name c.args.self.now.items c.args.declared c.args.part next c.requires.found (ap₂ variable_of c.in-Beacon-Y.is-0 c.in-Beacon-Y.is-1) in
    omega (arith, found.0, c.self.invariant.few.variables, ap (λ (d : Mission). variables_in d.items) c.self.view_is)

pub returns-in-Variable-Whole-clause-ranged : goal.returns-in-Variable-Whole-clause-ranged
returns-in-Variable-Whole-clause-ranged c =
    (variable-found c.requires.name c.args.self.now.items c.args.declared c.args.part c.in-Variable-Whole.id c.requires.found (ap₂ variable_of c.in-Variable-Whole.is-0 c.in-Variable-Whole.is-1)).1

pub returns-in-Beacon-X-clause-ranged : goal.returns-in-Beacon-X-clause-ranged
returns-in-Beacon-X-clause-ranged c =
    (variable-found c.requires.name c.args.self.now.items c.args.declared c.args.part c.in-Beacon-X.first c.requires.found (ap₂ variable_of c.in-Beacon-X.is-0 c.in-Beacon-X.is-1)).1

pub returns-in-Beacon-Y-clause-ranged : goal.returns-in-Beacon-Y-clause-ranged
returns-in-Beacon-Y-clause-ranged c =
    let next : VarId = record { 0 = c.in-Beacon-Y.first.0 + 1 } in
    (variable-found c.requires.name c.args.self.now.items c.args.declared c.args.part next c.requires.found (ap₂ variable_of c.in-Beacon-Y.is-0 c.in-Beacon-Y.is-1)).1
