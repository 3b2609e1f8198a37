use Rattle.std.proofs.Common.{◌∙◌, map, subst, sym, List, Result}
use Rattle.expr_tree.specs.Measures.{names}
use Rattle.expr_tree.specs.Trees.{tree_of}
use Rattle.log_spelling.specs.declared.reference.Part.{Part}
use Rattle.log_fields.specs.Steps.{Stops}
use Rattle.log_fields.specs.declared.fault.Cause.{Cause}
use Rattle.mission_items.specs.declared.decl.Decl.{Decl}
use Rattle.mission_log.specs.Found.{declared_part, reference_in}
use Rattle.mission_log.specs.Meant.{meant}
use Rattle.mission_log.proofs.Each.{both-goes, both-stops}
use Rattle.mission_log.proofs.formulas.+names.Goals as goal

pub declare_both-returns-in-Err-clause-value : goal.declare_both-returns-in-Err-clause-value
declare_both-returns-in-Err-clause-value t c =
    both-stops (declared_part c.args.draft.now.items) reference_in (map meant c.args.found.now.items) (names (tree_of c.args.a.now)) (names (tree_of c.args.b.now)) c.in-Err.stop c.in-Err.ensures.value

pub declare_both-returns-in-Err-declare_names-clause-value : goal.declare_both-returns-in-Err-declare_names-clause-value
declare_both-returns-in-Err-declare_names-clause-value t c =
    subst (λ (r : Result (List (Decl × Part)) Cause). Stops c.in-Err-declare_names.stop r)
    (sym (both-goes (declared_part c.args.draft.now.items) reference_in (map meant c.args.found.now.items) (map meant c.declare_names.new.found.items) (names (tree_of c.args.a.now)) (names (tree_of c.args.b.now)) c.in-Ok.ensures.value))
    c.in-Err-declare_names.ensures.value

pub declare_both-returns-in-Ok-declare_names-clause-value : goal.declare_both-returns-in-Ok-declare_names-clause-value
declare_both-returns-in-Ok-declare_names-clause-value t c =
    both-goes (declared_part c.args.draft.now.items) reference_in (map meant c.args.found.now.items) (map meant c.declare_names.new.found.items) (names (tree_of c.args.a.now)) (names (tree_of c.args.b.now)) c.in-Ok.ensures.value
    ∙ c.in-Ok-declare_names.ensures.value
