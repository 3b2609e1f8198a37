use Rattle.std.proofs.Common.{◌≡◌, ◌∙◌, ◌++◌, ap, map, subst, sym, List, Result, Ok}
use Rattle.expr_tree.specs.Measures.{names}
use Rattle.expr_tree.specs.Trees.{Relation, tree_of}
use Rattle.log_spelling.specs.declared.reference.Part.{Part}
use Rattle.log_fields.specs.Steps.{Stops}
use Rattle.log_fields.specs.declared.fault.Cause.{Cause}
use Rattle.mission_items.specs.declared.decl.Decl.{Decl}
use Rattle.mission_log.specs.Found.{appended, declarations_in, declared_part, each, reference_in, references_of}
use Rattle.mission_log.specs.Meant.{meant}
use Rattle.mission_log.specs.declared.meant.Meant.{Meant}
use Rattle.mission_log.proofs.Each.{appended-none, both-goes, both-stops}
use Rattle.mission_log.proofs.formulas.names_in.Goals as goal

pub returns-in-Err-clause-value : goal.returns-in-Err-clause-value
returns-in-Err-clause-value c =
    let items = c.args.draft.now.items in
    let rel = c.relation-rel.result.now in
    let all = each (declared_part items) (map reference_in (names (tree_of rel.left) ++ names (tree_of rel.right))) in
    let stopped = both-stops (declared_part items) reference_in (map meant c.new-found.result.items) (names (tree_of rel.left)) (names (tree_of rel.right)) c.in-Err.stop c.in-Err.ensures.value in
    let none = ap (λ (ms : List Meant). appended (map meant ms) all) c.new-found.ensures.items ∙ sym (appended-none all) in
    subst (λ (r : Relation). Stops c.in-Err.stop (declarations_in items (references_of r))) c.relation-rel.ensures
    (subst (λ (r : Result (List (Decl × Part)) Cause). Stops c.in-Err.stop r) none stopped)

pub returns-in-Ok-declare_names-clause-value : goal.returns-in-Ok-declare_names-clause-value
returns-in-Ok-declare_names-clause-value c =
    let items = c.args.draft.now.items in
    let rel = c.relation-rel.result.now in
    let all = each (declared_part items) (map reference_in (names (tree_of rel.left) ++ names (tree_of rel.right))) in
    let none = ap (λ (ms : List Meant). appended (map meant ms) all) c.new-found.ensures.items ∙ sym (appended-none all) in
    let goes = both-goes (declared_part items) reference_in (map meant c.new-found.result.items) (map meant c.declare_names.new.found.items) (names (tree_of rel.left)) (names (tree_of rel.right)) c.in-Ok.ensures.value in
    subst (λ (r : Relation). declarations_in items (references_of r) ≡ Ok (map meant c.declare_names-2.new.found.items)) c.relation-rel.ensures
    (sym none ∙ (goes ∙ c.in-Ok-declare_names.ensures.value))

pub returns-in-Err-declare_names-clause-value : goal.returns-in-Err-declare_names-clause-value
returns-in-Err-declare_names-clause-value c =
    let items = c.args.draft.now.items in
    let rel = c.relation-rel.result.now in
    let all = each (declared_part items) (map reference_in (names (tree_of rel.left) ++ names (tree_of rel.right))) in
    let none = ap (λ (ms : List Meant). appended (map meant ms) all) c.new-found.ensures.items ∙ sym (appended-none all) in
    let goes = both-goes (declared_part items) reference_in (map meant c.new-found.result.items) (map meant c.declare_names.new.found.items) (names (tree_of rel.left)) (names (tree_of rel.right)) c.in-Ok.ensures.value in
    subst (λ (r : Relation). Stops c.in-Err-declare_names.stop (declarations_in items (references_of r))) c.relation-rel.ensures
    (subst (λ (r : Result (List (Decl × Part)) Cause). Stops c.in-Err-declare_names.stop r) (sym goes ∙ none) c.in-Err-declare_names.ensures.value)
