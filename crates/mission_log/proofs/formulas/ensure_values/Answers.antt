use Rattle.std.proofs.Common.{◌≡◌, ◌∙◌, ap, sym, subst, Bool, map}
use Rattle.log_fields.specs.Steps.{Gives, unless}
use Rattle.log_fields.specs.declared.fault.Cause.TheVariants as cause
use Rattle.mission_items.specs.Valid.{IsFormula}
use Rattle.mission_log.specs.Found.{has_values, have_values}
use Rattle.mission_log.specs.Meant.{meant}
use Rattle.mission_log.proofs.Each.{passes}
use Rattle.mission_log.proofs.LeavesStand.{formula-right, ranges-stand}
use Rattle.mission_log.proofs.formulas.ensure_values.Goals as goal

pub returns-clause-value : goal.returns-clause-value
unfolding has_values
returns-clause-value c =
    let items = c.args.draft.now.items in
    let same : c.have_values.result ≡ has_values items c.args.formula.now c.args.ls.now =
    c.have_values.ensures ∙ ap (have_values c.args.formula.now) (c.deref.ensures.value ∙ (c.in_ok-ranges.ensures ∙ ranges-stand items c.args.found.now c.args.ls.now c.requires.known c.requires.leaves)) in
    subst (λ (b : Bool). Gives {Y = Unit {0}} (λ (x : Unit {0}). tt) c.ensure.result (unless b cause.Big)) same c.ensure.ensures

pub returns-clause-formula : goal.returns-clause-formula
unfolding has_values
returns-clause-formula c =
    let items = c.args.draft.now.items in
    let same : c.have_values.result ≡ has_values items c.args.formula.now c.args.ls.now =
    c.have_values.ensures ∙ ap (have_values c.args.formula.now) (c.deref.ensures.value ∙ (c.in_ok-ranges.ensures ∙ ranges-stand items c.args.found.now c.args.ls.now c.requires.known c.requires.leaves)) in
    passes c.ensure.result c.have_values.result cause.Big (IsFormula items c.args.formula.now c.args.ls.now) c.ensure.ensures
    (λ yes. formula-right items c.args.formula.now (map meant c.args.found.now) c.args.ls.now c.requires.printable c.requires.names c.requires.leaves (sym same ∙ yes))
