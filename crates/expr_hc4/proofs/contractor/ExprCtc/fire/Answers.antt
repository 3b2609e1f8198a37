use Rattle.std.proofs.Common.{◌≡◌, ap, ◌∙◌}
use Rattle.expr_hc4.specs.Programs.{bound_comparison, Program}
use Rattle.expr_hc4.specs.Outcomes.{outcome_at}
use Rattle.expr_hc4.proofs.Frozen.{relation-revised}
use Rattle.expr_hc4.proofs.contractor.ExprCtc.fire.Goals as goal

pub returns : goal.returns
returns g c =
    let p = c.args.self.now.flat.value in
    relation-revised c.args.self.now.place p.leaves c.leaves.result.now (bound_comparison p) (outcome_at c.outcome-ending.result c.outcome-ending.new.targets) c.args.store.now (c.leaves.ensures.value ∙ ap (λ (q : Program). q.leaves) c.deref.ensures) c.outcome-ending.ensures.found
    c.revise_by_formulas.new.store c.revise_by_formulas.result c.revise_by_formulas.ensures
