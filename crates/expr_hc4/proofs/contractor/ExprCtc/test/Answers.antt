use Rattle.std.proofs.Common.{◌≡◌, ap, ◌∙◌}
use Rattle.expr_hc4.specs.Programs.{bound_comparison, Program}
use Rattle.expr_hc4.specs.Outcomes.{outcome_at}
use Rattle.expr_hc4.proofs.Frozen.{relation-still, relation-rests}
use Rattle.expr_hc4.proofs.contractor.ExprCtc.test.Goals as goal

pub returns-clause-yes : goal.returns-clause-yes
returns-clause-yes g c = λ t.
    let p = c.args.self.now.flat.value in
    relation-still c.args.self.now.place p.leaves c.leaves.result.now (bound_comparison p) (outcome_at c.outcome-ending.result c.outcome-ending.new.targets) c.args.store.now (c.leaves.ensures.value ∙ ap (λ (q : Program). q.leaves) c.deref.ensures) c.outcome-ending.ensures.found
    (c.still_by_formulas.ensures.yes t)

pub returns-clause-no : goal.returns-clause-no
returns-clause-no g c = λ f.
    let p = c.args.self.now.flat.value in
    relation-rests c.args.self.now.place p.leaves c.leaves.result.now (bound_comparison p) (outcome_at c.outcome-ending.result c.outcome-ending.new.targets) c.args.store.now (c.leaves.ensures.value ∙ ap (λ (q : Program). q.leaves) c.deref.ensures) c.outcome-ending.ensures.found
    (c.still_by_formulas.ensures.no f)
