use Rattle.std.proofs.lemmas.Bool.{eqb-true, eq-eqb}
use Rattle.disjoint_sets.proofs.Trees.{keeps-trans}
use Rattle.disjoint_sets.proofs.Roots.{found-joined}
use Rattle.disjoint_sets.proofs.forest.are_joined.Goals as goal

pub returns-clause-keeps : goal.returns-clause-keeps
returns-clause-keeps c = keeps-trans c.args.parents.now c.find-a.new.parents c.find-b.new.parents c.find-a.ensures.keeps c.find-b.ensures.keeps

pub returns-clause-joined : goal.returns-clause-joined
returns-clause-joined c =
    let r = found-joined c.args.parents.now c.find-a.new.parents c.find-b.new.parents c.args.i c.args.j c.find-a.result c.find-b.result
    c.find-a.ensures.keeps c.find-a.ensures.root c.find-a.ensures.joined c.find-b.ensures.keeps c.find-b.ensures.root c.find-b.ensures.joined in
    (λ yes. r.0 (eqb-true c.find-a.result c.find-b.result yes), λ w. eq-eqb c.find-a.result c.find-b.result (r.1 w))
