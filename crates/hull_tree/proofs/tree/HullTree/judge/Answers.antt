use Rattle.std.proofs.Common.{sym, subst}
use Rattle.hull_tree.specs.Plane.{is_possible}
use Rattle.hull_tree.specs.Judging.{Says}
use Rattle.hull_tree.proofs.Judgements.{judged-says}
use Rattle.hull_tree.proofs.tree.HullTree.judge.Goals as goal

pub returns-clause-says : goal.returns-clause-says
returns-clause-says g c =
    subst (Says (is_possible c.args.self.now) (record { first_a = c.args.a.0; last_a = c.args.a.1; first_b = c.args.b.0; last_b = c.args.b.1 })) (sym c.judgement.ensures)
    (judged-says c.args.self.now (record { first_a = c.args.a.0; last_a = c.args.a.1; first_b = c.args.b.0; last_b = c.args.b.1 }) c.requires.b_end)
