use Rattle.std.proofs.Common.{◌≡◌, ◌↔◌, ◌⊎◌, inl, inr, ℕ, ◌+◌, ◌*◌, ◌<◌, ◌≤◌, ℤ, pos, ◌+ℤ◌, ◌-ℤ◌, ◌*ℤ◌, ◌≤ℤ◌, List, arith, refl, sym, subst, ap, rules, ◌∙◌}
use Rattle.area_paver.proofs.Covering.{covered-set}
use Rattle.area_paver.proofs.Marking.{none-added}
use Rattle.area_paver.proofs.runs.extend.Goals as goal

pub returns-then-start-end : goal.returns-then-start-end
returns-then-start-end c = λ k. covered-set _ _ c.args.end _ k (omega arith) (omega arith)

pub returns-else-start-end : goal.returns-else-start-end
returns-else-start-end c = λ k. none-added (λ g. omega (arith, g.0, g.1))
