use Rattle.std.proofs.Common.{ℕ, ◌≤◌, List, length, arith, subst, ap}
use Rattle.tube_spec.specs.Span.{Span}
use Rattle.hull_tree.specs.Plane.{greatest_abs, change}
use Rattle.loop_sets.proofs.Surely.{reach-law}
use Rattle.loop_sets.proofs.tube.Tube.least_reach.Goals as goal

pub returns-clause-reach : goal.returns-clause-reach
returns-clause-reach c =
    let len = ap (length {A = Span}) c.self.view_is in
    subst (λ (ticks : List Span). (b : ℕ) → c.args.first ≤ b → b ≤ c.args.last → c.reach.result ≤ greatest_abs (change ticks c.args.a b)) c.self.view_is
    (reach-law c.self.inside.ticks.items c.self.inside.lower c.self.inside.upper c.index-at.result.now c.args.a c.args.first c.args.last c.over-lower.result c.over-upper.result c.reach.result
    c.self.invariant.1 c.self.invariant.2 (omega (arith, len)) (omega (arith, len)) c.index-at.ensures c.over-lower.ensures c.over-upper.ensures c.reach.ensures.value)
