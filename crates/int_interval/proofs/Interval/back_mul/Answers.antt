use Rattle.std.proofs.Common.{inl, inr}
use Rattle.tube_spec.specs.Span.{Holds, scale_of}
use Rattle.int_interval.specs.Inverse.{Meets, back_mul_of}
use Rattle.int_interval.proofs.Hulls.{hull-unique}
use Rattle.int_interval.proofs.Products.{signs}
use Rattle.int_interval.proofs.Reaches.{join-sets}
use Rattle.int_interval.proofs.Inverses.{back_mul-hull}
use Rattle.int_interval.proofs.Interval.back_mul.Goals as goal

pub returns-clause-hull : goal.returns-clause-hull
returns-clause-hull c =
    join-sets _ _ (λ p. Holds c.args.self p × Meets (scale_of p c.args.other) c.args.product) _ _ _ c.join.ensures c.factors_from_zero.ensures c.factors_to_zero.ensures
    (λ p h. (h.0.0, h.1)) (λ p h. (h.0.0, h.1)) (λ p h. elim (signs p) [ inl s ↦ inl ((h.0, s), h.1) | inr s ↦ inr ((h.0, s), h.1) ])

pub returns-clause-value : goal.returns-clause-value
returns-clause-value c = hull-unique (λ p. Holds c.args.self p × Meets (scale_of p c.args.other) c.args.product) _ (back_mul_of c.args.self c.args.other c.args.product) (returns-clause-hull c) (back_mul-hull c.args.self c.args.other c.args.product)
