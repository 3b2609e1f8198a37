use Rattle.std.proofs.Common.{arith, inl, inr}
use Rattle.std.proofs.lemmas.Int.{ints, clamps}
use Rattle.tube_spec.specs.Span.{Holds}
use Rattle.int_interval.specs.Image.{int_abs}
use Rattle.int_interval.proofs.Products.{signs}
use Rattle.int_interval.proofs.Reaches.{join-sets}
use Rattle.int_interval.proofs.Interval.on_both_sides.Goals as goal

pub returns : goal.returns
returns c =
    let from_zero = c.requires.from_zero in
    join-sets _ _ (λ p. Holds c.args.self p × Holds (record { lo = c.args.least; hi = c.args.greatest }) (int_abs p)) _ _ _ c.join.ensures c.members_between.ensures c.members_between-2.ensures
    (λ p h. (h.0, record { low = omega (arith, ints, clamps, h.1); high = omega (arith, ints, clamps, h.1) }))
    (λ p h. (h.0, record { low = omega (arith, ints, clamps, h.1); high = omega (arith, ints, clamps, h.1) }))
    (λ p h. elim (signs p) [
      | inl s ↦ inr (h.0, record { low = omega (arith, ints, clamps, h.1, s); high = omega (arith, ints, clamps, h.1, s) })
      | inr s ↦ inl (h.0, record { low = omega (arith, ints, clamps, h.1, s); high = omega (arith, ints, clamps, h.1, s) })
    ])
