use Rattle.std.proofs.Common.{◌≡◌, neg_ℤ, ◌≤ℤ◌, pos, w64, SFits, arith, ap, ◌∙◌}
use Rattle.std.proofs.lemmas.Int.{ints, to_z-of_z}
use Rattle.tube_spec.specs.Span.{Span, sub_of}
use Rattle.hull_tree.proofs.Gaps.{same-gap, small_fits}
use Rattle.loop_sets.proofs.Surely.{neg-read}
use Rattle.loop_sets.proofs.tube.greatest_change.Goals as goal

pub returns-clause-value : goal.returns-clause-value
returns-clause-value c =
    let s = sub_of c.args.after c.args.before in
    let value = c.sub-change.ensures.value in
    let low : c.lo.result ≡ s.lo = c.lo.ensures ∙ ap (λ (t : Span). t.lo) value in
    let high : c.hi.result ≡ s.hi = c.hi.ensures ∙ ap (λ (t : Span). t.hi) value in
    let p : neg_ℤ (pos 1000000000) ≤ℤ s.lo = omega (arith, ints) in
    let q : s.lo ≤ℤ pos 1000000000 = omega (arith, ints) in
    let t : neg_ℤ (pos 1000000000) ≤ℤ s.hi = omega (arith, ints) in
    let u : s.hi ≤ℤ pos 1000000000 = omega (arith, ints) in
    let fits : SFits w64 c.hi.result = small_fits c.hi.result (omega (arith, ints, high, t)) (omega (arith, ints, high, u)) in
    same-gap _ _ s.hi (neg_ℤ s.lo) c.distance.result c.distance.ensures.value (to_z-of_z w64 c.hi.result fits ∙ high) (neg-read c.lo.result s.lo low p q)
