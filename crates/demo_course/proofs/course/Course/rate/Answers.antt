use Rattle.std.proofs.Common.{◌≡◌, ℕ, ◌+◌, ◌*◌, arith, rules, ◌∙◌, ap, slice_index, SFits, w64}
use Rattle.std.proofs.lemmas.Int.{ints, to_z-of_z}
use Rattle.demo_course.specs.Draws.{draw, rate_of}
use Rattle.demo_course.proofs.Reaching.{rate-within}
use Rattle.demo_course.proofs.course.Course.rate.Goals as goal

drawn : (c : goal.After-draw) → c.draw.result ≡ rate_of c.args.self.now c.args.axis c.args.stretch
unfolding rate_of
drawn c = c.draw.ensures ∙ ap (λ (w : ℕ). draw 20 w) c.word.ensures ∙ ap (λ (n : ℕ). draw 20 (slice_index c.args.self.now (2 * c.args.stretch + n))) c.offset.ensures

pub returns-clause-value : goal.returns-clause-value
returns-clause-value c =
    let fits : SFits w64 c.draw.result = search rules in
    to_z-of_z w64 _ fits ∙ drawn c

pub returns-clause-small : goal.returns-clause-small
returns-clause-small c =
    let h = rate-within c.args.self.now c.args.axis c.args.stretch in
    record { low = omega (arith, ints, drawn c, h.low, h.high); high = omega (arith, ints, drawn c, h.low, h.high) }
