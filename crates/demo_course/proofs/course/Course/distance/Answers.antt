use Rattle.std.proofs.Common.{◌≡◌, ◌+ℤ◌, ◌*ℤ◌, ℤ, ap, ap₂, ◌∙◌, arith, rules, SFits, w64}
use Rattle.std.proofs.lemmas.Int.{to_z-of_z}
use Rattle.tube_spec.specs.Span.{natural}
use Rattle.demo_course.specs.Course.{distance_of}
use Rattle.demo_course.specs.Roots.{whole_root}
use Rattle.demo_course.proofs.Squares.{distance-small}
use Rattle.demo_course.proofs.course.Course.distance.Goals as goal

exact : (c : goal.After-whole_root) → c.whole_root.result ≡ distance_of c.args.self.now c.args.tick c.args.beacon
unfolding distance_of
exact c =
    let across : SFits w64 c.difference-across.result = search rules in
    let along : SFits w64 c.difference-along.result = search rules in
    c.whole_root.ensures ∙ ap whole_root (c.squared_length.ensures ∙ ap₂ (λ (a b : ℤ). natural ((a *ℤ a) +ℤ (b *ℤ b)))
    (to_z-of_z w64 _ across ∙ c.difference-across.ensures.value) (to_z-of_z w64 _ along ∙ c.difference-along.ensures.value))

pub returns-clause-value : goal.returns-clause-value
returns-clause-value c = exact c

pub returns-clause-small : goal.returns-clause-small
returns-clause-small c = omega (arith, exact c, distance-small c.args.self.now c.args.tick c.args.beacon c.requires.tick)
