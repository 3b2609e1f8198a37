use Rattle.std.proofs.Common.{◌≡◌, arith, ap₂, ◌∙◌, to_z, of_z, w64}
use Rattle.std.proofs.lemmas.Int.{ints}
use Rattle.tube_spec.specs.Span.{sub_of}
use Rattle.tube_spec.proofs.Monotone.{IfSome-map2}
use Rattle.int_interval.specs.Inverse.{back_sqr_of}
use Rattle.ctc_dist.specs.Distances.{squares_from}
use Rattle.ctc_dist.proofs.Reading.{hull-bounded}
use Rattle.ctc_dist.proofs.dist.DistCtc.offset.Goals as goal

pub returns-clause-value : goal.returns-clause-value
returns-clause-value g c =
    let me = c.args.self.now in
    let near : to_z w64 (of_z w64 me.near) ≡ me.near = omega (arith, ints) in
    let far : to_z w64 (of_z w64 me.far) ≡ me.far = omega (arith, ints) in
    let q : c.squares.result ≡ squares_from me.near me.far = c.squares.ensures.value ∙ ap₂ squares_from near far in
    IfSome-map2 _ _ _ c.args.store.now.box (λ xs d o. c.back_sqr.ensures.value ∙ ap₂ back_sqr_of d (c.sub-left.ensures.value ∙ ap₂ sub_of q o)) c.difference-difference.ensures.value c.other_squares.ensures.value

pub returns-clause-bounded : goal.returns-clause-bounded
returns-clause-bounded g c = hull-bounded 1000000000 c.difference-difference.result _ c.back_sqr.result c.back_sqr.ensures.hull c.difference-difference.ensures.bounded
