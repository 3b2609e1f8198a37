use Rattle.std.proofs.Common.{rules, refl}
use Rattle.std.specs.Ordering.{is_lt}
use Rattle.std.proofs.lemmas.List.Sorted.{answers_always}
use Rattle.loop_degree.specs.declared.labels.Label.TheVariants.{East}
use Rattle.loop_degree.specs.Boundary.{corner_of}
use Rattle.loop_degree.proofs.Searching.{pair_cmp, adjacent-rise, corners-rise, iff_trans}
use Rattle.loop_degree.proofs.labels.corners_rise.Goals as goal

pub returns : goal.returns
returns c =
    iff_trans
    (adjacent-rise corner_of (0, 0, East) c.args.labels.now c.is_sorted_by.result
    (c.is_sorted_by.ensures.cases (λ l m. is_lt (pair_cmp (corner_of l) (corner_of m))) (answers_always _ _ _ (λ f a r g called. search rules))))
    (corners-rise corner_of (λ d. (d.0, d.1, East)) (λ d. refl) c.args.labels.now)
