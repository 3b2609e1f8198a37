use Rattle.std.proofs.Common.{rules}
use Rattle.std.specs.Ordering.{is_lt}
use Rattle.std.proofs.lemmas.List.Sorted.{answers_always}
use Rattle.loop_degree.proofs.Searching.{pair_cmp, adjacent-rise}
use Rattle.loop_degree.proofs.cells.is_rising.Goals as goal

pub returns : goal.returns
returns c =
    adjacent-rise (λ p. p) (0, 0) c.args.pairs.now c.is_sorted_by.result
    (c.is_sorted_by.ensures.cases (λ p q. is_lt (pair_cmp p q)) (answers_always _ _ _ (λ f a r g called. search rules)))
