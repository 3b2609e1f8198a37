use Rattle.std.proofs.Common.{rules, of_calls, nat_lt}
use Rattle.std.proofs.lemmas.Fn.{always_returns_same}
use Rattle.slice_gates.proofs.Boundaries.{rising-answer, fall-answer}
use Rattle.slice_gates.proofs.is_rising.Goals as goal

pub returns-clause-yes : goal.returns-clause-yes
returns-clause-yes c =
    rising-answer c.args.cuts.now c.is_sorted_by.result (c.is_sorted_by.ensures.cases nat_lt (always_returns_same _ _ _ (λ a r f k. search (rules, of_calls))))

pub returns-clause-no : goal.returns-clause-no
returns-clause-no c =
    fall-answer c.args.cuts.now c.is_sorted_by.result (c.is_sorted_by.ensures.cases nat_lt (always_returns_same _ _ _ (λ a r f k. search (rules, of_calls))))
