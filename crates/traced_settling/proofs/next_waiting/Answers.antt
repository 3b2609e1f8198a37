use Rattle.std.proofs.Common.{inl, inr, arith, refl}
use Rattle.std.proofs.lemmas.Bool.{cases_lt}
use Rattle.traced_settling.proofs.Waits.{all-rest}
use Rattle.traced_settling.proofs.next_waiting.Goals as goal

pub returns-in-None-clause-none : goal.returns-in-None-clause-none
returns-in-None-clause-none g c = λ none. all-rest c.args.net.now.waiting (λ k l. elim (cases_lt k c.args.from) [
  | inl before ↦ c.waiting_among-in-None.ensures.none none k (omega arith) before
  | inr after ↦ c.in-None.ensures.none refl k after (omega (arith, l, c.known.ensures.places.beside, c.numbers.ensures))
])
