use Rattle.std.proofs.Common.{◌≡◌, ◌+◌, ◌<◌, ◌⊎◌, inl, inr, ℕ, Some, false, arith, rules, sym, subst, slice_get}
use Rattle.traced_settling.proofs.waiting_among.Goals as goal

split : (k n : ℕ) → k < n + 1 → (k < n) ⊎ (k ≡ n)
split k n h = grind arith

pub loop-number-init : goal.loop-number-init
loop-number-init g c = λ k from before. absurd (omega (arith, from, before))

pub loop-number-preserved : goal.loop-number-preserved
loop-number-preserved g c = λ k from before. elim (split k c.loop-number.number before) [
  | inl b ↦ c.loop-number.invariant k from b
  | inr e ↦ subst (λ (j : ℕ). slice_get c.args.net.now.waiting j ≡ Some false) (sym e) (search rules)
]

pub returns-clause-none : goal.returns-clause-none
returns-clause-none g c = λ none k from before. c.loop-number.invariant k from (omega (arith, before))
