use Rattle.std.proofs.Common.{◌≡◌, ℕ, ◌≤◌, false, IfSome, slice_index}
use Rattle.ctc_delay.specs.Delays.{is_possible}
use Rattle.ctc_delay.proofs.possible.greatest_possible.Given as goal

-- none so far is possible
abbrev pub invariant-loop-delay : goal.invariant-loop-delay
invariant-loop-delay l =
    let s = l.store.shape in
    IfSome l.store.box (λ xs. (d : ℕ) → l.delay ≤ d → d ≤ l.fn.delays.greatest → is_possible s.grid xs (slice_index s.signals l.x.0) (slice_index s.signals l.y.0) d ≡ false)
