-- Texts that are written one after the other.
use Rattle.std.proofs.Common.{◌≡◌, ℕ, ◌+◌, ◌<◌, List, Result, Ok, Err, IsErr, length, take, get_or, sym, ◌∙◌, subst, flat_map, zero-add}
use Rattle.std.specs.Prelude.{Option}
use Rattle.std.specs.List.{range_with_len}
use Rattle.std.proofs.lemmas.List.FromFn.{get_or-range_with_len, length-range_with_len}
use Rattle.tube_io.specs.Sends.{Sends}
use Rattle.tube_io.proofs.Sent.{sends_fail, sends_next}

module _ {K : Type 0} (written : K → Option (List ℕ)) (flushed : K → Option ℕ) (faults : K → ℕ) where
  -- which error it is, is not said
  pub sends_error : {S T E F : Type 0} (text : List ℕ) (s t : K) (e : E) (result : Result T F) → IsErr result → Sends {T = S} {E = E} written flushed faults text s t (Err e) → Sends {T = T} {E = F} written flushed faults text s t result
  sends_error text s t e (Ok v) h p = cc h
  sends_error text s t e (Err f) h p = record { ok = tt; steady = tt; prefix = p.prefix; failed = p.failed; later = p.later; stays = p.stays }

  module _ (f : ℕ → List ℕ) (n i : ℕ) where
    at_index : i < n → get_or (range_with_len 0 n) i 0 ≡ i
    at_index h = get_or-range_with_len 0 n i 0 h ∙ zero-add i

    among : i < n → i < length (range_with_len 0 n)
    among h = subst (λ (m : ℕ). i < m) (sym (length-range_with_len 0 n)) h

    -- the text at one index after those at the indices before it
    pub sends_index : {E : Type 0} (s t u : K) → i < n
        → Sends {T = Unit {0}} {E = E} written flushed faults (flat_map f (take i (range_with_len 0 n))) s t (Ok tt)
        → Sends {T = Unit {0}} {E = E} written flushed faults (f i) t u (Ok tt)
        → Sends {T = Unit {0}} {E = E} written flushed faults (flat_map f (take (i + 1) (range_with_len 0 n))) s u (Ok tt)
    sends_index {E} s t u h p q =
        sends_next written flushed faults f (range_with_len 0 n) i 0 s t u (among h) p
        (subst (λ (j : ℕ). Sends {T = Unit {0}} {E = E} written flushed faults (f j) t u (Ok tt)) (sym (at_index h)) q)

    -- a write that fails at one index ends the text early
    pub sends_no_index : {E : Type 0} (s t u : K) (e : E) → i < n
        → Sends {T = Unit {0}} {E = E} written flushed faults (flat_map f (take i (range_with_len 0 n))) s t (Ok tt)
        → Sends {T = Unit {0}} {E = E} written flushed faults (f i) t u (Err e)
        → Sends {T = Unit {0}} {E = E} written flushed faults (flat_map f (range_with_len 0 n)) s u (Err e)
    sends_no_index {E} s t u e h p q =
        sends_fail written flushed faults f (range_with_len 0 n) i 0 s t u e (among h) p
        (subst (λ (j : ℕ). Sends {T = Unit {0}} {E = E} written flushed faults (f j) t u (Err e)) (sym (at_index h)) q)
