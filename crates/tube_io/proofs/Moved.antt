-- What several calls take or append together.
use Rattle.std.proofs.Common.{◌≡◌, ℕ, ◌+◌, ◌≤◌, List, ◌++◌, sym, ap, ◌∙◌, arith, take, drop, length, subst, take-append-drop}
use Rattle.std.proofs.Math.Seq.{take-add, take-append_seam}
use Rattle.std.proofs.lemmas.List.{drop-drop}
use Rattle.std.proofs.KnownBytes.{Appends-trans, Consumes-trans}
use Rattle.std.proofs.lemmas.Grind.{common_steps}
use Rattle.std.specs.Io.KnownBytes.{Appends, Consumes}
use Rattle.tube_io.specs.Whole.{GaveBetween}
use Rattle.std.specs.Prelude.{Option}

-- a write took the first n of what was left of a text
pub appends_more : (a b c : Option (List ℕ)) (bytes piece : List ℕ) (at n : ℕ) → piece ≡ drop at bytes
    → Appends a b (take at bytes) → Appends b c (take n piece) → Appends a c (take (at + n) bytes)
appends_more a b c bytes piece at n e p q =
    subst (Appends a c) (sym (take-add at n bytes)) (Appends-trans a b c (take at bytes) (take n (drop at bytes)) p (subst (λ (xs : List ℕ). Appends b c (take n xs)) e q))

-- the front of what is left was copied to the front of the buffer
pub front_given : (bytes new into : List ℕ) (at n : ℕ) → new ≡ take n (drop at bytes) → length new ≡ n
    → drop at bytes ≡ take n (new ++ drop n into) ++ drop (at + n) bytes
front_given bytes new into at n e h =
    let front : take n (new ++ drop n into) ≡ new = subst (λ (k : ℕ). take k (new ++ drop n into) ≡ new) h (take-append_seam new (drop n into)) in
    sym (ap (λ (xs : List ℕ). xs ++ drop (at + n) bytes) (front ∙ e) ∙ ap (λ (xs : List ℕ). take n (drop at bytes) ++ xs) (sym (drop-drop n at bytes)) ∙ take-append-drop n (drop at bytes))

-- a read gave the first n bytes of a buffer, after the bytes before
pub gave_more : (a b c : Option (List ℕ)) (before buffer : List ℕ) (n high : ℕ) → Consumes a b before → (1 ≤ n) × (n ≤ length buffer) × Consumes b c (take n buffer)
    → length before + length buffer ≤ high → GaveBetween 1 high a c
gave_more a b c before buffer n high p q room =
    let some : 1 ≤ length (before ++ take n buffer) = grind (arith, common_steps, q.0, q.1) in
    let short : length (before ++ take n buffer) ≤ high = grind (arith, common_steps, q.1, room) in
    (before ++ take n buffer, some, short, Consumes-trans a b c before (take n buffer) p q.2)
