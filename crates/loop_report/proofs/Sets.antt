-- Sets that are written one after the other.
use Rattle.std.proofs.Common.{◌≡◌, ℕ, ◌+◌, ◌<◌, Bool, List, [], ◌∷◌, ◌++◌, Ok, Err, length, take, drop, get_or, sym, ap, ◌∙◌, subst, arith, append_assoc}
use Rattle.std.specs.Prelude.{Option}
use Rattle.std.proofs.lemmas.List.{append-nil, length-take, take-append-drop, take_more}
use Rattle.tube_io.specs.Sends.{Sends}
use Rattle.tube_io.proofs.Sent.{sends_stops, sends_then}
use Rattle.loop_report.specs.Loops.{set_text, sets_text}
use Rattle.loop_report.specs.declared.found.Found.{Found}

sets_text-append : (brief : Bool) (n : ℕ) (xs ys : List Found) → sets_text brief n (xs ++ ys) ≡ sets_text brief n xs ++ sets_text brief (n + length xs) ys
sets_text-append brief n [] ys = ap (λ (k : ℕ). sets_text brief k ys) (omega arith)
sets_text-append brief n (x ∷ xs) ys =
    let count : n + 1 + length xs ≡ n + length (x ∷ xs) = omega arith in
    ap (λ (t : List ℕ). set_text brief n x ++ t) (sets_text-append brief (n + 1) xs ys ∙ ap (λ (k : ℕ). sets_text brief (n + 1) xs ++ sets_text brief k ys) count)
    ∙ sym (append_assoc (set_text brief n x) (sets_text brief (n + 1) xs) (sets_text brief (n + length (x ∷ xs)) ys))

module _ (brief : Bool) (sets : List Found) (i n : ℕ) (d : Found) (h : i < length sets) (e : d ≡ get_or sets i d) (count : n ≡ i + 1) where
  -- the text of the sets up to one of them
  one_more : sets_text brief 1 (take (i + 1) sets) ≡ sets_text brief 1 (take i sets) ++ set_text brief n d
  one_more =
      let size : 1 + length (take i sets) ≡ n = omega (arith, length-take i sets) in
      ap (sets_text brief 1) (take_more sets i d h)
      ∙ (sets_text-append brief 1 (take i sets) (get_or sets i d ∷ [])
      ∙ ap (λ (t : List ℕ). sets_text brief 1 (take i sets) ++ t)
      (ap (λ (k : ℕ). sets_text brief k (get_or sets i d ∷ [])) size ∙ (append-nil (set_text brief n (get_or sets i d)) ∙ ap (set_text brief n) (sym e))))

  -- and with those after it
  all_sets : (sets_text brief 1 (take i sets) ++ set_text brief n d) ++ sets_text brief (1 + length (take (i + 1) sets)) (drop (i + 1) sets) ≡ sets_text brief 1 sets
  all_sets =
      ap (λ (t : List ℕ). t ++ sets_text brief (1 + length (take (i + 1) sets)) (drop (i + 1) sets)) (sym one_more)
      ∙ (sym (sets_text-append brief 1 (take (i + 1) sets) (drop (i + 1) sets)) ∙ ap (sets_text brief 1) (take-append-drop (i + 1) sets))

  module _ {K : Type 0} (written : K → Option (List ℕ)) (flushed : K → Option ℕ) (faults : K → ℕ) where
    pub sends_set : {E : Type 0} (s t u : K) → Sends {T = Unit {0}} {E = E} written flushed faults (sets_text brief 1 (take i sets)) s t (Ok tt)
        → Sends {T = Unit {0}} {E = E} written flushed faults (set_text brief n d) t u (Ok tt)
        → Sends {T = Unit {0}} {E = E} written flushed faults (sets_text brief 1 (take (i + 1) sets)) s u (Ok tt)
    sends_set {E} s t u p q =
        subst (λ (x : List ℕ). Sends {T = Unit {0}} {E = E} written flushed faults x s u (Ok tt)) (sym one_more)
        (sends_then written flushed faults (sets_text brief 1 (take i sets)) (set_text brief n d) s t u (Ok tt) p q)

    -- a write that fails in the text of one set ends the text early
    pub sends_no_set : {E : Type 0} (s t u : K) (f : E) → Sends {T = Unit {0}} {E = E} written flushed faults (sets_text brief 1 (take i sets)) s t (Ok tt)
        → Sends {T = Unit {0}} {E = E} written flushed faults (set_text brief n d) t u (Err f)
        → Sends {T = Unit {0}} {E = E} written flushed faults (sets_text brief 1 sets) s u (Err f)
    sends_no_set {E} s t u f p q =
        let both = sends_then written flushed faults (sets_text brief 1 (take i sets)) (set_text brief n d) s t u (Err f) p q in
        subst (λ (x : List ℕ). Sends {T = Unit {0}} {E = E} written flushed faults x s u (Err f)) all_sets
        (sends_stops written flushed faults (sets_text brief 1 (take i sets) ++ set_text brief n d) (sets_text brief (1 + length (take (i + 1) sets)) (drop (i + 1) sets)) s u f both)
