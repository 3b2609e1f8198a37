-- Walks along chains, and what an entry more changes.
use Rattle.std.proofs.Common.{◌≡◌, ℕ, zero, suc, ◌+◌, ◌<◌, ◌≤◌, ◌⊎◌, inl, inr, List, [], ◌∷◌, ◌++◌, length, arith, refl, sym, ap, subst, ◌∙◌, get_or, All, length-append}
use Rattle.std.proofs.lemmas.Bool.{cases_lt}
use Rattle.std.proofs.lemmas.List.{get_or_append_left, get_or_push, get_or_past}
use Rattle.std.proofs.lemmas.List.Elements.{All-nil, All-cons}
use Rattle.cell_readers.specs.declared.chain.Entry.{Entry}
use Rattle.cell_readers.specs.Entries.{no_entry, Falls, walk, chain}

-- a walk may be as long as the place where it begins
pub walk-enough : (entries : List Entry) → Falls entries → (most more place : ℕ) → place ≤ most → place ≤ more → walk most entries place ≡ walk more entries place
walk-enough entries falls zero zero place h h' = refl
walk-enough entries falls zero (suc more) zero h h' = refl
walk-enough entries falls zero (suc more) (suc k) h h' = absurd (omega arith)
walk-enough entries falls (suc most) zero zero h h' = refl
walk-enough entries falls (suc most) zero (suc k) h h' = absurd (omega arith)
walk-enough entries falls (suc most) (suc more) zero h h' = refl
walk-enough entries falls (suc most) (suc more) (suc k) h h' =
    ap (λ (ns : List ℕ). (get_or entries k no_entry).number ∷ ns) (walk-enough entries falls most more (get_or entries k no_entry).before (omega (arith, falls k)) (omega (arith, falls k)))

-- a list begins with its first entry
pub chain-place : (entries : List Entry) (place k : ℕ) → Falls entries → place ≡ k + 1 → chain entries place ≡ (get_or entries k no_entry).number ∷ chain entries (get_or entries k no_entry).before
chain-place entries zero k falls e = absurd (omega arith)
chain-place entries (suc j) k falls e = subst (λ (i : ℕ). walk (suc j) entries (suc j) ≡ (get_or entries i no_entry).number ∷ chain entries (get_or entries i no_entry).before) (omega arith) (first j)
  where
    first : (j : ℕ) → walk (suc j) entries (suc j) ≡ (get_or entries j no_entry).number ∷ chain entries (get_or entries j no_entry).before
    first j = ap (λ (ns : List ℕ). (get_or entries j no_entry).number ∷ ns) (walk-enough entries falls j (get_or entries j no_entry).before (get_or entries j no_entry).before (falls j) (omega arith))

-- the lists stay where an entry is added
pub walk-push : (entries : List Entry) (entry : Entry) → Falls entries → (most place : ℕ) → place ≤ length entries → walk most (entries ++ entry ∷ []) place ≡ walk most entries place
walk-push entries entry falls zero place h = refl
walk-push entries entry falls (suc most) zero h = refl
walk-push entries entry falls (suc most) (suc k) h =
    ap (λ (e : Entry). e.number ∷ walk most (entries ++ entry ∷ []) e.before) (get_or_append_left entries (entry ∷ []) no_entry k (omega arith))
    ∙ ap (λ (ns : List ℕ). (get_or entries k no_entry).number ∷ ns) (walk-push entries entry falls most (get_or entries k no_entry).before (omega (arith, falls k)))

pub Falls-push : (entries : List Entry) (entry : Entry) → Falls entries → entry.before ≤ length entries → Falls (entries ++ entry ∷ [])
Falls-push entries entry falls h k = elim (cases_lt k (length entries)) [
  | inl l ↦ subst (λ (e : Entry). e.before ≤ k) (sym (get_or_append_left entries (entry ∷ []) no_entry k l)) (falls k)
  | inr l ↦ past (cases_lt (length entries) k) l
]
  where
    past : ((length entries < k) ⊎ (k ≤ length entries)) → length entries ≤ k → (get_or (entries ++ entry ∷ []) k no_entry).before ≤ k
    past (inl g) l = subst (λ (e : Entry). e.before ≤ k) (sym (get_or_past (entries ++ entry ∷ []) k no_entry (omega (arith, length-append entries (entry ∷ []))))) (omega arith)
    past (inr g) l = subst (λ (e : Entry). e.before ≤ k) (sym (get_or_push entries entry no_entry k (omega arith))) (omega arith)

-- an entry more, at the front of the list at a place
pub chain-push : (entries : List Entry) (n place : ℕ) → Falls entries → place ≤ length entries → chain (entries ++ record { number = n; before = place } ∷ []) (length entries + 1) ≡ n ∷ chain entries place
chain-push entries n place falls h =
    let entry : Entry = record { number = n; before = place } in
    chain-place (entries ++ entry ∷ []) (length entries + 1) (length entries) (Falls-push entries entry falls h) refl
    ∙ ap (λ (e : Entry). e.number ∷ chain (entries ++ entry ∷ []) e.before) (get_or_push entries entry no_entry (length entries) refl)
    ∙ ap (λ (ns : List ℕ). n ∷ ns) (walk-push entries entry falls place place h)

-- the numbers of a list are numbers of contractors
pub walk-below : (entries : List Entry) (bound : ℕ) → Falls entries → All (λ (e : Entry). e.number < bound) entries → (most place : ℕ) → place ≤ length entries → All (λ n. n < bound) (walk most entries place)
walk-below entries bound falls all zero place h = All-nil (λ n. n < bound)
walk-below entries bound falls all (suc most) zero h = All-nil (λ n. n < bound)
walk-below entries bound falls all (suc most) (suc j) h =
    All-cons (λ n. n < bound) (get_or entries j no_entry).number (walk most entries (get_or entries j no_entry).before) (all j no_entry (omega arith)) (walk-below entries bound falls all most (get_or entries j no_entry).before (omega (arith, falls j)))

-- a walk has at most as many numbers as it may
pub walk-length : (entries : List Entry) (most place : ℕ) → length (walk most entries place) ≤ most
walk-length entries zero place = omega arith
walk-length entries (suc most) zero = omega arith
walk-length entries (suc most) (suc k) = omega (arith, walk-length entries most (get_or entries k no_entry).before)
