-- Marks in a range that grows.
use Rattle.std.proofs.Common.{◌≡◌, ℕ, zero, suc, ◌+◌, ◌<◌, ◌≤◌, leb, ◌&&◌, Bool, true, false, List, [], ◌∷◌, ◌++◌, length, arith, refl, ap, ◌∙◌, get_or, take, drop, append-nil}
use Rattle.std.proofs.lemmas.List.{take_all, drop_all}
use Rattle.std.proofs.lemmas.Bool.{le-leb}
use Rattle.ctc_parts.specs.Parts.{marked_in}
use Rattle.ctc_parts.proofs.Marking.{marked-first, marked-end, marked-flag}
use Rattle.part_marks.specs.Marks.{lent}

-- a part is marked whose number lies in the range and whose flag is set
pub marked-is : (flags : List Bool) (first end i : ℕ) → first ≤ i → i < end → get_or flags i false ≡ true → marked_in flags first end i ≡ true
marked-is flags first end i low high flag =
    ap (λ (b : Bool). b && (leb (i + 1) end && get_or flags i false)) (le-leb first i low)
    ∙ ap (λ (b : Bool). b && get_or flags i false) (le-leb (i + 1) end (omega (arith, high))) ∙ flag

lent-kept : (old new : List Bool) → length new ≡ length old → ((j : ℕ) → get_or old j false ≡ true → get_or new j false ≡ true) → (j : ℕ) → get_or (lent old) j false ≡ true → get_or (lent new) j false ≡ true
lent-kept [] [] len kept j h = h
lent-kept [] (g ∷ gs) len kept j h = absurd (omega (arith, len))
lent-kept (f ∷ fs) [] len kept j h = absurd (omega (arith, len))
lent-kept (f ∷ fs) (g ∷ gs) len kept j h = kept j h

pub lent-length : (old new : List Bool) → length new ≡ length old → length (lent new) ≡ length (lent old)
lent-length [] [] len = refl
lent-length [] (g ∷ gs) len = absurd (omega (arith, len))
lent-length (f ∷ fs) [] len = absurd (omega (arith, len))
lent-length (f ∷ fs) (g ∷ gs) len = len

one-flag : (j : ℕ) → j < 1 → get_or (true ∷ []) j false ≡ true
one-flag zero l = refl
one-flag (suc j) l = absurd (omega (arith, l))

lent-set : (old new : List Bool) (first end : ℕ) → length new ≡ length old → ((j : ℕ) → first ≤ j → j < end → j < length old → get_or new j false ≡ true)
    → (j : ℕ) → first ≤ j → j < end → j < length (lent old) → get_or (lent new) j false ≡ true
lent-set [] [] first end len set j low high l = one-flag j l
lent-set [] (g ∷ gs) first end len set j low high l = absurd (omega (arith, len))
lent-set (f ∷ fs) [] first end len set j low high l = absurd (omega (arith, len))
lent-set (f ∷ fs) (g ∷ gs) first end len set j low high l = set j low high l

-- in a wider range, where no flag was cleared, no mark is
pub mark-kept : (old new : List Bool) (a b c d : ℕ) → length new ≡ length old → ((j : ℕ) → get_or old j false ≡ true → get_or new j false ≡ true) → ((i : ℕ) → a ≤ i → i < b → (c ≤ i) × (i < d))
    → (i : ℕ) → marked_in (lent old) a b i ≡ true → marked_in (lent new) c d i ≡ true
mark-kept old new a b c d len kept wider i m =
    let h = wider i (marked-first (lent old) a b i m) (marked-end (lent old) a b i m) in
    marked-is (lent new) c d i h.0 h.1 (lent-kept old new len kept i (marked-flag (lent old) a b i m))

-- the parts of a range within it whose flags were set are marked
pub mark-set : (old new : List Bool) (a b c d : ℕ) → length new ≡ length old → ((j : ℕ) → a ≤ j → j < b → j < length old → get_or new j false ≡ true) → ((i : ℕ) → a ≤ i → i < b → (c ≤ i) × (i < d))
    → (i : ℕ) → a ≤ i → i < b → i < length (lent old) → marked_in (lent new) c d i ≡ true
mark-set old new a b c d len set wider i low high l =
    let h = wider i low high in
    marked-is (lent new) c d i h.0 h.1 (lent-set old new a b len set i low high l)

-- what is lent of a vector comes back
pub back-written : (old lent new : List Bool) (n : ℕ) → lent ≡ old → length lent ≡ n → length new ≡ length lent → take n (new ++ drop (length new) old) ≡ new
back-written old lent new n e len kept =
    let same : length new ≡ length old = kept ∙ ap (length {A = Bool}) e in
    let none : drop (length new) old ≡ [] = drop_all (length new) old (omega (arith, same)) in
    ap (λ (x : List Bool). take n (new ++ x)) none ∙ ap (take n) (append-nil new) ∙ take_all n new (omega (arith, kept, len))
