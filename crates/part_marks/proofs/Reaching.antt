-- Marks that are kept, and parts that are reached.
use Rattle.std.proofs.Common.{◌≡◌, ℕ, zero, suc, ◌<◌, ◌≤◌, ◌⊎◌, inl, inr, arith, Bool, true, false, Option, Some, None, List, [], ◌∷◌, ◌++◌, length, length-set, refl, sym, ap, subst, ◌∙◌, set, Contains, slice_get, get_or, ◌||◌}
use Rattle.std.proofs.lemmas.Bool.{cases_eq}
use Rattle.std.proofs.lemmas.List.{get_or-set_same, get_or-set_other}
use Rattle.std.proofs.lemmas.List.Elements.{Contains-push_cases}
use Rattle.std.proofs.lemmas.Option.{slice_get_read}
use Rattle.cell_readers.specs.Entries.{readers_at}
use Rattle.tube_spec.specs.Shape.{Shape}
use Rattle.part_marks.specs.Marks.{Marked, marked_at}
use Rattle.part_marks.specs.Nets.{marks_at, AreBeside, KeepsMarks, IsReached}

abbrev pub no_marks : Marked
no_marks = record { flags = []; first = 0; end = 0 }

pub keeps-same : (ms : List Marked) → KeepsMarks ms ms
keeps-same ms = record { len = refl; room = λ k. refl; kept = λ k i h. h }

pub keeps-then : (a b c : List Marked) → KeepsMarks a b → KeepsMarks b c → KeepsMarks a c
keeps-then a b c h k = record {
  len = k.len ∙ h.len;
  room = λ j. k.room j ∙ h.room j;
  kept = λ j i m. k.kept j i (h.kept j i m);
}

-- the marks under one number are written
pub keeps-set : (ms : List Marked) (k : ℕ) (m : Marked) → k < length ms → length m.flags ≡ length (marks_at ms k).flags → ((i : ℕ) → marked_at (marks_at ms k) i ≡ true → marked_at m i ≡ true) → KeepsMarks ms (set ms k m)
keeps-set ms k m l len kept = record {
  len = length-set ms k m;
  room = λ j. room j (cases_eq j k);
  kept = λ j. keeps j (cases_eq j k);
}
  where
    room : (j : ℕ) → (j ≡ k) ⊎ (j ≡ k → ⊥) → length (marks_at (set ms k m) j).flags ≡ length (marks_at ms j).flags
    room j (inl e) = subst (λ (i : ℕ). length (marks_at (set ms k m) i).flags ≡ length (marks_at ms i).flags) (sym e) (ap (λ (v : Marked). length v.flags) (get_or-set_same ms k m no_marks l) ∙ len)
    room j (inr n) = ap (λ (v : Marked). length v.flags) (get_or-set_other ms k j m no_marks n)

    keeps : (j : ℕ) → (j ≡ k) ⊎ (j ≡ k → ⊥) → (i : ℕ) → marked_at (marks_at ms j) i ≡ true → marked_at (marks_at (set ms k m) j) i ≡ true
    keeps j (inl e) = subst (λ (h : ℕ). (i : ℕ) → marked_at (marks_at ms h) i ≡ true → marked_at (marks_at (set ms k m) h) i ≡ true) (sym e)
        (λ i h. subst (λ (v : Marked). marked_at v i ≡ true) (sym (get_or-set_same ms k m no_marks l)) (kept i h))
    keeps j (inr n) = λ i h. subst (λ (v : Marked). marked_at v i ≡ true) (sym (get_or-set_other ms k j m no_marks n)) h

pub beside-kept : {C : Type 0} (parts : C → Shape → ℕ) (s : Shape) (cs : List (Option C)) (a b : List Marked) → KeepsMarks a b → AreBeside parts s cs a → AreBeside parts s cs b
beside-kept parts s cs a b keeps h k c there = subst (λ (n : ℕ). parts c s ≤ n) (sym (keeps.room k)) (h k c there)

pub reached-kept : {C : Type 0} (parts : C → Shape → ℕ) (part_scope : C → Shape → ℕ → List ℕ) (s : Shape) (cs : List (Option C)) (a b : List Marked) (cell k : ℕ) → KeepsMarks a b
    → IsReached parts part_scope s cs a cell k → IsReached parts part_scope s cs b cell k
reached-kept parts part_scope s cs a b cell k keeps h c i there below reads = keeps.kept k i (h c i there below reads)

-- one number more was met, whose parts were marked
pub reached-more : {C : Type 0} (parts : C → Shape → ℕ) (part_scope : C → Shape → ℕ → List ℕ) (s : Shape) (cs : List (Option C)) (a b : List Marked) (cell : ℕ) (met : List ℕ) (n : ℕ) → KeepsMarks a b
    → ((k : ℕ) → Contains met k → IsReached parts part_scope s cs a cell k) → IsReached parts part_scope s cs b cell n → (k : ℕ) → Contains (met ++ n ∷ []) k → IsReached parts part_scope s cs b cell k
reached-more parts part_scope s cs a b cell met n keeps before here k m = elim (Contains-push_cases met n k m) [
  | inl old ↦ reached-kept parts part_scope s cs a b cell k keeps (before k old)
  | inr same ↦ subst (λ (i : ℕ). IsReached parts part_scope s cs b cell i) same here
]

-- the first touched cell was taken, and its readers were marked
pub taken-cell : {C : Type 0} (parts : C → Shape → ℕ) (part_scope : C → Shape → ℕ → List ℕ) (s : Shape) (cs : List (Option C)) (a b : List Marked) (readers : List (List ℕ)) (all left rest : List ℕ) (taken : ℕ) → KeepsMarks a b → left ≡ taken ∷ rest
    → ((cell : ℕ) → Contains all cell → Contains left cell ⊎ ((k : ℕ) → Contains (readers_at readers cell) k → IsReached parts part_scope s cs a cell k))
    → ((k : ℕ) → Contains (readers_at readers taken) k → IsReached parts part_scope s cs b taken k)
    → (cell : ℕ) → Contains all cell → Contains rest cell ⊎ ((k : ℕ) → Contains (readers_at readers cell) k → IsReached parts part_scope s cs b cell k)
taken-cell parts part_scope s cs a b readers all left rest taken keeps e before here cell m = elim (before cell m) [
  | inl h ↦ first (subst (λ (xs : List ℕ). Contains xs cell) e h)
  | inr h ↦ inr (λ k r. reached-kept parts part_scope s cs a b cell k keeps (h k r))
]
  where
    first : Contains (taken ∷ rest) cell → Contains rest cell ⊎ ((k : ℕ) → Contains (readers_at readers cell) k → IsReached parts part_scope s cs b cell k)
    first (zero, l, q) = let same : taken ≡ cell = q in inr (subst (λ (i : ℕ). (k : ℕ) → Contains (readers_at readers i) k → IsReached parts part_scope s cs b i k) same here)
    first (suc i, l, q) = inl (i, omega (arith, l), q)

-- no touched cell is left
pub taken-all : {C : Type 0} (parts : C → Shape → ℕ) (part_scope : C → Shape → ℕ → List ℕ) (s : Shape) (cs : List (Option C)) (a : List Marked) (readers : List (List ℕ)) (all left : List ℕ) → left ≡ []
    → ((cell : ℕ) → Contains all cell → Contains left cell ⊎ ((k : ℕ) → Contains (readers_at readers cell) k → IsReached parts part_scope s cs a cell k))
    → (cell k : ℕ) → Contains all cell → Contains (readers_at readers cell) k → IsReached parts part_scope s cs a cell k
taken-all parts part_scope s cs a readers all left e before cell k m r = elim (before cell m) [
  | inl h ↦ let none = subst (λ (xs : List ℕ). Contains xs cell) e h in absurd (omega (arith, none.1))
  | inr h ↦ h k r
]

-- ---- what code reads

-- a place that is within a list, whatever stands past its end
pub same-default : (ms : List Marked) (k : ℕ) (d e : Marked) → k < length ms → get_or ms k d ≡ get_or ms k e
same-default [] k d e l = absurd (omega (arith, l))
same-default (m ∷ ms) zero d e l = refl
same-default (m ∷ ms) (suc k) d e l = same-default ms k d e (omega (arith, l))

pub there-is : {C : Type 0} (cs : List (Option C)) (k : ℕ) (place o : Option C) → k < length cs → place ≡ get_or cs k place → place ≡ o → slice_get cs k ≡ Some o
there-is cs k place o l e is = slice_get_read cs (length cs) k place refl l e ∙ ap Some is

pub one-there : {C : Type 0} (cs : List (Option C)) (k : ℕ) (c d : C) → slice_get cs k ≡ Some (Some c) → slice_get cs k ≡ Some (Some d) → c ≡ d
one-there cs k c d e f = let same : Some (Some c) ≡ Some (Some d) = sym e ∙ f in cc

pub none-there : {C : Type 0} (cs : List (Option C)) (k : ℕ) (d : C) → slice_get cs k ≡ Some None → slice_get cs k ≡ Some (Some d) → ⊥
none-there {C} cs k d e f = let none : Option C = None in let same : Some none ≡ Some (Some d) = sym e ∙ f in cc

pub or-swap : (r w a : Bool) → ((r || w) || a) ≡ (w || (r || a))
or-swap true true a = refl
or-swap true false a = refl
or-swap false true a = refl
or-swap false false a = refl
