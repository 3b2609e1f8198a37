-- Numbers that are dropped from lists.
use Rattle.std.proofs.Common.{◌≡◌, ◌≢◌, ℕ, zero, suc, ◌+◌, ◌<◌, ◌≤◌, ◌⊎◌, inl, inr, Bool, true, false, not, ◌||◌, cond, nat_eq, List, [], ◌∷◌, arith, refl, sym, ap, subst, ◌∙◌, length, get_or, take, set, length-set, slice_index}
use Rattle.std.specs.List.{Contains}
use Rattle.std.proofs.lemmas.List.{get_or-set_same, get_or-set_other}
use Rattle.std.proofs.lemmas.List.Folds.{list_any_more}
use Rattle.std.proofs.lemmas.List.Sums.{sum_by-cons, sum_by-set}
use Rattle.cell_readers.specs.Entries.{readers_at, reads_cell, times, without, Drops, AreReaders}
use Rattle.cell_readers.proofs.Noted.{same-or-not}

pub drops-same : (n : ℕ) (ms : List ℕ) → Drops n ms ms
drops-same n ms = record { others = refl; no_more = omega arith }

pub drops-then : (n : ℕ) (a b c : List ℕ) → Drops n a b → Drops n b c → Drops n a c
drops-then n a b c h k = record { others = k.others ∙ h.others; no_more = omega (arith, h.no_more, k.no_more) }

times-cons : (n m : ℕ) (ms : List ℕ) → times n (m ∷ ms) ≡ cond (nat_eq m n) 1 0 + times n ms
times-cons n m ms = sum_by-cons (λ (k : ℕ). cond (nat_eq k n) 1 0) m ms

-- behind the same number
pub drops-behind : (n m : ℕ) (old new : List ℕ) → Drops n old new → Drops n (m ∷ old) (m ∷ new)
drops-behind n m old new h = record {
  others = ap (λ (ms : List ℕ). cond (not (nat_eq m n)) (m ∷ ms) ms) h.others;
  no_more = omega (arith, h.no_more, times-cons n m old, times-cons n m new);
}

-- the first number
pub drops-first : (n m : ℕ) (ms : List ℕ) → nat_eq m n ≡ true → Drops n (m ∷ ms) ms
drops-first n m ms e = record {
  others = sym (ap (λ (b : Bool). cond (not b) (m ∷ without n ms) (without n ms)) e);
  no_more = omega (arith, times-cons n m ms);
}

pub times-other : (n m : ℕ) (ms : List ℕ) → nat_eq m n ≡ false → times n ms ≡ 0 → times n (m ∷ ms) ≡ 0
times-other n m ms e h = omega (arith, h, times-cons n m ms, ap {B = ℕ} (λ (b : Bool). cond b 1 0) e)

-- where a number does not stand in a list, the list without it is the list
pub without-none : (n : ℕ) (ms : List ℕ) → times n ms ≡ 0 → without n ms ≡ ms
without-none n [] h = refl
without-none n (m ∷ ms) h = elim (same-or-not m n) [
  | inl s ↦ absurd (omega (arith, h, times-cons n m ms, ap {B = ℕ} (λ (b : Bool). cond b 1 0) s.1))
  | inr s ↦ ap (λ (b : Bool). cond (not b) (m ∷ without n ms) (without n ms)) s.1 ∙ ap (λ (xs : List ℕ). m ∷ xs) (without-none n ms (omega (arith, h, times-cons n m ms)))
]

-- a list from which every one was dropped
pub drops-all : (n : ℕ) (old new : List ℕ) → Drops n old new → times n new ≡ 0 → new ≡ without n old
drops-all n old new h none = sym (without-none n new none) ∙ h.others

pub times-there : (n : ℕ) (ms : List ℕ) → Contains ms n → 1 ≤ times n ms
times-there n [] c = absurd (omega (arith, c.1))
times-there n (m ∷ ms) (zero, l, e) = let same : m ≡ n = e in elim (same-or-not m n) [ inl s ↦ omega (arith, times-cons n m ms, ap {B = ℕ} (λ (b : Bool). cond b 1 0) s.1) | inr s ↦ absurd (s.0 same) ]
times-there n (m ∷ ms) (suc i, l, e) = omega (arith, times-cons n m ms, times-there n ms (i, omega (arith, l), e))

pub times-absent : (n : ℕ) (ms : List ℕ) → (Contains ms n → ⊥) → times n ms ≡ 0
times-absent n [] absent = refl
times-absent n (m ∷ ms) absent = elim (same-or-not m n) [
  | inl s ↦ absurd (absent (0, omega arith, s.0))
  | inr s ↦ times-other n m ms s.1 (times-absent n ms (λ c. absent (suc c.0, omega (arith, c.1), c.2)))
]

length-without : (n : ℕ) (ms : List ℕ) → length (without n ms) + times n ms ≡ length ms
length-without n [] = refl
length-without n (m ∷ ms) = elim (same-or-not m n) [
  | inl s ↦
      omega (arith, length-without n ms, times-cons n m ms, ap {B = ℕ} (λ (b : Bool). cond b 1 0) s.1, ap (λ (b : Bool). length (cond (not b) (m ∷ without n ms) (without n ms))) s.1)
  | inr s ↦
      omega (arith, length-without n ms, times-cons n m ms, ap {B = ℕ} (λ (b : Bool). cond b 1 0) s.1, ap (λ (b : Bool). length (cond (not b) (m ∷ without n ms) (without n ms))) s.1)
]

times-without : (n k : ℕ) (ms : List ℕ) → times k (without n ms) ≤ times k ms
times-without n k [] = omega arith
times-without n k (m ∷ ms) = elim (same-or-not m n) [
  | inl s ↦ omega (arith, times-without n k ms, times-cons k m ms, ap (λ (b : Bool). times k (cond (not b) (m ∷ without n ms) (without n ms))) s.1)
  | inr s ↦ omega (arith, times-without n k ms, times-cons k m ms, times-cons k m (without n ms), ap (λ (b : Bool). times k (cond (not b) (m ∷ without n ms) (without n ms))) s.1)
]

-- what stands in a list without a number
pub left-there : (n k : ℕ) (ms : List ℕ) → Contains (without n ms) k → Contains ms k × (k ≢ n)
left-there n k [] c = absurd (omega (arith, c.1))
left-there n k (m ∷ ms) c = elim (same-or-not m n) [
  | inl s ↦ let h = left-there n k ms (subst (λ (b : Bool). Contains (cond (not b) (m ∷ without n ms) (without n ms)) k) s.1 c) in ((suc h.0.0, omega (arith, h.0.1), h.0.2), h.1)
  | inr s ↦ first s.0 (left-there n k ms) (subst (λ (b : Bool). Contains (cond (not b) (m ∷ without n ms) (without n ms)) k) s.1 c)
]
  where
    first : (m ≡ n → ⊥) → (Contains (without n ms) k → Contains ms k × (k ≢ n)) → Contains (m ∷ without n ms) k → Contains (m ∷ ms) k × (k ≢ n)
    first other rest (zero, l, e) = let same : m ≡ k = e in ((0, omega arith, e), λ q. other (same ∙ q))
    first other rest (suc i, l, e) = let h = rest (i, omega (arith, l), e) in ((suc h.0.0, omega (arith, h.0.1), h.0.2), h.1)

pub there-left : (n k : ℕ) (ms : List ℕ) → Contains ms k → k ≢ n → Contains (without n ms) k
there-left n k [] c other = absurd (omega (arith, c.1))
there-left n k (m ∷ ms) (zero, l, e) other = let same : m ≡ k = e in elim (same-or-not m n) [
  | inl s ↦ absurd (other (sym same ∙ s.0))
  | inr s ↦ subst (λ (b : Bool). Contains (cond (not b) (m ∷ without n ms) (without n ms)) k) (sym s.1) (0, omega arith, e)
]
there-left n k (m ∷ ms) (suc i, l, e) other = let h = there-left n k ms (i, omega (arith, l), e) other in elim (same-or-not m n) [
  | inl s ↦ subst (λ (b : Bool). Contains (cond (not b) (m ∷ without n ms) (without n ms)) k) (sym s.1) h
  | inr s ↦ subst (λ (b : Bool). Contains (cond (not b) (m ∷ without n ms) (without n ms)) k) (sym s.1) (suc h.0, omega (arith, h.1), h.2)
]

-- Where the lists had exactly those that read a cell, without one of them they have those that read it but this one.
pub readers-less : (scopes : List (List ℕ)) (n : ℕ) (old new : List (List ℕ)) → n < length scopes → ((cell : ℕ) → readers_at new cell ≡ without n (readers_at old cell)) → AreReaders scopes old → AreReaders (set scopes n []) new
readers-less scopes n old new inside lists were = record {
  exact = λ cell m. (
    λ c.
        let h = left-there n m (readers_at old cell) (subst (λ (ms : List ℕ). Contains ms m) (lists cell) c) in
        let was = (were.exact cell m).0 h.0 in
        (omega (arith, was.0, length-set scopes n []), ap (λ (xs : List ℕ). reads_cell xs cell) (get_or-set_other scopes n m [] [] h.1) ∙ was.1),
    λ h. subst (λ (ms : List ℕ). Contains ms m) (sym (lists cell)) (stays cell m h.0 h.1 (same-or-not m n)),
  );
  count = λ cell.
      omega (
        arith,
        ap length (lists cell),
        length-without n (readers_at old cell),
        were.count cell,
        sum_by-set (λ (s : List ℕ). cond (reads_cell s cell) 1 0) scopes n [] [] inside,
        one cell (reads_cell (get_or scopes n []) cell) refl,
      );
  once = λ cell m. omega (arith, ap (times m) (lists cell), times-without n m (readers_at old cell), were.once cell m);
}
  where
    stays : (cell m : ℕ) → m < length (set scopes n []) → reads_cell (get_or (set scopes n []) m []) cell ≡ true → ((m ≡ n) × (nat_eq m n ≡ true)) ⊎ ((m ≡ n → ⊥) × (nat_eq m n ≡ false)) → Contains (without n (readers_at old cell)) m
    stays cell m l e (inl s) =
        let none : get_or (set scopes n []) m [] ≡ [] = ap (λ (j : ℕ). get_or (set scopes n []) j []) s.0 ∙ get_or-set_same scopes n [] [] inside in
        let no : false ≡ true = ap (λ (xs : List ℕ). reads_cell xs cell) (sym none) ∙ e in absurd (cc)
    stays cell m l e (inr s) =
        there-left n m (readers_at old cell) ((were.exact cell m).1 (omega (arith, l, length-set scopes n []), ap (λ (xs : List ℕ). reads_cell xs cell) (sym (get_or-set_other scopes n m [] [] s.0)) ∙ e)) s.0

    one : (cell : ℕ) (b : Bool) → reads_cell (get_or scopes n []) cell ≡ b → times n (readers_at old cell) ≡ cond (reads_cell (get_or scopes n []) cell) 1 0
    one cell true e = omega (arith, ap {B = ℕ} (λ (c : Bool). cond c 1 0) e, times-there n (readers_at old cell) ((were.exact cell n).1 (inside, e)), were.once cell n)
    one cell false e = omega (arith, ap {B = ℕ} (λ (c : Bool). cond c 1 0) e, times-absent n (readers_at old cell) (λ c. let r = ((were.exact cell n).0 c).1 in absurd (cc)))

-- ---- cell by cell

-- The lists of some cells have lost a number, and no list changed but for it.
pub record AreUnlisted (n : ℕ) (cells : List ℕ) (old now : ℕ → List ℕ) : Type 0 where
  pub drops : (k : ℕ) → Drops n (old k) (now k)
  pub gone : (k : ℕ) → reads_cell cells k ≡ true → times n (now k) ≡ 0

gone-more : (r e : Bool) (before after : ℕ) → (r ≡ true → before ≡ 0) → (e ≡ true → after ≡ 0) → after ≤ before → (r || e) ≡ true → after ≡ 0
gone-more true e before after h g l s = omega (arith, h refl, l)
gone-more false true before after h g l s = g refl
gone-more false false before after h g l s = absurd (cc)

-- the list of one cell more
pub unlisted-more : (n i cell : ℕ) (scope : List ℕ) (old now new : ℕ → List ℕ) → AreUnlisted n (take i scope) old now → i < length scope → cell ≡ slice_index scope i → ((k : ℕ) → Drops n (now k) (new k)) → times n (new cell) ≡ 0
    → AreUnlisted n (take (i + 1) scope) old new
unlisted-more n i cell scope old now new h l e drops gone = record {
  drops = λ k. drops-then n (old k) (now k) (new k) (h.drops k) (drops k);
  gone = λ k r.
      let here : nat_eq k cell ≡ true → times n (new k) ≡ 0 = λ q. elim (same-or-not k cell) [ inl s ↦ ap (λ (j : ℕ). times n (new j)) s.0 ∙ gone | inr s ↦ absurd (cc (q, s.1)) ] in
      gone-more (reads_cell (take i scope) k) (nat_eq k cell) (times n (now k)) (times n (new k)) (h.gone k) here (drops k).no_more
      (ap (λ (c : ℕ). reads_cell (take i scope) k || nat_eq k c) e ∙ sym (list_any_more (nat_eq k) scope i 0 l) ∙ r);
}

-- the lists of all cells in which the number stood
pub unlisted-all : (n : ℕ) (part scope : List ℕ) (old now : ℕ → List ℕ) → part ≡ scope → ((k : ℕ) → Contains (old k) n → reads_cell scope k ≡ true) → AreUnlisted n part old now → (k : ℕ) → now k ≡ without n (old k)
unlisted-all n part scope old now same listed h k = drops-all n (old k) (now k) (h.drops k) (none (reads_cell scope k) refl)
  where
    none : (b : Bool) → reads_cell scope k ≡ b → times n (now k) ≡ 0
    none true e = h.gone k (ap (λ (xs : List ℕ). reads_cell xs k) same ∙ e)
    none false e = omega (arith, (h.drops k).no_more, times-absent n (old k) (λ c. let r = listed k c in absurd (cc)))
