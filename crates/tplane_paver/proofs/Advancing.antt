-- Rows that advance square by square, and how many runs they have.
use Rattle.std.proofs.Common.{◌≡◌, ℕ, suc, ◌+◌, ◌-◌, ◌<◌, ◌≤◌, Bool, true, false, List, [], ◌∷◌, length, reverse, sum_by, arith, refl, sym, ap, subst, ◌∙◌, ◌⊎◌, inl, inr}
use Rattle.std.proofs.lemmas.List.Sums.{sum_by-cons}
use Rattle.tplane_paver.specs.declared.rows.Stretch.{Stretch}
use Rattle.tplane_paver.specs.Rows.{row_at, starts, sum_below, runs_count, AreRuns, ArePaved}
use Rattle.tplane_paver.specs.Paving.{grown, runs_down, IsDone, AreBegun, Advances, StandAt}
use Rattle.tplane_paver.proofs.RowLaws.{runs-none, runs-all}
use Rattle.tplane_paver.proofs.RunLaws.{starts-most, length-runs, runs-are}

pub split-lt : (i m : ℕ) → (i < m) ⊎ (m ≤ i)
split-lt i m = grind arith

-- no row changed, where no pair of the square is possible
pub advance-none : (pairs : ℕ → ℕ → Bool) (n : ℕ) (rows : List (List Stretch)) (a e b c : ℕ) → b ≤ c → StandAt pairs n rows a e b
    → ((i j : ℕ) → a ≤ i → i < e → i < n → b ≤ j → j < c → pairs i j ≡ false) → Advances pairs n rows rows a e c
advance-none pairs n rows a e b c l stand none = record {
  len = refl;
  inside = λ i p q r. stand i p q r ∙ ap (λ (l : List Stretch). reverse l) (sym (same i p q r));
  before = λ i p. refl;
  beyond = λ i p. refl;
}
  where
    same : (i : ℕ) → a ≤ i → i < e → i < n → runs_down (pairs i) c ≡ runs_down (pairs i) b
    same i p q r =
        let s : b + (c - b) ≡ c = omega arith in
        subst (λ (m : ℕ). runs_down (pairs i) m ≡ runs_down (pairs i) b) s (runs-none (pairs i) b (c - b) (λ j u v. none i j p q r u (omega arith)))

-- the same rows go on
pub advance-next : (pairs : ℕ → ℕ → Bool) (n : ℕ) (old mid new : List (List Stretch)) (a e b c : ℕ)
    → Advances pairs n old mid a e b → Advances pairs n mid new a e c → Advances pairs n old new a e c
advance-next pairs n old mid new a e b c p q = record {
  len = q.len ∙ p.len;
  inside = q.inside;
  before = λ i h. q.before i h ∙ p.before i h;
  beyond = λ i h. q.beyond i h ∙ p.beyond i h;
}

-- further rows
pub advance-stack : (pairs : ℕ → ℕ → Bool) (n : ℕ) (old mid new : List (List Stretch)) (a m e c : ℕ) → a ≤ m → m ≤ e
    → Advances pairs n old mid a m c → Advances pairs n mid new m e c → Advances pairs n old new a e c
advance-stack pairs n old mid new a m e c l k p q = record {
  len = q.len ∙ p.len;
  inside = λ i u v w. elim (split-lt i m) [ inl h ↦ q.before i h ∙ p.inside i u h w | inr h ↦ q.inside i h v w ];
  before = λ i h. q.before i (omega arith) ∙ p.before i h;
  beyond = λ i h. q.beyond i h ∙ p.beyond i (omega arith);
}

pub stand-beyond : (pairs : ℕ → ℕ → Bool) (n : ℕ) (old new : List (List Stretch)) (a m e b c : ℕ)
    → Advances pairs n old new a m c → StandAt pairs n old m e b → StandAt pairs n new m e b
stand-beyond pairs n old new a m e b c p s i u v w = p.beyond i u ∙ s i u v w

pub begun-after : (pairs : ℕ → ℕ → Bool) (n : ℕ) (old new : List (List Stretch)) (a e c : ℕ)
    → Advances pairs n old new a e c → AreBegun pairs n old → AreBegun pairs n new
begun-after pairs n old new a e c p s i l = elim (split-lt i a) [
  | inl h ↦ ((s i l).0, p.before i h ∙ (s i l).1)
  | inr h ↦ elim (split-lt i e) [ inl k ↦ (c, p.inside i h k l) | inr k ↦ ((s i l).0, p.beyond i k ∙ (s i l).1) ]
]

-- a row that is filled
pub filled-row : (pairs : ℕ → ℕ → Bool) (old new : List (List Stretch)) (i b last : ℕ) → b ≤ last → IsDone pairs old i b
    → ((j : ℕ) → b ≤ j → j ≤ last → pairs i j ≡ true)
    → ((l : List Stretch) → row_at old i ≡ reverse l → row_at new i ≡ reverse (grown l b last)) → IsDone pairs new i (suc last)
filled-row pairs old new i b last l done all put =
    let s : b + (last - b) ≡ last = omega arith in
    let e : runs_down (pairs i) (suc last) ≡ grown (runs_down (pairs i) b) b last =
    subst (λ (m : ℕ). runs_down (pairs i) (suc m) ≡ grown (runs_down (pairs i) b) b m) s (runs-all (pairs i) b (last - b) (λ j u v. all j u (omega arith))) in
    put (runs_down (pairs i) b) done ∙ ap (λ (l : List Stretch). reverse l) (sym e)

-- sums over rows
pub sum-rows-below : (rows : List (List Stretch)) (g : ℕ → ℕ) → ((i : ℕ) → i < length rows → length (row_at rows i) ≤ g i) → sum_by length rows ≤ sum_below g (length rows)
sum-rows-below [] g h = omega arith
sum-rows-below (row ∷ rows) g h =
    let first : length row ≤ g 0 = h 0 (omega arith) in
    let rest : sum_by length rows ≤ sum_below (λ i. g (suc i)) (length rows) = sum-rows-below rows (λ i. g (suc i)) (λ i l. h (suc i) (omega arith)) in
    omega (arith, first, rest, sum_by-cons (length {A = Stretch}) row rows)

pub sum-rows-same : (rows : List (List Stretch)) (g : ℕ → ℕ) → ((i : ℕ) → i < length rows → length (row_at rows i) ≡ g i) → sum_by length rows ≡ sum_below g (length rows)
sum-rows-same [] g h = refl
sum-rows-same (row ∷ rows) g h =
    let first : length row ≡ g 0 = h 0 (omega arith) in
    let rest : sum_by length rows ≡ sum_below (λ i. g (suc i)) (length rows) = sum-rows-same rows (λ i. g (suc i)) (λ i l. h (suc i) (omega arith)) in
    omega (arith, first, rest, sum_by-cons (length {A = Stretch}) row rows)

pub begun-few : (pairs : ℕ → ℕ → Bool) (n : ℕ) (rows : List (List Stretch)) → length rows ≡ n → AreBegun pairs n rows
    → ((a b : ℕ) → n ≤ b → pairs a b ≡ false) → sum_by length rows ≤ runs_count pairs n
begun-few pairs n rows len begun none =
    subst (λ (k : ℕ). sum_by length rows ≤ sum_below (λ a. starts (pairs a) n) k) len (sum-rows-below rows (λ a. starts (pairs a) n) each)
  where
    each : (i : ℕ) → i < length rows → length (row_at rows i) ≤ starts (pairs i) n
    each i l =
        let s = begun i (omega (arith, len)) in
        let e : length (row_at rows i) ≡ starts (pairs i) s.0 = ap length s.1 ∙ length-runs (pairs i) s.0 in
        omega (arith, e, starts-most (pairs i) s.0 n (none i))

-- all rows are done
pub paved : (pairs : ℕ → ℕ → Bool) (n m : ℕ) (rows : List (List Stretch)) → n ≤ m → length rows ≡ n → StandAt pairs n rows 0 n m
    → ((a b : ℕ) → n ≤ b → pairs a b ≡ false) → ((a b : ℕ) → n ≤ a → pairs a b ≡ false) → ArePaved pairs n rows
paved pairs n m rows l len stand none_b none_a = record {
  len = len;
  runs = λ a h. subst (AreRuns (pairs a)) (sym (all a h)) (runs-are (pairs a) n (none_b a));
  none = λ a b h t. let e = none_a a b h in absurd (cc);
  count = subst (λ (k : ℕ). sum_by length rows ≡ sum_below (λ a. starts (pairs a) n) k) len (sum-rows-same rows (λ a. starts (pairs a) n) (λ i h. ap length (all i (omega (arith, len))) ∙ length-runs (pairs i) n));
}
  where
    all : (a : ℕ) → a < n → row_at rows a ≡ reverse (runs_down (pairs a) n)
    all a h =
        let s : n + (m - n) ≡ m = omega arith in
        let e : runs_down (pairs a) m ≡ runs_down (pairs a) n = subst (λ (k : ℕ). runs_down (pairs a) k ≡ runs_down (pairs a) n) s (runs-none (pairs a) n (m - n) (λ j u v. none_b a j u)) in
        stand a (omega arith) h h ∙ ap (λ (l : List Stretch). reverse l) e
