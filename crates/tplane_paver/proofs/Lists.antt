-- Lists of runs: in order, and the pairs in them.
use Rattle.std.proofs.Common.{◌≡◌, ℕ, zero, suc, ◌+◌, ◌<◌, ◌≤◌, ◌⊎◌, inl, inr, Bool, List, [], ◌∷◌, ◌++◌, length, length-append, IsTrue, sum_by, arith, refl, sym, ap, subst, ◌∙◌}
use Rattle.std.proofs.lemmas.List.{length-map}
use Rattle.tplane_paver.specs.declared.rows.Stretch.{Stretch}
use Rattle.tplane_paver.specs.declared.runs.Run.{Run}
use Rattle.tplane_paver.specs.Runs.{InRun, InRuns, run_at, IsBefore, AreInOrder, AreMaximalRuns}
use Rattle.tplane_paver.specs.Rows.{IsInSome, RisesFrom, ArePaved, row_at, row_runs, runs_below, sum_below}
use Rattle.tplane_paver.proofs.Advancing.{sum-rows-same}

-- a run comes before each of a list
abbrev pub Precedes : Run → List Run → Type 0
Precedes r [] = Unit {0}
Precedes r (s ∷ rest) = IsBefore r s × Precedes r rest

abbrev pub PrecedeAll : List Run → List Run → Type 0
PrecedeAll [] ys = Unit {0}
PrecedeAll (r ∷ rest) ys = Precedes r ys × PrecedeAll rest ys

abbrev pub Ascends : List Run → Type 0
Ascends [] = Unit {0}
Ascends (r ∷ rest) = (r.first ≤ r.last) × Precedes r rest × Ascends rest

precedes-append : (r : Run) (xs ys : List Run) → Precedes r xs → Precedes r ys → Precedes r (xs ++ ys)
precedes-append r [] ys p q = q
precedes-append r (x ∷ xs) ys p q = (p.0, precedes-append r xs ys p.1 q)

pub ascends-append : (xs ys : List Run) → Ascends xs → Ascends ys → PrecedeAll xs ys → Ascends (xs ++ ys)
ascends-append [] ys p q all = q
ascends-append (r ∷ rest) ys p q all = (p.0, precedes-append r rest ys p.1 all.0, ascends-append rest ys p.2 q all.1)

precedes-at : (r : Run) (xs : List Run) (j : ℕ) → Precedes r xs → j < length xs → IsBefore r (run_at xs j)
precedes-at r [] j p h = absurd (omega arith)
precedes-at r (x ∷ xs) zero p h = p.0
precedes-at r (x ∷ xs) (suc j) p h = precedes-at r xs j p.1 (omega arith)

some-at : (xs : List Run) → Ascends xs → (i : ℕ) → i < length xs → (run_at xs i).first ≤ (run_at xs i).last
some-at [] p i h = absurd (omega arith)
some-at (x ∷ xs) p zero h = p.0
some-at (x ∷ xs) p (suc i) h = some-at xs p.2 i (omega arith)

order-at : (xs : List Run) → Ascends xs → (i j : ℕ) → i < j → j < length xs → IsBefore (run_at xs i) (run_at xs j)
order-at [] p i j h k = absurd (omega arith)
order-at (x ∷ xs) p i zero h k = absurd (omega arith)
order-at (x ∷ xs) p zero (suc j) h k = precedes-at x xs j p.1 (omega arith)
order-at (x ∷ xs) p (suc i) (suc j) h k = order-at xs p.2 i j (omega arith) (omega arith)

pub ascends-order : (xs : List Run) → Ascends xs → AreInOrder xs
ascends-order xs p = record { some = some-at xs p; order = order-at xs p }

-- the runs of one row
row-precedes : (a low last : ℕ) (first : ℕ) (row : List Stretch) → last + 2 ≤ low → RisesFrom low row → Precedes (record { a = a; first = first; last = last }) (row_runs a row)
row-precedes a low last first [] h rises = tt
row-precedes a low last first (s ∷ rest) h rises =
    (record { rows = omega arith; apart = λ e. omega (arith, rises.0, h) }, row-precedes a (s.last + 2) last first rest (omega (arith, rises.0, rises.1, h)) rises.2)

row-ascends : (a low : ℕ) (row : List Stretch) → RisesFrom low row → Ascends (row_runs a row)
row-ascends a low [] rises = tt
row-ascends a low (s ∷ rest) rises = (rises.1, row-precedes a (s.last + 2) s.last s.first rest (omega arith) rises.2, row-ascends a (s.last + 2) rest rises.2)

-- each run is of a row below n
abbrev pub AreBelow : ℕ → List Run → Type 0
AreBelow n [] = Unit {0}
AreBelow n (r ∷ rest) = (r.a < n) × AreBelow n rest

below-append : (n : ℕ) (xs ys : List Run) → AreBelow n xs → AreBelow n ys → AreBelow n (xs ++ ys)
below-append n [] ys p q = q
below-append n (x ∷ xs) ys p q = (p.0, below-append n xs ys p.1 q)

below-more : (n m : ℕ) (xs : List Run) → n ≤ m → AreBelow n xs → AreBelow m xs
below-more n m [] h p = tt
below-more n m (x ∷ xs) h p = (omega (arith, h, p.0), below-more n m xs h p.1)

row-below : (n : ℕ) (row : List Stretch) → AreBelow (suc n) (row_runs n row)
row-below n [] = tt
row-below n (s ∷ rest) = (omega arith, row-below n rest)

runs-below : (rows : List (List Stretch)) (n : ℕ) → AreBelow n (runs_below rows n)
runs-below rows zero = tt
runs-below rows (suc n) = below-append (suc n) (runs_below rows n) (row_runs n (row_at rows n)) (below-more n (suc n) (runs_below rows n) (omega arith) (runs-below rows n)) (row-below n (row_at rows n))

lower-precedes : (n : ℕ) (r : Run) (row : List Stretch) → r.a < n → Precedes r (row_runs n row)
lower-precedes n r [] h = tt
lower-precedes n r (s ∷ rest) h = (record { rows = omega (arith, h); apart = λ e. absurd (omega (arith, h, e)) }, lower-precedes n r rest h)

lower-precede : (n : ℕ) (xs : List Run) (row : List Stretch) → AreBelow n xs → PrecedeAll xs (row_runs n row)
lower-precede n [] row p = tt
lower-precede n (x ∷ xs) row p = (lower-precedes n x row p.0, lower-precede n xs row p.1)

rows-ascend : (rows : List (List Stretch)) (n : ℕ) → ((a : ℕ) → a < n → RisesFrom 0 (row_at rows a)) → Ascends (runs_below rows n)
rows-ascend rows zero h = tt
rows-ascend rows (suc n) h =
    ascends-append (runs_below rows n) (row_runs n (row_at rows n)) (rows-ascend rows n (λ a l. h a (omega arith))) (row-ascends n 0 (row_at rows n) (h n (omega arith)))
    (lower-precede n (runs_below rows n) (row_at rows n) (runs-below rows n))

-- the pairs in a list, from its first run on
abbrev pub InSome : List Run → ℕ → ℕ → Type 0
InSome [] a b = ⊥
InSome (r ∷ rest) a b = InRun r a b ⊎ InSome rest a b

pub some-in : (xs : List Run) (a b : ℕ) → InSome xs a b → InRuns xs a b
some-in [] a b h = absurd h
some-in (r ∷ rest) a b (inl h) = (0, omega arith, h)
some-in (r ∷ rest) a b (inr h) = let k = some-in rest a b h in (suc k.0, omega (arith, k.1), k.2)

pub in-some : (xs : List Run) (a b : ℕ) → InRuns xs a b → InSome xs a b
in-some xs a b h = at xs h.0 h.1 h.2
  where
    at : (xs : List Run) (i : ℕ) → i < length xs → InRun (run_at xs i) a b → InSome xs a b
    at [] i l p = absurd (omega arith)
    at (r ∷ rest) zero l p = inl p
    at (r ∷ rest) (suc i) l p = inr (at rest i (omega arith) p)

pub some-left : (xs ys : List Run) (a b : ℕ) → InSome xs a b → InSome (xs ++ ys) a b
some-left [] ys a b h = absurd h
some-left (x ∷ xs) ys a b (inl h) = inl h
some-left (x ∷ xs) ys a b (inr h) = inr (some-left xs ys a b h)

pub some-right : (xs ys : List Run) (a b : ℕ) → InSome ys a b → InSome (xs ++ ys) a b
some-right [] ys a b h = h
some-right (x ∷ xs) ys a b h = inr (some-right xs ys a b h)

pub some-cases : (xs ys : List Run) (a b : ℕ) → InSome (xs ++ ys) a b → InSome xs a b ⊎ InSome ys a b
some-cases [] ys a b h = inr h
some-cases (x ∷ xs) ys a b (inl h) = inl (inl h)
some-cases (x ∷ xs) ys a b (inr h) = elim (some-cases xs ys a b h) [ inl l ↦ inl (inr l) | inr r ↦ inr r ]

row-some : (n b : ℕ) (row : List Stretch) → IsInSome row b → InSome (row_runs n row) n b
row-some n b [] h = absurd h
row-some n b (s ∷ rest) (inl h) = inl (record { row = refl; first = h.first; last = h.last })
row-some n b (s ∷ rest) (inr h) = inr (row-some n b rest h)

some-row : (n a b : ℕ) (row : List Stretch) → InSome (row_runs n row) a b → (n ≡ a) × IsInSome row b
some-row n a b [] h = absurd h
some-row n a b (s ∷ rest) (inl h) = (h.row, inl (record { first = h.first; last = h.last }))
some-row n a b (s ∷ rest) (inr h) = let k = some-row n a b rest h in (k.0, inr k.1)

some-rows : (rows : List (List Stretch)) (n a b : ℕ) → InSome (runs_below rows n) a b → (a < n) × IsInSome (row_at rows a) b
some-rows rows zero a b h = absurd h
some-rows rows (suc n) a b h = elim (some-cases (runs_below rows n) (row_runs n (row_at rows n)) a b h) [
  | inl l ↦ let k = some-rows rows n a b l in (omega (arith, k.0), k.1)
  | inr r ↦ let k = some-row n a b (row_at rows n) r in (omega (arith, k.0), subst (λ (m : ℕ). IsInSome (row_at rows m) b) k.0 k.1)
]

rows-some : (rows : List (List Stretch)) (n a b : ℕ) → a < n → IsInSome (row_at rows a) b → InSome (runs_below rows n) a b
rows-some rows zero a b h i = absurd (omega (arith, h))
rows-some rows (suc n) a b h i = elim (split a n h) [
  | inl l ↦ some-left (runs_below rows n) (row_runs n (row_at rows n)) a b (rows-some rows n a b l i)
  | inr e ↦ some-right (runs_below rows n) (row_runs n (row_at rows n)) a b
      (subst (λ (m : ℕ). InSome (row_runs n (row_at rows n)) m b) (sym e) (row-some n b (row_at rows n) (subst (λ (m : ℕ). IsInSome (row_at rows m) b) e i)))
]
  where
    split : (a n : ℕ) → a < suc n → (a < n) ⊎ (a ≡ n)
    split a n h = grind arith

sum-last : (g : ℕ → ℕ) (n : ℕ) → sum_below g (suc n) ≡ sum_below g n + g n
sum-last g zero = omega arith
sum-last g (suc n) = let e = sum-last (λ i. g (suc i)) n in omega (arith, e)

length-below : (rows : List (List Stretch)) (n : ℕ) → length (runs_below rows n) ≡ sum_below (λ a. length (row_at rows a)) n
length-below rows zero = refl
length-below rows (suc n) =
    let e : length (runs_below rows (suc n)) ≡ length (runs_below rows n) + length (row_at rows n) =
    length-append (runs_below rows n) (row_runs n (row_at rows n)) ∙ ap (λ (k : ℕ). length (runs_below rows n) + k) (length-map (row_at rows n) (λ s. let r : Run = record { a = n; first = s.first; last = s.last } in r)) in
    omega (arith, e, length-below rows n, sum-last (λ a. length (row_at rows a)) n)

pub length-all : (rows : List (List Stretch)) → length (runs_below rows (length rows)) ≡ sum_by length rows
length-all rows = length-below rows (length rows) ∙ sym (sum-rows-same rows (λ a. length (row_at rows a)) (λ i h. refl))

-- The rows as one list are the maximal runs of all pairs.
pub all-maximal : (pairs : ℕ → ℕ → Bool) (n : ℕ) (rows : List (List Stretch)) → ArePaved pairs n rows → AreMaximalRuns pairs (runs_below rows (length rows))
all-maximal pairs n rows paved = record {
  ordered = ascends-order (runs_below rows (length rows)) (rows-ascend rows (length rows) (λ a h. (paved.runs a (omega (arith, h, paved.len))).rises));
  same = λ a b. (
    λ i. let k = some-rows rows (length rows) a b (in-some (runs_below rows (length rows)) a b i) in ((paved.runs a (omega (arith, k.0, paved.len))).same b).0 k.1,
    λ t. some-in (runs_below rows (length rows)) a b (at a b t (split a n)),
  );
}
  where
    split : (a n : ℕ) → (a < n) ⊎ (n ≤ a)
    split a n = grind arith

    at : (a b : ℕ) → IsTrue (pairs a b) → (a < n) ⊎ (n ≤ a) → InSome (runs_below rows (length rows)) a b
    at a b t (inl h) = rows-some rows (length rows) a b (omega (arith, h, paved.len)) (((paved.runs a h).same b).1 t)
    at a b t (inr h) = absurd (paved.none a b h t)
