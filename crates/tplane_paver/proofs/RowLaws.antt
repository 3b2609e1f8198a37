-- A row of runs that grows by stretches.
use Rattle.std.proofs.Common.{◌≡◌, ℕ, zero, suc, ◌+◌, ◌<◌, ◌≤◌, Bool, true, false, cond, List, [], ◌∷◌, nat_eq, arith, refl, ap, ◌∙◌}
use Rattle.std.proofs.lemmas.Bool.Decides.{nat_tests}
use Rattle.tplane_paver.specs.declared.rows.Stretch.{Stretch}
use Rattle.tplane_paver.specs.Paving.{grown, runs_down}

pub grown-twice : (row : List Stretch) (first last : ℕ) → grown (grown row first last) (suc last) (suc last) ≡ grown row first (suc last)
grown-twice [] first last = grown-joins first last (suc last) []
  where
    grown-joins : (a b c : ℕ) (rest : List Stretch) → grown (record { first = a; last = b } ∷ rest) (suc b) c ≡ record { first = a; last = c } ∷ rest
    grown-joins a b c rest = let e : nat_eq (b + 1) (suc b) ≡ true = grind (arith, nat_tests) in rw e
grown-twice (r ∷ rest) first last = at (nat_eq (r.last + 1) first) refl
  where
    same : nat_eq (last + 1) (suc last) ≡ true
    same = grind (arith, nat_tests)

    at : (joins : Bool) → nat_eq (r.last + 1) first ≡ joins
        → grown (cond joins (record { first = r.first; last = last } ∷ rest) (record { first = first; last = last } ∷ r ∷ rest)) (suc last) (suc last)
        ≡ cond joins (record { first = r.first; last = suc last } ∷ rest) (record { first = first; last = suc last } ∷ r ∷ rest)
    at true e = rw same
    at false e = rw same

-- none of f from m on for k numbers
pub runs-none : (f : ℕ → Bool) (m k : ℕ) → ((b : ℕ) → m ≤ b → b < m + k → f b ≡ false) → runs_down f (m + k) ≡ runs_down f m
runs-none f m zero h = ap (runs_down f) (omega arith)
runs-none f m (suc k) h =
    let e : m + suc k ≡ suc (m + k) = omega arith in
    let fails : f (m + k) ≡ false = h (m + k) (omega arith) (omega arith) in
    let rest : runs_down f (m + k) ≡ runs_down f m = runs-none f m k (λ b p q. h b p (omega arith)) in
    rw (e, fails) rest

-- all of f from m to m + k
pub runs-all : (f : ℕ → Bool) (m k : ℕ) → ((b : ℕ) → m ≤ b → b ≤ m + k → f b ≡ true) → runs_down f (suc (m + k)) ≡ grown (runs_down f m) m (m + k)
runs-all f m zero h =
    let e : m + 0 ≡ m = omega arith in
    let stands : f m ≡ true = h m (omega arith) (omega arith) in
    rw (e, stands)
runs-all f m (suc k) h =
    let e : m + suc k ≡ suc (m + k) = omega arith in
    let stands : f (suc (m + k)) ≡ true = h (suc (m + k)) (omega arith) (omega arith) in
    let rest : runs_down f (suc (m + k)) ≡ grown (runs_down f m) m (m + k) = runs-all f m k (λ b p q. h b p (omega arith)) in
    rw e (more (suc (m + k)) stands (ap (λ (l : List Stretch). grown l (suc (m + k)) (suc (m + k))) rest ∙ grown-twice (runs_down f m) m (m + k)))
  where
    more : (n : ℕ) → f n ≡ true → grown (runs_down f n) n n ≡ grown (runs_down f m) m n → runs_down f (suc n) ≡ grown (runs_down f m) m n
    more n stands e = rw stands e
