-- The runs below a number are the maximal runs.
use Rattle.std.proofs.Common.{◌≡◌, ℕ, zero, suc, ◌+◌, ◌-◌, ◌<◌, ◌≤◌, Bool, true, false, cond, not, ◌&&◌, List, [], ◌∷◌, ◌++◌, length, reverse, IsTrue, nat_eq, append_assoc, arith, refl, sym, ap, subst, ◌∙◌, ◌⊎◌, inl, inr}
use Rattle.std.proofs.lemmas.Bool.Decides.{nat_tests}
use Rattle.std.proofs.lemmas.List.{append-nil, reverse-append, length-reverse}
use Rattle.tplane_paver.specs.declared.rows.Stretch.{Stretch}
use Rattle.tplane_paver.specs.Rows.{IsInSome, RisesFrom, begins, one_if, starts, AreRuns}
use Rattle.tplane_paver.specs.Paving.{grown, runs_down}

-- the same order, the last one first: all below high, none touching the next
abbrev pub FallsBelow : ℕ → List Stretch → Type 0
FallsBelow high [] = Unit {0}
FallsBelow high (r ∷ rest) = (r.last + 2 ≤ high) × (r.first ≤ r.last) × FallsBelow r.first rest

falls-more : (h k : ℕ) (row : List Stretch) → h ≤ k → FallsBelow h row → FallsBelow k row
falls-more h k [] l f = tt
falls-more h k (r ∷ rest) l f = (omega (arith, f.0), f.1, f.2)

rises-less : (h k : ℕ) (row : List Stretch) → k ≤ h → RisesFrom h row → RisesFrom k row
rises-less h k [] l f = tt
rises-less h k (r ∷ rest) l f = (omega (arith, f.0), f.1, f.2)

falls-in : (h b : ℕ) (row : List Stretch) → FallsBelow h row → IsInSome row b → b + 2 ≤ h
falls-in h b [] f i = absurd i
falls-in h b (r ∷ rest) f (inl here) = omega (arith, f.0, here)
falls-in h b (r ∷ rest) f (inr there) = omega (arith, f.0, f.1, falls-in r.first b rest f.2 there)

pub reverse-cons : (r : Stretch) (rest : List Stretch) → reverse (r ∷ rest) ≡ reverse rest ++ r ∷ []
reverse-cons r rest = reverse-append (r ∷ []) rest

pub rises-reverse : (h : ℕ) (row acc : List Stretch) → FallsBelow h row → RisesFrom h acc → RisesFrom 0 (reverse row ++ acc)
rises-reverse h [] acc f g = rises-less h 0 acc (omega arith) g
rises-reverse h (r ∷ rest) acc f g =
    rw (reverse-cons r rest, append_assoc {A = Stretch}) (rises-reverse r.first rest (r ∷ acc) f.2 (omega arith, f.1, rises-less h (r.last + 2) acc f.0 g))

in-append_left : (xs ys : List Stretch) (b : ℕ) → IsInSome xs b → IsInSome (xs ++ ys) b
in-append_left [] ys b i = absurd i
in-append_left (x ∷ xs) ys b (inl here) = inl here
in-append_left (x ∷ xs) ys b (inr there) = inr (in-append_left xs ys b there)

in-append_right : (xs ys : List Stretch) (b : ℕ) → IsInSome ys b → IsInSome (xs ++ ys) b
in-append_right [] ys b i = i
in-append_right (x ∷ xs) ys b i = inr (in-append_right xs ys b i)

in-append_cases : (xs ys : List Stretch) (b : ℕ) → IsInSome (xs ++ ys) b → IsInSome xs b ⊎ IsInSome ys b
in-append_cases [] ys b i = inr i
in-append_cases (x ∷ xs) ys b (inl here) = inl (inl here)
in-append_cases (x ∷ xs) ys b (inr there) =
    elim (in-append_cases xs ys b there) [ inl l ↦ inl (inr l) | inr r ↦ inr r ]

in-reverse : (row : List Stretch) (b : ℕ) → IsInSome row b → IsInSome (reverse row) b
in-reverse [] b i = absurd i
in-reverse (r ∷ rest) b (inl here) = rw (reverse-cons r rest) (in-append_right (reverse rest) (r ∷ []) b (inl here))
in-reverse (r ∷ rest) b (inr there) = rw (reverse-cons r rest) (in-append_left (reverse rest) (r ∷ []) b (in-reverse rest b there))

in-reversed : (row : List Stretch) (b : ℕ) → IsInSome (reverse row) b → IsInSome row b
in-reversed [] b i = absurd i
in-reversed (r ∷ rest) b i =
    elim (in-append_cases (reverse rest) (r ∷ []) b (rw (reverse-cons r rest) at i)) [
      | inl l ↦ inr (in-reversed rest b l)
      | inr (inl here) ↦ inl here
      | inr (inr none) ↦ absurd none
    ]

-- What holds of the runs below n, the last one first.
pub record IsDown (f : ℕ → Bool) (n : ℕ) (row : List Stretch) : Type 0 where
  pub falls : FallsBelow (suc n) row
  pub sound : (b : ℕ) → IsInSome row b → IsTrue (f b)
  pub full : (b : ℕ) → b < n → IsTrue (f b) → IsInSome row b
  pub count : length row ≡ starts f n

below-suc : (b n : ℕ) → b < suc n → (b < n) ⊎ (b ≡ n)
below-suc b n h = grind arith

-- n is not in f
down-none : (f : ℕ → Bool) (n : ℕ) (row : List Stretch) → IsDown f n row → f n ≡ false → IsDown f (suc n) row
down-none f n row d e = record {
  falls = falls-more (suc n) (suc (suc n)) row (omega arith) d.falls;
  sound = d.sound;
  full = λ b l t. elim (below-suc b n l) [ inl h ↦ d.full b h t | inr same ↦ absurd (let k : f n ≡ true = subst (λ (m : ℕ). f m ≡ true) same t in cc) ];
  count = d.count ∙ no-begin n e;
}
  where
    no-begin : (m : ℕ) → f m ≡ false → starts f m ≡ starts f m + one_if (begins f m)
    no-begin zero g = rw g (omega arith)
    no-begin (suc m) g = rw g (omega arith)

-- whether n begins a run
begins-when : (f : ℕ → Bool) (n : ℕ) → f n ≡ true → ((m : ℕ) → n ≡ suc m → f m ≡ false) → begins f n ≡ true
begins-when f zero e h = e
begins-when f (suc m) e h = rw (e, h m refl)

begins-not : (f : ℕ → Bool) (m n : ℕ) → n ≡ suc m → f m ≡ true → begins f n ≡ false
begins-not f m zero s e = absurd (omega arith)
begins-not f m (suc k) s e = at (f (suc k))
  where
    before : f k ≡ true
    before = subst (λ (j : ℕ). f j ≡ true) (omega arith) e

    at : (x : Bool) → (x && not (f k)) ≡ false
    at true = rw before
    at false = refl

decide : (x : Bool) → (x ≡ true) ⊎ (x ≡ false)
decide true = inl refl
decide false = inr refl

-- n is in f
down-more : (f : ℕ → Bool) (n : ℕ) (row : List Stretch) → IsDown f n row → f n ≡ true → IsDown f (suc n) (grown row n n)
down-more f n [] d e = record {
  falls = (omega arith, omega arith, tt);
  sound = λ b i. only b i;
  full = λ b l t. elim (below-suc b n l) [ inl h ↦ absurd (d.full b h t) | inr same ↦ inl (record { first = omega (arith, same); last = omega (arith, same) }) ];
  count = let z : 0 ≡ starts f n = d.count in let o : begins f n ≡ true = begins-when f n e before in rw o (omega (arith, z));
}
  where
    only : (b : ℕ) → IsInSome (record { first = n; last = n } ∷ []) b → IsTrue (f b)
    only b (inl h) = let s : n ≡ b = omega (arith, h) in subst (λ (m : ℕ). f m ≡ true) s e
    only b (inr none) = absurd none

    before : (m : ℕ) → n ≡ suc m → f m ≡ false
    before m s = elim (decide (f m)) [ inl t ↦ absurd (d.full m (omega arith) t) | inr t ↦ t ]
down-more f n (r ∷ rest) d e = at (nat_eq (r.last + 1) n) refl
  where
    joined : r.last + 1 ≡ n → IsDown f (suc n) (record { first = r.first; last = n } ∷ rest)
    joined s = record {
      falls = (omega arith, omega (arith, d.falls.1), d.falls.2);
      sound = λ b i. into b i;
      full = λ b l t. elim (below-suc b n l) [ inl h ↦ onto b (d.full b h t) | inr same ↦ inl (record { first = omega (arith, same, d.falls.1); last = omega (arith, same) }) ];
      count = let z : begins f n ≡ false = begins-not f r.last n (omega arith) (d.sound r.last (inl (record { first = d.falls.1; last = omega arith }))) in rw z (omega (arith, d.count));
    }
      where
        into : (b : ℕ) → IsInSome (record { first = r.first; last = n } ∷ rest) b → IsTrue (f b)
        into b (inl h) = elim (below-suc b n (omega (arith, h.last))) [
          | inl l ↦ d.sound b (inl (record { first = h.first; last = omega arith }))
          | inr same ↦ subst (λ (m : ℕ). f m ≡ true) (sym same) e
        ]
        into b (inr there) = d.sound b (inr there)

        onto : (b : ℕ) → IsInSome (r ∷ rest) b → IsInSome (record { first = r.first; last = n } ∷ rest) b
        onto b (inl h) = inl (record { first = h.first; last = omega (arith, h.last) })
        onto b (inr there) = inr there

    apart : (r.last + 1 ≡ n → ⊥) → IsDown f (suc n) (record { first = n; last = n } ∷ r ∷ rest)
    apart s = record {
      falls = (omega arith, omega arith, (omega (arith, d.falls.0), d.falls.1, d.falls.2));
      sound = λ b i. into b i;
      full = λ b l t. elim (below-suc b n l) [ inl h ↦ inr (d.full b h t) | inr same ↦ inl (record { first = omega (arith, same); last = omega (arith, same) }) ];
      count = let o : begins f n ≡ true = begins-when f n e before in rw o (omega (arith, d.count));
    }
      where
        into : (b : ℕ) → IsInSome (record { first = n; last = n } ∷ r ∷ rest) b → IsTrue (f b)
        into b (inl h) = let t : n ≡ b = omega (arith, h) in subst (λ (m : ℕ). f m ≡ true) t e
        into b (inr there) = d.sound b there

        before : (m : ℕ) → n ≡ suc m → f m ≡ false
        before m q = elim (decide (f m)) [ inl t ↦ absurd (clash (d.full m (omega arith) t)) | inr t ↦ t ]
          where
            clash : IsInSome (r ∷ rest) m → ⊥
            clash (inl h) = s (omega (arith, h.last, d.falls.0))
            clash (inr there) = omega (arith, falls-in r.first m rest d.falls.2 there, d.falls.1, d.falls.0)

    at : (x : Bool) → nat_eq (r.last + 1) n ≡ x → IsDown f (suc n) (cond x (record { first = r.first; last = n } ∷ rest) (record { first = n; last = n } ∷ r ∷ rest))
    at true t = joined (grind (arith, nat_tests))
    at false t = apart (grind (arith, nat_tests))

down-step : (f : ℕ → Bool) (n : ℕ) (row : List Stretch) (x : Bool) → f n ≡ x → IsDown f n row → IsDown f (suc n) (cond x (grown row n n) row)
down-step f n row true e d = down-more f n row d e
down-step f n row false e d = down-none f n row d e

pub runs-down : (f : ℕ → Bool) (n : ℕ) → IsDown f n (runs_down f n)
runs-down f zero = record { falls = tt; sound = λ b i. absurd i; full = λ b l t. absurd (omega arith); count = refl }
runs-down f (suc n) = down-step f n (runs_down f n) (f n) refl (runs-down f n)

-- Where f has nothing from n on, the runs below n are all of them.
pub runs-are : (f : ℕ → Bool) (n : ℕ) → ((b : ℕ) → n ≤ b → f b ≡ false) → AreRuns f (reverse (runs_down f n))
runs-are f n none = record {
  rises = subst (RisesFrom 0) (append-nil (reverse (runs_down f n))) (rises-reverse (suc n) (runs_down f n) [] (runs-down f n).falls tt);
  same = λ b. (λ i. (runs-down f n).sound b (in-reversed (runs_down f n) b i), λ t. in-reverse (runs_down f n) b ((runs-down f n).full b (below b t) t));
}
  where
    below : (b : ℕ) → IsTrue (f b) → b < n
    below b t = elim (split b) [ inl l ↦ l | inr h ↦ absurd (let k = none b h in cc) ]
      where
        split : (b : ℕ) → (b < n) ⊎ (n ≤ b)
        split b = grind arith

-- each beginning of f below m is one below n, where f has nothing from n on
starts-more : (f : ℕ → Bool) (m k : ℕ) → starts f m ≤ starts f (m + k)
starts-more f m zero = let e : m + 0 ≡ m = omega arith in rw e (omega arith)
starts-more f m (suc k) = let e : m + suc k ≡ suc (m + k) = omega arith in rw e (omega (arith, starts-more f m k))

none-begins : (f : ℕ → Bool) (n : ℕ) → f n ≡ false → begins f n ≡ false
none-begins f zero e = e
none-begins f (suc n) e = rw e

starts-none : (f : ℕ → Bool) (n k : ℕ) → ((b : ℕ) → n ≤ b → f b ≡ false) → starts f (n + k) ≡ starts f n
starts-none f n zero h = ap (starts f) (omega arith)
starts-none f n (suc k) h =
    let e : n + suc k ≡ suc (n + k) = omega arith in
    let z : begins f (n + k) ≡ false = none-begins f (n + k) (h (n + k) (omega arith)) in
    rw (e, z) (omega (arith, starts-none f n k h))

pub starts-most : (f : ℕ → Bool) (m n : ℕ) → ((b : ℕ) → n ≤ b → f b ≡ false) → starts f m ≤ starts f n
starts-most f m n h = elim (split m n) [
  | inl l ↦ subst (λ (k : ℕ). starts f m ≤ starts f k) (omega arith) (starts-more f m (n - m))
  | inr l ↦ let e : n + (m - n) ≡ m = omega arith in subst (λ (k : ℕ). starts f k ≤ starts f n) e (omega (arith, starts-none f n (m - n) h))
]
  where
    split : (m n : ℕ) → (m ≤ n) ⊎ (n ≤ m)
    split m n = grind arith

pub length-runs : (f : ℕ → Bool) (m : ℕ) → length (reverse (runs_down f m)) ≡ starts f m
length-runs f m = simp length-reverse (runs-down f m).count
