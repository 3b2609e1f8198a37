-- The pairs in runs, one by one.
use Rattle.std.proofs.Common.{◌≡◌, ℕ, zero, suc, ◌+◌, ◌-◌, ◌<◌, ◌≤◌, true, ◌⊎◌, inl, inr, List, [], ◌∷◌, ◌++◌, take, length, get_or, arith, refl, sym, ap, subst, ◌∙◌, ◌↔◌, append_assoc, add-one}
use Rattle.std.specs.List.{AllByRecursion}
use Rattle.std.proofs.lemmas.Bool.{or_cases, or_left, or_right, eq-eqb}
use Rattle.std.proofs.lemmas.List.{take_more, append-nil}
use Rattle.tplane_paver.specs.declared.runs.Run.{Run}
use Rattle.tplane_paver.specs.Runs.{InRuns, run_at, AreInOrder}
use Rattle.tplane_paver.proofs.Lists.{InSome, some-in, in-some}
use Rattle.loop_degree.specs.Pairs.{IsBefore, IsRising, has, is_same}
use Rattle.loop_degree.proofs.Sharing.{same_pair}
use Rattle.loop_degree.proofs.Alls.{all-append, all-has}
use Rattle.loop_sets.specs.Cells.{column, ticks_in, pairs_in}
use Rattle.loop_sets.proofs.Lists.{split, order-tail}

same-of : (p q : ℕ × ℕ) → p.0 ≡ q.0 → p.1 ≡ q.1 → is_same p q ≡ true
same-of p q e f = rw (eq-eqb p.0 q.0 e, eq-eqb p.1 q.1 f) refl

pub has-append : (xs ys : List (ℕ × ℕ)) (p : ℕ × ℕ) → has (xs ++ ys) p ≡ true → (has xs p ≡ true) ⊎ (has ys p ≡ true)
has-append [] ys p h = inr h
has-append (x ∷ xs) ys p h =
    elim (or_cases (is_same x p) (has (xs ++ ys) p) h) [
      | inl e ↦ inl (or_left (is_same x p) (has xs p) e)
      | inr t ↦ elim (has-append xs ys p t) [ inl l ↦ inl (or_right (is_same x p) (has xs p) l) | inr r ↦ inr r ]
    ]

pub has-left : (xs ys : List (ℕ × ℕ)) (p : ℕ × ℕ) → has xs p ≡ true → has (xs ++ ys) p ≡ true
has-left [] ys p h = absurd (cc)
has-left (x ∷ xs) ys p h =
    elim (or_cases (is_same x p) (has xs p) h) [
      | inl e ↦ or_left (is_same x p) (has (xs ++ ys) p) e
      | inr t ↦ or_right (is_same x p) (has (xs ++ ys) p) (has-left xs ys p t)
    ]

pub has-right : (xs ys : List (ℕ × ℕ)) (p : ℕ × ℕ) → has ys p ≡ true → has (xs ++ ys) p ≡ true
has-right [] ys p h = h
has-right (x ∷ xs) ys p h = or_right _ _ (has-right xs ys p h)

-- a pair of a column
pub record InColumn (a b n : ℕ) (p : ℕ × ℕ) : Type 0 where
  pub row : p.0 ≡ a
  pub low : b ≤ p.1
  pub high : p.1 < b + n

pub column-pair : (a b n : ℕ) (p : ℕ × ℕ) → has (column a b n) p ≡ true → InColumn a b n p
column-pair a b zero p h = absurd (cc)
column-pair a b (suc n) p h =
    elim (or_cases _ _ h) [
      | inl e ↦ let s = same_pair (a, b) p e in let f = ap (λ (q : ℕ × ℕ). q.0) s in let g = ap (λ (q : ℕ × ℕ). q.1) s in
          record { row = sym f; low = omega (arith, g); high = omega (arith, g) }
      | inr t ↦ let k = column-pair a (b + 1) n p t in record { row = k.row; low = omega (arith, k.low); high = omega (arith, k.high) }
    ]

pub pair-column : (a b n : ℕ) (p : ℕ × ℕ) → InColumn a b n p → has (column a b n) p ≡ true
pair-column a b zero p h = absurd (omega (arith, h.low, h.high))
pair-column a b (suc n) p h =
    elim (split b p.1) [
      | inl l ↦ or_right _ _ (pair-column a (b + 1) n p (record { row = h.row; low = omega (arith, l); high = omega (arith, h.high) }))
      | inr l ↦ or_left _ _ (same-of (a, b) p (sym h.row) (omega (arith, l, h.low)))
    ]

some-pair : (runs : List Run) (p : ℕ × ℕ) → has (pairs_in runs) p ≡ true → InSome runs p.0 p.1
some-pair [] p h = absurd (cc)
some-pair (r ∷ rs) p h =
    elim (has-append (column r.a r.first (ticks_in r)) (pairs_in rs) p h) [
      | inl l ↦ let k = column-pair r.a r.first (ticks_in r) p l in inl (record { row = sym k.row; first = k.low; last = omega (arith, k.low, k.high) })
      | inr t ↦ inr (some-pair rs p t)
    ]

pair-some : (runs : List Run) (p : ℕ × ℕ) → InSome runs p.0 p.1 → has (pairs_in runs) p ≡ true
pair-some [] p h = absurd h
pair-some (r ∷ rs) p (inl h) = has-left (column r.a r.first (ticks_in r)) (pairs_in rs) p (pair-column r.a r.first (ticks_in r) p (record { row = sym h.row; low = h.first; high = omega (arith, h.first, h.last) }))
pair-some (r ∷ rs) p (inr h) = has-right (column r.a r.first (ticks_in r)) (pairs_in rs) p (pair-some rs p h)

-- the list has exactly the pairs in the runs
pub pairs-has : (runs : List Run) (p : ℕ × ℕ) → (has (pairs_in runs) p ≡ true) ↔ InRuns runs p.0 p.1
pairs-has runs p = (λ h. some-in runs p.0 p.1 (some-pair runs p h), λ h. pair-some runs p (in-some runs p.0 p.1 h))

rising-cons : (c : ℕ × ℕ) (cs : List (ℕ × ℕ)) → AllByRecursion (IsBefore c) cs → IsRising cs → IsRising (c ∷ cs)
rising-cons c [] h r k d l = absurd (omega (arith, l))
rising-cons c (x ∷ xs) h r zero d l = h.0
rising-cons c (x ∷ xs) h r (suc k) d l =
    let e : suc k + 1 ≡ suc (k + 1) = omega arith in
    subst (λ (n : ℕ). IsBefore (get_or (x ∷ xs) k d) (get_or (c ∷ x ∷ xs) n d)) (sym e) (r k d (omega (arith, l)))

rises-column : (a b n : ℕ) (rest : List (ℕ × ℕ)) → IsRising rest → ((p : ℕ × ℕ) → has rest p ≡ true → (m : ℕ) → m < b + n → IsBefore (a, m) p) → IsRising (column a b n ++ rest)
rises-column a b zero rest r after = r
rises-column a b (suc n) rest r after =
    rising-cons (a, b) (column a (b + 1) n ++ rest)
    (all-append (IsBefore (a, b)) (column a (b + 1) n) rest
    (all-has (IsBefore (a, b)) (column a (b + 1) n) (λ p h. let k = column-pair a (b + 1) n p h in (omega (arith, k.row), λ _. omega (arith, k.low))))
    (all-has (IsBefore (a, b)) rest (λ p h. after p h b (omega arith))))
    (rises-column a (b + 1) n rest r (λ p h m l. after p h m (omega (arith, l))))

pub pairs-rising : (runs : List Run) → AreInOrder runs → IsRising (pairs_in runs)
pairs-rising [] order = λ k d l. absurd (omega (arith, l))
pairs-rising (r ∷ rs) order =
    rises-column r.a r.first (ticks_in r) (pairs_in rs) (pairs-rising rs (order-tail r rs order)) (λ p h m l.
    let k = (pairs-has rs p).0 h in
    let before = order.order 0 (suc k.0) (omega arith) (omega (arith, k.1)) in
    let some = order.some 0 (omega arith) in
    (omega (arith, before.rows, k.2.row), λ e. omega (arith, before.apart (omega (arith, e, k.2.row)), k.2.first, l, some)))

pairs-append : (xs ys : List Run) → pairs_in (xs ++ ys) ≡ pairs_in xs ++ pairs_in ys
pairs-append [] ys = refl
pairs-append (x ∷ xs) ys = ap (λ (ps : List (ℕ × ℕ)). column x.a x.first (ticks_in x) ++ ps) (pairs-append xs ys) ∙ sym (append_assoc (column x.a x.first (ticks_in x)) (pairs_in xs) (pairs_in ys))

-- one run more
pub pairs-more : (runs : List Run) (i : ℕ) → i < length runs → pairs_in (take (i + 1) runs) ≡ pairs_in (take i runs) ++ column (run_at runs i).a (run_at runs i).first (ticks_in (run_at runs i))
pairs-more runs i l =
    ap pairs_in (take_more runs i (record { a = 0; first = 0; last = 0 }) l) ∙ pairs-append (take i runs) (run_at runs i ∷ [])
    ∙ ap (λ (ps : List (ℕ × ℕ)). pairs_in (take i runs) ++ ps) (append-nil (column (run_at runs i).a (run_at runs i).first (ticks_in (run_at runs i))))

-- one pair more
pub column-more : (a b n : ℕ) → column a b (n + 1) ≡ column a b n ++ (a, b + n) ∷ []
column-more a b n = rw (add-one n) (at b n)
  where
    at : (b n : ℕ) → column a b (suc n) ≡ column a b n ++ (a, b + n) ∷ []
    at b zero = let e : b + 0 ≡ b = omega arith in rw e refl
    at b (suc n) = let e : b + 1 + n ≡ b + suc n = omega arith in rw (at (b + 1) n, e) refl

pub column-push : (start items more : List (ℕ × ℕ)) (a first b : ℕ) → first ≤ b → items ≡ start ++ column a first (b - first) → more ≡ items ++ (a, b) ∷ [] → more ≡ start ++ column a first (b + 1 - first)
column-push start items more a first b l h e =
    let n : b + 1 - first ≡ (b - first) + 1 = omega arith in
    let m : first + (b - first) ≡ b = omega arith in
    e ∙ ap (λ (ps : List (ℕ × ℕ)). ps ++ (a, b) ∷ []) h ∙ append_assoc start (column a first (b - first)) ((a, b) ∷ [])
    ∙ ap (λ (ps : List (ℕ × ℕ)). start ++ ps) (ap (λ (k : ℕ). column a first (b - first) ++ (a, k) ∷ []) (sym m) ∙ sym (column-more a first (b - first)) ∙ ap (column a first) (sym n))

pub pairs-push : (runs : List Run) (items more : List (ℕ × ℕ)) (i : ℕ) → i < length runs → items ≡ pairs_in (take i runs) → more ≡ items ++ column (run_at runs i).a (run_at runs i).first (ticks_in (run_at runs i)) → more ≡ pairs_in (take (i + 1) runs)
pairs-push runs items more i l h e =
    e ∙ ap (λ (ps : List (ℕ × ℕ)). ps ++ column (run_at runs i).a (run_at runs i).first (ticks_in (run_at runs i))) h ∙ sym (pairs-more runs i l)
