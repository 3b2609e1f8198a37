-- Runs that are merged one by one in the order of their beginnings.
use Rattle.std.proofs.Common.{◌≡◌, ◌≢◌, ℕ, ◌+◌, ◌-◌, ◌<◌, ◌≤◌, Bool, false, IsTrue, ◌⊎◌, inl, inr, List, [], ◌∷◌, ◌++◌, length, length-append, get_or, set, max, arith, sym, ap, subst, ◌∙◌, ◌↔◌, get_or-set_same, get_or-set_other}
use Rattle.std.specs.Ordering.{is_lt}
use Rattle.std.specs.Cmp.{IsTotalOrder}
use Rattle.std.specs.List.Sorted.{IsPermutation, IsSortedByKey}
use Rattle.std.proofs.Math.ListN.{length-set}
use Rattle.std.proofs.lemmas.Cmp.{nat_cmp_total, then_total, on_total}
use Rattle.std.proofs.lemmas.Bool.Decides.{nat_tests}
use Rattle.std.proofs.lemmas.List.{get_or_default, get_or_append_left}
use Rattle.std.proofs.lemmas.List.Sorted.{ranks_by, sorted_far, Contains-permutation, IsPermutation-sym}
use Rattle.std.proofs.Math.Seq.{get_or-append_seam}
use Rattle.tplane_paver.specs.declared.runs.Run.{Run}
use Rattle.tplane_paver.specs.Runs.{InRun, InRuns, run_at, IsBefore, AreInOrder}
use Rattle.loop_degree.proofs.Searching.{pair_cmp}
use Rattle.loop_sets.specs.CellRuns.{HavePairs, BeginsUpTo, AllBeginUpTo, BeginInOrder, JoinsLast}
use Rattle.loop_sets.proofs.Lists.{split, below-or-same}

-- places of a list with one run more
at-old : (xs : List Run) (r : Run) (i : ℕ) → i < length xs → run_at (xs ++ r ∷ []) i ≡ run_at xs i
at-old xs r i l = get_or_append_left xs (r ∷ []) (record { a = 0; first = 0; last = 0 }) i l

at-new : (xs : List Run) (r : Run) → run_at (xs ++ r ∷ []) (length xs) ≡ r
at-new xs r = get_or-append_seam xs r [] (record { a = 0; first = 0; last = 0 })

place : (xs : List Run) (r : Run) (i : ℕ) → i < length (xs ++ r ∷ []) → (i < length xs) ⊎ (i ≡ length xs)
place xs r i l = below-or-same i (length xs) (omega (arith, l, length-append xs (r ∷ [])))

begins-far : (p q r : Run) → IsBefore p q → BeginsUpTo q r → q.first ≤ q.last → (q.a ≡ r.a → q.last + 1 < r.first) → IsBefore p r
begins-far p q r before begins some apart = record {
  rows = omega (arith, before.rows, begins.rows);
  apart = λ e. omega (arith, before.apart (omega (arith, e, before.rows, begins.rows)), apart (omega (arith, e, before.rows, begins.rows)), some);
}

-- the last run of a list ends before the run
abbrev pub IsClear : List Run → Run → Type 0
IsClear xs r = 0 < length xs → (run_at xs (length xs - 1)).a ≡ r.a → (run_at xs (length xs - 1)).last + 1 < r.first

pub clear-of : (xs : List Run) (r : Run) (b : Bool) → IsTrue b ↔ JoinsLast xs r → b ≡ false → IsClear xs r
clear-of xs r b h e some row =
    elim (split ((run_at xs (length xs - 1)).last + 1) r.first) [
      | inl l ↦ l
      | inr l ↦ absurd (let t = h.1 (record { some = some; row = row; near = l }) in cc)
    ]

before-new : (xs : List Run) (r : Run) → AreInOrder xs → AllBeginUpTo xs r → IsClear xs r → (i : ℕ) → i < length xs → IsBefore (run_at xs i) r
before-new xs r order later clear i l =
    elim (split i (length xs - 1)) [
      | inl m ↦ begins-far (run_at xs i) (run_at xs (length xs - 1)) r (order.order i (length xs - 1) m (omega (arith, l))) (later (length xs - 1) (omega (arith, l))) (order.some (length xs - 1) (omega (arith, l))) (clear (omega (arith, l)))
      | inr m ↦ let e : length xs - 1 ≡ i = omega (arith, l, m) in record {
        rows = (later i l).rows;
        apart = λ s. subst (λ (j : ℕ). (run_at xs j).last + 1 < r.first) e (clear (omega (arith, l)) (subst (λ (j : ℕ). (run_at xs j).a ≡ r.a) (sym e) s));
      }
    ]

module _ (xs : List Run) (r : Run) (some : r.first ≤ r.last) (order : AreInOrder xs) (later : AllBeginUpTo xs r) where
  pub pushed-order : IsClear xs r → AreInOrder (xs ++ r ∷ [])
  pushed-order clear = record {
    some = λ i l. elim (place xs r i l) [
      | inl m ↦ rw (at-old xs r i m) (order.some i m)
      | inr e ↦ rw (e, at-new xs r) some
    ];
    order = λ i j l m. elim (place xs r j m) [
      | inl n ↦ let k : i < length xs = omega (arith, l, n) in rw (at-old xs r i k, at-old xs r j n) (order.order i j l n)
      | inr e ↦ let k : i < length xs = omega (arith, l, e) in rw (at-old xs r i k, e, at-new xs r) (before-new xs r order later clear i k)
    ];
  }

  pub pushed-later : AllBeginUpTo (xs ++ r ∷ []) r
  pushed-later i l = elim (place xs r i l) [
    | inl m ↦ rw (at-old xs r i m) (later i m)
    | inr e ↦ rw (e, at-new xs r) (record { rows = omega arith; ticks = λ _. omega arith })
  ]

  -- the last run made longer
  module _ (n last : ℕ) (len : n + 1 ≡ length xs) (row : (run_at xs n).a ≡ r.a) (near : r.first ≤ (run_at xs n).last + 1) (longer : last ≡ max (run_at xs n).last r.last) where
    abbrev q : Run
    q = run_at xs n

    abbrev wide : Run
    wide = record { a = (run_at xs n).a; first = (run_at xs n).first; last = last }

    abbrev lengthened : List Run
    lengthened = set xs n wide

    same-len : length (set xs n wide) ≡ length xs
    same-len = length-set xs n wide

    at-last : run_at (set xs n wide) n ≡ wide
    at-last = let l : n < length xs = omega (arith, len) in get_or-set_same xs n wide (record { a = 0; first = 0; last = 0 }) l

    at-other : (i : ℕ) → i ≢ n → run_at (set xs n wide) i ≡ run_at xs i
    at-other i ne = get_or-set_other xs n i wide (record { a = 0; first = 0; last = 0 }) ne

    where-is : (i : ℕ) → i < length (set xs n wide) → (i < n) ⊎ (i ≡ n)
    where-is i l = below-or-same i n (omega (arith, l, same-len, len))

    pub wide-order : AreInOrder (set xs n wide)
    wide-order = record {
      some = λ i l. elim (where-is i l) [
        | inl m ↦ rw (at-other i (omega (arith, m))) (order.some i (omega (arith, m, len)))
        | inr e ↦ rw (e, at-last) (omega (arith, longer, order.some n (omega (arith, len))))
      ];
      order = λ i j l m. elim (where-is j m) [
        | inl k ↦ rw (at-other i (omega (arith, l, k)), at-other j (omega (arith, k))) (order.order i j l (omega (arith, k, len)))
        | inr e ↦ let k : i < n = omega (arith, l, e) in let before = order.order i n k (omega (arith, len)) in
            rw (at-other i (omega (arith, k)), e, at-last) (record { rows = before.rows; apart = before.apart })
      ];
    }

    pub wide-later : AllBeginUpTo (set xs n wide) r
    wide-later i l = elim (where-is i l) [
      | inl m ↦ rw (at-other i (omega (arith, m))) (later i (omega (arith, m, len)))
      | inr e ↦ let k = later n (omega (arith, len)) in rw (e, at-last) (record { rows = k.rows; ticks = k.ticks })
    ]

    wide-in : (a b : ℕ) → InRun (run_at xs n) a b ⊎ InRun r a b → InRuns (set xs n wide) a b
    wide-in a b (inl p) = (n, omega (arith, same-len, len), rw at-last (record { row = p.row; first = p.first; last = omega (arith, longer, p.last) }))
    wide-in a b (inr p) =
        let k = (later n (omega (arith, len))).ticks row in
        (n, omega (arith, same-len, len), rw at-last (record { row = row ∙ p.row; first = omega (arith, k, p.first); last = omega (arith, longer, p.last) }))

    in-wide : (a b : ℕ) → InRun wide a b → InRuns xs a b ⊎ InRun r a b
    in-wide a b p = elim (split (run_at xs n).last b) [
      | inl l ↦ inr (record { row = sym row ∙ p.row; first = omega (arith, near, l); last = omega (arith, longer, p.last, l) })
      | inr l ↦ inl (n, omega (arith, len), record { row = p.row; first = p.first; last = l })
    ]

    pub wide-pairs : (a b : ℕ) → InRuns (set xs n wide) a b ↔ (InRuns xs a b ⊎ InRun r a b)
    wide-pairs a b = (
      λ h. elim (where-is h.0 h.1) [
        | inl m ↦ inl (h.0, omega (arith, m, len), subst (λ (s : Run). InRun s a b) (at-other h.0 (omega (arith, m))) h.2)
        | inr e ↦ in-wide a b (subst (λ (s : Run). InRun s a b) (ap (run_at (set xs n wide)) e ∙ at-last) h.2)
      ],
      λ s. elim s [
        | inl h ↦ elim (below-or-same h.0 n (omega (arith, h.1, len))) [
          | inl m ↦ (h.0, omega (arith, h.1, same-len), rw (at-other h.0 (omega (arith, m))) h.2)
          | inr e ↦ wide-in a b (inl (subst (λ (j : ℕ). InRun (run_at xs j) a b) e h.2))
        ]
        | inr p ↦ wide-in a b (inr p)
      ],
    )

-- the pairs in the first runs of a list
abbrev pub InFirst : List Run → ℕ → ℕ → ℕ → Type 0
InFirst xs n a b = (i : ℕ) × (i < n) × InRun (run_at xs i) a b

pub first-more : (over old new : List Run) (i : ℕ) → ((a b : ℕ) → InRuns old a b ↔ InFirst over i a b) → ((a b : ℕ) → InRuns new a b ↔ (InRuns old a b ⊎ InRun (run_at over i) a b)) → (a b : ℕ) → InRuns new a b ↔ InFirst over (i + 1) a b
first-more over old new i h more a b = (
  λ p. elim ((more a b).0 p) [
    | inl l ↦ let k = (h a b).0 l in (k.0, omega (arith, k.1), k.2)
    | inr r ↦ (i, omega arith, r)
  ],
  λ k. (more a b).1 (elim (below-or-same k.0 i k.1) [
    | inl l ↦ inl ((h a b).1 (k.0, l, k.2))
    | inr e ↦ inr (subst (λ (j : ℕ). InRun (run_at over j) a b) e k.2)
  ]),
)

begins-then : (p q r : Run) → BeginsUpTo p q → BeginsUpTo q r → BeginsUpTo p r
begins-then p q r h k = record { rows = omega (arith, h.rows, k.rows); ticks = λ e. omega (arith, h.ticks (omega (arith, e, h.rows, k.rows)), k.ticks (omega (arith, e, h.rows, k.rows))) }

pub later-more : (over new : List Run) (i : ℕ) → BeginInOrder over → AllBeginUpTo new (run_at over i) → (j : ℕ) → i + 1 ≤ j → j < length over → AllBeginUpTo new (run_at over j)
later-more over new i begin all j l m k n = begins-then (run_at new k) (run_at over i) (run_at over j) (all k n) (begin i j (omega (arith, l)) m)

-- what a sort by the beginnings gives
begin_of : Run → ℕ × ℕ
begin_of r = (r.a, r.first)

pair-total : IsTotalOrder pair_cmp
pair-total = then_total (on_total (λ (p : ℕ × ℕ). p.0) nat_cmp_total) (on_total (λ (p : ℕ × ℕ). p.1) nat_cmp_total)

begins-from : (r s : Run) → is_lt (pair_cmp (s.a, s.first) (r.a, r.first)) ≡ false → BeginsUpTo r s
begins-from r s h = record { rows = grind (arith, nat_tests); ticks = λ e. grind (arith, nat_tests) }

pub begin-sorted : (xs : List Run) → IsSortedByKey (λ (r : Run). let p : ℕ × ℕ = (r.a, r.first) in p) pair_cmp xs → BeginInOrder xs
begin-sorted xs h i j l m = begins-from (run_at xs i) (run_at xs j) (sorted_far _ (ranks_by pair-total (λ (r : Run). let p : ℕ × ℕ = (r.a, r.first) in p)) xs h i j (record { a = 0; first = 0; last = 0 }) l m)

-- a permutation has the same runs
moved : (xs ys : List Run) (i : ℕ) → IsPermutation xs ys → i < length ys → (j : ℕ) × (j < length xs) × (run_at xs j ≡ run_at ys i)
moved xs ys i h l =
    let r = run_at ys i in
    let k = Contains-permutation ys xs r (IsPermutation-sym xs ys h) (i, l, get_or_default ys i r (record { a = 0; first = 0; last = 0 }) l) in
    (k.0, k.1, sym (get_or_default xs k.0 r (record { a = 0; first = 0; last = 0 }) k.1) ∙ k.2)

pub some-sorted : (xs ys : List Run) → IsPermutation xs ys → HavePairs xs → HavePairs ys
some-sorted xs ys h some i l = let k = moved xs ys i h l in subst (λ (r : Run). r.first ≤ r.last) k.2 (some k.0 k.1)

in-sorted : (xs ys : List Run) (a b : ℕ) → IsPermutation xs ys → InRuns ys a b → InRuns xs a b
in-sorted xs ys a b h p = let k = moved xs ys p.0 h p.1 in (k.0, k.1, subst (λ (r : Run). InRun r a b) (sym k.2) p.2)

pub sorted-pairs : (xs ys : List Run) → IsPermutation xs ys → (a b : ℕ) → InRuns ys a b ↔ InRuns xs a b
sorted-pairs xs ys h a b = (in-sorted xs ys a b h, in-sorted ys xs a b (IsPermutation-sym xs ys h))

-- all runs
pub first-all : (over new : List Run) (i : ℕ) → i ≡ length over → ((a b : ℕ) → InRuns new a b ↔ InFirst over i a b) → (a b : ℕ) → InRuns new a b ↔ InRuns over a b
first-all over new i e h = subst (λ (n : ℕ). (a b : ℕ) → InRuns new a b ↔ InFirst over n a b) e h

-- the last run of a list, read twice and written
pub wide-at : (items : List Run) (r : Run) (n : ℕ) (q p : Run) (last : ℕ) → r.first ≤ r.last → AreInOrder items → AllBeginUpTo items r → n ≡ length items → JoinsLast items r
    → q ≡ get_or items (n - 1) q → p ≡ get_or items (n - 1) p → last ≡ max p.last r.last
    → (a b : ℕ) → InRuns (set items (n - 1) (record { a = q.a; first = q.first; last = last })) a b ↔ (InRuns items a b ⊎ InRun r a b)
wide-at items r n q p last some order later len joins read again longer =
    let l : n - 1 < length items = omega (arith, len, joins.some) in
    let m : length items - 1 ≡ n - 1 = omega (arith, len) in
    let e : run_at items (n - 1) ≡ q = sym (read ∙ get_or_default items (n - 1) q (record { a = 0; first = 0; last = 0 }) l) in
    let f : run_at items (n - 1) ≡ p = sym (again ∙ get_or_default items (n - 1) p (record { a = 0; first = 0; last = 0 }) l) in
    subst (λ (s : Run). (a b : ℕ) → InRuns (set items (n - 1) (record { a = s.a; first = s.first; last = last })) a b ↔ (InRuns items a b ⊎ InRun r a b)) e
    (wide-pairs items r some order later (n - 1) last (omega (arith, len, joins.some)) (subst (λ (k : ℕ). (run_at items k).a ≡ r.a) m joins.row)
    (subst (λ (k : ℕ). r.first ≤ (run_at items k).last + 1) m joins.near)
    (let g = ap (λ (s : Run). s.last) f in omega (arith, longer, g)))
