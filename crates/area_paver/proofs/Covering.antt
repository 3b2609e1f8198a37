-- Runs that are added, and where the furthest of them ends.
use Rattle.std.proofs.Common.{◌≡◌, ◌↔◌, ◌≢◌, ◌⊎◌, inl, inr, ℕ, zero, suc, ◌+◌, ◌<◌, ◌≤◌, max, Bool, true, false, cond, nat_lt, List, length, set, get_or, slice_index, arith, refl, sym, subst, ap, ◌∙◌}
use Rattle.std.proofs.lemmas.Bool.Decides.{nat_tests}
use Rattle.std.proofs.lemmas.List.{get_or-set_same, get_or-set_other}
use Rattle.area_paver.specs.Runs.{IsCovered, IsMarkBy, Covers, mark_at}
use Rattle.area_paver.specs.declared.chart.Mark.{Mark}
use Rattle.area_paver.specs.declared.chart.Mark.TheVariants.{Never, Seen, Open}

order : (a b : ℕ) → (a < b) ⊎ (b ≤ a)
order a b = grind arith

same : (a b : ℕ) → (a ≡ b) ⊎ (a ≢ b)
same a b = grind arith

-- one run more
pub covered-set : (ends : List ℕ) (s e v c : ℕ) → s < length ends → v ≡ max (slice_index ends s) e → IsCovered (set ends s v) c ↔ (IsCovered ends c ⊎ ((s ≤ c) × (c < e)))
covered-set ends s e v c named is = (forth, back)
  where
    at-s : slice_index (set ends s v) s ≡ v
    at-s = get_or-set_same ends s v 0 named

    beside : (j : ℕ) → j ≢ s → slice_index (set ends s v) j ≡ slice_index ends j
    beside j n = get_or-set_other ends s j v 0 n

    forth : IsCovered (set ends s v) c → IsCovered ends c ⊎ ((s ≤ c) × (c < e))
    forth h =
        elim (same h.start s) [
          | inl i ↦
              let here : c < v = subst (λ (n : ℕ). c < n) (ap (slice_index (set ends s v)) i ∙ at-s) h.ends in
              let from : s ≤ c = omega (arith, i, h.begins) in
              elim (order c e) [ inl l ↦ inr (from, l) | inr g ↦ inl (record { start = s; begins = from; ends = omega (arith, here, g, is) }) ]
          | inr n ↦ inl (record { start = h.start; begins = h.begins; ends = subst (λ (m : ℕ). c < m) (beside h.start n) h.ends })
        ]

    back : IsCovered ends c ⊎ ((s ≤ c) × (c < e)) → IsCovered (set ends s v) c
    back (inl h) =
        elim (same h.start s) [
          | inl i ↦
              let here : c < slice_index ends s = subst (λ (n : ℕ). c < slice_index ends n) i h.ends in
              record { start = s; begins = omega (arith, i, h.begins); ends = subst (λ (n : ℕ). c < n) (sym at-s) (omega (arith, here, is)) }
          | inr n ↦ record { start = h.start; begins = h.begins; ends = subst (λ (m : ℕ). c < m) (sym (beside h.start n)) h.ends }
        ]
    back (inr h) = record { start = s; begins = h.0; ends = subst (λ (n : ℕ). c < n) (sym at-s) (omega (arith, h.1, is)) }

-- no run has begun before the first point, so none is there
pub record IsFurthest (ends : List ℕ) (n e : ℕ) : Type 0 where
  pub all : (j : ℕ) → j < n → slice_index ends j ≤ e
  pub some : (e ≡ 0) ⊎ ((j : ℕ) × (j < n) × (slice_index ends j ≡ e))

pub furthest-none : (ends : List ℕ) → IsFurthest ends 0 0
furthest-none ends = record { all = λ j h. absurd (omega (arith, h)); some = inl refl }

-- the run that begins at a point may end further on
pub furthest-more : (ends : List ℕ) (n e f : ℕ) → IsFurthest ends n e → f ≡ max e (slice_index ends n) → IsFurthest ends (n + 1) f
furthest-more ends n e f h is = record {
  all = λ j l. elim (order j n) [ inl g ↦ let a = h.all j g in omega (arith, a, is) | inr g ↦ let i : j ≡ n = omega (arith, l, g) in let a = ap (slice_index ends) i in omega (arith, a, is) ];
  some = elim (order (slice_index ends n) e) [ inl l ↦ keep l h.some | inr g ↦ inr (n, omega arith, omega (arith, g, is)) ];
}
  where
    keep : slice_index ends n < e → (e ≡ 0) ⊎ ((j : ℕ) × (j < n) × (slice_index ends j ≡ e)) → (f ≡ 0) ⊎ ((j : ℕ) × (j < n + 1) × (slice_index ends j ≡ f))
    keep l (inl z) = absurd (omega (arith, l, z))
    keep l (inr t) = inr (t.0, omega (arith, t.1), omega (arith, t.2, is, l))

-- a point is covered where the furthest run that has begun ends behind it
pub furthest-covers : (ends : List ℕ) (c e : ℕ) → IsFurthest ends (c + 1) e → IsCovered ends c ↔ (c < e)
furthest-covers ends c e h = (
  λ k. let a = h.all k.start (omega (arith, k.begins)) in omega (arith, a, k.ends),
  λ l. found l h.some,
)
  where
    found : c < e → (e ≡ 0) ⊎ ((j : ℕ) × (j < c + 1) × (slice_index ends j ≡ e)) → IsCovered ends c
    found l (inl z) = absurd (omega (arith, l, z))
    found l (inr t) = record { start = t.0; begins = omega (arith, t.1); ends = omega (arith, l, t.2) }

-- the mark by both furthest ends is the mark by the runs
pub mark-is : (sure possible : List ℕ) (c e f : ℕ) → IsFurthest sure (c + 1) e → IsFurthest possible (c + 1) f → IsMarkBy sure possible c (mark_at c e f)
mark-is sure possible c e f h k = by (nat_lt c e) (nat_lt c f) refl refl
  where
    under : (a b : ℕ) → nat_lt a b ≡ true → a < b
    under a b e = grind (arith, nat_tests)

    over : (a b : ℕ) → nat_lt a b ≡ false → b ≤ a
    over a b e = grind (arith, nat_tests)

    by : (x y : Bool) → nat_lt c e ≡ x → nat_lt c f ≡ y → IsMarkBy sure possible c (cond x Seen (cond y Open Never))
    by true y p q = (furthest-covers sure c e h).1 (under c e p)
    by false true p q = (λ g. let l = (furthest-covers sure c e h).0 g in let o = over c e p in omega (arith, l, o), (furthest-covers possible c f k).1 (under c f q))
    by false false p q = (
      λ g. let l = (furthest-covers sure c e h).0 g in let o = over c e p in omega (arith, l, o),
      λ g. let l = (furthest-covers possible c f k).0 g in let o = over c f q in omega (arith, l, o),
    )

-- where all ends are 0 nothing is covered
pub covers-none : (ends : List ℕ) (count : ℕ) (test : ℕ → ℕ → Bool) → ((j : ℕ) → slice_index ends j ≡ 0) → Covers ends count 0 test
covers-none ends count test z c l = (λ h. absurd (let e = z h.start in omega (arith, e, h.ends)), λ h. absurd (omega (arith, h.1)))

-- the points of one tick more
pub covers-more : (ends more : List ℕ) (count k : ℕ) (test : ℕ → ℕ → Bool) → Covers ends count k test
    → ((c : ℕ) → c < count → IsCovered more c ↔ (IsCovered ends c ⊎ (test k c ≡ true))) → Covers more count (k + 1) test
covers-more ends more count k test h step c l = (
  λ g. elim ((step c l).0 g) [ inl a ↦ let t = (h c l).0 a in (t.0, omega (arith, t.1), t.2) | inr b ↦ (k, omega arith, b) ],
  λ t. elim (order t.0 k) [
    | inl a ↦ (step c l).1 (inl ((h c l).1 (t.0, a, t.2)))
    | inr b ↦ let i : t.0 ≡ k = omega (arith, t.1, b) in (step c l).1 (inr (subst (λ (n : ℕ). test n c ≡ true) i t.2))
  ],
)
