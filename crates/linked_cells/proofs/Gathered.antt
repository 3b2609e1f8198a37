-- Cells that are gathered in rising order.
use Rattle.std.proofs.Common.{◌≡◌, ℕ, zero, suc, ◌+◌, ◌<◌, ◌⊎◌, inl, inr, ◌↔◌, List, [], ◌∷◌, ◌++◌, length, length-append, map, get_or, arith, sym, ap, subst, ◌∙◌, All, Contains}
use Rattle.std.specs.List.Sorted.{IsStrictlyIncreasing}
use Rattle.std.proofs.Math.ListN.{get_or-append}
use Rattle.std.proofs.Math.Seq.{get_or-append_seam}
use Rattle.std.proofs.lemmas.List.{map-append}
use Rattle.std.proofs.lemmas.List.Elements.{Contains-append_cases, Contains-append_left, Contains-append_right}
use Rattle.tube_store.specs.declared.CellId.{CellId}
use Rattle.linked_cells.specs.Chosen.{number_in, AreExactly}

split : (j i : ℕ) → j < i + 1 → (j < i) ⊎ (j ≡ i)
split j i h = grind arith

pub exactly-none : (Holds : ℕ → Type 0) (cells : List CellId) → cells ≡ [] → AreExactly Holds 0 cells
exactly-none Holds cells e = subst (AreExactly Holds 0) (sym e) (record {
  rising = λ k l. absurd (omega (arith, l));
  named = λ k d l. absurd (omega (arith, l));
  exact = λ k l. absurd (omega (arith, l));
})

-- the next cell is not of the set
pub exactly-skip : (Holds : ℕ → Type 0) (n : ℕ) (cells : List CellId) → AreExactly Holds n cells → (Holds n → ⊥) → AreExactly Holds (n + 1) cells
exactly-skip Holds n cells h none = record {
  rising = h.rising;
  named = λ k d l. omega (arith, h.named k d l);
  exact = λ k l. elim (split k n l) [
    | inl s ↦ h.exact k s
    | inr e ↦ (
      λ m. absurd (omega (arith, e, m.2, h.named m.0 k m.1)),
      λ holds. absurd (none (subst Holds e holds)),
    )
  ];
}

-- the next cell is of the set
pub exactly-more : (Holds : ℕ → Type 0) (n : ℕ) (cells more : List CellId) (c : CellId) → c.0 ≡ n → more ≡ cells ++ c ∷ [] → AreExactly Holds n cells → Holds n → AreExactly Holds (n + 1) more
exactly-more Holds n cells more c e g h holds = subst (AreExactly Holds (n + 1)) (sym g) (record {
  rising = subst IsStrictlyIncreasing (sym grown) rising;
  named = subst (All (λ k. k < n + 1)) (sym grown) named;
  exact = λ k l. subst (λ (ms : List ℕ). Contains ms k ↔ Holds k) (sym grown) (exact k l);
})
  where
    ks : List ℕ
    ks = map number_in cells

    grown : map number_in (cells ++ c ∷ []) ≡ ks ++ c.0 ∷ []
    grown = map-append number_in cells (c ∷ [])

    long : length (ks ++ c.0 ∷ []) ≡ length ks + 1
    long = length-append ks (c.0 ∷ [])

    old : (k d : ℕ) → k < length ks → get_or (ks ++ c.0 ∷ []) k d ≡ get_or ks k d
    old k d l = get_or-append ks (c.0 ∷ []) d k l

    new : (d : ℕ) → get_or (ks ++ c.0 ∷ []) (length ks) d ≡ c.0
    new d = get_or-append_seam ks c.0 [] d

    rising : IsStrictlyIncreasing (ks ++ c.0 ∷ [])
    rising k l = elim (split (k + 1) (length ks) (omega (arith, l, long))) [
      | inl s ↦ omega (arith, old k 0 (omega (arith, s)), old (k + 1) 0 s, h.rising k s)
      | inr s ↦ omega (arith, old k 0 (omega (arith, s)), ap (λ (i : ℕ). get_or (ks ++ c.0 ∷ []) i 0) s, new 0, e, h.named k 0 (omega (arith, s)))
    ]

    named : All (λ k. k < n + 1) (ks ++ c.0 ∷ [])
    named k d l = elim (split k (length ks) (omega (arith, l, long))) [
      | inl s ↦ omega (arith, old k d s, h.named k d s)
      | inr s ↦ omega (arith, ap (λ (i : ℕ). get_or (ks ++ c.0 ∷ []) i d) s, new d, e)
    ]

    exact : (k : ℕ) → k < n + 1 → Contains (ks ++ c.0 ∷ []) k ↔ Holds k
    exact k l = elim (split k n l) [
      | inl s ↦ (
        λ m. elim (Contains-append_cases ks (c.0 ∷ []) k m) [ inl f ↦ (h.exact k s).0 f | inr f ↦ absurd (one f.0 f.1 f.2 s) ],
        λ g. Contains-append_left ks (c.0 ∷ []) k ((h.exact k s).1 g),
      )
      | inr s ↦ (
        λ m. subst Holds (sym s) holds,
        λ g. Contains-append_right ks (c.0 ∷ []) k (0, omega arith, e ∙ sym s),
      )
    ]
      where
        one : (i : ℕ) → i < 1 → get_or (c.0 ∷ []) i k ≡ k → k < n → ⊥
        one zero u v s = omega (arith, v, e, s)
        one (suc i) u v s = omega (arith, u)

-- the same cells, of another set that has the same ones
pub exactly-as : (Holds Other : ℕ → Type 0) (n : ℕ) (cells : List CellId) → ((k : ℕ) → k < n → Holds k ↔ Other k) → AreExactly Holds n cells → AreExactly Other n cells
exactly-as Holds Other n cells same h = record {
  rising = h.rising;
  named = h.named;
  exact = λ k l. (λ m. (same k l).0 ((h.exact k l).0 m), λ o. (h.exact k l).1 ((same k l).1 o));
}
