-- Cells over runs of pairs.
use Rattle.std.proofs.lemmas.List.{take_all}
use Rattle.std.proofs.Common.{ap, take, ◌≡◌, ℕ, ◌+◌, ◌-◌, ◌<◌, ◌≤◌, ◌⊎◌, inl, inr, List, [], ◌∷◌, ◌++◌, length, arith, refl, sym, subst, ◌∙◌, ◌↔◌}
use Rattle.tplane_paver.specs.declared.runs.Run.{Run}
use Rattle.tplane_paver.specs.Runs.{InRun, InRuns, run_at, AreInOrder}
use Rattle.loop_degree.specs.Cells.{IsCornerOf}
use Rattle.loop_sets.specs.Cells.{IsCellOf, AreCellsOf, pairs_in}
use Rattle.loop_sets.specs.Bounds.{EndBefore}
use Rattle.loop_sets.specs.CellRuns.{IsOver, IsOverBelow, IsOverSome, HavePairs}
use Rattle.loop_sets.proofs.Lists.{split, below-or-same, run-pushed, push-run}
use Rattle.loop_sets.proofs.Pairs.{pairs-has, pairs-rising}

-- a corner of the cell in a run
corner-in : (r : Run) (gap last a b c : ℕ) → r.first ≤ r.last → r.a ≡ c → a ≤ c → c ≤ a + 1 → IsOver r gap last a b → (p : ℕ × ℕ) × IsCornerOf (a, b) p × InRun r p.0 p.1
corner-in r gap last a b c some row low high over =
    elim (split b r.first) [
      | inl l ↦ ((c, b + 1), record { left = low; right = high; low = omega arith; high = omega arith }, record { row = row; first = over.low; last = omega (arith, l, some) })
      | inr l ↦ ((c, b), record { left = low; right = high; low = omega arith; high = omega arith }, record { row = row; first = l; last = over.high })
    ]

cell-of : (runs : List Run) (gap last a b : ℕ) → HavePairs runs → IsOverSome runs gap last a b → IsCellOf runs gap last (a, b)
cell-of runs gap last a b some h = record {
  valid = λ p k. record { apart = omega (arith, k.right, k.low, h.3.apart); within = omega (arith, k.high, h.3.within) };
  in_set = at h.2;
}
  where
    r : Run
    r = run_at runs h.0

    found : (c : ℕ) → (run_at runs h.0).a ≡ c → a ≤ c → c ≤ a + 1 → (p : ℕ × ℕ) × IsCornerOf (a, b) p × InRuns runs p.0 p.1
    found c row low high = let k = corner-in (run_at runs h.0) gap last a b c (some h.0 h.1) row low high h.3 in (k.0, k.1, (h.0, h.1, k.2))

    at : ((run_at runs h.0).a ≡ a) ⊎ ((run_at runs h.0).a ≡ a + 1) → (p : ℕ × ℕ) × IsCornerOf (a, b) p × InRuns runs p.0 p.1
    at (inl e) = found a e (omega arith) (omega arith)
    at (inr e) = found (a + 1) e (omega arith) (omega arith)

over-of : (runs : List Run) (gap last a b : ℕ) → IsCellOf runs gap last (a, b) → IsOverSome runs gap last a b
over-of runs gap last a b h =
    let upper = h.valid (a + 1, b) (record { left = omega arith; right = omega arith; low = omega arith; high = omega arith }) in
    let later = h.valid (a, b + 1) (record { left = omega arith; right = omega arith; low = omega arith; high = omega arith }) in
    let p = h.in_set.0 in
    let corner = h.in_set.1 in
    let i = h.in_set.2.0 in
    let run = h.in_set.2.2 in (
      i,
      h.in_set.2.1,
      row (run_at runs i).a p.0 a run.row corner.left corner.right,
      record {
        apart = upper.apart;
        within = later.within;
        low = omega (arith, run.first, corner.high);
        high = omega (arith, run.last, corner.low);
      },
    )
  where
    row : (r p a : ℕ) → r ≡ p → a ≤ p → p ≤ a + 1 → (r ≡ a) ⊎ (r ≡ a + 1)
    row r p a e l h = grind arith

-- The pairs in runs of cells are all cells of a set.
pub cells-are : (set runs : List Run) (gap last : ℕ) → AreInOrder set → AreInOrder runs → ((a b : ℕ) → InRuns runs a b ↔ IsOverSome set gap last a b) → AreCellsOf set gap last (pairs_in runs)
cells-are set runs gap last some order same = record {
  rising = pairs-rising runs order;
  same = λ c. (
    λ h. cell-of set gap last c.0 c.1 some.some ((same c.0 c.1).0 ((pairs-has runs c).0 h)),
    λ h. (pairs-has runs c).1 ((same c.0 c.1).1 (over-of set gap last c.0 c.1 h)),
  );
}

-- one run more
pub over-more : (set old new : List Run) (i gap last : ℕ) → ((a b : ℕ) → InRuns old a b ↔ IsOverBelow set i gap last a b)
    → ((a b : ℕ) → InRuns new a b ↔ (InRuns old a b ⊎ ((((run_at set i).a ≡ a) ⊎ ((run_at set i).a ≡ a + 1)) × IsOver (run_at set i) gap last a b)))
    → (a b : ℕ) → InRuns new a b ↔ IsOverBelow set (i + 1) gap last a b
over-more set old new i gap last h more a b = (there, back)
  where
    there : InRuns new a b → IsOverBelow set (i + 1) gap last a b
    there p = elim ((more a b).0 p) [
      | inl l ↦ let k = (h a b).0 l in (k.0, omega (arith, k.1), k.2, k.3)
      | inr r ↦ (i, omega arith, r.0, r.1)
    ]

    back : IsOverBelow set (i + 1) gap last a b → InRuns new a b
    back k = (more a b).1 (elim (below-or-same k.0 i k.1) [
      | inl l ↦ inl ((h a b).1 (k.0, l, k.2, k.3))
      | inr e ↦ inr (subst (λ (j : ℕ). (((run_at set j).a ≡ a) ⊎ ((run_at set j).a ≡ a + 1)) × IsOver (run_at set j) gap last a b) e (k.2, k.3))
    ])

-- the cells of a row, put at the end
pub over-pushed : (items : List Run) (cells run : Run) (a gap last : ℕ) → cells.a ≡ a → ((b : ℕ) → InRun cells a b ↔ IsOver run gap last a b)
    → (c b : ℕ) → InRuns (items ++ cells ∷ []) c b ↔ (InRuns items c b ⊎ ((c ≡ a) × IsOver run gap last c b))
over-pushed items cells run a gap last row same c b = (
  λ h. elim (run-pushed items cells c b h) [
    | inl l ↦ inl l
    | inr p ↦ let e : a ≡ c = sym row ∙ p.row in inr (sym e, subst (λ (d : ℕ). IsOver run gap last d b) e ((same b).0 (subst (λ (d : ℕ). InRun cells d b) (sym e) p)))
  ],
  λ s. push-run items cells c b (elim s [
    | inl l ↦ inl l
    | inr k ↦ inr (subst (λ (d : ℕ). InRun cells d b) (sym k.0) ((same b).1 (subst (λ (d : ℕ). IsOver run gap last d b) k.0 k.1)))
  ]),
)

pub over-none : (items : List Run) (run : Run) (a gap last : ℕ) → ((b : ℕ) → ⊥ ↔ IsOver run gap last a b) → (c b : ℕ) → InRuns items c b ↔ (InRuns items c b ⊎ ((c ≡ a) × IsOver run gap last c b))
over-none items run a gap last none c b = (
  λ h. inl h,
  λ s. elim s [
    | inl l ↦ l
    | inr k ↦ absurd ((none b).1 (subst (λ (d : ℕ). IsOver run gap last d b) k.0 k.1))
  ],
)

-- those of both rows
abbrev pub OfRow : Run → ℕ → ℕ → ℕ → ℕ → Type 0
OfRow run gap last c b = ((run.a ≡ c) ⊎ (run.a ≡ c + 1)) × IsOver run gap last c b

pub over-first : (old new : List Run) (run : Run) (gap last : ℕ) → run.a ≡ 0 → ((c b : ℕ) → InRuns new c b ↔ (InRuns old c b ⊎ ((c ≡ 0) × IsOver run gap last c b)))
    → (c b : ℕ) → InRuns new c b ↔ (InRuns old c b ⊎ OfRow run gap last c b)
over-first old new run gap last row h c b = (
  λ p. elim ((h c b).0 p) [ inl l ↦ inl l | inr k ↦ inr (inl (row ∙ sym k.0), k.1) ],
  λ s. (h c b).1 (elim s [ inl l ↦ inl l | inr k ↦ inr (zero-of run.a c row k.0, k.1) ]),
)
  where
    zero-of : (r c : ℕ) → r ≡ 0 → (r ≡ c) ⊎ (r ≡ c + 1) → c ≡ 0
    zero-of r c e (inl f) = omega (arith, e, f)
    zero-of r c e (inr f) = absurd (omega (arith, e, f))

pub over-both : (old mid new : List Run) (run : Run) (gap last : ℕ) → 0 < run.a → ((c b : ℕ) → InRuns mid c b ↔ (InRuns old c b ⊎ ((c ≡ run.a - 1) × IsOver run gap last c b)))
    → ((c b : ℕ) → InRuns new c b ↔ (InRuns mid c b ⊎ ((c ≡ run.a) × IsOver run gap last c b))) → (c b : ℕ) → InRuns new c b ↔ (InRuns old c b ⊎ OfRow run gap last c b)
over-both old mid new run gap last some h k c b = (
  λ p. elim ((k c b).0 p) [
    | inl l ↦ elim ((h c b).0 l) [ inl m ↦ inl m | inr m ↦ inr (inr (omega (arith, m.0, some)), m.1) ]
    | inr m ↦ inr (inl (sym m.0), m.1)
  ],
  λ s. (k c b).1 (elim s [
    | inl l ↦ inl ((h c b).1 (inl l))
    | inr m ↦ at m.0 m.1
  ]),
)
  where
    at : (run.a ≡ c) ⊎ (run.a ≡ c + 1) → IsOver run gap last c b → InRuns mid c b ⊎ ((c ≡ run.a) × IsOver run gap last c b)
    at (inl e) o = inr (sym e, o)
    at (inr e) o = inl ((h c b).1 (inr (omega (arith, e), o)))

-- all runs
pub over-all : (set new : List Run) (i gap last : ℕ) → i ≡ length set → ((a b : ℕ) → InRuns new a b ↔ IsOverBelow set i gap last a b) → (a b : ℕ) → InRuns new a b ↔ IsOverSome set gap last a b
over-all set new i gap last e h = subst (λ (n : ℕ). (a b : ℕ) → InRuns new a b ↔ IsOverBelow set n gap last a b) e h

-- all cells, by two loans of the runs
pub cells-all : (set lent runs slice : List Run) (items : List (ℕ × ℕ)) (i gap last : ℕ) → AreInOrder set → lent ≡ set → AreInOrder runs → ((a b : ℕ) → InRuns runs a b ↔ IsOverSome lent gap last a b)
    → slice ≡ runs → length slice ≤ i → items ≡ pairs_in (take i slice) → AreCellsOf set gap last items
cells-all set lent runs slice items i gap last order e rising same f l h =
    subst (AreCellsOf set gap last) (sym (h ∙ ap pairs_in (take_all i slice l ∙ f)))
    (cells-are set runs gap last order rising (subst (λ (s : List Run). (a b : ℕ) → InRuns runs a b ↔ IsOverSome s gap last a b) e same))

-- the runs of cells end before the last tick
pub end-before : (set runs : List Run) (gap last : ℕ) → AreInOrder runs → ((a b : ℕ) → InRuns runs a b ↔ IsOverSome set gap last a b) → EndBefore runs last
end-before set runs gap last order same i l =
    let k = (same (run_at runs i).a (run_at runs i).last).0 (i, l, record { row = refl; first = order.some i l; last = omega arith }) in
    (omega (arith, k.3.apart, k.3.within), omega (arith, k.3.within))
