-- The least and the greatest ticks of runs.
use Rattle.std.proofs.Common.{◌≡◌, ℕ, ◌+◌, ◌-◌, ◌<◌, ◌≤◌, ◌⊎◌, inl, inr, List, length, get_or, min, max, arith, refl, sym, ap, subst, ◌∙◌}
use Rattle.std.proofs.lemmas.List.{get_or_default}
use Rattle.tplane_paver.proofs.Sweeps.{below-or-same}
use Rattle.tplane_paver.specs.declared.runs.Run.{Run}
use Rattle.tplane_paver.specs.Runs.{run_at, AreInOrder}
use Rattle.tplane_paver.specs.Components.{SpansA, SpansB}

-- rows rise
rows-rise : (runs : List Run) (i j : ℕ) → AreInOrder runs → i ≤ j → j < length runs → (run_at runs i).a ≤ (run_at runs j).a
rows-rise runs i j order h k = at (split i j h)
  where
    split : (i j : ℕ) → i ≤ j → (i < j) ⊎ (j ≡ i)
    split i j h = grind arith

    at : (i < j) ⊎ (j ≡ i) → (run_at runs i).a ≤ (run_at runs j).a
    at (inl l) = (order.order i j l k).rows
    at (inr e) = subst (λ (x : ℕ). (run_at runs i).a ≤ (run_at runs x).a) (sym e) (omega arith)

pub spans-rows : (runs : List Run) (top least greatest : ℕ) → AreInOrder runs → top + 1 ≡ length runs → least ≡ (run_at runs 0).a → greatest ≡ (run_at runs top).a → SpansA runs least greatest
spans-rows runs top least greatest order n e f = record {
  low = λ a b h. omega (arith, e, h.2.row, rows-rise runs 0 h.0 order (omega arith) h.1);
  high = λ a b h. omega (arith, f, h.2.row, rows-rise runs h.0 top order (omega (arith, h.1, n)) (omega (arith, n)));
  at_least = ((run_at runs 0).first, (0, omega (arith, n), record { row = sym e; first = omega arith; last = order.some 0 (omega (arith, n)) }));
  at_greatest = ((run_at runs top).first, (top, omega (arith, n), record { row = sym f; first = omega arith; last = order.some top (omega (arith, n)) }));
}

pub spans-ticks : (runs : List Run) (least greatest : ℕ) → AreInOrder runs → ((i : ℕ) → i < length runs → least ≤ (run_at runs i).first) → ((i : ℕ) × (i < length runs) × (least ≡ (run_at runs i).first))
    → ((i : ℕ) → i < length runs → (run_at runs i).last ≤ greatest) → ((i : ℕ) × (i < length runs) × (greatest ≡ (run_at runs i).last)) → SpansB runs least greatest
spans-ticks runs least greatest order low there high top = record {
  low = λ a b h. omega (arith, low h.0 h.1, h.2.first);
  high = λ a b h. omega (arith, high h.0 h.1, h.2.last);
  at_least = ((run_at runs there.0).a, (there.0, there.1, record { row = refl; first = omega (arith, there.2); last = omega (arith, there.2, order.some there.0 there.1) }));
  at_greatest = ((run_at runs top.0).a, (top.0, top.1, record { row = refl; first = omega (arith, top.2, order.some top.0 top.1); last = omega (arith, top.2) }));
}

-- by the first run and the last one
pub spans-ends : (runs : List Run) (first last : Run) (n : ℕ) → AreInOrder runs → 1 ≤ length runs → n ≡ length runs → first ≡ get_or runs 0 first → last ≡ get_or runs (n - 1) last → SpansA runs first.a last.a
spans-ends runs first last n order some e f g =
    spans-rows runs (n - 1) first.a last.a order (omega (arith, some, e))
    (ap (λ (r : Run). r.a) (f ∙ get_or_default runs 0 first (record { a = 0; first = 0; last = 0 }) (omega (arith, some))))
    (ap (λ (r : Run). r.a) (g ∙ get_or_default runs (n - 1) last (record { a = 0; first = 0; last = 0 }) (omega (arith, some, e))))

-- what is the least of the first ticks so far, or the greatest of the last ones
pub record IsLeastFirst (runs : List Run) (n least : ℕ) : Type 0 where
  pub low : (i : ℕ) → i < n → least ≤ (run_at runs i).first
  pub there : (i : ℕ) × (i < length runs) × (least ≡ (run_at runs i).first)

pub record IsGreatestLast (runs : List Run) (n greatest : ℕ) : Type 0 where
  pub high : (i : ℕ) → i < n → (run_at runs i).last ≤ greatest
  pub there : (i : ℕ) × (i < length runs) × (greatest ≡ (run_at runs i).last)

pub least-more : (runs : List Run) (n least less : ℕ) → n < length runs → IsLeastFirst runs n least → less ≡ min least (run_at runs n).first → IsLeastFirst runs (n + 1) less
least-more runs n least less h was e = record {
  low = λ i k. elim (below-or-same i n k) [ inl l ↦ omega (arith, e, was.low i l) | inr s ↦ subst (λ (x : ℕ). less ≤ (run_at runs x).first) (sym s) (omega (arith, e)) ];
  there = elim (either least (run_at runs n).first) [
    | inl l ↦ (was.there.0, was.there.1, let f : less ≡ least = omega (arith, e, l) in f ∙ was.there.2)
    | inr l ↦ (n, h, omega (arith, e, l))
  ];
}
  where
    either : (x y : ℕ) → (x ≤ y) ⊎ (y ≤ x)
    either x y = grind arith

pub greatest-more : (runs : List Run) (n greatest more : ℕ) → n < length runs → IsGreatestLast runs n greatest → more ≡ max greatest (run_at runs n).last → IsGreatestLast runs (n + 1) more
greatest-more runs n greatest more h was e = record {
  high = λ i k. elim (below-or-same i n k) [ inl l ↦ omega (arith, e, was.high i l) | inr s ↦ subst (λ (x : ℕ). (run_at runs x).last ≤ more) (sym s) (omega (arith, e)) ];
  there = elim (either greatest (run_at runs n).last) [
    | inl l ↦ (n, h, omega (arith, e, l))
    | inr l ↦ (was.there.0, was.there.1, let f : more ≡ greatest = omega (arith, e, l) in f ∙ was.there.2)
  ];
}
  where
    either : (x y : ℕ) → (x ≤ y) ⊎ (y ≤ x)
    either x y = grind arith

-- by two loans of the runs
pub spans-lent : (runs one two : List Run) (least greatest : ℕ) → AreInOrder runs → one ≡ runs → two ≡ runs → ((i : ℕ) → i < length one → least ≤ (run_at one i).first) → ((i : ℕ) × (i < length one) × (least ≡ (run_at one i).first))
    → ((i : ℕ) → i < length two → (run_at two i).last ≤ greatest) → ((i : ℕ) × (i < length two) × (greatest ≡ (run_at two i).last)) → SpansB runs least greatest
spans-lent runs one two least greatest order e f low there high top =
    spans-ticks runs least greatest order (subst (λ (l : List Run). (i : ℕ) → i < length l → least ≤ (run_at l i).first) e low) (subst (λ (l : List Run). (i : ℕ) × (i < length l) × (least ≡ (run_at l i).first)) e there)
    (subst (λ (l : List Run). (i : ℕ) → i < length l → (run_at l i).last ≤ greatest) f high) (subst (λ (l : List Run). (i : ℕ) × (i < length l) × (greatest ≡ (run_at l i).last)) f top)
