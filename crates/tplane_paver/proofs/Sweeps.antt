-- Which runs touch, and a forest of those that hang together.
use Rattle.std.proofs.Common.{◌≡◌, ℕ, ◌+◌, ◌<◌, ◌≤◌, ◌⊎◌, inl, inr, List, ◌++◌, take, drop, length, slice_index, arith, sym, ap, subst, ◌∙◌}
use Rattle.std.proofs.Math.Seq.{take-append_seam}
use Rattle.tplane_paver.specs.declared.runs.Run.{Run}
use Rattle.tplane_paver.specs.Runs.{run_at, IsBefore, AreInOrder}
use Rattle.disjoint_sets.specs.Ways.{Joined, Maps}
use Rattle.disjoint_sets.specs.Trees.{IsParent, IsParentOr, JoinsTrees}
use Rattle.disjoint_sets.proofs.Ways.{joined-self, joined-step, joined-map}
use Rattle.tplane_paver.specs.Forests.{Touch, IsClearOf, Touching, IsSweptTo, IsSwept}

split : (x y : ℕ) → (x < y) ⊎ (y ≤ x)
split x y = grind arith

pub below-or-same : (x y : ℕ) → x < y + 1 → (x < y) ⊎ (x ≡ y)
below-or-same x y h = grind arith

-- what is clear of a run is clear of all later ones
pub clear-later : (r s t : Run) → s.first ≤ s.last → IsBefore s t → IsClearOf r s → IsClearOf r t
clear-later r s t some before clear = record {
  rows = omega (arith, clear.rows, before.rows);
  apart = λ e.
      let same : s.a ≡ t.a = omega (arith, e, clear.rows, before.rows) in
      let near : r.a + 1 ≡ s.a = omega (arith, e, same) in
      omega (arith, clear.apart near, before.apart same, some);
}

-- what is clear of a run does not touch it
pub clear-apart : (r s : Run) → IsClearOf r s → Touch r s → ⊥
clear-apart r s clear touch = let e : r.a + 1 ≡ s.a = omega (arith, clear.rows, touch.a_down) in omega (arith, clear.apart e, touch.b_down)

not-clear : (r s : Run) → (IsClearOf r s → ⊥) → (s.a < r.a + 1) ⊎ ((r.a + 1 ≡ s.a) × (s.first ≤ r.last + 1))
not-clear r s none = at (split s.a (r.a + 1)) (split (r.last + 1) s.first) (split (r.a + 1) s.a)
  where
    at : (s.a < r.a + 1) ⊎ (r.a + 1 ≤ s.a) → (r.last + 1 < s.first) ⊎ (s.first ≤ r.last + 1) → (r.a + 1 < s.a) ⊎ (s.a ≤ r.a + 1) → (s.a < r.a + 1) ⊎ ((r.a + 1 ≡ s.a) × (s.first ≤ r.last + 1))
    at (inl h) k l = inl h
    at (inr h) (inl k) l = absurd (none (record { rows = h; apart = λ e. k }))
    at (inr h) (inr k) (inl l) = absurd (none (record { rows = h; apart = λ e. absurd (omega (arith, e, l)) }))
    at (inr h) (inr k) (inr l) = inr (omega (arith, h, l), k)

-- in a row beside, one run that is not clear and does not touch is past, and so is each later one
past-later : (low i k j : Run) → low.a ≤ i.a → (low.a ≡ i.a → low.last ≤ i.last) → i.first ≤ i.last → k.a ≤ j.a → (k.a ≡ j.a → k.last + 1 < j.first) → IsBefore i k
    → (IsClearOf low j → ⊥) → (Touch i j → ⊥) → Touch k j → ⊥
past-later low i k j rows far some kj kj_apart ik none apart touch = at (not-clear low j none)
  where
    under : k.a + 1 ≡ j.a
    under = at (split k.a j.a)
      where
        at : (k.a < j.a) ⊎ (j.a ≤ k.a) → k.a + 1 ≡ j.a
        at (inl h) = omega (arith, h, touch.a_down)
        at (inr h) = let e : k.a ≡ j.a = omega (arith, h, kj) in absurd (omega (arith, kj_apart e, touch.b_down))

    at : (j.a < low.a + 1) ⊎ ((low.a + 1 ≡ j.a) × (j.first ≤ low.last + 1)) → ⊥
    at (inl h) = omega (arith, h, rows, ik.rows, under)
    at (inr h) =
        let e : low.a ≡ i.a = omega (arith, h.0, rows, ik.rows, under) in
        let f : i.a ≡ k.a = omega (arith, h.0, e, under) in
        apart (record { a_up = omega (arith, f, under); a_down = omega (arith, f, under); b_up = omega (arith, ik.apart f, some, touch.b_up); b_down = omega (arith, h.1, far e) })

-- So from the first run that does not touch, none does.
pub none-later : (runs : List Run) (low i j : ℕ) → AreInOrder runs → low ≤ i → i < j → j < length runs → (IsClearOf (run_at runs low) (run_at runs j) → ⊥) → (Touch (run_at runs i) (run_at runs j) → ⊥)
    → (k : ℕ) → i ≤ k → k < j → Touch (run_at runs k) (run_at runs j) → ⊥
none-later runs low i j order l h n none apart k u v touch = at (split i k)
  where
    weak : ((run_at runs low).a ≤ (run_at runs i).a) × ((run_at runs low).a ≡ (run_at runs i).a → (run_at runs low).last ≤ (run_at runs i).last)
    weak = pick (split low i)
      where
        pick : (low < i) ⊎ (i ≤ low) → ((run_at runs low).a ≤ (run_at runs i).a) × ((run_at runs low).a ≡ (run_at runs i).a → (run_at runs low).last ≤ (run_at runs i).last)
        pick (inl s) = let before = order.order low i s (omega (arith, h, n)) in (before.rows, λ e. omega (arith, before.apart e, order.some i (omega (arith, h, n))))
        pick (inr s) = let e : i ≡ low = omega (arith, s, l) in subst (λ (x : ℕ). ((run_at runs low).a ≤ (run_at runs x).a) × ((run_at runs low).a ≡ (run_at runs x).a → (run_at runs low).last ≤ (run_at runs x).last)) (sym e) (omega arith, λ f. omega arith)

    at : (i < k) ⊎ (k ≤ i) → ⊥
    at (inl s) = past-later (run_at runs low) (run_at runs i) (run_at runs k) (run_at runs j) weak.0 weak.1 (order.some i (omega (arith, h, n))) (order.order k j v n).rows (order.order k j v n).apart (order.order i k s (omega (arith, v, n))) none apart touch
    at (inr s) = let e : k ≡ i = omega (arith, s, u) in apart (subst (λ (x : ℕ). Touch (run_at runs x) (run_at runs j)) e touch)

pub swept-start : (runs : List Run) (parents : List ℕ) → length parents ≡ length runs → ((k : ℕ) → k < length runs → slice_index parents k ≡ k) → IsSwept runs parents 0
swept-start runs parents len own = record {
  len = len;
  down = λ i l. omega (arith, own i (omega (arith, l, len)));
  sound = λ i j e. joined-self (Touching runs) i j (sym (own i (omega (arith, e.0, len))) ∙ e.1);
  done = λ j k h l. absurd (omega (arith, l));
  near = λ j h. absurd (omega (arith, h));
}

-- the runs that are clear need not be looked at
pub swept-low : (runs : List Run) (parents : List ℕ) (m low : ℕ) → IsSwept runs parents m → ((k : ℕ) → k < low → IsClearOf (run_at runs k) (run_at runs m)) → IsSweptTo runs parents m low
swept-low runs parents m low h clear = record {
  len = h.len;
  down = h.down;
  sound = h.sound;
  done = h.done;
  near = λ j l t. absurd (clear-apart (run_at runs j) (run_at runs m) (clear j l) t);
}

-- a run that touches is joined
pub swept-join : (runs : List Run) (old new : List ℕ) (m i : ℕ) → IsSweptTo runs old m i → i < m → m < length runs → Touch (run_at runs i) (run_at runs m) → JoinsTrees old new i m → IsSweptTo runs new m (i + 1)
swept-join runs old new m i h l n touch joins = record {
  len = joins.len ∙ h.len;
  down = joins.down;
  sound = λ x y e. joined-map (IsParentOr old i m) (Touching runs) sound x y (joins.back x y e);
  done = λ j k u v t. keeps j k (h.done j k u v t);
  near = λ j u t. elim (below-or-same j i u) [ inl s ↦ keeps j m (h.near j s t) | inr e ↦ subst (λ (x : ℕ). Joined (IsParent new) x m) (sym e) joins.joined ];
}
  where
    keeps : (x y : ℕ) → Joined (IsParent old) x y → Joined (IsParent new) x y
    keeps x y p = joined-map (IsParent old) (IsParent new) joins.there x y p

    sound : Maps (IsParentOr old i m) (Touching runs)
    sound x y (inl e) = h.sound x y e
    sound x y (inr e) = subst (λ (z : ℕ). Joined (Touching runs) z y) (sym e.0) (subst (Joined (Touching runs) i) (sym e.1) (joined-step (Touching runs) i m (omega (arith, l, n), n, touch)))

-- all that touch are joined
pub swept-next : (runs : List Run) (parents : List ℕ) (m i : ℕ) → IsSweptTo runs parents m i → ((k : ℕ) → i ≤ k → k < m → Touch (run_at runs k) (run_at runs m) → ⊥) → IsSwept runs parents (m + 1)
swept-next runs parents m i h none = record {
  len = h.len;
  down = h.down;
  sound = h.sound;
  done = λ j k u v t. at j k u t (below-or-same k m v);
  near = λ j l. absurd (omega (arith, l));
}
  where
    at : (j k : ℕ) → j < k → Touch (run_at runs j) (run_at runs k) → (k < m) ⊎ (k ≡ m) → Joined (IsParent parents) j k
    at j k u t (inl s) = h.done j k u s t
    at j k u t (inr e) =
        let touch : Touch (run_at runs j) (run_at runs m) = subst (λ (x : ℕ). Touch (run_at runs j) (run_at runs x)) e t in
        subst (Joined (IsParent parents) j) (sym e) (elim (split j i) [ inl s ↦ h.near j s touch | inr s ↦ absurd (none j s (omega (arith, u, e)) touch) ])

-- a lent slice that is written back whole
pub written-back : (n : ℕ) (new old : List ℕ) → n ≡ length new → take n (new ++ drop (length new) old) ≡ new
written-back n new old e = ap (λ (k : ℕ). take k (new ++ drop (length new) old)) e ∙ take-append_seam new (drop (length new) old)
