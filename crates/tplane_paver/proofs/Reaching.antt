-- Ways over neighbouring pairs, and the components of gathered runs.
use Rattle.std.proofs.Common.{◌≡◌, ℕ, zero, suc, ◌+◌, ◌-◌, ◌<◌, ◌≤◌, ◌⊎◌, inl, inr, List, length, slice_index, arith, refl, sym, ap, subst, ◌∙◌}
use Rattle.tplane_paver.specs.declared.runs.Run.{Run}
use Rattle.tplane_paver.specs.Runs.{InRun, InRuns, run_at, AreInOrder}
use Rattle.tplane_paver.specs.Components.{IsBeside, Reaches, set_at, AreComponents}
use Rattle.disjoint_sets.specs.Ways.{Way}
use Rattle.disjoint_sets.specs.Trees.{IsParent}
use Rattle.tplane_paver.specs.Forests.{Touch, Touching, IsSwept, AreGathered}

split : (x y : ℕ) → (x ≤ y) ⊎ (y < x)
split x y = grind arith

pub reach-then : (In : ℕ → ℕ → Type 0) (n m a b c d e f : ℕ) → Reaches In n a b c d → Reaches In m c d e f → (l : ℕ) × Reaches In l a b e f
reach-then In zero m a b c d e f p q = (m, subst (λ (x : ℕ). Reaches In m x b e f) (sym p.0) (subst (λ (x : ℕ). Reaches In m c x e f) (sym p.1) q))
reach-then In (suc n) m a b c d e f p q = let r = reach-then In n m p.0 p.1 c d e f p.4 q in (suc r.0, (p.0, p.1, p.2, p.3, r.1))

-- along one row, up and down
reach-up : (In : ℕ → ℕ → Type 0) (a n b : ℕ) → ((x : ℕ) → b ≤ x → x ≤ b + n → In a x) → Reaches In n a b a (b + n)
reach-up In a zero b all = (refl, omega arith)
reach-up In a (suc n) b all =
    let e : b + 1 + n ≡ b + suc n = omega arith in
    let on = reach-up In a n (b + 1) (λ x u v. all x (omega (arith, u)) (omega (arith, v))) in
    (a, b + 1, all (b + 1) (omega arith) (omega arith), record { a_up = omega arith; a_down = omega arith; b_up = omega arith; b_down = omega arith }, subst (λ (x : ℕ). Reaches In n a (b + 1) a x) e on)

reach-down : (In : ℕ → ℕ → Type 0) (a n b : ℕ) → ((x : ℕ) → b ≤ x → x ≤ b + n → In a x) → Reaches In n a (b + n) a b
reach-down In a zero b all = (refl, omega arith)
reach-down In a (suc n) b all =
    (a, b + n, all (b + n) (omega arith) (omega arith), record { a_up = omega arith; a_down = omega arith; b_up = omega arith; b_down = omega arith }, reach-down In a n b (λ x u v. all x u (omega (arith, v))))

-- two pairs of one run
reach-run : (In : ℕ → ℕ → Type 0) (r : Run) (a b c d : ℕ) → ((x y : ℕ) → InRun r x y → In x y) → InRun r a b → InRun r c d → (n : ℕ) × Reaches In n a b c d
reach-run In r a b c d all p q = subst (λ (x : ℕ). (n : ℕ) × Reaches In n a b x d) same (at (split b d))
  where
    same : a ≡ c
    same = sym p.row ∙ q.row

    at : (b ≤ d) ⊎ (d < b) → (n : ℕ) × Reaches In n a b a d
    at (inl h) =
        let e : b + (d - b) ≡ d = omega arith in
        (d - b, subst (λ (x : ℕ). Reaches In (d - b) a b a x) e (reach-up In a (d - b) b (λ x u v. all a x (record { row = p.row; first = omega (arith, u, p.first); last = omega (arith, v, e, q.last) }))))
    at (inr h) =
        let e : d + (b - d) ≡ b = omega arith in
        (b - d, subst (λ (x : ℕ). Reaches In (b - d) a x a d) e (reach-down In a (b - d) d (λ x u v. all a x (record { row = p.row; first = omega (arith, u, q.first); last = omega (arith, v, e, p.last) }))))

-- runs that touch have pairs that are neighbours, or one
record Neighbours (r s : Run) : Type 0 where
  b : ℕ
  d : ℕ
  left : InRun r r.a b
  right : InRun s s.a d
  beside : IsBeside r.a b s.a d

touch-pairs : (r s : Run) (b d : ℕ) → r.first ≤ b → b ≤ r.last → s.first ≤ d → d ≤ s.last → b ≤ d + 1 → d ≤ b + 1 → Touch r s → Neighbours r s
touch-pairs r s b d p q u v l m t = record {
  b = b;
  d = d;
  left = record { row = refl; first = p; last = q };
  right = record { row = refl; first = u; last = v };
  beside = record { a_up = t.a_up; a_down = t.a_down; b_up = l; b_down = m };
}

touch-near : (r s : Run) → r.first ≤ r.last → s.first ≤ s.last → Touch r s → Neighbours r s
touch-near r s p q t = at (split r.last s.first) (split s.last r.first) (split r.first s.first)
  where
    at : (r.last ≤ s.first) ⊎ (s.first < r.last) → (s.last ≤ r.first) ⊎ (r.first < s.last) → (r.first ≤ s.first) ⊎ (s.first < r.first) → Neighbours r s
    at (inl h) k l = touch-pairs r s r.last s.first p (omega arith) (omega arith) q (omega (arith, h)) t.b_down t
    at (inr h) (inl k) l = touch-pairs r s r.first s.last (omega arith) p q (omega arith) t.b_up (omega (arith, k)) t
    at (inr h) (inr k) (inl l) = touch-pairs r s s.first s.first l (omega (arith, h)) (omega arith) q (omega arith) (omega arith) t
    at (inr h) (inr k) (inr l) = touch-pairs r s r.first r.first (omega arith) p (omega (arith, l)) (omega (arith, k)) (omega arith) (omega arith) t

-- neighbours lie in runs that touch
near-touch : (r s : Run) (a b c d : ℕ) → InRun r a b → InRun s c d → IsBeside a b c d → Touch r s
near-touch r s a b c d p q n = record {
  a_up = omega (arith, p.row, q.row, n.a_up);
  a_down = omega (arith, p.row, q.row, n.a_down);
  b_up = omega (arith, p.first, q.last, n.b_up);
  b_down = omega (arith, p.last, q.first, n.b_down);
}

touch-flip : (r s : Run) → Touch r s → Touch s r
touch-flip r s t = record { a_up = t.a_down; a_down = t.a_up; b_up = t.b_down; b_down = t.b_up }

-- pairs of runs that hang together reach each other
reach-way : (runs : List Run) → AreInOrder runs → (n k l a b c d : ℕ) → k < length runs → Way (Touching runs) n k l → InRun (run_at runs k) a b → InRun (run_at runs l) c d → (m : ℕ) × Reaches (InRuns runs) m a b c d
reach-way runs order zero k l a b c d h w p q =
    reach-run (InRuns runs) (run_at runs k) a b c d (λ x y i. (k, h, i)) p (subst (λ (x : ℕ). InRun (run_at runs x) c d) (sym w) q)
reach-way runs order (suc n) k l a b c d h w p q = at (λ u e i. reach-way runs order n w.0 l (run_at runs w.0).a e c d u w.2 i q) w.1
  where
    go : (w.0 < length runs → (e : ℕ) → InRun (run_at runs w.0) (run_at runs w.0).a e → (m : ℕ) × Reaches (InRuns runs) m (run_at runs w.0).a e c d) → w.0 < length runs → Touch (run_at runs k) (run_at runs w.0)
        → (m : ℕ) × Reaches (InRuns runs) m a b c d
    go rest u t =
        let near = touch-near (run_at runs k) (run_at runs w.0) (order.some k h) (order.some w.0 u) t in
        let here = reach-run (InRuns runs) (run_at runs k) a b (run_at runs k).a near.b (λ x y i. (k, h, i)) p near.left in
        let over : Reaches (InRuns runs) 1 (run_at runs k).a near.b (run_at runs w.0).a near.d = ((run_at runs w.0).a, near.d, (w.0, u, near.right), near.beside, (refl, refl)) in
        let there = rest u near.d near.right in
        let first = reach-then (InRuns runs) here.0 1 a b (run_at runs k).a near.b (run_at runs w.0).a near.d here.1 over in
        reach-then (InRuns runs) first.0 there.0 a b (run_at runs w.0).a near.d c d first.1 there.1

    at : (w.0 < length runs → (e : ℕ) → InRun (run_at runs w.0) (run_at runs w.0).a e → (m : ℕ) × Reaches (InRuns runs) m (run_at runs w.0).a e c d) → Touching runs k w.0 ⊎ Touching runs w.0 k
        → (m : ℕ) × Reaches (InRuns runs) m a b c d
    at rest (inl t) = go rest t.1 t.2
    at rest (inr t) = go rest t.0 (touch-flip (run_at runs w.0) (run_at runs k) t.2)

-- the gathered runs are the components
pub gathered-components : (runs : List Run) (parents : List ℕ) (i : ℕ) (labels : List ℕ) (sets : List (List Run)) → AreInOrder runs → length runs ≤ i → i ≤ length runs → IsSwept runs parents (length runs)
    → AreGathered runs parents i labels sets → AreComponents runs sets
gathered-components runs parents i labels sets order low high swept all = record {
  sound = λ c m u v. let w = all.member c m u v in (w.0, omega (arith, w.1, high), w.3);
  full = λ k u. (slice_index labels k, all.bound k (omega (arith, u, low)), all.full k (omega (arith, u, low)));
  linked = λ c a b x y u p q.
      let v = owner c a b u p in
      let w = owner c x y u q in
      let way = all.linked v.0 w.0 v.1 w.1 (v.2 ∙ sym w.2) in
      reach-way runs order way.0 v.0 w.0 a b x y (omega (arith, v.1, high)) way.1 v.3 w.3;
  apart = λ c d a b x y u v p q near.
      let k = owner c a b u p in
      let l = owner d x y v q in
      sym k.2 ∙ touch-label k.0 l.0 k.1 l.1 (near-touch (run_at runs k.0) (run_at runs l.0) a b x y k.3 l.3 near) ∙ l.2;
  some = all.some;
  ordered = all.ordered;
  order = all.order;
}
  where
    -- the run of a pair in a set
    owner : (c a b : ℕ) → c < length sets → InRuns (set_at sets c) a b → (k : ℕ) × (k < i) × (slice_index labels k ≡ c) × InRun (run_at runs k) a b
    owner c a b u p = let w = all.member c p.0 u p.1 in (w.0, w.1, w.2, subst (λ (x : Run). InRun x a b) (sym w.3) p.2)

    label-way : (n k l : ℕ) → Way (IsParent parents) n k l → slice_index labels k ≡ slice_index labels l
    label-way zero k l w = ap (slice_index labels) w
    label-way (suc n) k l w = at w.1 ∙ label-way n w.0 l w.2
      where
        at : IsParent parents k w.0 ⊎ IsParent parents w.0 k → slice_index labels k ≡ slice_index labels w.0
        at (inl e) = sym (all.same k (omega (arith, e.0, swept.len, low))) ∙ ap (slice_index labels) e.1
        at (inr e) = ap (slice_index labels) (sym e.1) ∙ all.same w.0 (omega (arith, e.0, swept.len, low))

    touch-label : (k l : ℕ) → k < i → l < i → Touch (run_at runs k) (run_at runs l) → slice_index labels k ≡ slice_index labels l
    touch-label k l u v t = at (three k l)
      where
        three : (k l : ℕ) → (k < l) ⊎ ((l < k) ⊎ (k ≡ l))
        three k l = grind arith

        at : (k < l) ⊎ ((l < k) ⊎ (k ≡ l)) → slice_index labels k ≡ slice_index labels l
        at (inl h) = let w = swept.done k l h (omega (arith, v, high)) t in label-way w.0 k l w.1
        at (inr (inl h)) = let w = swept.done l k h (omega (arith, u, high)) (touch-flip (run_at runs k) (run_at runs l) t) in sym (label-way w.0 l k w.1)
        at (inr (inr e)) = ap (slice_index labels) e
