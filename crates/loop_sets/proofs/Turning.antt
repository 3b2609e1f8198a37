-- The turns along the boundary of cells that are given as runs.
use Rattle.std.proofs.Common.{◌≡◌, ℕ, zero, suc, ◌+◌, ◌-◌, ◌<◌, ◌≤◌, ◌⊎◌, inl, inr, Bool, true, false, Option, Some, List, length, take, ℤ, arith, refl, sym, ap, ◌∙◌}
use Rattle.std.proofs.lemmas.Bool.{false_from_ne_true}
use Rattle.tplane_paver.specs.declared.runs.Run.{Run}
use Rattle.tplane_paver.specs.Runs.{InRun, run_at, AreInOrder}
use Rattle.loop_degree.specs.declared.labels.Label.{Label}
use Rattle.loop_degree.specs.Pairs.{has}
use Rattle.loop_degree.specs.Cells.{next_b, has_before_a, has_before_b, outer_sides, boundary}
use Rattle.loop_degree.specs.Boundary.{add_option}
use Rattle.loop_sets.specs.Cells.{column, ticks_in, pairs_in}
use Rattle.loop_sets.specs.Turns.{turn_of, turns_along, sum_along, sum_cells, turn_unless, row_before, open_turn, cell_turns}
use Rattle.loop_sets.proofs.Pairs.{pairs-has, pairs-more}
use Rattle.loop_sets.proofs.Adding.{along-flat_map, along-four, sum_cells-append, sum_cells-column, sum_along-same, sum_along-four, sum_along-first, sum_along-last}

-- a pair of a run is in the list, and those right before and after it are not
pub run-has : (runs : List Run) (i b : ℕ) → i < length runs → (run_at runs i).first ≤ b → b ≤ (run_at runs i).last → has (pairs_in runs) ((run_at runs i).a, b) ≡ true
run-has runs i b l low high = (pairs-has runs ((run_at runs i).a, b)).1 (i, l, record { row = refl; first = low; last = high })

order-cases : (i j : ℕ) → (i < j) ⊎ ((j < i) ⊎ (i ≡ j))
order-cases i j = grind arith

none-at : (runs : List Run) (i b : ℕ) → AreInOrder runs → i < length runs → ((b + 1 ≡ (run_at runs i).first) ⊎ (b ≡ (run_at runs i).last + 1)) → has (pairs_in runs) ((run_at runs i).a, b) ≡ false
none-at runs i b order l beside = false_from_ne_true _ (λ h. let k = (pairs-has runs ((run_at runs i).a, b)).0 h in out k.0 k.1 k.2 (order-cases i k.0))
  where
    some : (run_at runs i).first ≤ (run_at runs i).last
    some = order.some i l

    at : (b + 1 ≡ (run_at runs i).first) ⊎ (b ≡ (run_at runs i).last + 1) → (first last : ℕ) → first ≤ b → b ≤ last → (((run_at runs i).last + 1 < first) ⊎ ((last + 1 < (run_at runs i).first) ⊎ ((first ≡ (run_at runs i).first) × (last ≡ (run_at runs i).last)))) → ⊥
    at (inl e) first last low high (inl f) = omega (arith, e, f, low, order.some i l)
    at (inl e) first last low high (inr (inl f)) = omega (arith, e, f, high)
    at (inl e) first last low high (inr (inr f)) = omega (arith, e, f.0, low)
    at (inr e) first last low high (inl f) = omega (arith, e, f, low)
    at (inr e) first last low high (inr (inl f)) = omega (arith, e, f, high, order.some i l)
    at (inr e) first last low high (inr (inr f)) = omega (arith, e, f.1, high)

    out : (j : ℕ) → j < length runs → InRun (run_at runs j) (run_at runs i).a b → (i < j) ⊎ ((j < i) ⊎ (i ≡ j)) → ⊥
    out j m p (inl k) = at beside (run_at runs j).first (run_at runs j).last p.first p.last (inl ((order.order i j k m).apart (sym p.row)))
    out j m p (inr (inl k)) = at beside (run_at runs j).first (run_at runs j).last p.first p.last (inr (inl ((order.order j i k l).apart p.row)))
    out j m p (inr (inr e)) = at beside (run_at runs j).first (run_at runs j).last p.first p.last (inr (inr (ap (λ (k : ℕ). (run_at runs k).first) (sym e), ap (λ (k : ℕ). (run_at runs k).last) (sym e))))

-- the cell before the first of a run is not in the list, and that before another is
before-first : (runs : List Run) (i : ℕ) → AreInOrder runs → i < length runs → has_before_b (pairs_in runs) (run_at runs i).a (run_at runs i).first ≡ false
before-first runs i order l = at (run_at runs i).first refl
  where
    at : (b : ℕ) → (run_at runs i).first ≡ b → has_before_b (pairs_in runs) (run_at runs i).a b ≡ false
    at zero e = refl
    at (suc b) e = none-at runs i b order l (inl (omega (arith, e)))

before-other : (runs : List Run) (i k : ℕ) → i < length runs → (run_at runs i).first < k → k ≤ (run_at runs i).last → has_before_b (pairs_in runs) (run_at runs i).a k ≡ true
before-other runs i zero l low high = absurd (omega (arith, low))
before-other runs i (suc k) l low high = run-has runs i k l (omega (arith, low)) (omega (arith, high))

left-same : (label : ℕ × ℕ → Option Label) (cs : List (ℕ × ℕ)) (a b : ℕ) → turn_unless (has_before_a cs a b) (turn_of label (next_b (a, b)) (a, b)) ≡ open_turn label cs (row_before a) a false b
left-same label cs zero b = refl
left-same label cs (suc a) b = refl

parts : (u v w x y z p q : Option ℤ) → u ≡ v → w ≡ x → y ≡ z → p ≡ q → add_option u (add_option w (add_option y p)) ≡ add_option v (add_option x (add_option z q))
parts u v w x y z p q e f g h = cc

module _ (label : ℕ × ℕ → Option Label) (runs : List Run) (i : ℕ) (order : AreInOrder runs) (l : i < length runs) where
  abbrev lower : ℕ → Option ℤ
  lower b = turn_unless (has_before_b (pairs_in runs) (run_at runs i).a b) (turn_of label ((run_at runs i).a, b) ((run_at runs i).a + 1, b))

  abbrev right : ℕ → Option ℤ
  right b = turn_unless (has (pairs_in runs) ((run_at runs i).a + 1, b)) (turn_of label ((run_at runs i).a + 1, b) ((run_at runs i).a + 1, b + 1))

  abbrev upper : ℕ → Option ℤ
  upper b = turn_unless (has (pairs_in runs) ((run_at runs i).a, b + 1)) (turn_of label ((run_at runs i).a + 1, b + 1) ((run_at runs i).a, b + 1))

  abbrev left : ℕ → Option ℤ
  left b = turn_unless (has_before_a (pairs_in runs) (run_at runs i).a b) (turn_of label ((run_at runs i).a, b + 1) ((run_at runs i).a, b))

  lower-sum : sum_along lower (run_at runs i).first (ticks_in (run_at runs i)) ≡ turn_of label ((run_at runs i).a, (run_at runs i).first) ((run_at runs i).a + 1, (run_at runs i).first)
  lower-sum =
      sum_along-first lower (run_at runs i).first (ticks_in (run_at runs i)) (omega (arith, order.some i l))
      (λ k low high. let h : has_before_b (pairs_in runs) (run_at runs i).a k ≡ true = before-other runs i k l low (omega (arith, high, order.some i l)) in ap (λ (b : Bool). turn_unless b (turn_of label ((run_at runs i).a, k) ((run_at runs i).a + 1, k))) h)
      ∙ ap (λ (b : Bool). turn_unless b (turn_of label ((run_at runs i).a, (run_at runs i).first) ((run_at runs i).a + 1, (run_at runs i).first))) (before-first runs i order l)

  upper-sum : sum_along upper (run_at runs i).first (ticks_in (run_at runs i)) ≡ turn_of label ((run_at runs i).a + 1, (run_at runs i).last + 1) ((run_at runs i).a, (run_at runs i).last + 1)
  upper-sum =
      let n : ticks_in (run_at runs i) ≡ suc ((run_at runs i).last - (run_at runs i).first) = omega (arith, order.some i l) in
      let e : (run_at runs i).first + ((run_at runs i).last - (run_at runs i).first) ≡ (run_at runs i).last = omega (arith, order.some i l) in
      ap (sum_along upper (run_at runs i).first) n
      ∙ sum_along-last upper (run_at runs i).first ((run_at runs i).last - (run_at runs i).first)
      (λ k low high. let h : has (pairs_in runs) ((run_at runs i).a, k + 1) ≡ true = run-has runs i (k + 1) l (omega (arith, low)) (omega (arith, high, e)) in ap (λ (b : Bool). turn_unless b (turn_of label ((run_at runs i).a + 1, k + 1) ((run_at runs i).a, k + 1))) h)
      ∙ ap upper e
      ∙ ap (λ (b : Bool). turn_unless b (turn_of label ((run_at runs i).a + 1, (run_at runs i).last + 1) ((run_at runs i).a, (run_at runs i).last + 1))) (none-at runs i ((run_at runs i).last + 1) order l (inr refl))

  -- the sides of the cells of one run
  pub run-sum : sum_cells (cell_turns label (pairs_in runs)) (column (run_at runs i).a (run_at runs i).first (ticks_in (run_at runs i)))
      ≡ add_option (turn_of label ((run_at runs i).a, (run_at runs i).first) ((run_at runs i).a + 1, (run_at runs i).first))
      (add_option (sum_along (open_turn label (pairs_in runs) (Some ((run_at runs i).a + 1)) ((run_at runs i).a + 1) true) (run_at runs i).first (ticks_in (run_at runs i)))
      (add_option (turn_of label ((run_at runs i).a + 1, (run_at runs i).last + 1) ((run_at runs i).a, (run_at runs i).last + 1))
      (sum_along (open_turn label (pairs_in runs) (row_before (run_at runs i).a) (run_at runs i).a false) (run_at runs i).first (ticks_in (run_at runs i)))))
  run-sum =
      sum_cells-column (cell_turns label (pairs_in runs)) (run_at runs i).a (run_at runs i).first (ticks_in (run_at runs i))
      ∙ sum_along-same (λ k. cell_turns label (pairs_in runs) ((run_at runs i).a, k)) (λ k. add_option (lower k) (add_option (right k) (add_option (upper k) (left k)))) (run_at runs i).first (ticks_in (run_at runs i))
      (λ k. along-four label (has_before_b (pairs_in runs) (run_at runs i).a k) (has (pairs_in runs) ((run_at runs i).a + 1, k)) (has (pairs_in runs) ((run_at runs i).a, k + 1)) (has_before_a (pairs_in runs) (run_at runs i).a k)
      ((run_at runs i).a, k) ((run_at runs i).a + 1, k) ((run_at runs i).a + 1, k + 1) ((run_at runs i).a, k + 1))
      ∙ sum_along-four lower right upper left (run_at runs i).first (ticks_in (run_at runs i))
      ∙ parts _ _ _ _ _ _ _ _ lower-sum
      (sum_along-same right (open_turn label (pairs_in runs) (Some ((run_at runs i).a + 1)) ((run_at runs i).a + 1) true) (run_at runs i).first (ticks_in (run_at runs i)) (λ k. refl))
      upper-sum
      (sum_along-same left (open_turn label (pairs_in runs) (row_before (run_at runs i).a) (run_at runs i).a false) (run_at runs i).first (ticks_in (run_at runs i)) (λ k. left-same label (pairs_in runs) (run_at runs i).a k))

-- the sides of all cells are the boundary
pub boundary-sum : (label : ℕ × ℕ → Option Label) (runs : List Run) → turns_along label (boundary (pairs_in runs)) ≡ sum_cells (cell_turns label (pairs_in runs)) (pairs_in runs)
boundary-sum label runs = along-flat_map label (outer_sides (pairs_in runs)) (pairs_in runs)

-- one run more
pub turns-more : (g : ℕ × ℕ → Option ℤ) (runs : List Run) (i : ℕ) → i < length runs
    → sum_cells g (pairs_in (take (i + 1) runs)) ≡ add_option (sum_cells g (pairs_in (take i runs))) (sum_cells g (column (run_at runs i).a (run_at runs i).first (ticks_in (run_at runs i))))
turns-more g runs i l =
    ap (sum_cells g) (pairs-more runs i l) ∙ sum_cells-append g (pairs_in (take i runs)) (column (run_at runs i).a (run_at runs i).first (ticks_in (run_at runs i)))

pub turns-told : (g : ℕ × ℕ → Option ℤ) (runs : List Run) (i : ℕ) (total turns next : Option ℤ) → i < length runs → total ≡ sum_cells g (pairs_in (take i runs))
    → turns ≡ sum_cells g (column (run_at runs i).a (run_at runs i).first (ticks_in (run_at runs i))) → next ≡ add_option total turns → next ≡ sum_cells g (pairs_in (take (i + 1) runs))
turns-told g runs i total turns next l h t e = cc (turns-more g runs i l)
