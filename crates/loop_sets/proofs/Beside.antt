-- Runs of cells beside a run.
use Rattle.std.proofs.Common.{◌≡◌, ℕ, ◌+◌, ◌-◌, ◌<◌, ◌≤◌, ◌⊎◌, inl, inr, Bool, true, false, Ordering, Less, Equal, Greater, Result, Ok, Err, Option, Some, None, IfSome, MatchOption, List, length, get_or, min, ℤ, arith, sym, ap, subst, ◌∙◌}
use Rattle.std.specs.List.{HoldsAt}
use Rattle.std.specs.Ordering.{ordering_index}
use Rattle.loop_degree.proofs.Searching.{pair_cmp}
use Rattle.std.specs.List.Sorted.{IsNonDecreasingBy, IsPartitionPoint, IsSearchInRange, IsBinarySearchResult}
use Rattle.std.proofs.lemmas.Bool.{false_from_ne_true}
use Rattle.std.proofs.lemmas.Bool.Decides.{nat_tests}
use Rattle.std.proofs.lemmas.List.{get_or_default}
use Rattle.tplane_paver.specs.declared.runs.Run.{Run}
use Rattle.tplane_paver.specs.Runs.{InRun, InRuns, run_at, AreInOrder}
use Rattle.tplane_paver.specs.Components.{HasRun}
use Rattle.loop_degree.specs.declared.labels.Label.{Label}
use Rattle.loop_degree.specs.Pairs.{has}
use Rattle.loop_degree.specs.Boundary.{add_option, IsSmall, turn_option}
use Rattle.loop_degree.proofs.Turns.{add_option-small, small-more}
use Rattle.loop_sets.specs.Cells.{column, ticks_in, pairs_in}
use Rattle.loop_sets.specs.Turns.{turn_of, sum_along, sum_cells, has_beside, turn_unless, upright, row_before, open_turn, cell_turns, SharesFrom, AreParted}
use Rattle.loop_sets.proofs.Pairs.{pairs-has}
use Rattle.loop_sets.proofs.Adding.{sum_along-more, sum_along-skip}
use Rattle.loop_sets.proofs.Turning.{run-sum}

-- how a run ends before, at or after a pair
abbrev pub ends : ℕ × ℕ → Run → Ordering
ends p r = pair_cmp (r.a, r.last) p

ends-before : (a b : ℕ) (r : Run) → ends (a, b) r ≡ Less → (r.a ≤ a) × (r.a ≡ a → r.last < b)
ends-before a b r h = (grind (arith, nat_tests), λ e. grind (arith, nat_tests))

ends-after : (a b : ℕ) (r : Run) → ends (a, b) r ≡ Greater → (a ≤ r.a) × (r.a ≡ a → b ≤ r.last)
ends-after a b r h = (grind (arith, nat_tests), λ e. grind (arith, nat_tests))

ends-at : (a b : ℕ) (r : Run) → ends (a, b) r ≡ Equal → (r.a ≡ a) × (r.last ≡ b)
ends-at a b r h = (grind (arith, nat_tests), grind (arith, nat_tests))

same-or-less : (i j : ℕ) → i ≤ j → (i < j) ⊎ (i ≡ j)
same-or-less i j h = grind arith

index-rises : (p q r : ℕ × ℕ) → p.0 ≤ q.0 → (p.0 ≡ q.0 → p.1 < q.1) → ordering_index (pair_cmp p r) ≤ ordering_index (pair_cmp q r)
index-rises p q r h k = grind (arith, nat_tests)

ends-rise : (cells : List Run) (p : ℕ × ℕ) → AreInOrder cells → IsNonDecreasingBy (λ r. ordering_index (ends p r)) cells
ends-rise cells p order i j d le l =
    elim (same-or-less i j le) [
      | inl m ↦
          let k : i < length cells = omega (arith, m, l) in
          let before = order.order i j m l in
          subst (λ (r : Run). ordering_index (ends p r) ≤ ordering_index (ends p (get_or cells j d))) (get_or_default cells i (record { a = 0; first = 0; last = 0 }) d k)
          (subst (λ (r : Run). ordering_index (ends p (run_at cells i)) ≤ ordering_index (ends p r)) (get_or_default cells j (record { a = 0; first = 0; last = 0 }) d l)
          (index-rises ((run_at cells i).a, (run_at cells i).last) ((run_at cells j).a, (run_at cells j).last) p before.rows (λ e. omega (arith, before.apart e, order.some j l))))
      | inr e ↦ subst (λ (n : ℕ). ordering_index (ends p (get_or cells i d)) ≤ ordering_index (ends p (get_or cells n d))) e (omega arith)
    ]

-- what a search by the ends finds
searched-at : (cells : List Run) (a b i : ℕ) (r : Run) → AreInOrder cells → i < length cells → r ≡ run_at cells i → HoldsAt (λ y. ends (a, b) y ≡ Equal) cells i → InRun r a b × HasRun cells r
searched-at cells a b i r order l e h =
    let at = ends-at a b (run_at cells i) (h (record { a = 0; first = 0; last = 0 })) in (
      subst (λ (s : Run). InRun s a b) (sym e) (record { row = at.0; first = omega (arith, at.1, order.some i l); last = omega (arith, at.1) }),
      (i, l, sym e),
    )

searched-part : (cells : List Run) (a b place : ℕ) → AreInOrder cells → (IsNonDecreasingBy (λ r. ordering_index (ends (a, b) r)) cells → IsPartitionPoint (λ y. ends (a, b) y ≡ Less) (λ y. ends (a, b) y ≡ Greater) cells place) → AreParted cells a b place
searched-part cells a b place order h =
    let parted = h (ends-rise cells (a, b) order) in
    record {
      early = λ k l. ends-before a b (run_at cells k) (parted.0 k (record { a = 0; first = 0; last = 0 }) (omega arith) l);
      late = λ k l m. ends-after a b (run_at cells k) (parted.1 k (record { a = 0; first = 0; last = 0 }) l m);
    }

pub searched-ok : (cells : List Run) (a b i : ℕ) (r : Run) (res : Result ℕ ℕ) → AreInOrder cells → res ≡ Ok i → IsSearchInRange res (length cells) → r ≡ run_at cells i → IsBinarySearchResult (ends (a, b)) cells res → InRun r a b × HasRun cells r
searched-ok cells a b i r res order e inside f h =
    searched-at cells a b i r order (subst (λ (o : Result ℕ ℕ). IsSearchInRange o (length cells)) e inside) f (subst (IsBinarySearchResult (ends (a, b)) cells) e h)

pub searched-err : (cells : List Run) (a b i : ℕ) (res : Result ℕ ℕ) → AreInOrder cells → res ≡ Err i → IsBinarySearchResult (ends (a, b)) cells res → AreParted cells a b i
searched-err cells a b i res order e h = searched-part cells a b i order (subst (IsBinarySearchResult (ends (a, b)) cells) e h)

module _ (cells : List Run) (a b place : ℕ) (order : AreInOrder cells) (parted : AreParted cells a b place) where
  early : (k : ℕ) → k < place → (run_at cells k).a ≡ a → (run_at cells k).last < b
  early k l row = (parted.early k l).1 row

  late : (k : ℕ) → place ≤ k → k < length cells → (a ≤ (run_at cells k).a) × ((run_at cells k).a ≡ a → b ≤ (run_at cells k).last)
  late = parted.late

  pub found-run : (r : Run) → place < length cells → r ≡ run_at cells place → r.a ≡ a → r.first ≤ b → InRun r a b × HasRun cells r
  found-run r l e row first = (
    record { row = row; first = first; last = let k = (late place (omega arith) l).1 (ap (λ (s : Run). s.a) (sym e) ∙ row) in let f = ap (λ (s : Run). s.last) e in omega (arith, k, f) },
    (place, l, sym e),
  )

  none-there : (((run_at cells place).a ≡ a) → (run_at cells place).first ≤ b → ⊥) → (k : ℕ) → k < length cells → InRun (run_at cells k) a b → (k < place) ⊎ (place ≤ k) → ⊥
  none-there none k m h (inl l) = omega (arith, early k l h.row, h.last)
  none-there none k m h (inr l) = elim (same-or-less place k l) [
    | inr e ↦ none (ap (λ (n : ℕ). (run_at cells n).a) e ∙ h.row) (let f = ap (λ (n : ℕ). (run_at cells n).first) e in omega (arith, f, h.first))
    | inl n ↦
        let before = order.order place k n m in
        let here = late place (omega arith) (omega (arith, n, m)) in
        let same : (run_at cells place).a ≡ a = omega (arith, before.rows, here.0, h.row) in
        let apart = before.apart (omega (arith, same, h.row)) in
        none same (omega (arith, apart, h.first, order.some place (omega (arith, n, m))))
  ]

  pub missed-run : (((run_at cells place).a ≡ a) → (run_at cells place).first ≤ b → ⊥) → InRuns cells a b → ⊥
  missed-run none h = none-there none h.0 h.1 h.2 (split h.0 place)
    where
      split : (x y : ℕ) → (x < y) ⊎ (y ≤ x)
      split x y = grind arith

  pub past-runs : length cells ≤ place → InRuns cells a b → ⊥
  past-runs l h = omega (arith, early h.0 (omega (arith, l, h.1)) h.2.row, h.2.last)

pub beside-of : (cells : List Run) (beside : Option ℕ) (row b : ℕ) (r : Option Run) → beside ≡ Some row → MatchOption r (InRuns cells row b → ⊥) (λ r. InRun r row b × HasRun cells r)
    → MatchOption r (has_beside (pairs_in cells) beside b ≡ false) (SharesFrom (pairs_in cells) beside b)
beside-of cells beside row b r e h = subst (λ (o : Option ℕ). MatchOption r (has_beside (pairs_in cells) o b ≡ false) (SharesFrom (pairs_in cells) o b)) (sym e) (at r h)
  where
    at : (r : Option Run) → MatchOption r (InRuns cells row b → ⊥) (λ r. InRun r row b × HasRun cells r) → MatchOption r (has_beside (pairs_in cells) (Some row) b ≡ false) (SharesFrom (pairs_in cells) (Some row) b)
    at None f = false_from_ne_true _ (λ t. f ((pairs-has cells (row, b)).0 t))
    at (Some r) f = record {
      last = f.0.last;
      shared = λ k low high. (pairs-has cells (row, k)).1 (f.1.0, f.1.1, subst (λ (s : Run). InRun s row k) (sym f.1.2) (record { row = f.0.row; first = omega (arith, f.0.first, low); last = high }));
    }

module _ (label : ℕ × ℕ → Option Label) (cells : List Run) (beside : Option ℕ) (a : ℕ) (up : Bool) (first b : ℕ) (low : first ≤ b) where
  abbrev f : ℕ → Option ℤ
  f = open_turn label (pairs_in cells) beside a up

  -- on to the tick after a run of cells beside
  pub open-skip : (r : Run) (last next : ℕ) (total : Option ℤ) → SharesFrom (pairs_in cells) beside b r → next ≡ min r.last last → b ≤ last → total ≡ sum_along f first (b - first) → total ≡ sum_along f first (next + 1 - first)
  open-skip r last next total shares e high h =
      let n : (b - first) + (next + 1 - b) ≡ next + 1 - first = omega (arith, low, e, high, shares.last) in
      h ∙ sym (sum_along-skip f first (b - first) (next + 1 - b) (λ k l m.
      let t : has_beside (pairs_in cells) beside k ≡ true = shares.shared k (omega (arith, l, low)) (omega (arith, l, m, e, low, high, shares.last)) in
      ap (λ (s : Bool). turn_unless s (upright label a up k)) t))
      ∙ ap (sum_along f first) n

  -- one open side more
  pub open-more : (total turn next : Option ℤ) → has_beside (pairs_in cells) beside b ≡ false → total ≡ sum_along f first (b - first) → turn ≡ upright label a up b → next ≡ add_option total turn → next ≡ sum_along f first (b + 1 - first)
  open-more total turn next free h t e =
      let n : (b - first) + 1 ≡ b + 1 - first = omega (arith, low) in
      let m : first + (b - first) ≡ b = omega (arith, low) in
      e ∙ parts _ _ _ _ h (t ∙ sym (ap (λ (s : Bool). turn_unless s (upright label a up b)) free) ∙ ap f (sym m)) ∙ sym (sum_along-more f first (b - first)) ∙ ap (sum_along f first) n
    where
      parts : (w x y z : Option ℤ) → w ≡ x → y ≡ z → add_option w y ≡ add_option x z
      parts w x y z f g = cc

  pub small-open : (total turn next : Option ℤ) → IfSome total (IsSmall (b - first)) → IfSome turn (IsSmall 1) → next ≡ add_option total turn → IfSome next (IsSmall (b + 1 - first))
  small-open total turn next h k e = subst (λ (r : Option ℤ). IfSome r (IsSmall (b + 1 - first))) (sym e) (small-more (b - first + 1) (b + 1 - first) (add_option total turn) (omega (arith, low)) (add_option-small (b - first) 1 total turn h k))

-- what the sides of a run add up to
abbrev SidesOf : (ℕ × ℕ → Option Label) → List Run → Run → Type 0
SidesOf label runs r = sum_cells (cell_turns label (pairs_in runs)) (column r.a r.first (ticks_in r))
    ≡ add_option (turn_of label (r.a, r.first) (r.a + 1, r.first))
    (add_option (sum_along (open_turn label (pairs_in runs) (Some (r.a + 1)) (r.a + 1) true) r.first (ticks_in r))
    (add_option (turn_of label (r.a + 1, r.last + 1) (r.a, r.last + 1))
    (sum_along (open_turn label (pairs_in runs) (row_before r.a) r.a false) r.first (ticks_in r))))

-- the four parts of the sides of a run
pub run-told : (label : ℕ × ℕ → Option Label) (runs : List Run) (r : Run) → AreInOrder runs → HasRun runs r
    → (before : Option ℕ) (lower right upper left two three sum : Option ℤ)
    → lower ≡ turn_of label (r.a, r.first) (r.a + 1, r.first)
    → right ≡ sum_along (open_turn label (pairs_in runs) (Some (r.a + 1)) (r.a + 1) true) r.first (ticks_in r)
    → upper ≡ turn_of label (r.a + 1, r.last + 1) (r.a, r.last + 1)
    → before ≡ row_before r.a → left ≡ sum_along (open_turn label (pairs_in runs) before r.a false) r.first (ticks_in r)
    → two ≡ add_option upper left → three ≡ add_option right two → sum ≡ add_option lower three
    → sum ≡ sum_cells (cell_turns label (pairs_in runs)) (column r.a r.first (ticks_in r))
run-told label runs r order has before lower right upper left two three sum el er eu eb ef e2 e3 e =
    let whole = subst (SidesOf label runs) has.2 (run-sum label runs has.0 order has.1) in
    let g : left ≡ sum_along (open_turn label (pairs_in runs) (row_before r.a) r.a false) r.first (ticks_in r) = ef ∙ ap (λ (o : Option ℕ). sum_along (open_turn label (pairs_in runs) o r.a false) r.first (ticks_in r)) eb in
    joined _ _ _ _ lower right upper left two three sum el er eu g e2 e3 e ∙ sym whole
  where
    joined : (l' r' u' f' l r u f two three s : Option ℤ) → l ≡ l' → r ≡ r' → u ≡ u' → f ≡ f' → two ≡ add_option u f → three ≡ add_option r two → s ≡ add_option l three → s ≡ add_option l' (add_option r' (add_option u' f'))
    joined l' r' u' f' l r u f two three s a b c d p q t = cc

pub turned : (label : ℕ × ℕ → Option Label) (p q : ℕ × ℕ) (l m : Option Label) (t : Option ℤ) → t ≡ turn_option l m → l ≡ label p → m ≡ label q → t ≡ turn_of label p q
turned label p q l m t e f g = cc
