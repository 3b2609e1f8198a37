-- One step: one that waits is taken and fired, and the readers of what became narrower are woken.
use Rattle.std.proofs.Common.{◌≡◌, ℕ, ◌+◌, ◌≤◌, inl, inr, Bool, true, false, Option, Some, None, List, [], ◌∷◌, arith, refl, sym, subst, ◌∙◌, length, length-set, set, sum_by, count_by, Contains, IsSome, IsNone, nat_eq, slice_get}
use Rattle.std.specs.List.{IsDistinct}
use Rattle.std.proofs.lemmas.List.Sums.{sum_by-cons}
use Rattle.tube_spec.specs.Span.{Span}
use Rattle.tube_spec.specs.Box.{IsBelow, IsBelowBox}
use Rattle.tube_spec.specs.Projection.{Projection}
use Rattle.tube_store.specs.State.{State}
use Rattle.ctc_core.specs.Revising.{IfBoth, IsNarrower, AddsNarrower}
use Rattle.ctc_core.specs.Answers.{Revises, MatchRevised}
use Rattle.ctc_core.specs.declared.Revised.{Revised}
use Rattle.ctc_core.specs.declared.Revised.TheVariants.{Same, Narrowed, Empty}
use Rattle.cell_readers.specs.Costs.{weighted, weighted_box, potential, lost_cost}
use Rattle.cell_readers.specs.Waking.{readers, AreWoken}
use Rattle.cell_readers.proofs.Weights.{weighted-falls, lost-left_box}
use Rattle.cell_readers.proofs.Counts.{count-rest, union}

ones-and : (r : ℕ → ℕ) (cells : List ℕ) → sum_by (λ k. 1 + r k) cells ≡ length cells + sum_by r cells
ones-and r [] = refl
ones-and r (x ∷ cells) = omega (arith, sum_by-cons (λ k. 1 + r k) x cells, sum_by-cons r x cells, ones-and r cells)

pub step-same : (r : ℕ → ℕ) (before : List Bool) (k : ℕ) (box : Option (List Span)) → slice_get before k ≡ Some true
    → potential r (set before k false) box + 1 ≡ potential r before box
step-same r before k box waits = sums (count_by (λ w. w) (set before k false)) (count_by (λ w. w) before) (weighted_box r box) (count-rest before k waits)
  where
    sums : (a b w : ℕ) → a + 1 ≡ b → a + w + 1 ≡ b + w
    sums a b w e = omega arith

pub step-empty : (r : ℕ → ℕ) (before : List Bool) (k : ℕ) (box : Option (List Span)) → slice_get before k ≡ Some true
    → potential r (set before k false) None + 1 ≤ potential r before box
step-empty r before k box waits = sums (count_by (λ w. w) (set before k false)) (count_by (λ w. w) before) (weighted_box r box) (count-rest before k waits)
  where
    sums : (a b w : ℕ) → a + 1 ≡ b → a + 0 + 1 ≤ b + w
    sums a b w e = omega arith

-- the potential falls by one at least for each cell that became narrower
pub step-narrowed : {C : Type 0} (reads : C → ℕ → Bool) (cs : List C) (cells : List ℕ) (k : ℕ) (before after : List Bool) (xs ys : List Span)
    → IsBelow ys xs → IsDistinct nat_eq cells → ((j : ℕ) → Contains cells j → IsNarrower xs ys j)
    → slice_get before k ≡ Some true → length before ≡ length cs → AreWoken reads cs cells k (set before k false) after
    → potential (readers reads cs) after (Some ys) + length cells ≤ potential (readers reads cs) before (Some xs)
step-narrowed {C} reads cs cells k before after xs ys low once narrower waits len woken =
    sums (count_by (λ w. w) after) (count_by (λ w. w) (set before k false)) (count_by (λ w. w) before) (sum_by (readers reads cs) cells) (sum_by (λ j. 1 + readers reads cs j) cells) (length cells) (weighted (readers reads cs) ys) (weighted (readers reads cs) xs)
    (union reads cs cells k (set before k false) after (length-set before k false ∙ len) woken) (count-rest before k waits) (ones-and (readers reads cs) cells) (weighted-falls (readers reads cs) xs ys cells low once narrower)
  where
    sums : (a t b s u n y x : ℕ) → a ≤ t + 1 + s → t + 1 ≡ b → u ≡ n + s → y + u ≤ x → a + y + n ≤ b + x
    sums a t b s u n y x p q e f = omega arith

-- With no cell touched before, one that waits is taken and fired. Then the potential has fallen, by one at least.
pub step : {C : Type 0} (reads : C → ℕ → Bool) (cs : List C) (ps : List Projection) (k : ℕ) (before after : List Bool) (old new : State) (x : Revised)
    → Revises ps old new x → IsSome old.box → old.touched ≡ [] → slice_get before k ≡ Some true → length before ≡ length cs
    → MatchRevised x (after ≡ set before k false) (AreWoken reads cs new.touched k (set before k false) after) (after ≡ set before k false)
    → potential (readers reads cs) after new.box + 1 ≤ potential (readers reads cs) before old.box
step {C} reads cs ps k before after old new Same fired some drained waits len says =
    let e = step-same (readers reads cs) before k old.box waits in
    subst (λ (s : State). potential (readers reads cs) after s.box + 1 ≤ potential (readers reads cs) before old.box) (sym (fired.revised.same refl))
    (subst (λ (ws : List Bool). potential (readers reads cs) ws old.box + 1 ≤ potential (readers reads cs) before old.box) (sym says) (le-of (potential (readers reads cs) (set before k false) old.box + 1) (potential (readers reads cs) before old.box) e))
  where
    le-of : (a b : ℕ) → a ≡ b → a ≤ b
    le-of a b e = omega arith
step {C} reads cs ps k before after old new Empty fired some drained waits len says = at new.box fired.says
  where
    at : (b : Option (List Span)) → IsNone b → potential (readers reads cs) after b + 1 ≤ potential (readers reads cs) before old.box
    at (Some xs) none = absurd (cc)
    at None none =
        (subst (λ (ws : List Bool). potential (readers reads cs) ws None + 1 ≤ potential (readers reads cs) before old.box) (sym says) (step-empty (readers reads cs) before k old.box waits))
step {C} reads cs ps k before after old new Narrowed fired some drained waits len says =
    at old.box new.box some fired.says fired.revised.below fired.revised.touched (fired.revised.narrower refl)
  where
    at : (b d : Option (List Span)) → IsSome b → IsSome d → IsBelowBox d b → IfBoth b d (λ xs ys. AddsNarrower old.touched new.touched xs ys) → IfBoth b d (λ xs ys. (j : ℕ) × IsNarrower xs ys j)
        → potential (readers reads cs) after d + 1 ≤ potential (readers reads cs) before b
    at None d sb sd low adds one = absurd (cc)
    at (Some xs) None sb sd low adds one = absurd (cc)
    at (Some xs) (Some ys) sb sd low adds one =
        let narrower : (j : ℕ) → Contains new.touched j → IsNarrower xs ys j = λ j m. elim ((adds j).0 m) [ inl h ↦ absurd (none-there j (subst (λ (cells : List ℕ). Contains cells j) drained h)) | inr n ↦ n ] in
        let there : Contains new.touched one.0 = (adds one.0).1 (inr one.1) in
        less (potential (readers reads cs) after (Some ys)) (length new.touched) (potential (readers reads cs) before (Some xs)) (omega (arith, there.1))
        (step-narrowed reads cs new.touched k before after xs ys low fired.after.distinct narrower waits len says)
      where
        none-there : (j : ℕ) → Contains [] j → ⊥
        none-there j m = omega (arith, m.1)

        less : (p n q : ℕ) → 1 ≤ n → p + n ≤ q → p + 1 ≤ q
        less p n q l h = omega arith

-- the bound of a run from its potential, where steps and potential never rose
pub run-bound : (r : ℕ → ℕ) (start now : ℕ) (before after : List Bool) (old new : Option (List Span)) → IsBelowBox new old
    → now + potential r after new ≤ start + potential r before old → now ≤ start + count_by (λ w. w) before + lost_cost r old new
run-bound r start now before after old new low h =
    sums start now (count_by (λ w. w) before) (count_by (λ w. w) after) (weighted_box r old) (weighted_box r new) (lost_cost r old new) h (lost-left_box r new old low)
  where
    sums : (s n b a x y l : ℕ) → n + (a + y) ≤ s + (b + x) → y + l ≡ x → n ≤ s + b + l
    sums s n b a x y l p e = omega arith
