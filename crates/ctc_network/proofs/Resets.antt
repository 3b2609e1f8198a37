-- Who waits after a reset, and whose parts are marked.
use Rattle.std.proofs.Common.{◌≡◌, ◌≢◌, ℕ, ◌+◌, ◌<◌, ◌≤◌, ◌⊎◌, inl, inr, ◌↔◌, Bool, true, Option, Some, None, List, refl, sym, ap, subst, ◌∙◌, length, set, get_or, IfSome, IsSome, arith, slice_get}
use Rattle.std.proofs.lemmas.List.{get_or-set_same}
use Rattle.std.proofs.lemmas.Option.{slice_get_within}
use Rattle.tube_spec.specs.Span.{Span}
use Rattle.tube_spec.specs.Shape.{Shape}
use Rattle.tube_spec.specs.Projection.{Projection}
use Rattle.tube_store.specs.declared.CellId.{CellId}
use Rattle.part_marks.specs.Marks.{Marked, marked_at}
use Rattle.part_marks.specs.Nets.{marks_at, Each, AreBeside, KeepsMarks}
use Rattle.part_marks.proofs.Reaching.{no_marks, same-default, keeps-same, keeps-set, keeps-then}
use Rattle.ctc_network.specs.Nets.{of_place}
use Rattle.ctc_network.specs.Resetting.{Uses, IsRoused}

-- a fact about what stands at a place, of what stands there
pub at-place : {X : Type 0} (P : X → Type 0) (xs : List X) (k : ℕ) (x : X) → slice_get xs k ≡ Some x → P x → IfSome (slice_get xs k) P
at-place P xs k x e p = subst (λ o. IfSome o P) (sym e) p

pub of-place-at : {X : Type 0} (P : X → Type 0) (xs : List X) (k : ℕ) (x : X) → slice_get xs k ≡ Some x → IfSome (slice_get xs k) P → P x
of-place-at P xs k x e p = subst (λ o. IfSome o P) e p

-- the contractor at a place has a mark for each of its parts
pub beside-place : {C : Type 0} (parts : C → Shape → ℕ) (s : Shape) (cs : List (Option C)) (ms : List Marked) (k : ℕ) (place : Option C) (d : Marked) → AreBeside parts s cs ms → slice_get cs k ≡ Some place → k < length ms
    → IfSome place (λ c. parts c s ≤ length (get_or ms k d).flags)
beside-place parts s cs ms k None d h e l = tt
beside-place parts s cs ms k (Some c) d h e l = subst (λ (m : Marked). parts c s ≤ length m.flags) (same-default ms k no_marks d l) (h k c e)

-- the marks under a number were written, and none was cleared
pub keeps-written : (ms : List Marked) (k : ℕ) (d m : Marked) → k < length ms → length m.flags ≡ length (get_or ms k d).flags → ((i : ℕ) → marked_at (get_or ms k d) i ≡ true → marked_at m i ≡ true) → KeepsMarks ms (set ms k m)
keeps-written ms k d m l len kept = keeps-set ms k m l (len ∙ ap (λ (v : Marked). length v.flags) (same-default ms k d no_marks l)) (λ i h. kept i (subst (λ (v : Marked). marked_at v i ≡ true) (same-default ms k no_marks d l) h))

module _ {C : Type 0} (projections : C → Shape → List Projection) (scope : C → Shape → List ℕ) (parts : C → Shape → ℕ) (s : Shape) (cells : List (CellId × Span)) where
  -- all parts of the contractor at a place are marked
  pub marked-place : (place : Option C) (ms : List Marked) (k : ℕ) (m : Marked) → k < length ms → IfSome place (λ c. (i : ℕ) → i < parts c s → marked_at m i ≡ true)
      → IfSome place (λ c. Uses cells (scope c s) (projections c s) → (i : ℕ) → i < parts c s → marked_at (marks_at (set ms k m) k) i ≡ true)
  marked-place None ms k m l h = tt
  marked-place (Some c) ms k m l h = λ used i b. subst (λ (v : Marked). marked_at v i ≡ true) (sym (get_or-set_same ms k m no_marks l)) (h i b)

  -- where it does not use the cells, nothing is asked
  pub unused-place : (place : Option C) (P : C → Type 0) → (Uses cells (of_place scope place s) (of_place projections place s) → ⊥) → IfSome place (λ c. Uses cells (scope c s) (projections c s) → P c)
  unused-place None P no-use = tt
  unused-place (Some c) P no-use = λ used. absurd (no-use used)

  -- who uses the cells is there
  pub used-there : (place : Option C) → Uses cells (of_place scope place s) (of_place projections place s) → IsSome place
  used-there None used = absurd (omega (arith, used.2))
  used-there (Some c) used = refl

  -- The first so many contractors were asked.
  pub record AreRoused (cs : List (Option C)) (before after : List Bool) (ms ns : List Marked) (n : ℕ) : Type 0 where
    pub len : length after ≡ length before
    pub waits : (k : ℕ) (c : Option C) → slice_get cs k ≡ Some c → k < n → (slice_get after k ≡ Some true) ↔ ((slice_get before k ≡ Some true) ⊎ Uses cells (of_place scope c s) (of_place projections c s))
    pub later : (k : ℕ) → n ≤ k → slice_get after k ≡ slice_get before k
    pub kept : KeepsMarks ms ns
    pub marked : Each cs (λ k c. k < n → Uses cells (scope c s) (projections c s) → (i : ℕ) → i < parts c s → marked_at (marks_at ns k) i ≡ true)

  pub roused-none : (cs : List (Option C)) (ws : List Bool) (ms : List Marked) → AreRoused cs ws ws ms ms 0
  roused-none cs ws ms = record {
    len = refl;
    waits = λ k c e l. absurd (omega (arith, l));
    later = λ k l. refl;
    kept = keeps-same ms;
    marked = λ k c e l. absurd (omega (arith, l));
  }

  split : (k n : ℕ) → k < n + 1 → (k < n) ⊎ (k ≡ n)
  split k n h = grind arith

  -- one more was asked
  pub roused-more : (cs : List (Option C)) (before now after : List Bool) (ms ns os : List Marked) (n : ℕ) → AreRoused cs before now ms ns n → length after ≡ length now → ((k : ℕ) → k ≢ n → slice_get after k ≡ slice_get now k)
      → IfSome (slice_get cs n) (λ c. (slice_get after n ≡ Some true) ↔ ((slice_get now n ≡ Some true) ⊎ Uses cells (of_place scope c s) (of_place projections c s)))
      → KeepsMarks ns os
      → IfSome (slice_get cs n) (λ o. IfSome o (λ c. Uses cells (scope c s) (projections c s) → (i : ℕ) → i < parts c s → marked_at (marks_at os n) i ≡ true))
      → AreRoused cs before after ms os (n + 1)
  roused-more cs before now after ms ns os n h len others here kept marks = record {
    len = len ∙ h.len;
    waits = λ k c e l. elim (split k n l) [
      | inl b ↦ subst (λ (o : Option Bool). (o ≡ Some true) ↔ ((slice_get before k ≡ Some true) ⊎ Uses cells (of_place scope c s) (of_place projections c s))) (sym (others k (λ q. absurd (omega (arith, q, b))))) (h.waits k c e b)
      | inr q ↦
          subst (λ (o : Option Bool). (slice_get after k ≡ Some true) ↔ ((o ≡ Some true) ⊎ Uses cells (of_place scope c s) (of_place projections c s))) (h.later k (omega (arith, q)))
          (subst (λ (i : ℕ). (slice_get after i ≡ Some true) ↔ ((slice_get now i ≡ Some true) ⊎ Uses cells (of_place scope c s) (of_place projections c s))) (sym q)
          (of-place-at (λ d. (slice_get after n ≡ Some true) ↔ ((slice_get now n ≡ Some true) ⊎ Uses cells (of_place scope d s) (of_place projections d s))) cs n c (subst (λ (i : ℕ). slice_get cs i ≡ Some c) q e) here))
    ];
    later = λ k l. others k (λ q. absurd (omega (arith, q, l))) ∙ h.later k (omega (arith, l));
    kept = keeps-then ms ns os h.kept kept;
    marked = λ k c e l used i b. elim (split k n l) [
      | inl before ↦ kept.kept k i (h.marked k c e before used i b)
      | inr q ↦
          subst (λ (j : ℕ). marked_at (marks_at os j) i ≡ true) (sym q)
          (of-place-at (λ o. IfSome o (λ d. Uses cells (scope d s) (projections d s) → (j : ℕ) → j < parts d s → marked_at (marks_at os n) j ≡ true)) cs n (Some c) (subst (λ (j : ℕ). slice_get cs j ≡ Some (Some c)) q e) marks used i b)
    ];
  }

  -- all were asked
  pub roused-all : (cs : List (Option C)) (before after : List Bool) (ms ns : List Marked) (n : ℕ) → AreRoused cs before after ms ns n → length cs ≤ n → IsRoused (of_place projections) (of_place scope) s cs cells before after
  roused-all cs before after ms ns n h all = record { len = h.len; waits = λ k c e. h.waits k c e (omega (arith, slice_get_within cs k c e, all)) }

  pub marked-all : (cs : List (Option C)) (before after : List Bool) (ms ns : List Marked) (n : ℕ) → AreRoused cs before after ms ns n → length cs ≤ n
      → Each cs (λ k c. Uses cells (scope c s) (projections c s) → (i : ℕ) → i < parts c s → marked_at (marks_at ns k) i ≡ true)
  marked-all cs before after ms ns n h all k c e = h.marked k c e (omega (arith, slice_get_within cs k (Some c) e, all))
