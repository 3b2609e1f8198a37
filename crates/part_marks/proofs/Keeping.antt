-- Where each contractor's unmarked parts left the box, they do so after a firing, and after an addition.
use Rattle.std.proofs.Common.{◌≡◌, ℕ, zero, suc, ◌<◌, ◌≤◌, ◌⊎◌, inl, inr, Bool, true, false, Option, Some, None, List, [], ◌∷◌, ◌++◌, IfSome, refl, sym, ap, subst, ◌∙◌, length, arith, Contains, All, slice_get}
use Rattle.std.proofs.lemmas.Bool.{cases_eq}
use Rattle.tube_spec.specs.Span.{Span}
use Rattle.tube_spec.specs.Shape.{Shape, IsShape, Extends}
use Rattle.tube_spec.specs.Box.{IsBox, IsBelowBox, box_more, cell_at}
use Rattle.tube_spec.specs.Projection.{Projection, ReadsOnly}
use Rattle.tube_spec.specs.Owner.{Owner, with_owner, declared_cells}
use Rattle.tube_spec.proofs.Hulls.{owner-extends}
use Rattle.tube_store.specs.State.{State, IsStore}
use Rattle.ctc_core.specs.Revising.{IfBoth, AddsNarrower}
use Rattle.ctc_core.specs.Answers.{Revises}
use Rattle.ctc_core.specs.declared.Revised.{Revised}
use Rattle.ctc_core.proofs.Firing.{IsBox-of}
use Rattle.ctc_parts.specs.Parts.{each_below, AreClean}
use Rattle.ctc_parts.proofs.Cleaning.{clean-fired, clean-beside, clean-more}
use Rattle.part_marks.specs.Marks.{Marked, marked_at}
use Rattle.part_marks.specs.Nets.{marks_at, Each, AreBeside, AreMarked, KeepsMarks, IsReached}

-- a test that stays true was false before where it is false after
was-false : (b a : Bool) → (b ≡ true → a ≡ true) → a ≡ false → b ≡ false
was-false false a h e = refl
was-false true a h e = let t = h refl in absurd (cc)

clean-none : (n : ℕ) (part : ℕ → List Projection) (marked : ℕ → Bool) → AreClean n part marked None
clean-none n part marked = tt

-- of a contractor more, whose parts are all marked
pub marked-added : {C : Type 0} (parts : C → Shape → ℕ) (part : C → Shape → ℕ → List Projection) (s : Shape) (box : Option (List Span)) (cs : List (Option C)) (c : C) (ms : List Marked) (m : Marked) → length ms ≡ length cs
    → ((i : ℕ) → i < parts c s → marked_at m i ≡ true) → AreMarked parts part s box cs ms → AreMarked parts part s box (cs ++ Some c ∷ []) (ms ++ m ∷ [])
marked-added parts part s box [] c [] m len all clean zero d e = let same : c ≡ d = cc in subst (λ x. AreClean (parts x s) (part x s) (marked_at m) box) same (fresh box)
  where
    fresh : (b : Option (List Span)) → AreClean (parts c s) (part c s) (marked_at m) b
    fresh None = tt
    fresh (Some xs) = λ i l f. let t = all i l in absurd (cc)
marked-added parts part s box [] c [] m len all clean (suc k) d e = absurd (cc)
marked-added parts part s box [] c (v ∷ ms) m len all clean k d e = absurd (omega (arith, len))
marked-added parts part s box (x ∷ cs) c [] m len all clean k d e = absurd (omega (arith, len))
marked-added parts part s box (x ∷ cs) c (v ∷ ms) m len all clean zero d e = clean 0 d e
marked-added parts part s box (x ∷ cs) c (v ∷ ms) m len all clean (suc k) d e = marked-added parts part s box cs c ms m (omega (arith, len)) all (λ j b f. clean (suc j) b f) k d e

pub beside-added : {C : Type 0} (parts : C → Shape → ℕ) (s : Shape) (cs : List (Option C)) (c : C) (ms : List Marked) (m : Marked) → length ms ≡ length cs
    → parts c s ≤ length m.flags → AreBeside parts s cs ms → AreBeside parts s (cs ++ Some c ∷ []) (ms ++ m ∷ [])
beside-added parts s [] c [] m len room beside zero d e = let same : c ≡ d = cc in subst (λ x. parts x s ≤ length m.flags) same room
beside-added parts s [] c [] m len room beside (suc k) d e = absurd (cc)
beside-added parts s [] c (v ∷ ms) m len room beside k d e = absurd (omega (arith, len))
beside-added parts s (x ∷ cs) c [] m len room beside k d e = absurd (omega (arith, len))
beside-added parts s (x ∷ cs) c (v ∷ ms) m len room beside zero d e = beside 0 d e
beside-added parts s (x ∷ cs) c (v ∷ ms) m len room beside (suc k) d e = beside-added parts s cs c ms m (omega (arith, len)) room (λ j b f. beside (suc j) b f) k d e

module _ (C : Type 0) (projections : C → Shape → List Projection) (scope : C → Shape → List ℕ) (fits : C → Shape → Option (List Span) → Type 0)
    (parts : C → Shape → ℕ) (part : C → Shape → ℕ → List Projection) (part_scope : C → Shape → ℕ → List ℕ)
    (fits_below : (c : C) (s : Shape) (a b : Option (List Span)) → IsBelowBox a b → fits c s b → fits c s a)
    (whole : (c : C) (s : Shape) → projections c s ≡ each_below (part c s) (parts c s))
    (part_reads : (c : C) (s : Shape) (i : ℕ) → i < parts c s → All (ReadsOnly (λ xs. fits c s (Some xs)) (part_scope c s i)) (part c s i))
    (part_in_scope : (c : C) (s : Shape) (i k : ℕ) → i < parts c s → Contains (part_scope c s i) k → Contains (scope c s) k) where
  -- of another contractor than the one that was fired
  clean-other : (d : C) (s : Shape) (before after : Marked) (cells old-touched : List ℕ) (a b : Option (List Span)) → fits d s a → IfSome b IsBox → IsBelowBox b a
      → IfBoth a b (λ xs ys. AddsNarrower old-touched cells xs ys)
      → ((i : ℕ) → marked_at before i ≡ true → marked_at after i ≡ true)
      → ((cell i : ℕ) → Contains cells cell → i < parts d s → Contains (part_scope d s i) cell → marked_at after i ≡ true)
      → AreClean (parts d s) (part d s) (marked_at before) a → AreClean (parts d s) (part d s) (marked_at after) b
  clean-other d s before after cells old-touched a None fit box low adds kept mark clean = tt
  clean-other d s before after cells old-touched None (Some ys) fit box low adds kept mark clean = absurd low
  clean-other d s before after cells old-touched (Some xs) (Some ys) fit box low adds kept mark clean =
      clean-beside C projections fits parts part part_scope fits_below whole part_reads d s xs ys (marked_at before) (marked_at after) fit box low clean
      (λ i l. was-false (marked_at before i) (marked_at after i) (kept i))
      (λ k i less l reads. mark k i ((adds k).1 (inr less)) l reads)

  -- After a firing, whatever marks that contractor has then, the parts are marked that read a touched cell.
  pub marked-fired : (old new : State) (x : Revised) (cs : List (Option C)) (readers : ℕ → ℕ → Type 0) (k : ℕ) (c : C) (before fired after : List Marked)
      → Each cs (λ j d. fits d old.shape old.box) → AreMarked parts part old.shape old.box cs before → slice_get cs k ≡ Some (Some c) → Revises (projections c old.shape) old new x
      → ((j : ℕ) → (j ≡ k → ⊥) → marks_at fired j ≡ marks_at before j) → KeepsMarks fired after
      → Each cs (λ j d. (cell : ℕ) → Contains (scope d old.shape) cell → readers cell j)
      → ((cell j : ℕ) → Contains new.touched cell → readers cell j → IsReached parts part_scope old.shape cs after cell j)
      → AreMarked parts part old.shape new.box cs after
  marked-fired old new x cs readers k c before fired after fit clean there r others kept complete reached j d e = at (cases_eq j k)
    where
      mark : (cell i : ℕ) → Contains new.touched cell → i < parts d old.shape → Contains (part_scope d old.shape i) cell → marked_at (marks_at after j) i ≡ true
      mark cell i touched l reads = reached cell j touched (complete j d e cell (part_in_scope d old.shape i cell l reads)) d i e l reads

      at : (j ≡ k) ⊎ (j ≡ k → ⊥) → AreClean (parts d old.shape) (part d old.shape) (marked_at (marks_at after j)) new.box
      at (inl same) =
          let one : Some (Some c) ≡ Some (Some d) = sym there ∙ ap (slice_get cs) (sym same) ∙ e in
          let is : c ≡ d = cc in
          clean-fired C projections fits parts part part_scope fits_below whole part_reads d old new x (marked_at (marks_at after j)) (fit j d e) (subst (λ y. Revises (projections y old.shape) old new x) is r) mark
      at (inr n) =
          clean-other d old.shape (marks_at before j) (marks_at after j) new.touched old.touched old.box new.box (fit j d e) (IsBox-of new r.after) r.revised.below r.revised.touched
          (λ i m. kept.kept j i (subst (λ (v : Marked). marked_at v i ≡ true) (sym (others j n)) m)) mark (clean j d e)

module _ (C : Type 0) (projections : C → Shape → List Projection) (scope : C → Shape → List ℕ) (fits : C → Shape → Option (List Span) → Type 0)
    (parts : C → Shape → ℕ) (part : C → Shape → ℕ → List Projection) (part_scope : C → Shape → ℕ → List ℕ)
    (fits_local : (c : C) (s : Shape) (xs ys : List Span) → ((k : ℕ) → Contains (scope c s) k → cell_at xs k ≡ cell_at ys k) → fits c s (Some xs) → fits c s (Some ys))
    (in_store : (c : C) (s : Shape) (b : Option (List Span)) → IsShape s → fits c s b → All (λ k. k < s.cells) (scope c s) × All (λ p. p.target < s.cells) (projections c s))
    (whole : (c : C) (s : Shape) → projections c s ≡ each_below (part c s) (parts c s))
    (part_reads : (c : C) (s : Shape) (i : ℕ) → i < parts c s → All (ReadsOnly (λ xs. fits c s (Some xs)) (part_scope c s i)) (part c s i))
    (part_in_scope : (c : C) (s : Shape) (i k : ℕ) → i < parts c s → Contains (part_scope c s i) k → Contains (scope c s) k)
    (same_parts : (c : C) (s t : Shape) (b : Option (List Span)) → Extends s t → fits c s b → parts c t ≡ parts c s)
    (same_part : (c : C) (s t : Shape) (b : Option (List Span)) (i : ℕ) → Extends s t → fits c s b → i < parts c s → part c t i ≡ part c s i) where
  -- with the cells of one owner more
  pub marked-grown : (old : State) (o : Owner) (cs : List (Option C)) (ms : List Marked) → IsStore old → Each cs (λ j d. fits d old.shape old.box)
      → AreMarked parts part old.shape old.box cs ms → AreMarked parts part (with_owner old.shape o) (box_more old.box (declared_cells old.shape.grid o)) cs ms
  marked-grown old o cs ms store fit clean k c e = at old.box store.box (fit k c e) (clean k c e)
    where
      at : (b : Option (List Span)) → IfSome b (λ xs. IsBox xs × (length xs ≡ old.shape.cells)) → fits c old.shape b → AreClean (parts c old.shape) (part c old.shape) (marked_at (marks_at ms k)) b
          → AreClean (parts c (with_owner old.shape o)) (part c (with_owner old.shape o)) (marked_at (marks_at ms k)) (box_more b (declared_cells old.shape.grid o))
      at None box good h = tt
      at (Some xs) box good h =
          clean-more C projections scope fits parts part part_scope fits_local in_store whole part_reads part_in_scope same_parts same_part c old.shape (with_owner old.shape o) xs (declared_cells old.shape.grid o) (marked_at (marks_at ms k))
          store.shape box.1 (owner-extends o old.shape) good h

  pub beside-grown : (old : State) (o : Owner) (cs : List (Option C)) (ms : List Marked) → Each cs (λ j d. fits d old.shape old.box) → AreBeside parts old.shape cs ms → AreBeside parts (with_owner old.shape o) cs ms
  beside-grown old o cs ms fit beside k c e = subst (λ (n : ℕ). n ≤ length (marks_at ms k).flags) (sym (same_parts c old.shape (with_owner old.shape o) old.box (owner-extends o old.shape) (fit k c e))) (beside k c e)
