-- What firings and additions leave of marks: where the box is stable under each part that is not marked, it is so again.
use Rattle.std.proofs.Common.{◌≡◌, ℕ, ◌<◌, Bool, true, false, Option, Some, None, List, ◌++◌, inr, IfSome, sym, subst, arith, length, get_or, All, Contains, pos}
use Rattle.std.proofs.lemmas.Bool.{both_ways}
use Rattle.std.proofs.lemmas.List.{get_or_append_left}
use Rattle.std.proofs.lemmas.List.Elements.{All-contains}
use Rattle.tube_spec.specs.Span.{Span, point}
use Rattle.tube_spec.specs.Narrowing.{Narrowing, IsUnder}
use Rattle.tube_spec.specs.Shape.{Shape, IsShape, Extends}
use Rattle.tube_spec.specs.Box.{IsBox, IsBelow, IsBelowBox, cell_at}
use Rattle.tube_spec.specs.Projection.{Projection, IsStable, ReadsOnly}
use Rattle.tube_store.specs.State.{State}
use Rattle.ctc_core.specs.Revising.{IfBoth, IsNarrower, AddsNarrower}
use Rattle.ctc_core.specs.Answers.{Revises}
use Rattle.ctc_core.specs.declared.Revised.{Revised}
use Rattle.ctc_core.proofs.Firing.{IsBox-of}
use Rattle.ctc_parts.specs.Parts.{each_below, AreClean}
use Rattle.ctc_parts.proofs.Members.{each_below-all}
use Rattle.ctc_parts.proofs.Firing.{IsHeldBy}
use Rattle.ctc_parts.proofs.Quiet.{held-kept, fixpoint-kept}

module _ (C : Type 0) (projections : C → Shape → List Projection) (fits : C → Shape → Option (List Span) → Type 0) (parts : C → Shape → ℕ) (part : C → Shape → ℕ → List Projection) (part_scope : C → Shape → ℕ → List ℕ)
    (fits_below : (c : C) (s : Shape) (a b : Option (List Span)) → IsBelowBox a b → fits c s b → fits c s a)
    (whole : (c : C) (s : Shape) → projections c s ≡ each_below (part c s) (parts c s))
    (part_reads : (c : C) (s : Shape) (i : ℕ) → i < parts c s → All (ReadsOnly (λ xs. fits c s (Some xs)) (part_scope c s i)) (part c s i)) where
  clean-drained : (c : C) (s : Shape) (old new : Option (List Span)) (touched : List ℕ) (marked : ℕ → Bool) → fits c s old → fits c s new → IfSome new IsBox → IsBelowBox new old
      → IfBoth old new (λ xs ys. All (IsHeldBy xs ys) (projections c s)) → IfBoth old new (λ xs ys. (k : ℕ) → IsNarrower xs ys k → Contains touched k)
      → ((cell i : ℕ) → Contains touched cell → i < parts c s → Contains (part_scope c s i) cell → marked i ≡ true)
      → AreClean (parts c s) (part c s) marked new
  clean-drained c s old None touched marked fo fn box low held narrow mark = tt
  clean-drained c s None (Some ys) touched marked fo fn box low held narrow mark = absurd low
  clean-drained c s (Some xs) (Some ys) touched marked fo fn box low held narrow mark = λ i l m.
      held-kept (λ zs. fits c s (Some zs)) (part_scope c s i) (part c s i) xs ys box low fo fn (part_reads c s i l)
      (λ k in_part less. both_ways (marked i) m (mark k i (narrow k less) l in_part))
      (each_below-all (IsHeldBy xs ys) (part c s) (parts c s) i l (subst (λ (ps : List Projection). All (IsHeldBy xs ys) ps) (whole c s) held))

  narrower-touched : (before after : List ℕ) (a b : Option (List Span)) → IfBoth a b (λ xs ys. AddsNarrower before after xs ys) → IfBoth a b (λ xs ys. (k : ℕ) → IsNarrower xs ys k → Contains after k)
  narrower-touched before after None b h = tt
  narrower-touched before after (Some xs) None h = tt
  narrower-touched before after (Some xs) (Some ys) h = λ k n. (h k).1 (inr n)

  -- of the contractor that was fired, where the parts are marked that read a touched cell
  pub clean-fired : (c : C) (old new : State) (x : Revised) (marked : ℕ → Bool) → fits c old.shape old.box → Revises (projections c old.shape) old new x
      → ((cell i : ℕ) → Contains new.touched cell → i < parts c old.shape → Contains (part_scope c old.shape i) cell → marked i ≡ true)
      → AreClean (parts c old.shape) (part c old.shape) marked new.box
  clean-fired c old new x marked fit r mark =
      clean-drained c old.shape old.box new.box new.touched marked fit (fits_below c old.shape new.box old.box r.revised.below fit) (IsBox-of new r.after) r.revised.below r.revised.stable
      (narrower-touched old.touched new.touched old.box new.box r.revised.touched) mark

  -- of another contractor, where no mark was taken away and the parts are marked that read a narrower cell
  pub clean-beside : (c : C) (s : Shape) (xs ys : List Span) (before after : ℕ → Bool) → fits c s (Some xs) → IsBox ys → IsBelow ys xs → AreClean (parts c s) (part c s) before (Some xs)
      → ((i : ℕ) → i < parts c s → after i ≡ false → before i ≡ false)
      → ((k i : ℕ) → IsNarrower xs ys k → i < parts c s → Contains (part_scope c s i) k → after i ≡ true)
      → AreClean (parts c s) (part c s) after (Some ys)
  clean-beside c s xs ys before after fit box low clean kept mark = λ i l m.
      fixpoint-kept (λ zs. fits c s (Some zs)) (part_scope c s i) (part c s i) xs ys box low fit (fits_below c s (Some ys) (Some xs) low fit) (part_reads c s i l)
      (λ k in_part less. both_ways (after i) m (mark k i less l in_part)) (clean i l (kept i l m))

module _ (C : Type 0) (projections : C → Shape → List Projection) (scope : C → Shape → List ℕ) (fits : C → Shape → Option (List Span) → Type 0)
    (parts : C → Shape → ℕ) (part : C → Shape → ℕ → List Projection) (part_scope : C → Shape → ℕ → List ℕ)
    (fits_local : (c : C) (s : Shape) (xs ys : List Span) → ((k : ℕ) → Contains (scope c s) k → cell_at xs k ≡ cell_at ys k) → fits c s (Some xs) → fits c s (Some ys))
    (in_store : (c : C) (s : Shape) (b : Option (List Span)) → IsShape s → fits c s b → All (λ k. k < s.cells) (scope c s) × All (λ p. p.target < s.cells) (projections c s))
    (whole : (c : C) (s : Shape) → projections c s ≡ each_below (part c s) (parts c s))
    (part_reads : (c : C) (s : Shape) (i : ℕ) → i < parts c s → All (ReadsOnly (λ xs. fits c s (Some xs)) (part_scope c s i)) (part c s i))
    (part_in_scope : (c : C) (s : Shape) (i k : ℕ) → i < parts c s → Contains (part_scope c s i) k → Contains (scope c s) k)
    (same_parts : (c : C) (s t : Shape) (b : Option (List Span)) → Extends s t → fits c s b → parts c t ≡ parts c s)
    (same_part : (c : C) (s t : Shape) (b : Option (List Span)) (i : ℕ) → Extends s t → fits c s b → i < parts c s → part c t i ≡ part c s i) where
  -- a part under which a box is stable has it stable with further cells
  part-more : (c : C) (s : Shape) (i : ℕ) (xs more : List Span) → IsShape s → length xs ≡ s.cells → i < parts c s → fits c s (Some xs) → All (IsStable xs) (part c s i) → All (IsStable (xs ++ more)) (part c s i)
  part-more c s i xs more shape len inside fit stable j d l =
      let p = get_or (part c s i) j d in
      let targets : All (λ (q : Projection). q.target < s.cells) (part c s i) = each_below-all (λ (q : Projection). q.target < s.cells) (part c s) (parts c s) i inside
      (subst (λ (ps : List Projection). All (λ (q : Projection). q.target < s.cells) ps) (whole c s) (in_store c s (Some xs) shape fit).1) in
      let target : cell_at xs p.target ≡ cell_at (xs ++ more) p.target = first p.target (targets j d l) in
      let formula : p.formula xs ≡ p.formula (xs ++ more) = part_reads c s i inside j d l xs (xs ++ more) fit (fits_local c s xs (xs ++ more) same fit) (λ k m. same k (part_in_scope c s i k inside m)) in
      subst (λ (h : Narrowing). IsUnder (cell_at (xs ++ more) p.target) h) formula
      (subst (λ (v : Span). IsUnder v (p.formula xs)) target (stable j d l))
    where
      first : (k : ℕ) → k < s.cells → cell_at xs k ≡ cell_at (xs ++ more) k
      first k l = sym (get_or_append_left xs more (point (pos 0)) k (omega (arith, l, len)))

      same : (k : ℕ) → Contains (scope c s) k → cell_at xs k ≡ cell_at (xs ++ more) k
      same k m = first k (All-contains (λ j. j < s.cells) (scope c s) k (in_store c s (Some xs) shape fit).0 m)

  -- further cells leave the marks
  pub clean-more : (c : C) (s t : Shape) (xs more : List Span) (marked : ℕ → Bool) → IsShape s → length xs ≡ s.cells → Extends s t → fits c s (Some xs)
      → AreClean (parts c s) (part c s) marked (Some xs) → AreClean (parts c t) (part c t) marked (Some (xs ++ more))
  clean-more c s t xs more marked shape len grows fit clean = λ i l m.
      let inside : i < parts c s = subst (λ (n : ℕ). i < n) (same_parts c s t (Some xs) grows fit) l in
      subst (λ (ps : List Projection). All (IsStable (xs ++ more)) ps) (sym (same_part c s t (Some xs) i grows fit inside))
      (part-more c s i xs more shape len inside fit (clean i inside m))
