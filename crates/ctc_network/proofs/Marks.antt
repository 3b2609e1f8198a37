-- What firings and additions leave of the marks of the contractors' parts.
use Rattle.std.proofs.Common.{◌≡◌, ℕ, ◌<◌, ◌≤◌, ◌⊎◌, inl, inr, Bool, true, Option, Some, None, List, [], ◌∷◌, ◌++◌, IsNone, IsSome, IfSome, refl, sym, ap, subst, ◌∙◌, length, length-set, map, set, get_or, take, drop, take_all, append-nil, All, Contains, arith, slice_get}
use Rattle.std.specs.Cmp.{nat_eq_equiv}
use Rattle.std.proofs.lemmas.Bool.{cases_eq}
use Rattle.std.proofs.lemmas.List.{drop_all, get_or-map, get_or-set_same, get_or-set_other, length-map, length_push}
use Rattle.std.proofs.lemmas.Option.{get_or_from_slice_get, slice_get_within}
use Rattle.std.proofs.lemmas.Map.Views.{list_any-from_Contains}
use Rattle.tube_spec.specs.Span.{Span}
use Rattle.tube_spec.specs.Shape.{Shape, IsShape, Extends}
use Rattle.tube_spec.specs.Box.{IsBelowBox, cell_at}
use Rattle.tube_spec.specs.Projection.{Projection, ReadsOnly}
use Rattle.tube_spec.specs.Owner.{Owner}
use Rattle.tube_store.specs.State.{State, IsStore, state_with}
use Rattle.ctc_core.specs.Answers.{Revises}
use Rattle.ctc_core.specs.declared.Revised.{Revised}
use Rattle.ctc_core.specs.declared.Revised.TheVariants.{Same, Narrowed, Empty}
use Rattle.cell_readers.specs.Entries.{AreReaders, readers_at, reads_cell}
use Rattle.ctc_parts.specs.Parts.{each_below, AreClean}
use Rattle.part_marks.specs.Marks.{Marked, marked_at}
use Rattle.part_marks.specs.Nets.{marks_at, Each, AreBeside, AreMarked, KeepsMarks, IsReached}
use Rattle.part_marks.proofs.Keeping.{marked-added, beside-added, marked-grown, beside-grown, marked-fired}
use Rattle.part_marks.proofs.Reaching.{beside-kept, no_marks, same-default}
use Rattle.ctc_network.specs.Nets.{of_place, fits_place, HasMarks, IsDrained}
use Rattle.ctc_network.specs.Noting.{Notes}
use Rattle.ctc_network.proofs.Firing.{noted-same}
use Rattle.ctc_network.proofs.Runs.{get-all}

pub each-fits : {C : Type 0} (fits : C → Shape → Option (List Span) → Type 0) (s : Shape) (b : Option (List Span)) (cs : List (Option C)) → All (λ c. fits_place fits c s b) cs → Each cs (λ k c. fits c s b)
each-fits fits s b cs all k c e = get-all (λ x. fits_place fits x s b) cs k (Some c) e all

-- the lists name each contractor that reads a cell
pub each-read : {C : Type 0} (scope : C → Shape → List ℕ) (s : Shape) (cs : List (Option C)) (lists : List (List ℕ)) → AreReaders (map (λ x. of_place scope x s) cs) lists
    → Each cs (λ j d. (cell : ℕ) → Contains (scope d s) cell → Contains (readers_at lists cell) j)
each-read {C} scope s cs lists readers j d e cell m = (readers.exact cell j).1 (omega (arith, inside, length-map cs (λ (x : Option C). of_place scope x s)), subst (λ (xs : List ℕ). reads_cell xs cell ≡ true) (sym at) reads)
  where
    inside : j < length cs
    inside = slice_get_within cs j (Some d) e

    reads : reads_cell (scope d s) cell ≡ true
    reads = list_any-from_Contains nat_eq_equiv cell (scope d s) m

    at : get_or (map (λ (x : Option C). of_place scope x s) cs) j [] ≡ scope d s
    at = get_or-map (λ (x : Option C). of_place scope x s) cs j None [] inside ∙ ap (λ (o : Option C). of_place scope o s) (get_or_from_slice_get cs j (Some d) None e)

-- the marks under a number, whatever stands past the end
pub marks-read : (ms : List Marked) (k : ℕ) (m : Marked) → k < length ms → m ≡ get_or ms k m → m ≡ marks_at ms k
marks-read ms k m l e = e ∙ same-default ms k m no_marks l

-- the contractor at a place is stable under its unmarked parts
pub clean-place : {C : Type 0} (parts : C → Shape → ℕ) (part : C → Shape → ℕ → List Projection) (store : State) (cs : List (Option C)) (ms : List Marked) (k : ℕ) (place : Option C) (m : Marked) → HasMarks parts part store cs ms
    → slice_get cs k ≡ Some place → m ≡ marks_at ms k → IfSome place (λ c. AreClean (parts c store.shape) (part c store.shape) (marked_at m) store.box)
clean-place parts part store cs ms k None m h there same = tt
clean-place parts part store cs ms k (Some c) m h there same = subst (λ (v : Marked). AreClean (parts c store.shape) (part c store.shape) (marked_at v) store.box) (sym same) (h.clean k c there)

-- the marks under one number are written, with as many flags
pub beside-set : {C : Type 0} (parts : C → Shape → ℕ) (s : Shape) (cs : List (Option C)) (ms : List Marked) (k : ℕ) (m : Marked) → k < length ms → length m.flags ≡ length (marks_at ms k).flags → AreBeside parts s cs ms → AreBeside parts s cs (set ms k m)
beside-set parts s cs ms k m l len beside j c there = subst (λ (n : ℕ). parts c s ≤ n) (sym (room (cases_eq j k))) (beside j c there)
  where
    room : (j ≡ k) ⊎ (j ≡ k → ⊥) → length (marks_at (set ms k m) j).flags ≡ length (marks_at ms j).flags
    room (inl e) = subst (λ (i : ℕ). length (marks_at (set ms k m) i).flags ≡ length (marks_at ms i).flags) (sym e) (ap (λ (v : Marked). length v.flags) (get_or-set_same ms k m no_marks l) ∙ len)
    room (inr n) = ap (λ (v : Marked). length v.flags) (get_or-set_other ms k j m no_marks n)

-- what fits a store fits one that lies below
pub fits-after : {C : Type 0} (fits : C → Shape → Option (List Span) → Type 0) → ((c : C) (s : Shape) (a b : Option (List Span)) → IsBelowBox a b → fits c s b → fits c s a) → (old new : State) (cs ds : List (Option C)) → ds ≡ cs → new.shape ≡ old.shape
    → IsBelowBox new.box old.box → All (λ c. fits_place fits c old.shape old.box) cs → Each ds (λ k c. fits c new.shape new.box)
fits-after {C} fits law old new cs ds same shape low all k c e =
    subst (λ (s : Shape). fits c s new.box) (sym shape) (law c old.shape new.box old.box low (each-fits fits old.shape old.box cs all k c (ap (λ (xs : List (Option C)). slice_get xs k) (sym same) ∙ e)))

-- the marks of the contractor that was fired are written
pub beside-after : {C : Type 0} (parts : C → Shape → ℕ) (part : C → Shape → ℕ → List Projection) (old new : State) (cs ds : List (Option C)) (before lent : List Marked) (k : ℕ) (v : Marked) → ds ≡ cs → new.shape ≡ old.shape → lent ≡ set before k v
    → k < length before → length v.flags ≡ length (marks_at before k).flags → HasMarks parts part old cs before → AreBeside parts new.shape ds lent
beside-after {C} parts part old new cs ds before lent k v same shape written l len h =
    subst (λ (xs : List (Option C)). AreBeside parts new.shape xs lent) (sym same) (subst (λ (ms : List Marked). AreBeside parts new.shape cs ms) (sym written)
    (subst (λ (s : Shape). AreBeside parts s cs (set before k v)) (sym shape) (beside-set parts old.shape cs before k v l len h.beside)))

-- what is lent of a vector comes back
pub marks-back : (old lent new : List Marked) (n : ℕ) → lent ≡ old → length lent ≡ n → length new ≡ length lent → take n (new ++ drop (length new) old) ≡ new
marks-back old lent new n e len kept =
    let same : length new ≡ length old = kept ∙ ap (length {A = Marked}) e in
    let none : drop (length new) old ≡ [] = drop_all (length new) old (omega (arith, same)) in
    ap (λ (x : List Marked). take n (new ++ x)) none ∙ ap (take n) (append-nil new) ∙ take_all n new (omega (arith, kept, len))

-- of a net with no contractor
pub marks-none : {C : Type 0} (parts : C → Shape → ℕ) (part : C → Shape → ℕ → List Projection) (store : State) (cs : List (Option C)) (ms : List Marked) → cs ≡ [] → ms ≡ [] → HasMarks parts part store cs ms
marks-none {C} parts part store cs ms none empty =
    subst (λ (xs : List (Option C)). HasMarks parts part store xs ms) (sym none) (subst (λ (vs : List Marked). HasMarks parts part store [] vs) (sym empty) record {
      len = refl;
      beside = λ k c e. absurd (cc);
      clean = λ k c e. absurd (cc);
    })

-- with one contractor more, all of whose parts are marked
pub marks-added : {C : Type 0} (parts : C → Shape → ℕ) (part : C → Shape → ℕ → List Projection) (store : State) (cs : List (Option C)) (c : C) (ms : List Marked) (m : Marked) → HasMarks parts part store cs ms
    → parts c store.shape ≤ length m.flags → ((i : ℕ) → i < parts c store.shape → marked_at m i ≡ true) → HasMarks parts part store (cs ++ Some c ∷ []) (ms ++ m ∷ [])
marks-added parts part store cs c ms m h room all = record {
  len = omega (arith, h.len, length_push cs (Some c), length_push ms m);
  beside = beside-added parts store.shape cs c ms m h.len room h.beside;
  clean = marked-added parts part store.shape store.box cs c ms m h.len all h.clean;
}

none-marked : {C : Type 0} (parts : C → Shape → ℕ) (part : C → Shape → ℕ → List Projection) (s : Shape) (b : Option (List Span)) (cs : List (Option C)) (ms : List Marked) → IsNone b → AreMarked parts part s b cs ms
none-marked parts part s None cs ms none = λ j d e. tt
none-marked parts part s (Some xs) cs ms none = absurd (cc)

module _ (C : Type 0) (projections : C → Shape → List Projection) (scope : C → Shape → List ℕ) (fits : C → Shape → Option (List Span) → Type 0)
    (parts : C → Shape → ℕ) (part : C → Shape → ℕ → List Projection) (part_scope : C → Shape → ℕ → List ℕ)
    (fits_below : (c : C) (s : Shape) (a b : Option (List Span)) → IsBelowBox a b → fits c s b → fits c s a)
    (whole : (c : C) (s : Shape) → projections c s ≡ each_below (part c s) (parts c s))
    (part_reads : (c : C) (s : Shape) (i : ℕ) → i < parts c s → All (ReadsOnly (λ xs. fits c s (Some xs)) (part_scope c s i)) (part c s i))
    (part_in_scope : (c : C) (s : Shape) (i k : ℕ) → i < parts c s → Contains (part_scope c s i) k → Contains (scope c s) k) where
  module _ (old new : State) (cs : List (Option C)) (lists : List (List ℕ)) (k : ℕ) (c : C) (before now after : List Marked) (fit : Each cs (λ j d. fits d old.shape old.box)) (h : HasMarks parts part old cs before)
      (there : slice_get cs k ≡ Some (Some c)) (others : (j : ℕ) → (j ≡ k → ⊥) → marks_at now j ≡ marks_at before j) (kept : KeepsMarks now after) (readers : AreReaders (map (λ d. of_place scope d old.shape) cs) lists) where
    -- where the parts are marked that read a touched cell
    reached-clean : (x : Revised) → Revises (projections c old.shape) old new x
        → ((cell j : ℕ) → Contains new.touched cell → Contains (readers_at lists cell) j → IsReached parts part_scope old.shape cs after cell j) → AreMarked parts part old.shape new.box cs after
    reached-clean x r reached =
        marked-fired C projections scope fits parts part part_scope fits_below whole part_reads part_in_scope old new x cs (λ cell j. Contains (readers_at lists cell) j) k c before now after fit h.clean there r others kept
        (each-read scope old.shape cs lists readers) reached

    -- where the box stayed
    same-clean : Revises (projections c old.shape) old new Same → IsDrained old → AreMarked parts part old.shape new.box cs after
    same-clean r drained = at old.box refl drained
      where
        same : new ≡ old
        same = r.revised.same refl

        at : (b : Option (List Span)) → old.box ≡ b → IfSome b (λ xs. old.touched ≡ []) → AreMarked parts part old.shape new.box cs after
        at None e none = none-marked parts part old.shape new.box cs after (subst IsNone (sym (ap (λ (s : State). s.box) same ∙ e)) refl)
        at (Some xs) e none =
            reached-clean Same r (λ cell j m reads. let nothing = subst (λ (ks : List ℕ). Contains ks cell) (ap (λ (s : State). s.touched) same ∙ none) m in absurd (omega (arith, nothing.1)))

    fired-clean : (x : Revised) → Revises (projections c old.shape) old new x → IsDrained old
        → (x ≡ Narrowed → (cell j : ℕ) → Contains new.touched cell → Contains (readers_at lists cell) j → IsReached parts part_scope new.shape cs after cell j) → AreMarked parts part old.shape new.box cs after
    fired-clean Same r drained reached = same-clean r drained
    fired-clean Narrowed r drained reached =
        reached-clean Narrowed r (λ cell j m reads. subst (λ (s : Shape). IsReached parts part_scope s cs after cell j) r.revised.shape (reached refl cell j m reads))
    fired-clean Empty r drained reached = none-marked parts part old.shape new.box cs after r.says

    -- after a firing, and what is noted of it
    pub marks-fired : (m : State) (x : Revised) (ts us : List Bool) → Revises (projections c old.shape) old new x → IsDrained old → length now ≡ length before → AreBeside parts old.shape cs now
        → (x ≡ Narrowed → (cell j : ℕ) → Contains new.touched cell → Contains (readers_at lists cell) j → IsReached parts part_scope new.shape cs after cell j) → Notes x k lists new m ts us → HasMarks parts part m cs after
    marks-fired m x ts us r drained len beside reached notes = record {
      len = kept.len ∙ len ∙ h.len;
      beside = subst (λ (s : Shape). AreBeside parts s cs after) (sym shape) (beside-kept parts old.shape cs now after kept beside);
      clean = subst (λ (s : Shape). AreMarked parts part s m.box cs after) (sym shape) (subst (λ (b : Option (List Span)). AreMarked parts part old.shape b cs after) (sym same.1) (fired-clean x r drained reached));
    }
      where
        same : (m.shape ≡ new.shape) × (m.box ≡ new.box)
        same = noted-same x k lists new m ts us notes

        shape : m.shape ≡ old.shape
        shape = same.0 ∙ r.revised.shape

  -- The contractor at a place was fired, its marks were written, and it was noted.
  pub marks-noted : (old new m : State) (cs : List (Option C)) (lists : List (List ℕ)) (k : ℕ) (place : Option C) (before lent after : List Marked) (v : Marked) (x : Revised) (ts us : List Bool)
      → IsSome place → slice_get cs k ≡ Some place → All (λ d. fits_place fits d old.shape old.box) cs → IsDrained old → HasMarks parts part old cs before → k < length before → length v.flags ≡ length (marks_at before k).flags
      → lent ≡ set before k v → KeepsMarks lent after → AreReaders (map (λ d. of_place scope d old.shape) cs) lists → Revises (of_place projections place old.shape) old new x
      → (x ≡ Narrowed → (cell j : ℕ) → Contains new.touched cell → Contains (readers_at lists cell) j → IsReached parts part_scope new.shape cs after cell j) → Notes x k lists new m ts us → HasMarks parts part m cs after
  marks-noted old new m cs lists k None before lent after v x ts us some there fit drained h l len written kept readers r reached notes = absurd (cc)
  marks-noted old new m cs lists k (Some c) before lent after v x ts us some there fit drained h l len written kept readers r reached notes =
      marks-fired old new cs lists k c before (set before k v) after (each-fits fits old.shape old.box cs fit) h there (λ j n. get_or-set_other before k j v no_marks n)
      (subst (λ (ms : List Marked). KeepsMarks ms after) written kept) readers m x ts us r drained (length-set before k v) (beside-set parts old.shape cs before k v l len h.beside) reached notes

module _ (C : Type 0) (projections : C → Shape → List Projection) (scope : C → Shape → List ℕ) (fits : C → Shape → Option (List Span) → Type 0)
    (parts : C → Shape → ℕ) (part : C → Shape → ℕ → List Projection) (part_scope : C → Shape → ℕ → List ℕ)
    (fits_local : (c : C) (s : Shape) (xs ys : List Span) → ((k : ℕ) → Contains (scope c s) k → cell_at xs k ≡ cell_at ys k) → fits c s (Some xs) → fits c s (Some ys))
    (in_store : (c : C) (s : Shape) (b : Option (List Span)) → IsShape s → fits c s b → All (λ k. k < s.cells) (scope c s) × All (λ p. p.target < s.cells) (projections c s))
    (whole : (c : C) (s : Shape) → projections c s ≡ each_below (part c s) (parts c s))
    (part_reads : (c : C) (s : Shape) (i : ℕ) → i < parts c s → All (ReadsOnly (λ xs. fits c s (Some xs)) (part_scope c s i)) (part c s i))
    (part_in_scope : (c : C) (s : Shape) (i k : ℕ) → i < parts c s → Contains (part_scope c s i) k → Contains (scope c s) k)
    (same_parts : (c : C) (s t : Shape) (b : Option (List Span)) → Extends s t → fits c s b → parts c t ≡ parts c s)
    (same_part : (c : C) (s t : Shape) (b : Option (List Span)) (i : ℕ) → Extends s t → fits c s b → i < parts c s → part c t i ≡ part c s i) where
  -- with the cells of one owner more
  pub marks-grown : (old : State) (o : Owner) (cs : List (Option C)) (ms : List Marked) → IsStore old → Each cs (λ j d. fits d old.shape old.box) → HasMarks parts part old cs ms → HasMarks parts part (state_with old o) cs ms
  marks-grown old o cs ms store fit h = record {
    len = h.len;
    beside = beside-grown C projections scope fits parts part part_scope fits_local in_store whole part_reads part_in_scope same_parts same_part old o cs ms fit h.beside;
    clean = marked-grown C projections scope fits parts part part_scope fits_local in_store whole part_reads part_in_scope same_parts same_part old o cs ms store fit h.clean;
  }
