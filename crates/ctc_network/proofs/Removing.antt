-- A contractor is taken out of its place.
use Rattle.std.proofs.Common.{◌≡◌, ℕ, zero, suc, ◌+◌, ◌<◌, ◌⊎◌, inl, inr, Option, Some, None, List, [], ◌∷◌, Bool, true, false, IsSome, IsSomeAnd, IfSome, refl, sym, ap, subst, ◌∙◌, length, length-set, map, set, get_or, All, Contains, arith, slice_get, cond}
use Rattle.std.specs.Prelude.{is_some}
use Rattle.std.proofs.lemmas.Bool.{cases_eq}
use Rattle.std.proofs.lemmas.List.{get_or-map, get_or-set_same, get_or-set_other, length-map, map-set}
use Rattle.std.proofs.lemmas.List.Sums.{sum_by-set}
use Rattle.std.proofs.lemmas.Option.{get_or_from_slice_get, slice_get_within}
use Rattle.tube_spec.specs.Span.{Span}
use Rattle.tube_spec.specs.Shape.{Shape}
use Rattle.tube_spec.specs.Box.{IsBox}
use Rattle.tube_spec.specs.Projection.{Projection}
use Rattle.tube_spec.specs.Fixpoint.{IsFixpoint}
use Rattle.tube_store.specs.State.{State}
use Rattle.cell_readers.specs.Entries.{Table, AreReaders, readers_at, reads_cell}
use Rattle.cell_readers.specs.Waking.{AreAtRest}
use Rattle.part_marks.specs.Marks.{Marked}
use Rattle.ctc_network.specs.Nets.{of_place, fits_place, AreThere, ArePlaces, IsKept, HasMarks, count_there, entries_of}
use Rattle.ctc_network.proofs.Waking.{sum-scopes, inside-there}

-- who stands at a place after one was taken out stood there before, and is another
pub left-at : {X : Type 0} (xs : List X) (k j : ℕ) (y x : X) → slice_get (set xs k y) j ≡ Some x → ((j ≡ k) × (y ≡ x)) ⊎ ((j ≡ k → ⊥) × (slice_get xs j ≡ Some x))
left-at [] k j y x e = absurd (cc)
left-at (z ∷ xs) zero zero y x e = let same : y ≡ x = cc in inl (refl, same)
left-at (z ∷ xs) zero (suc j) y x e = inr (λ q. absurd (omega (arith, q)), e)
left-at (z ∷ xs) (suc k) zero y x e = inr (λ q. absurd (omega (arith, q)), e)
left-at (z ∷ xs) (suc k) (suc j) y x e = elim (left-at xs k j y x e) [ inl h ↦ inl (ap suc h.0, h.1) | inr h ↦ inr (λ q. h.0 (omega (arith, q)), h.1) ]

pub left-there : {C : Type 0} (cs : List (Option C)) (k j : ℕ) (d : C) → slice_get (set cs k None) j ≡ Some (Some d) → slice_get cs j ≡ Some (Some d)
left-there {C} cs k j d e = elim (left-at cs k j None (Some d) e) [
  | inl h ↦ let none : Option C = None in let same : none ≡ Some d = h.1 in absurd (cc)
  | inr h ↦ h.1
]

place-other : {X : Type 0} (xs : List X) (k j : ℕ) (y : X) → (j ≡ k → ⊥) → slice_get (set xs k y) j ≡ slice_get xs j
place-other [] k j y n = refl
place-other (x ∷ xs) zero zero y n = absurd (n refl)
place-other (x ∷ xs) zero (suc j) y n = refl
place-other (x ∷ xs) (suc k) zero y n = refl
place-other (x ∷ xs) (suc k) (suc j) y n = place-other xs k j y (λ e. n (ap suc e))

-- who waits after that is there
pub removed-there : {C : Type 0} (cs : List (Option C)) (ws : List Bool) (k : ℕ) → AreThere cs ws → AreThere (set cs k None) (set ws k false)
removed-there {C} cs ws k all j e = elim (left-at ws k j false true e) [
  | inl h ↦ absurd (cc (h.1))
  | inr h ↦ subst (λ (o : Option (Option C)). IsSomeAnd o IsSome) (sym (place-other cs k j None h.0)) (all j h.1)
]

-- one is there no more
pub removed-count : {C : Type 0} (cs : List (Option C)) (k : ℕ) (c : C) → slice_get cs k ≡ Some (Some c) → count_there (set cs k None) + 1 ≡ count_there cs
removed-count {C} cs k c e =
    let at : get_or cs k None ≡ Some c = get_or_from_slice_get cs k (Some c) None e in
    omega (
      arith,
      sum_by-set (λ (o : Option C). cond (is_some o) 1 0) cs k None None (slice_get_within cs k (Some c) e),
      ap {B = ℕ} (λ (o : Option C). cond (is_some o) 1 0) at,
    )

-- who reads a cell is named in its list
pub listed-reads : {C : Type 0} (scope : C → Shape → List ℕ) (s : Shape) (cs : List (Option C)) (lists : List (List ℕ)) (k : ℕ) (c : C) → AreReaders (map (λ x. of_place scope x s) cs) lists → slice_get cs k ≡ Some (Some c)
    → (cell : ℕ) → Contains (readers_at lists cell) k → reads_cell (scope c s) cell ≡ true
listed-reads {C} scope s cs lists k c readers e cell m =
    let at : get_or (map (λ (x : Option C). of_place scope x s) cs) k [] ≡ scope c s = get_or-map (λ (x : Option C). of_place scope x s) cs k None [] (slice_get_within cs k (Some c) e) ∙ ap (λ (o : Option C). of_place scope o s) (get_or_from_slice_get cs k (Some c) None e) in
    ap (λ (xs : List ℕ). reads_cell xs cell) (sym at) ∙ ((readers.exact cell k).0 m).1

module _ (C : Type 0) (projections : C → Shape → List Projection) (scope : C → Shape → List ℕ) (fits : C → Shape → Option (List Span) → Type 0) where
  -- the cells that are read without those that it reads
  pub removed-entries : (s : Shape) (cs : List (Option C)) (k : ℕ) (c : C) → slice_get cs k ≡ Some (Some c) → entries_of (of_place scope) s (set cs k None) + length (scope c s) ≡ entries_of (of_place scope) s cs
  removed-entries s cs k c e =
      let at : get_or cs k None ≡ Some c = get_or_from_slice_get cs k (Some c) None e in
      omega (
        arith,
        sum_by-set (λ (o : Option C). length (of_place scope o s)) cs k None None (slice_get_within cs k (Some c) e),
        ap (λ (o : Option C). length (of_place scope o s)) at,
      )

  removed-rest : (s : Shape) (cs : List (Option C)) (ws : List Bool) (k : ℕ) (box : Option (List Span)) → IfSome box IsBox → AreAtRest (λ c. of_place projections c s) cs ws box → AreAtRest (λ c. of_place projections c s) (set cs k None) (set ws k false) box
  removed-rest s cs ws k box good rest j d e f = elim (left-at cs k j None d e) [
    | inl h ↦ subst (λ (o : Option C). IfSome box (IsFixpoint (of_place projections o s))) h.1 (free box good)
    | inr h ↦ elim (left-at ws k j false false f) [
      | inl g ↦ absurd (h.0 g.0)
      | inr g ↦ rest j d h.1 g.1
    ]
  ]
    where
      free : (b : Option (List Span)) → IfSome b IsBox → IfSome b (IsFixpoint [])
      free None good = tt
      free (Some xs) good = record { box = good; stable = λ i p l. absurd (omega (arith, l)) }

  -- the invariant without the contractor
  pub removed-kept : (store : State) (cs : List (Option C)) (ws : List Bool) (table table' : Table) (entries less k : ℕ) (c : C) → IsKept (of_place projections) (of_place scope) (fits_place fits) (record { store = store; contractors = cs; waiting = ws }) table entries
      → slice_get cs k ≡ Some (Some c) → less + length (scope c store.shape) ≡ entries
      → AreReaders (set (map (λ x. of_place scope x store.shape) cs) k []) table'.readers → table'.contractors ≡ table.contractors
      → IsKept (of_place projections) (of_place scope) (fits_place fits) (record { store = store; contractors = set cs k None; waiting = set ws k false }) table' less
  removed-kept store cs ws table table' entries less k c kept there sum readers count = record {
    state = record {
      net = record {
        store = net.store;
        few = omega (arith, length-set cs k None, net.few);
        beside = length-set ws k false ∙ net.beside ∙ sym (length-set cs k None);
        fit = All-set-none;
        entries = omega (arith, net.entries, all);
        rest = removed-rest store.shape cs ws k store.box (boxes store.box net.store.box) net.rest;
      };
      drained = kept.state.drained;
    };
    table_of = record {
      readers = subst (λ (scopes : List (List ℕ)). AreReaders scopes table'.readers) (sym (map-set (λ (x : Option C). of_place scope x store.shape) cs k None)) readers;
      contractors = omega (arith, count, kept.table_of.contractors, length-set cs k None, length-map cs (λ x. of_place scope x store.shape), length-map (set cs k None) (λ x. of_place scope x store.shape));
      sum = omega (arith, sum, all, kept.table_of.sum, sum-scopes (λ (x : Option C). of_place scope x store.shape) cs, sum-scopes (λ (x : Option C). of_place scope x store.shape) (set cs k None));
    };
  }
    where
      net : ArePlaces (of_place projections) (of_place scope) (fits_place fits) (record { store = store; contractors = cs; waiting = ws })
      net = kept.state.net

      all : entries_of (of_place scope) store.shape (set cs k None) + length (scope c store.shape) ≡ entries_of (of_place scope) store.shape cs
      all = removed-entries store.shape cs k c there

      boxes : (b : Option (List Span)) → IfSome b (λ xs. IsBox xs × (length xs ≡ store.shape.cells)) → IfSome b IsBox
      boxes None h = tt
      boxes (Some xs) h = h.0

      All-set-none : All (λ d. fits_place fits d store.shape store.box) (set cs k None)
      All-set-none j d l = at (cases_eq j k)
        where
          at : (j ≡ k) ⊎ (j ≡ k → ⊥) → fits_place fits (get_or (set cs k None) j d) store.shape store.box
          at (inl e) = subst (λ (o : Option C). fits_place fits o store.shape store.box) (sym (ap (λ (i : ℕ). get_or (set cs k None) i d) e ∙ get_or-set_same cs k None d (slice_get_within cs k (Some c) there))) tt
          at (inr n) = subst (λ (o : Option C). fits_place fits o store.shape store.box) (sym (get_or-set_other cs k j None d n)) (net.fit j d (omega (arith, l, length-set cs k None)))

-- the marks of the others are what they were
pub removed-marks : {C : Type 0} (parts : C → Shape → ℕ) (part : C → Shape → ℕ → List Projection) (store : State) (cs : List (Option C)) (ms : List Marked) (k : ℕ) → HasMarks parts part store cs ms → HasMarks parts part store (set cs k None) ms
removed-marks parts part store cs ms k h = record {
  len = h.len ∙ sym (length-set cs k None);
  beside = λ j d e. h.beside j d (left-there cs k j d e);
  clean = λ j d e. h.clean j d (left-there cs k j d e);
}

-- the contractor that is taken from a place stood under its number
pub taken-there : {C : Type 0} (cs : List (Option C)) (k : ℕ) (place : Option C) (c : C) → k < length cs → place ≡ get_or cs k place → place ≡ Some c → slice_get cs k ≡ Some (Some c)
taken-there cs k place c l e q = inside-there cs k place l e ∙ ap Some q
