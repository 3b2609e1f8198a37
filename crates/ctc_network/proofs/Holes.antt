-- What holds of contractors holds of their places, of which some are empty.
use Rattle.std.proofs.Common.{◌≡◌, ℕ, zero, suc, ◌+◌, ◌<◌, ◌⊎◌, inl, inr, Option, Some, None, List, [], ◌∷◌, ◌++◌, Bool, true, false, IsSome, IsSomeAnd, IfSome, refl, sym, ap, subst, ◌∙◌, length, map, set, get_or, All, Contains, arith, slice_get, cond}
use Rattle.std.specs.Prelude.{is_some}
use Rattle.std.specs.List.{list_any}
use Rattle.std.proofs.lemmas.Bool.{cases_eq}
use Rattle.std.proofs.lemmas.List.{get_or-map, length-map}
use Rattle.std.proofs.lemmas.List.Sums.{sum_by-cons}
use Rattle.std.proofs.lemmas.Option.{get_or_from_slice_get, slice_get-get_or, slice_get_within}
use Rattle.std.proofs.lemmas.Map.Views.{Contains-from_any}
use Rattle.tube_spec.specs.Span.{Span}
use Rattle.tube_spec.specs.Shape.{Shape, IsShape, Extends}
use Rattle.tube_spec.specs.Box.{IsBelowBox, cell_at, box_more}
use Rattle.tube_spec.specs.Projection.{Projection, IsMonotone, ReadsOnly}
use Rattle.tube_store.specs.State.{State, IsStore, no_cells}
use Rattle.ctc_core.specs.declared.Revised.{Revised}
use Rattle.ctc_core.specs.declared.Revised.TheVariants.{Same, Narrowed, Empty}
use Rattle.cell_readers.specs.Entries.{Table, AreReaders, readers_at, reads_cell, is_reader, times}
use Rattle.cell_readers.proofs.Counts.{mark-other}
use Rattle.ctc_network.specs.Nets.{of_place, fits_place, IsThere, AreThere, IsNetKept, count_there}
use Rattle.ctc_network.specs.Noting.{Notes}
use Rattle.ctc_network.proofs.Waking.{or-cases, any-there, same_number, table-covered}

module _ (C : Type 0) (projections : C → Shape → List Projection) (scope : C → Shape → List ℕ) (fits : C → Shape → Option (List Span) → Type 0) where
  pub below : ((c : C) (s : Shape) (a b : Option (List Span)) → IsBelowBox a b → fits c s b → fits c s a) → (c : Option C) (s : Shape) (a b : Option (List Span)) → IsBelowBox a b → fits_place fits c s b → fits_place fits c s a
  below law None s a b l f = tt
  below law (Some c) s a b l f = law c s a b l f

  pub monotone : ((c : C) (s : Shape) → All (IsMonotone (λ xs. fits c s (Some xs))) (projections c s)) → (c : Option C) (s : Shape) → All (IsMonotone (λ xs. fits_place fits c s (Some xs))) (of_place projections c s)
  monotone law None s = λ k d l. absurd (omega (arith, l))
  monotone law (Some c) s = law c s

  pub reads-only : ((c : C) (s : Shape) → All (ReadsOnly (λ xs. fits c s (Some xs)) (scope c s)) (projections c s)) → (c : Option C) (s : Shape) → All (ReadsOnly (λ xs. fits_place fits c s (Some xs)) (of_place scope c s)) (of_place projections c s)
  reads-only law None s = λ k d l. absurd (omega (arith, l))
  reads-only law (Some c) s = law c s

  pub local : ((c : C) (s : Shape) (xs ys : List Span) → ((k : ℕ) → Contains (scope c s) k → cell_at xs k ≡ cell_at ys k) → fits c s (Some xs) → fits c s (Some ys))
      → (c : Option C) (s : Shape) (xs ys : List Span) → ((k : ℕ) → Contains (of_place scope c s) k → cell_at xs k ≡ cell_at ys k) → fits_place fits c s (Some xs) → fits_place fits c s (Some ys)
  local law None s xs ys same f = tt
  local law (Some c) s xs ys same f = law c s xs ys same f

  pub in-store : ((c : C) (s : Shape) (b : Option (List Span)) → IsShape s → fits c s b → All (λ k. k < s.cells) (scope c s) × All (λ p. p.target < s.cells) (projections c s))
      → (c : Option C) (s : Shape) (b : Option (List Span)) → IsShape s → fits_place fits c s b → All (λ k. k < s.cells) (of_place scope c s) × All (λ p. p.target < s.cells) (of_place projections c s)
  in-store law None s b h f = (λ k d l. absurd (omega (arith, l)), λ k d l. absurd (omega (arith, l)))
  in-store law (Some c) s b h f = law c s b h f

  pub more : ((c : C) (s t : Shape) (b : Option (List Span)) (more : List Span) → Extends s t → fits c s b → fits c t (box_more b more))
      → (c : Option C) (s t : Shape) (b : Option (List Span)) (more : List Span) → Extends s t → fits_place fits c s b → fits_place fits c t (box_more b more)
  more law None s t b xs e f = tt
  more law (Some c) s t b xs e f = law c s t b xs e f

  pub same-list : {X : Type 0} (of : C → Shape → List X) → ((c : C) (s t : Shape) (b : Option (List Span)) → Extends s t → fits c s b → of c t ≡ of c s)
      → (c : Option C) (s t : Shape) (b : Option (List Span)) → Extends s t → fits_place fits c s b → of_place of c t ≡ of_place of c s
  same-list of law None s t b e f = refl
  same-list of law (Some c) s t b e f = law c s t b e f

-- ---- who is there

pub there-at : {C : Type 0} (cs : List (Option C)) (k : ℕ) (c : C) → slice_get cs k ≡ Some (Some c) → IsThere cs k
there-at {C} cs k c e = subst (λ (o : Option (Option C)). IsSomeAnd o IsSome) (sym e) refl

-- the place of a number that is there is not empty
pub place-there : {C : Type 0} (cs : List (Option C)) (k : ℕ) (c : Option C) → slice_get cs k ≡ Some c → IsThere cs k → IsSome c
place-there {C} cs k c e h = let u : IsSomeAnd (Some c) IsSome = subst (λ (o : Option (Option C)). IsSomeAnd o IsSome) e h in u

pub there-within : {C : Type 0} (cs : List (Option C)) (k : ℕ) → IsThere cs k → k < length cs
there-within {C} cs k h = at (slice_get cs k) refl h
  where
    at : (o : Option (Option C)) → slice_get cs k ≡ o → IsSomeAnd o IsSome → k < length cs
    at None e h = absurd h
    at (Some c) e h = slice_get_within cs k c e

-- one number more, of one that waits
pub there-more : {C : Type 0} (cs : List (Option C)) (ws : List Bool) (c : C) → length ws ≡ length cs → AreThere cs ws → AreThere (cs ++ Some c ∷ []) (ws ++ true ∷ [])
there-more [] [] c len all zero e = refl
there-more [] [] c len all (suc k) e = absurd (cc)
there-more [] (w ∷ ws) c len all k e = absurd (omega (arith, len))
there-more (x ∷ cs) [] c len all k e = absurd (omega (arith, len))
there-more (x ∷ cs) (w ∷ ws) c len all zero e = all zero e
there-more (x ∷ cs) (w ∷ ws) c len all (suc k) e = there-more cs ws c (omega (arith, len)) (λ j f. all (suc j) f) k e

-- one that rests
pub there-rested : {C : Type 0} (cs : List (Option C)) (ws : List Bool) (k : ℕ) → AreThere cs ws → AreThere cs (set ws k false)
there-rested cs ws k all j e = all j (before ws k j e)
  where
    before : (vs : List Bool) (i n : ℕ) → slice_get (set vs i false) n ≡ Some true → slice_get vs n ≡ Some true
    before [] i n e = e
    before (v ∷ vs) zero zero e = absurd (cc)
    before (v ∷ vs) zero (suc n) e = e
    before (v ∷ vs) (suc i) zero e = e
    before (v ∷ vs) (suc i) (suc n) e = before vs i n e

no-cell : (cell : ℕ) → reads_cell [] cell ≡ true → ⊥
no-cell cell e = cc

-- who reads a cell is there
reader-there : {C : Type 0} (scope : C → Shape → List ℕ) (s : Shape) (cs : List (Option C)) (k cell : ℕ) (c : Option C) → slice_get cs k ≡ Some c → reads_cell (of_place scope c s) cell ≡ true → IsThere cs k
reader-there scope s cs k cell None e r = absurd (no-cell cell r)
reader-there scope s cs k cell (Some c) e r = there-at cs k c e

-- who waits after a firing is there
module _ {C : Type 0} (scope : C → Shape → List ℕ) (s : Shape) (cs : List (Option C)) (lists : List (List ℕ)) (readers : AreReaders (map (λ c. of_place scope c s) cs) lists) where
  woken-there : (j cell : ℕ) → is_reader lists j cell ≡ true → IsThere cs j
  woken-there j cell e = reader-there scope s cs j cell (get_or cs j None) (slice_get-get_or cs j None inside) (sym (ap (λ (xs : List ℕ). reads_cell xs cell) at) ∙ reads.1)
    where
      reads : (j < length (map (λ c. of_place scope c s) cs)) × (reads_cell (get_or (map (λ c. of_place scope c s) cs) j []) cell ≡ true)
      reads = (readers.exact cell j).0 (Contains-from_any same_number j (readers_at lists cell) e)

      inside : j < length cs
      inside = omega (arith, reads.0, length-map cs (λ c. of_place scope c s))

      at : get_or (map (λ c. of_place scope c s) cs) j [] ≡ of_place scope (get_or cs j None) s
      at = get_or-map (λ c. of_place scope c s) cs j None [] inside

  pub noted-there : (x : Revised) (k : ℕ) (new m : State) (ts us : List Bool) → IsThere cs k → AreThere cs ts → Notes x k lists new m ts us → AreThere cs us
  noted-there Same k new m ts us there all notes = subst (λ (vs : List Bool). AreThere cs vs) (sym notes.1) (there-rested cs ts k all)
  noted-there Empty k new m ts us there all notes = subst (λ (vs : List Bool). AreThere cs vs) (sym notes.1) all
  noted-there Narrowed k new m ts us there all notes = subst (λ (vs : List Bool). AreThere cs vs) (sym notes.1.2) (λ j e. at j e (cases_eq j k))
    where
      woken : List Bool
      woken = notes.1.0

      at : (j : ℕ) → slice_get (set woken k true) j ≡ Some true → (j ≡ k) ⊎ (j ≡ k → ⊥) → IsThere cs j
      at j e (inl same) = subst (λ i. IsThere cs i) (sym same) there
      at j e (inr n) =
          let here : slice_get woken j ≡ Some true = sym (mark-other woken k j true n) ∙ e in
          let waits : get_or woken j false ≡ true = get_or_from_slice_get woken j true false here in
          let inside : j < length ts = omega (arith, slice_get_within woken j true here, notes.1.1.length) in
          elim (or-cases (get_or ts j false) (list_any (is_reader lists j) new.touched) (sym (notes.1.1.waits j) ∙ waits)) [
            | inl w ↦ all j (slice_get-get_or ts j false inside ∙ ap Some w)
            | inr r ↦ let h = any-there (is_reader lists j) new.touched r in woken-there j h.0 h.2
          ]

-- ---- the invariant, place by place

-- one contractor more is there
pub count-more : {C : Type 0} (cs : List (Option C)) (c : C) → count_there (cs ++ Some c ∷ []) ≡ count_there cs + 1
count-more [] c = refl
count-more {C} (x ∷ cs) c = omega (arith, count-more cs c, sum_by-cons (λ (o : Option C). cond (is_some o) 1 0) x cs, sum_by-cons (λ (o : Option C). cond (is_some o) 1 0) x (cs ++ Some c ∷ []))

-- the table of the readers has more room
pub covered : (C : Type 0) (projections : C → Shape → List Projection) (scope : C → Shape → List ℕ) (fits : C → Shape → Option (List Span) → Type 0) (store : State) (cs : List (Option C)) (ws : List Bool) (table more : Table) (entries count : ℕ)
    → IsNetKept projections scope fits (record { store = store; contractors = cs; waiting = ws }) table entries count
    → ((cell : ℕ) → readers_at more.readers cell ≡ readers_at table.readers cell) → more.contractors ≡ table.contractors
    → IsNetKept projections scope fits (record { store = store; contractors = cs; waiting = ws }) more entries count
covered C projections scope fits store cs ws table more entries count held same contractors_same = record {
  kept = record {
    state = held.kept.state;
    table_of = table-covered (map (λ x. of_place scope x store.shape) cs) table more entries held.kept.table_of same contractors_same;
  };
  there = held.there;
  count = held.count;
}

-- ---- a net with nothing in it

none-at : (cell : ℕ) → readers_at [] cell ≡ []
none-at zero = refl
none-at (suc cell) = refl

no-readers : (rs : List (List ℕ)) → rs ≡ [] → AreReaders [] rs
no-readers rs e = subst (λ (ls : List (List ℕ)). AreReaders [] ls) (sym e) record {
  exact = λ cell n. (λ c. let d = subst (λ (xs : List ℕ). Contains xs n) (none-at cell) c in absurd (omega (arith, d.1)), λ h. absurd (omega (arith, h.0)));
  count = λ cell. ap length (none-at cell);
  once = λ cell n. omega (arith, ap (times n) (none-at cell));
}

-- the invariant of a net with no cell and no contractor
pub none-kept : (C : Type 0) (projections : C → Shape → List Projection) (scope : C → Shape → List ℕ) (fits : C → Shape → Option (List Span) → Type 0) (grid : List ℕ) (store : State) (cs : List (Option C)) (ws : List Bool) (table : Table)
    → store ≡ no_cells grid → IsStore store → cs ≡ [] → ws ≡ [] → table.readers ≡ [] → table.contractors ≡ 0
    → IsNetKept projections scope fits (record { store = store; contractors = cs; waiting = ws }) table 0 0
none-kept C projections scope fits grid store cs ws table e is none quiet readers contractors =
    subst (λ (xs : List (Option C)). IsNetKept projections scope fits (record { store = store; contractors = xs; waiting = ws }) table 0 0) (sym none)
    (subst (λ (vs : List Bool). IsNetKept projections scope fits (record { store = store; contractors = []; waiting = vs }) table 0 0) (sym quiet) record {
      kept = record {
        state = record {
          net = record {
            store = is;
            few = omega arith;
            beside = refl;
            fit = λ k d l. absurd (omega (arith, l));
            entries = omega arith;
            rest = λ k c f g. absurd (cc);
          };
          drained = subst (λ (s : State). IfSome s.box (λ xs. s.touched ≡ [])) (sym e) refl;
        };
        table_of = record {
          readers = no-readers table.readers readers;
          contractors = contractors;
          sum = refl;
        };
      };
      there = λ k f. absurd (cc);
      count = refl;
    })
