-- The invariant of a net: what additions and firings keep.
use Rattle.std.proofs.Common.{◌≡◌, ℕ, zero, suc, ◌+◌, ◌<◌, ◌≤◌, ◌⊎◌, inl, inr, Option, Some, None, List, [], ◌∷◌, ◌++◌, Bool, true, false, IfSome, refl, sym, subst, ap, ap₂, ◌∙◌, length, map, set, get_or, All, Contains, arith, slice_get, sum_by, pos}
use Rattle.std.proofs.lemmas.List.{length-set, length_push, length-map, get_or_append_left, map-append}
use Rattle.std.proofs.lemmas.List.Elements.{All-push, All-head, All-tail}
use Rattle.std.proofs.lemmas.List.Sums.{sum_by_push}
use Rattle.tube_spec.specs.Span.{Span, point}
use Rattle.tube_spec.specs.Narrowing.{Narrowing, IsUnder}
use Rattle.tube_spec.specs.Shape.{Shape, IsShape, Extends}
use Rattle.tube_spec.specs.Box.{IsBox, IsBelowBox, cell_at, box_more}
use Rattle.tube_spec.specs.Projection.{Projection, ReadsOnly}
use Rattle.tube_spec.specs.Fixpoint.{IsFixpoint}
use Rattle.tube_spec.specs.Owner.{Owner, with_owner, declared_cells}
use Rattle.tube_spec.proofs.Hulls.{owner-extends}
use Rattle.tube_store.specs.State.{State, IsStore, state_with}
use Rattle.cell_readers.specs.Entries.{Table, AreReaders}
use Rattle.cell_readers.specs.Waking.{AreAtRest}
use Rattle.ctc_network.specs.Nets.{ArePlaces, IsTableOf, IsKept, entries_of}
use Rattle.ctc_network.proofs.Runs.{get-all}
use Rattle.ctc_network.proofs.Waking.{sum-scopes}

-- the place k of a list with one place set
set-cases : (ws : List Bool) (i k : ℕ) → slice_get (set ws i false) k ≡ Some false → (k ≡ i) ⊎ (slice_get ws k ≡ Some false)
set-cases [] i k e = inr e
set-cases (w ∷ ws) zero zero e = inl refl
set-cases (w ∷ ws) zero (suc k) e = inr e
set-cases (w ∷ ws) (suc i) zero e = inr e
set-cases (w ∷ ws) (suc i) (suc k) e = elim (set-cases ws i k e) [ inl same ↦ inl (ap suc same) | inr old ↦ inr old ]

-- who rests among one contractor more, which waits, rested before
rests-before : {C : Type 0} (cs : List C) (ws : List Bool) (c d : C) (k : ℕ) → length ws ≡ length cs → slice_get (cs ++ c ∷ []) k ≡ Some d → slice_get (ws ++ true ∷ []) k ≡ Some false
    → (slice_get cs k ≡ Some d) × (slice_get ws k ≡ Some false)
rests-before [] [] c d zero len e f = absurd (cc)
rests-before [] [] c d (suc k) len e f = absurd (cc)
rests-before [] (w ∷ ws) c d k len e f = absurd (omega (arith, len))
rests-before (x ∷ cs) [] c d k len e f = absurd (omega (arith, len))
rests-before (x ∷ cs) (w ∷ ws) c d zero len e f = (e, f)
rests-before (x ∷ cs) (w ∷ ws) c d (suc k) len e f = rests-before cs ws c d k (omega (arith, len)) e f

-- a contractor whose fixpoint the box is may rest
pub rest-set : {C : Type 0} (projections : C → List Projection) (cs : List C) (ws : List Bool) (box : Option (List Span)) (i : ℕ) (c : C)
    → AreAtRest projections cs ws box → slice_get cs i ≡ Some c → IfSome box (IsFixpoint (projections c)) → AreAtRest projections cs (set ws i false) box
rest-set {C} projections cs ws box i c rest at fix k d e f =
    elim (set-cases ws i k f) [
      | inl same ↦
          let there : Some c ≡ Some d = sym at ∙ ap (slice_get cs) (sym same) ∙ e in
          let one : c ≡ d = cc in
          subst (λ (x : C). IfSome box (IsFixpoint (projections x))) one fix
      | inr old ↦ rest k d e old
    ]

module _ (C : Type 0) (projections : C → Shape → List Projection) (scope : C → Shape → List ℕ) (fits : C → Shape → Option (List Span) → Type 0)
    (fits_below : (c : C) (s : Shape) (a b : Option (List Span)) → IsBelowBox a b → fits c s b → fits c s a) where
  -- with other marks, and a store that lies below
  pub with-marks : (old new : State) (cs : List C) (ws vs : List Bool) → ArePlaces projections scope fits (record { store = old; contractors = cs; waiting = ws })
      → IsStore new → new.shape ≡ old.shape → IsBelowBox new.box old.box → length vs ≡ length ws → AreAtRest (λ x. projections x new.shape) cs vs new.box
      → ArePlaces projections scope fits (record { store = new; contractors = cs; waiting = vs })
  with-marks old new cs ws vs net store shape below len rest = record {
    store = store;
    few = net.few;
    beside = len ∙ net.beside;
    fit = λ j d l. subst (λ (s : Shape). fits (get_or cs j d) s new.box) (sym shape) (fits_below (get_or cs j d) old.shape new.box old.box below (net.fit j d l));
    entries = subst (λ (s : Shape). entries_of scope s cs ≤ 20000000) (sym shape) net.entries;
    rest = rest;
  }

  -- a contractor that leaves the box rests
  pub kept-rested : (store : State) (cs : List C) (ws : List Bool) (table : Table) (entries k : ℕ) (c : C) → IsKept projections scope fits (record { store = store; contractors = cs; waiting = ws }) table entries
      → slice_get cs k ≡ Some c → IfSome store.box (IsFixpoint (projections c store.shape))
      → IsKept projections scope fits (record { store = store; contractors = cs; waiting = set ws k false }) table entries
  kept-rested store cs ws table entries k c kept at fix = record {
    state = record {
      net = record {
        store = kept.state.net.store;
        few = kept.state.net.few;
        beside = length-set ws k false ∙ kept.state.net.beside;
        fit = kept.state.net.fit;
        entries = kept.state.net.entries;
        rest = rest-set (λ x. projections x store.shape) cs ws store.box k c kept.state.net.rest at fix;
      };
      drained = kept.state.drained;
    };
    table_of = kept.table_of;
  }

  -- with one contractor more, which waits
  pub kept-added : (store : State) (cs : List C) (ws : List Bool) (table table' : Table) (entries entries' : ℕ) (c : C) → IsKept projections scope fits (record { store = store; contractors = cs; waiting = ws }) table entries
      → length cs < 4000000000 → fits c store.shape store.box → entries' ≤ 20000000 → entries' ≡ entries + length (scope c store.shape)
      → AreReaders (map (λ x. scope x store.shape) cs ++ scope c store.shape ∷ []) table'.readers → table'.contractors ≡ table.contractors + 1
      → IsKept projections scope fits (record { store = store; contractors = cs ++ c ∷ []; waiting = ws ++ true ∷ [] }) table' entries'
  kept-added store cs ws table table' entries entries' c kept few fit room sum readers count = record {
    state = record {
      net = record {
        store = kept.state.net.store;
        few = omega (arith, few, length_push cs c);
        beside = omega (arith, kept.state.net.beside, length_push cs c, length_push ws true);
        fit = All-push (λ x. fits x store.shape store.box) cs c kept.state.net.fit fit;
        entries = subst (λ n. n ≤ 20000000) all room;
        rest = λ k d e f. let before = rests-before cs ws c d k kept.state.net.beside e f in kept.state.net.rest k d before.0 before.1;
      };
      drained = kept.state.drained;
    };
    table_of = record {
      readers = subst (λ (scopes : List (List ℕ)). AreReaders scopes table'.readers) (sym scopes) readers;
      contractors = omega (arith, count, kept.table_of.contractors, length_push cs c, length-map cs (λ x. scope x store.shape), length-map (cs ++ c ∷ []) (λ x. scope x store.shape));
      sum = all ∙ sym (sum-scopes (λ x. scope x store.shape) (cs ++ c ∷ []));
    };
  }
    where
      scopes : map (λ x. scope x store.shape) (cs ++ c ∷ []) ≡ map (λ x. scope x store.shape) cs ++ scope c store.shape ∷ []
      scopes = map-append (λ x. scope x store.shape) cs (c ∷ [])

      all : entries' ≡ entries_of scope store.shape (cs ++ c ∷ [])
      all = sum ∙ ap (λ n. n + length (scope c store.shape)) (kept.table_of.sum ∙ sum-scopes (λ x. scope x store.shape) cs) ∙ sym (sum_by_push (λ x. length (scope x store.shape)) cs c)

  -- Further cells.
  module _ (reads_only : (c : C) (s : Shape) → All (ReadsOnly (λ xs. fits c s (Some xs)) (scope c s)) (projections c s))
      (fits_local : (c : C) (s : Shape) (xs ys : List Span) → ((k : ℕ) → Contains (scope c s) k → cell_at xs k ≡ cell_at ys k) → fits c s (Some xs) → fits c s (Some ys))
      (in_store : (c : C) (s : Shape) (b : Option (List Span)) → IsShape s → fits c s b → All (λ k. k < s.cells) (scope c s) × All (λ p. p.target < s.cells) (projections c s))
      (fits_more : (c : C) (s t : Shape) (b : Option (List Span)) (more : List Span) → Extends s t → fits c s b → fits c t (box_more b more))
      (same_projections : (c : C) (s t : Shape) (b : Option (List Span)) → Extends s t → fits c s b → projections c t ≡ projections c s)
      (same_scope : (c : C) (s t : Shape) (b : Option (List Span)) → Extends s t → fits c s b → scope c t ≡ scope c s) where
    -- a fixpoint of a contractor is one with further cells
    more-fixpoint : (c : C) (s t : Shape) (xs more : List Span) → IsShape s → Extends s t → length xs ≡ s.cells → fits c s (Some xs) → IsBox (xs ++ more)
        → IsFixpoint (projections c s) xs → IsFixpoint (projections c t) (xs ++ more)
    more-fixpoint c s t xs more shape grows len fit box fix = subst (λ (ps : List Projection). IsFixpoint ps (xs ++ more)) (sym (same_projections c s t (Some xs) grows fit)) record {
      box = box;
      stable = λ k d l.
          let p = get_or (projections c s) k d in
          let target : cell_at xs p.target ≡ cell_at (xs ++ more) p.target = first p.target ((in_store c s (Some xs) shape fit).1 k d l) in
          let formula : p.formula xs ≡ p.formula (xs ++ more) = reads_only c s k d l xs (xs ++ more) fit (fits_local c s xs (xs ++ more) same fit) same in
          subst (λ (h : Narrowing). IsUnder (cell_at (xs ++ more) p.target) h) formula
          (subst (λ (v : Span). IsUnder v (p.formula xs)) target (fix.stable k d l));
    }
      where
        first : (k : ℕ) → k < s.cells → cell_at xs k ≡ cell_at (xs ++ more) k
        first k l = sym (get_or_append_left xs more (point (pos 0)) k (omega (arith, l, len)))

        same : (k : ℕ) → Contains (scope c s) k → cell_at xs k ≡ cell_at (xs ++ more) k
        same k m = first k (subst (λ (j : ℕ). j < s.cells) m.2 ((in_store c s (Some xs) shape fit).0 m.0 k m.1))

    same-scopes : (s t : Shape) (b : Option (List Span)) (cs : List C) → Extends s t → All (λ c. fits c s b) cs → map (λ c. scope c t) cs ≡ map (λ c. scope c s) cs
    same-scopes s t b [] grows fit = refl
    same-scopes s t b (c ∷ cs) grows fit =
        ap₂ (λ (x : List ℕ) (xs : List (List ℕ)). x ∷ xs) (same_scope c s t b grows (All-head (λ x. fits x s b) c cs fit)) (same-scopes s t b cs grows (All-tail (λ x. fits x s b) c cs fit))

    -- with the cells of one owner more
    pub kept-grown : (old : State) (o : Owner) (cs : List C) (ws : List Bool) (table : Table) (entries : ℕ) → IsKept projections scope fits (record { store = old; contractors = cs; waiting = ws }) table entries
        → IsStore (state_with old o) → IsKept projections scope fits (record { store = state_with old o; contractors = cs; waiting = ws }) table entries
    kept-grown old o cs ws table entries kept store = record {
      state = record {
        net = record {
          store = store;
          few = net.few;
          beside = net.beside;
          fit = λ k d l. fits_more (get_or cs k d) old.shape t old.box more grows (net.fit k d l);
          entries = subst (λ n. n ≤ 20000000) (sym same-sum) net.entries;
          rest = λ k c e f. rest_at c old.box (get-all (λ x. fits x old.shape old.box) cs k c e net.fit) net.store.box store.box (net.rest k c e f);
        };
        drained = drained_at old.box kept.state.drained;
      };
      table_of = subst (λ (scopes : List (List ℕ)). IsTableOf scopes table entries) (sym same) kept.table_of;
    }
      where
        net : ArePlaces projections scope fits (record { store = old; contractors = cs; waiting = ws })
        net = kept.state.net

        t : Shape
        t = with_owner old.shape o

        more : List Span
        more = declared_cells old.shape.grid o

        grows : Extends old.shape t
        grows = owner-extends o old.shape

        same : map (λ c. scope c t) cs ≡ map (λ c. scope c old.shape) cs
        same = same-scopes old.shape t old.box cs grows net.fit

        same-sum : entries_of scope t cs ≡ entries_of scope old.shape cs
        same-sum = sym (sum-scopes (λ c. scope c t) cs) ∙ ap (λ (scopes : List (List ℕ)). sum_by (λ scope. length scope) scopes) same ∙ sum-scopes (λ c. scope c old.shape) cs

        drained_at : (b : Option (List Span)) → IfSome b (λ xs. old.touched ≡ []) → IfSome (box_more b more) (λ xs. old.touched ≡ [])
        drained_at None d = tt
        drained_at (Some xs) d = d

        rest_at : (c : C) (b : Option (List Span)) → fits c old.shape b → IfSome b (λ xs. IsBox xs × (length xs ≡ old.shape.cells)) → IfSome (box_more b more) (λ xs. IsBox xs × (length xs ≡ t.cells))
            → IfSome b (IsFixpoint (projections c old.shape)) → IfSome (box_more b more) (IsFixpoint (projections c t))
        rest_at c None fit box boxes fix = tt
        rest_at c (Some xs) fit box boxes fix = more-fixpoint c old.shape t xs more net.store.shape grows box.1 fit boxes.0 fix
