-- What holds of a net after a reset.
use Rattle.std.proofs.Common.{◌≡◌, ◌≢◌, ℕ, ◌<◌, inl, inr, Bool, true, false, Option, Some, None, List, [], refl, sym, ap, subst, ◌∙◌, length, map, get_or, All, Contains, IfSome, IsSome, IsSomeAnd, IsNone, arith, slice_get}
use Rattle.std.specs.List.Sorted.{IsStrictlyIncreasing}
use Rattle.std.proofs.lemmas.List.{get_or-map, length-map}
use Rattle.std.proofs.lemmas.List.Elements.{All-map}
use Rattle.std.proofs.lemmas.Option.{slice_get_within, slice_get-get_or}
use Rattle.tube_spec.specs.Span.{Span}
use Rattle.tube_spec.specs.Narrowing.{Narrowing, IsUnder}
use Rattle.tube_spec.specs.Shape.{Shape, IsShape}
use Rattle.tube_spec.specs.Box.{cell_at, IsBox}
use Rattle.tube_spec.specs.Projection.{Projection, IsStable, ReadsOnly}
use Rattle.tube_spec.specs.Fixpoint.{IsFixpoint}
use Rattle.tube_store.specs.declared.CellId.{CellId}
use Rattle.tube_store.specs.Resets.{cell_in}
use Rattle.tube_store.specs.State.{State, IsStore}
use Rattle.cell_readers.specs.Entries.{Table}
use Rattle.cell_readers.specs.Waking.{AreAtRest}
use Rattle.ctc_parts.specs.Parts.{each_below, AreClean}
use Rattle.ctc_parts.proofs.Members.{each_below-all}
use Rattle.part_marks.specs.Marks.{Marked, marked_at}
use Rattle.part_marks.specs.Nets.{marks_at, Each, AreMarked, KeepsMarks}
use Rattle.part_marks.proofs.Reaching.{beside-kept}
use Rattle.ctc_network.specs.Nets.{of_place, fits_place, IsThere, AreThere, IsNetMarked}
use Rattle.ctc_network.specs.Resetting.{Uses, IsResetTo, IsRoused}
use Rattle.ctc_network.proofs.Among.{all-named}
use Rattle.ctc_network.proofs.Naming.{any-first, any-second}
use Rattle.ctc_network.proofs.Resets.{used-there}
use Rattle.ctc_network.proofs.Runs.{get-all}

-- a cell that is not named is none of the list
pub unnamed-all : (cells : List (CellId × Span)) (k : ℕ) → (Contains (map cell_in cells) k → ⊥) → All (λ r. cell_in r ≢ k) cells
unnamed-all cells k other j d l e =
    other (j, omega (arith, l, length-map cells cell_in), get_or-map cell_in cells j d k l ∙ e)

was-false : (b a : Bool) → (b ≡ true → a ≡ true) → a ≡ false → b ≡ false
was-false false a h e = refl
was-false true a h e = let yes = h refl in absurd (cc)

-- ---- of a contractor that uses none of the cells

module _ (cells : List (CellId × Span)) (scope : List ℕ) (ps : List Projection) (unused : Uses cells scope ps → ⊥) where
  pub unread : (k : ℕ) → Contains scope k → Contains (map cell_in cells) k → ⊥
  unread k m n = unused (any-first (Contains (map cell_in cells)) scope (map (λ (p : Projection). p.target) ps) (m.0, k, m.1, m.2, n))

  pub unwritten : All (λ (p : Projection). Contains (map cell_in cells) p.target → ⊥) ps
  unwritten j d l n =
      unused (any-second (Contains (map cell_in cells)) scope (map (λ (p : Projection). p.target) ps) (
        j,
        (get_or ps j d).target,
        omega (arith, l, length-map ps (λ (p : Projection). p.target)),
        get_or-map (λ (p : Projection). p.target) ps j d (get_or ps j d).target l,
        n,
      ))

-- the same formulas and targets in two boxes: stable in the one, and in the other
pub stable-same : (Fits : List Span → Type 0) (scope : List ℕ) (ps : List Projection) (xs ys : List Span) → Fits xs → Fits ys → All (ReadsOnly Fits scope) ps → ((k : ℕ) → Contains scope k → cell_at ys k ≡ cell_at xs k)
    → All (λ (p : Projection). cell_at ys p.target ≡ cell_at xs p.target) ps → All (IsStable xs) ps → All (IsStable ys) ps
stable-same Fits scope ps xs ys fx fy reads same targets stable j d l =
    let p = get_or ps j d in
    subst (λ (v : Span). IsUnder v (p.formula ys)) (sym (targets j d l)) (subst (λ (h : Narrowing). IsUnder (cell_at xs p.target) h) (sym (reads j d l ys xs fy fx same)) (stable j d l))

module _ (C : Type 0) (projections : C → Shape → List Projection) (scope : C → Shape → List ℕ) (fits : C → Shape → Option (List Span) → Type 0)
    (reads_only : (c : C) (s : Shape) → All (ReadsOnly (λ xs. fits c s (Some xs)) (scope c s)) (projections c s))
    (in_store : (c : C) (s : Shape) (b : Option (List Span)) → IsShape s → fits c s b → All (λ k. k < s.cells) (scope c s) × All (λ p. p.target < s.cells) (projections c s))
    (parts : C → Shape → ℕ) (part : C → Shape → ℕ → List Projection) (part_scope : C → Shape → ℕ → List ℕ)
    (whole : (c : C) (s : Shape) → projections c s ≡ each_below (part c s) (parts c s))
    (part_reads : (c : C) (s : Shape) (i : ℕ) → i < parts c s → All (ReadsOnly (λ xs. fits c s (Some xs)) (part_scope c s i)) (part c s i))
    (part_in_scope : (c : C) (s : Shape) (i k : ℕ) → i < parts c s → Contains (part_scope c s i) k → Contains (scope c s) k)
    (s : Shape) (shape : IsShape s) (cells : List (CellId × Span)) (rise : IsStrictlyIncreasing (map cell_in cells)) (named : All (λ r. cell_in r < s.cells) cells)
    (ys : List Span) (box : IsBox ys) where
  -- of the empty box all cells are named, so who uses none has no projection
  none-written : (c : C) → fits c s (Some ys) → length cells ≡ s.cells → (Uses cells (scope c s) (projections c s) → ⊥) → All (λ (p : Projection). ⊥) (projections c s)
  none-written c fit whole_box unused j d l =
      unwritten cells (scope c s) (projections c s) unused j d l
      (all-named (map cell_in cells) s.cells rise (All-map (λ k. k < s.cells) cell_in cells named) (length-map cells cell_in ∙ whole_box) (get_or (projections c s) j d).target ((in_store c s (Some ys) shape fit).1 j d l))

  -- who uses none of the cells leaves the box after as the box before
  pub unused-rests : (c : C) (old : Option (List Span)) → fits c s (Some ys) → IfSome old (λ xs. fits c s (Some xs)) → (IsNone old → length cells ≡ s.cells) → IsResetTo cells old ys → (Uses cells (scope c s) (projections c s) → ⊥)
      → IfSome old (IsFixpoint (projections c s)) → IsFixpoint (projections c s) ys
  unused-rests c None fy fx empty to unused fix = record { box = box; stable = λ j d l. absurd (none-written c fy (empty refl) unused j d l) }
  unused-rests c (Some xs) fy fx empty to unused fix = record {
    box = box;
    stable = stable-same (λ zs. fits c s (Some zs)) (scope c s) (projections c s) xs ys fx fy (reads_only c s) (λ k m. to.others k (unnamed-all cells k (unread cells (scope c s) (projections c s) unused k m)))
        (λ j d l. to.others (get_or (projections c s) j d).target (unnamed-all cells (get_or (projections c s) j d).target (unwritten cells (scope c s) (projections c s) unused j d l))) fix.stable;
  }

  -- and each of its parts does
  pub unused-clean : (c : C) (old : Option (List Span)) (marked : ℕ → Bool) → fits c s (Some ys) → IfSome old (λ xs. fits c s (Some xs)) → (IsNone old → length cells ≡ s.cells) → IsResetTo cells old ys → (Uses cells (scope c s) (projections c s) → ⊥)
      → AreClean (parts c s) (part c s) marked old → AreClean (parts c s) (part c s) marked (Some ys)
  unused-clean c None marked fy fx empty to unused clean = λ i l m j d b.
      absurd (each_below-all (λ (p : Projection). ⊥) (part c s) (parts c s) i l (subst (λ (ps : List Projection). All (λ (p : Projection). ⊥) ps) (whole c s) (none-written c fy (empty refl) unused)) j d b)
  unused-clean c (Some xs) marked fy fx empty to unused clean = λ i l m.
      stable-same (λ zs. fits c s (Some zs)) (part_scope c s i) (part c s i) xs ys fx fy (part_reads c s i l) (λ k n. to.others k (unnamed-all cells k (unread cells (scope c s) (projections c s) unused k (part_in_scope c s i k l n))))
      (each_below-all (λ (p : Projection). cell_at ys p.target ≡ cell_at xs p.target) (part c s) (parts c s) i l
      (subst (λ (ps : List Projection). All (λ (p : Projection). cell_at ys p.target ≡ cell_at xs p.target) ps) (whole c s)
      (λ j d b. to.others (get_or (projections c s) j d).target (unnamed-all cells (get_or (projections c s) j d).target (unwritten cells (scope c s) (projections c s) unused j d b)))))
      (clean i l m)

  module _ (b : Option (List Span)) (t : List ℕ) (cs : List (Option C)) (before after : List Bool) (fit : All (λ c. fits_place fits c s (Some ys)) cs)
      (empty : IsNone b → length cells ≡ s.cells) (to : IsResetTo cells b ys) (roused : IsRoused (of_place projections) (of_place scope) s cs cells before after) where
    was-fit : All (λ c. fits_place fits c s b) cs → (k : ℕ) (c : C) → slice_get cs k ≡ Some (Some c) → IfSome b (λ xs. fits c s (Some xs))
    was-fit all k c e = at b (get-all (λ x. fits_place fits x s b) cs k (Some c) e all)
      where
        at : (a : Option (List Span)) → fits c s a → IfSome a (λ xs. fits c s (Some xs))
        at None f = tt
        at (Some xs) f = f

    -- who rests uses none of the cells
    resting-unused : (k : ℕ) (c : Option C) → slice_get cs k ≡ Some c → slice_get after k ≡ Some false → Uses cells (of_place scope c s) (of_place projections c s) → ⊥
    resting-unused k c e rests used = let waits = (roused.waits k c e).1 (inr used) in absurd (cc (waits, rests))

    -- and rested before
    rested-before : (k : ℕ) (c : Option C) → length before ≡ length cs → slice_get cs k ≡ Some c → slice_get after k ≡ Some false → slice_get before k ≡ Some false
    rested-before k c len e rests = at (get_or before k false) refl
      where
        there : slice_get before k ≡ Some (get_or before k false)
        there = slice_get-get_or before k false (omega (arith, len, slice_get_within cs k c e))

        at : (w : Bool) → get_or before k false ≡ w → slice_get before k ≡ Some false
        at false h = there ∙ ap Some h
        at true h = let waits = (roused.waits k c e).1 (inl (there ∙ ap Some h)) in absurd (cc (waits, rests))

    restored-rest : length before ≡ length cs → All (λ c. fits_place fits c s b) cs → AreAtRest (λ c. of_place projections c s) cs before b → AreAtRest (λ c. of_place projections c s) cs after (Some ys)
    restored-rest len all rest k None e f = record { box = box; stable = λ j d l. absurd (omega (arith, l)) }
    restored-rest len all rest k (Some c) e f =
        unused-rests c b (get-all (λ x. fits_place fits x s (Some ys)) cs k (Some c) e fit) (was-fit all k c e) empty to (resting-unused k (Some c) e f) (rest k (Some c) e (rested-before k (Some c) len e f))

    restored-there : AreThere cs before → length before ≡ length cs → AreThere cs after
    restored-there all len k w = at (get_or cs k None) (slice_get-get_or cs k None (omega (arith, len, roused.len, slice_get_within after k true w)))
      where
        at : (c : Option C) → slice_get cs k ≡ Some c → IsThere cs k
        at c e = elim ((roused.waits k c e).0 w) [
          | inl waited ↦ all k waited
          | inr used ↦ subst (λ (o : Option (Option C)). IsSomeAnd o IsSome) (sym e) (used-there projections scope parts s cells c used)
        ]

    restored-marked : (ms ns : List Marked) → All (λ c. fits_place fits c s b) cs → KeepsMarks ms ns → Each cs (λ k c. Uses cells (scope c s) (projections c s) → (i : ℕ) → i < parts c s → marked_at (marks_at ns k) i ≡ true)
        → AreMarked parts part s b cs ms → AreMarked parts part s (Some ys) cs ns
    restored-marked ms ns all kept marked clean k c e i l m =
        unused-clean c b (marked_at (marks_at ns k)) (get-all (λ x. fits_place fits x s (Some ys)) cs k (Some c) e fit) (was-fit all k c e) empty to (λ used. let yes = marked k c e used i l in absurd (cc (yes, m)))
        (fewer b (clean k c e)) i l m
      where
        fewer : (a : Option (List Span)) → AreClean (parts c s) (part c s) (marked_at (marks_at ms k)) a → AreClean (parts c s) (part c s) (marked_at (marks_at ns k)) a
        fewer None h = tt
        fewer (Some xs) h = λ j d u. h j d (was-false (marked_at (marks_at ms k) j) (marked_at (marks_at ns k) j) (kept.kept k j) u)

    -- the invariant after a reset
    pub restored : (table : Table) (entries count : ℕ) (ms ns : List Marked) → IsNetMarked projections scope fits parts part (record { store = record { shape = s; box = b; touched = t }; contractors = cs; waiting = before }) table entries count ms
        → IsStore (record { shape = s; box = Some ys; touched = [] }) → KeepsMarks ms ns → Each cs (λ k c. Uses cells (scope c s) (projections c s) → (i : ℕ) → i < parts c s → marked_at (marks_at ns k) i ≡ true)
        → IsNetMarked projections scope fits parts part (record { store = record { shape = s; box = Some ys; touched = [] }; contractors = cs; waiting = after }) table entries count ns
    restored table entries count ms ns held store kept marked = record {
      net = record {
        kept = record {
          state = record {
            net = record {
              store = store;
              few = held.net.kept.state.net.few;
              beside = roused.len ∙ held.net.kept.state.net.beside;
              fit = fit;
              entries = held.net.kept.state.net.entries;
              rest = restored-rest held.net.kept.state.net.beside held.net.kept.state.net.fit held.net.kept.state.net.rest;
            };
            drained = refl;
          };
          table_of = held.net.kept.table_of;
        };
        there = restored-there held.net.there held.net.kept.state.net.beside;
        count = held.net.count;
      };
      marks = record {
        len = kept.len ∙ held.marks.len;
        beside = beside-kept parts s cs ms ns kept held.marks.beside;
        clean = restored-marked ms ns held.net.kept.state.net.fit kept marked held.marks.clean;
      };
    }

-- ---- what the calls say

-- the box after a reset
pub reset-to : (cells : List (CellId × Span)) (old new : Option (List Span)) → IsSome new → IfSome new (λ ys. All (λ r. cell_at ys (cell_in r) ≡ r.1) cells)
    → IfSome old (λ xs. IfSome new (λ ys. (k : ℕ) → All (λ r. cell_in r ≢ k) cells → cell_at ys k ≡ cell_at xs k)) → (ys : List Span) × (new ≡ Some ys) × IsResetTo cells old ys
reset-to cells old None some given others = absurd (cc)
reset-to cells None (Some ys) some given others = (ys, refl, record { given = given; others = tt })
reset-to cells (Some xs) (Some ys) some given others = (ys, refl, record { given = given; others = others })

pub state-is : (new : State) (s : Shape) (b : Option (List Span)) (t : List ℕ) → new.shape ≡ s → new.box ≡ b → new.touched ≡ t → new ≡ record { shape = s; box = b; touched = t }
state-is new s b t shape box touched =
    ap (λ (x : Shape). let v : State = record { shape = x; box = new.box; touched = new.touched } in v) shape
    ∙ ap (λ (x : Option (List Span)). let v : State = record { shape = s; box = x; touched = new.touched } in v) box
    ∙ ap (λ (x : List ℕ). let v : State = record { shape = s; box = b; touched = x } in v) touched

-- every contractor fits the box after, as was asked
pub reset-fits : {C : Type 0} (fits : C → Shape → Option (List Span) → Type 0) (old : State) (cs : List (Option C)) (cells : List (CellId × Span)) (ys : List Span) → IsStore (record { shape = old.shape; box = Some ys; touched = [] }) → IsResetTo cells old.box ys
    → ((zs : List Span) → length zs ≡ old.shape.cells → IsResetTo cells old.box zs → All (λ c. fits_place fits c old.shape (Some zs)) cs) → All (λ c. fits_place fits c old.shape (Some ys)) cs
reset-fits fits old cs cells ys store to asked = asked ys store.box.1 to
