-- What one firing does to a net.
use Rattle.std.proofs.Common.{◌≡◌, ◌≢◌, ℕ, ◌+◌, ◌≤◌, inl, inr, Bool, true, false, Option, Some, None, List, [], arith, refl, sym, ap, subst, ◌∙◌, length, length-set, map, set, All, Contains, IsSome, IsNone, IfSome, slice_get, flat_map}
use Rattle.std.specs.Cmp.{nat_eq_equiv}
use Rattle.std.specs.List.{IsDistinct}
use Rattle.std.proofs.lemmas.Map.Views.{list_any-from_Contains}
use Rattle.tube_spec.specs.Span.{Span}
use Rattle.tube_spec.specs.Shape.{Shape}
use Rattle.tube_spec.specs.Box.{IsBox, IsBelowBox}
use Rattle.tube_spec.specs.Projection.{Projection, ReadsOnly}
use Rattle.tube_spec.specs.Fixpoint.{IsFixpoint}
use Rattle.tube_store.specs.State.{State, IsStore}
use Rattle.ctc_core.specs.Revising.{IfBoth, AddsNarrower}
use Rattle.ctc_core.specs.Answers.{Revises, MatchRevised}
use Rattle.ctc_core.specs.declared.Revised.{Revised}
use Rattle.ctc_core.specs.declared.Revised.TheVariants.{Same, Narrowed, Empty}
use Rattle.ctc_core.proofs.Firing.{IsBox-of}
use Rattle.cell_readers.specs.Entries.{Table, AreReaders}
use Rattle.cell_readers.specs.Costs.{potential}
use Rattle.cell_readers.specs.Waking.{AreWoken, AreAtRest}
use Rattle.cell_readers.proofs.Counts.{mark-other}
use Rattle.cell_readers.proofs.Kept.{drained}
use Rattle.cell_readers.proofs.Steps.{step}
use Rattle.ctc_network.specs.Nets.{Places, IsSettlable, IsTableOf, readers_of, reads_by}
use Rattle.ctc_network.specs.Noting.{Notes}
use Rattle.ctc_network.specs.Settling.{Fires, IsWoken, IsNarrowedBy, NarrowerIn}
use Rattle.ctc_network.proofs.Runs.{narrowed-none, narrowed-fire, same-fixpoint, get-all}
use Rattle.ctc_network.proofs.Keeping.{rest-set, with-marks}
use Rattle.ctc_network.proofs.Waking.{set-again, woken-is, narrower-woken}

pub if-there : (b : Option (List Span)) (P : Type 0) → IsSome b → IfSome b (λ xs. P) → P
if-there None P some h = absurd (cc)
if-there (Some xs) P some h = h

pub if-none : (b : Option (List Span)) (P : List Span → Type 0) → IsNone b → IfSome b P
if-none None P none = tt
if-none (Some xs) P none = absurd (cc)

-- a store of which the touched cells were taken
pub cleared-store : (s : State) → IsStore s → IsStore (record s { touched = [] })
unfolding IsDistinct
cleared-store s h = record {
  shape = h.shape;
  box = h.box;
  bounded = h.bounded;
  among = λ k d l. absurd (omega (arith, l));
  distinct = tt;
}

-- the touched cells are those that became narrower
touched-narrower : (touched cells : List ℕ) (a b : Option (List Span)) → IsSome a → IsSome b → touched ≡ [] → IfBoth a b (λ xs ys. AddsNarrower touched cells xs ys) → (j : ℕ) → Contains cells j → NarrowerIn a b j
touched-narrower touched cells None b sa sb e adds j m = absurd (cc)
touched-narrower touched cells (Some xs) None sa sb e adds j m = absurd (cc)
touched-narrower touched cells (Some xs) (Some ys) sa sb e adds j m = elim ((adds j).0 m) [
  | inl h ↦ let none = subst (λ (ks : List ℕ). Contains ks j) e h in absurd (omega (arith, none.1))
  | inr n ↦ n
]

narrower-touched : (touched cells : List ℕ) (a b : Option (List Span)) → IfBoth a b (λ xs ys. AddsNarrower touched cells xs ys) → (j : ℕ) → NarrowerIn a b j → Contains cells j
narrower-touched touched cells None b adds j n = absurd n
narrower-touched touched cells (Some xs) None adds j n = absurd n
narrower-touched touched cells (Some xs) (Some ys) adds j n = (adds j).1 (inr n)

-- where the old box was not empty nothing was empty before
some-before : (ps : List Projection) (old new : State) (x : Revised) → Revises ps old new x → IsSome new.box → IsSome old.box
some-before ps old new x r some = at old.box refl
  where
    at : (b : Option (List Span)) → old.box ≡ b → IsSome b
    at None e =
        let same : new ≡ old = r.empty (subst IsNone (sym e) refl) in
        let none : new.box ≡ None = ap (λ (s : State). s.box) same ∙ e in
        absurd (at_none new.box none some)
      where
        at_none : (d : Option (List Span)) → d ≡ None → IsSome d → ⊥
        at_none None f s = cc
        at_none (Some xs) f s = cc
    at (Some xs) e = refl

-- what is noted leaves the shape and the box
pub noted-same : (x : Revised) (k : ℕ) (lists : List (List ℕ)) (new m : State) (ts us : List Bool) → Notes x k lists new m ts us → (m.shape ≡ new.shape) × (m.box ≡ new.box)
noted-same Same k lists new m ts us notes = (ap (λ (s : State). s.shape) notes.0, ap (λ (s : State). s.box) notes.0)
noted-same Narrowed k lists new m ts us notes = (ap (λ (s : State). s.shape) notes.0, ap (λ (s : State). s.box) notes.0)
noted-same Empty k lists new m ts us notes = (ap (λ (s : State). s.shape) notes.0, ap (λ (s : State). s.box) notes.0)

module _ (C : Type 0) (projections : C → Shape → List Projection) (scope : C → Shape → List ℕ) (fits : C → Shape → Option (List Span) → Type 0)
    (fits_below : (c : C) (s : Shape) (a b : Option (List Span)) → IsBelowBox a b → fits c s b → fits c s a)
    (reads_only : (x : C) (s : Shape) → All (ReadsOnly (λ xs. fits x s (Some xs)) (scope x s)) (projections x s)) where
  -- The contractor with the number k is fired. The marks before it is noted are those of the net, but maybe for k.
  module _ (old new : State) (cs : List C) (ws ts : List Bool) (k : ℕ) (c : C) (before : IsSettlable projections scope fits (record { store = old; contractors = cs; waiting = ws })) (there : slice_get cs k ≡ Some c)
      (len : length ts ≡ length ws) (quiet : (j : ℕ) → j ≢ k → slice_get ts j ≡ Some false → slice_get ws j ≡ Some false) (again : set ts k false ≡ set ws k false) where
    abbrev net : Places C
    net = record { store = old; contractors = cs; waiting = ws }

    -- where the box stayed
    same-net : Revises (projections c old.shape) old new Same → IsSettlable projections scope fits (record { store = old; contractors = cs; waiting = set ts k false })
    same-net r = subst (λ (vs : List Bool). IsSettlable projections scope fits (record { store = old; contractors = cs; waiting = vs })) (sym again) record {
      net = record {
        store = before.net.store;
        few = before.net.few;
        beside = length-set ws k false ∙ before.net.beside;
        fit = before.net.fit;
        entries = before.net.entries;
        rest = rest-set (λ x. projections x old.shape) cs ws old.box k c before.net.rest there (subst (λ (s : State). IfSome s.box (IsFixpoint (projections c old.shape))) (r.revised.same refl) (same-fixpoint (projections c old.shape) old new r));
      };
      drained = before.drained;
    }

    -- where it became empty
    empty-net : Revises (projections c old.shape) old new Empty → IsSettlable projections scope fits (record { store = new; contractors = cs; waiting = ts })
    empty-net r = record {
      net = with-marks C projections scope fits fits_below old new cs ws ts before.net r.after r.revised.shape r.revised.below len (λ j d e f. if-none new.box (IsFixpoint (projections d new.shape)) r.says);
      drained = if-none new.box (λ xs. new.touched ≡ []) r.says;
    }

    -- where cells became narrower
    module _ (r : Revises (projections c old.shape) old new Narrowed) (us : List Bool) (woken : AreWoken (reads_by scope old.shape) cs new.touched k ts us) where
      some : IsSome old.box
      some = some-before (projections c old.shape) old new Narrowed r r.says

      rest-after : (a b : Option (List Span)) → IsSome a → IsSome b → IsBelowBox b a → IfSome b IsBox → IfBoth a b (λ xs ys. AddsNarrower old.touched new.touched xs ys)
          → AreAtRest (λ x. projections x old.shape) cs ws a → ((j : ℕ) (d : C) → slice_get cs j ≡ Some d → fits d old.shape a) → AreAtRest (λ x. projections x old.shape) cs us b
      rest-after None b sa sb low box adds rest fit = absurd (cc)
      rest-after (Some xs) None sa sb low box adds rest fit = absurd (cc)
      rest-after (Some xs) (Some ys) sa sb low box adds rest fit =
          drained (λ x. projections x old.shape) (reads_by scope old.shape) cs xs ys (λ x zs. fits x old.shape (Some zs)) (λ x. scope x old.shape) new.touched k ts us
          (λ j d n e f. rest j d e (quiet j n f)) (λ j n. (adds j).1 (inr n)) woken
          (λ x j m. list_any-from_Contains nat_eq_equiv j (scope x old.shape) m) (λ x. reads_only x old.shape)
          (λ j d e. (fit j d e, fits_below d old.shape (Some ys) (Some xs) low (fit j d e))) box low

      empty-list : (b : Option (List Span)) → IfSome b (λ xs. (let none : List ℕ = [] in none ≡ []))
      empty-list None = tt
      empty-list (Some xs) = refl

      pub narrowed-net : IsSettlable projections scope fits (record { store = record new { touched = [] }; contractors = cs; waiting = us })
      narrowed-net = record {
        net = with-marks C projections scope fits fits_below old (record new { touched = [] }) cs ws us before.net (cleared-store new r.after) r.revised.shape r.revised.below (woken.len ∙ len)
            (subst (λ (s : Shape). AreAtRest (λ x. projections x s) cs us new.box) (sym r.revised.shape)
            (rest-after old.box new.box some r.says r.revised.below (IsBox-of new r.after) r.revised.touched (λ j d e f. before.net.rest j d e f) (λ j d e. get-all (λ x. fits x old.shape old.box) cs j d e before.net.fit)));
        drained = empty-list new.box;
      }

      pub narrowed-woken : IsWoken scope old.shape cs old.box new.box k ts us
      narrowed-woken =
          narrower-woken scope old.shape cs new.touched k ts us (len ∙ before.net.beside) woken old.box new.box
          (touched-narrower old.touched new.touched old.box new.box some r.says (if-there old.box (old.touched ≡ []) some before.drained) r.revised.touched)
          (narrower-touched old.touched new.touched old.box new.box r.revised.touched)

    -- what is noted in the words of the lists, in those of the contractors
    woken-of : (lists : List (List ℕ)) → AreReaders (map (λ x. scope x old.shape) cs) lists → (m : State) (us : List Bool) → Notes Narrowed k lists new m ts us → AreWoken (reads_by scope old.shape) cs new.touched k ts us
    woken-of lists readers m us notes =
        subst (λ (vs : List Bool). AreWoken (reads_by scope old.shape) cs new.touched k ts vs) (sym notes.1.2)
        (woken-is scope old.shape cs lists readers new.touched k ts notes.1.0 (len ∙ before.net.beside) notes.1.1)

    module _ (lists : List (List ℕ)) (readers : AreReaders (map (λ x. scope x old.shape) cs) lists) where
      -- the net after a firing
      pub noted-net : (x : Revised) (m : State) (us : List Bool) → Revises (projections c old.shape) old new x → Notes x k lists new m ts us → IsSettlable projections scope fits (record { store = m; contractors = cs; waiting = us })
      noted-net Same m us r notes =
          subst (λ (s : State). IsSettlable projections scope fits (record { store = s; contractors = cs; waiting = us })) (sym (notes.0 ∙ r.revised.same refl))
          (subst (λ (vs : List Bool). IsSettlable projections scope fits (record { store = old; contractors = cs; waiting = vs })) (sym notes.1) (same-net r))
      noted-net Narrowed m us r notes =
          subst (λ (s : State). IsSettlable projections scope fits (record { store = s; contractors = cs; waiting = us })) (sym notes.0) (narrowed-net r us (woken-of lists readers m us notes))
      noted-net Empty m us r notes =
          subst (λ (s : State). IsSettlable projections scope fits (record { store = s; contractors = cs; waiting = us })) (sym notes.0)
          (subst (λ (vs : List Bool). IsSettlable projections scope fits (record { store = new; contractors = cs; waiting = vs })) (sym notes.1) (empty-net r))

      -- who waits after a firing
      pub noted-woken : (x : Revised) (m : State) (us : List Bool) → Revises (projections c old.shape) old new x → Notes x k lists new m ts us
          → MatchRevised x (us ≡ set ts k false) (IsWoken scope old.shape cs old.box m.box k ts us) (us ≡ ts)
      noted-woken Same m us r notes = notes.1
      noted-woken Narrowed m us r notes =
          subst (λ (s : State). IsWoken scope old.shape cs old.box s.box k ts us) (sym notes.0) (narrowed-woken r us (woken-of lists readers m us notes))
      noted-woken Empty m us r notes = notes.1

  -- the laws of the firing, with the touched cells set aside
  pub noted-fires : (ps : List Projection) (x : Revised) (k : ℕ) (lists : List (List ℕ)) (old new m : State) (ts us : List Bool) → Revises ps old new x → Notes x k lists new m ts us → Fires ps old m x
  noted-fires ps x k lists old new m ts us r notes = (new.touched, subst (λ (s : State). Revises ps old s x) (sym (back x notes)) r)
    where
      back : (y : Revised) → Notes y k lists new m ts us → (let s : State = record m { touched = new.touched } in s ≡ new)
      back Same n = ap (λ (s : State). let t : State = record s { touched = new.touched } in t) n.0
      back Narrowed n = ap (λ (s : State). let t : State = record s { touched = new.touched } in t) n.0
      back Empty n = ap (λ (s : State). let t : State = record s { touched = new.touched } in t) n.0

  -- what the answer says of the box
  pub noted-says : (ps : List Projection) (x : Revised) (k : ℕ) (lists : List (List ℕ)) (old new m : State) (ts us : List Bool) → Revises ps old new x → Notes x k lists new m ts us → MatchRevised x (IsSome m.box) (IsSome m.box) (IsNone m.box)
  noted-says ps x k lists old new m ts us r notes = subst (λ (b : Option (List Span)). MatchRevised x (IsSome b) (IsSome b) (IsNone b)) (sym (noted-same x k lists new m ts us notes).1) r.says

  -- the box lies below, and no common fixpoint was lost
  pub noted-narrowed : (cs : List C) (c : C) (x : Revised) (k : ℕ) (lists : List (List ℕ)) (old new m : State) (ts us : List Bool) → slice_get cs k ≡ Some c → Revises (projections c old.shape) old new x → Notes x k lists new m ts us
      → IsNarrowedBy (flat_map (λ d. projections d old.shape) cs) old m
  noted-narrowed cs c x k lists old new m ts us there r notes = record {
    shape = same.0 ∙ run.shape;
    below = subst (λ (b : Option (List Span)). IsBelowBox b old.box) (sym same.1) run.below;
    keeps = λ q f low. subst (λ (b : Option (List Span)). IsBelowBox (Some q) b) (sym same.1) (run.keeps q f low);
  }
    where
      same : (m.shape ≡ new.shape) × (m.box ≡ new.box)
      same = noted-same x k lists new m ts us notes

      run : IsNarrowedBy (flat_map (λ d. projections d old.shape) cs) old new
      run = narrowed-fire (λ d. projections d old.shape) cs k c old old new x there (narrowed-none _ old) r

  -- one that waited was taken and fired: the potential falls
  pub noted-falls : (old new m : State) (cs : List C) (ws ts us : List Bool) (k : ℕ) (c : C) (x : Revised) (lists : List (List ℕ)) → IsSettlable projections scope fits (record { store = old; contractors = cs; waiting = ws })
      → AreReaders (map (λ d. scope d old.shape) cs) lists → IsSome old.box → slice_get cs k ≡ Some c → slice_get ws k ≡ Some true → ts ≡ set ws k false → Revises (projections c old.shape) old new x → Notes x k lists new m ts us
      → potential (readers_of scope old.shape cs) us m.box + 1 ≤ potential (readers_of scope old.shape cs) ws old.box
  noted-falls old new m cs ws ts us k c x lists before readers some there waits took r notes =
      subst (λ (b : Option (List Span)). potential (readers_of scope old.shape cs) us b + 1 ≤ potential (readers_of scope old.shape cs) ws old.box) (sym (noted-same x k lists new m ts us notes).1)
      (step (reads_by scope old.shape) cs (projections c old.shape) k ws us old new x r some (if-there old.box (old.touched ≡ []) some before.drained) waits before.net.beside
      (says x (subst (λ (vs : List Bool). Notes x k lists new m vs us) took notes)))
    where
      says : (y : Revised) → Notes y k lists new m (set ws k false) us → MatchRevised y (us ≡ set ws k false) (AreWoken (reads_by scope old.shape) cs new.touched k (set ws k false) us) (us ≡ set ws k false)
      says Same n = n.1 ∙ set-again ws k false false
      says Narrowed n =
          subst (λ (vs : List Bool). AreWoken (reads_by scope old.shape) cs new.touched k (set ws k false) vs) (sym n.1.2)
          (woken-is scope old.shape cs lists readers new.touched k (set ws k false) n.1.0 (length-set ws k false ∙ before.net.beside) n.1.1)
      says Empty n = n.1

-- the table stays as it is
pub kept-table : {C : Type 0} (scope : C → Shape → List ℕ) (cs : List C) (old new : Shape) (table : Table) (entries : ℕ) → new ≡ old → IsTableOf (map (λ c. scope c old) cs) table entries → IsTableOf (map (λ c. scope c new) cs) table entries
kept-table scope cs old new table entries e t = subst (λ (s : Shape). IsTableOf (map (λ c. scope c s) cs) table entries) (sym e) t

-- a list with one mark set, and the list itself
pub quiet-itself : (ws : List Bool) (k j : ℕ) → j ≢ k → slice_get ws j ≡ Some false → slice_get ws j ≡ Some false
quiet-itself ws k j n e = e

pub quiet-taken : (ws ts : List Bool) (k : ℕ) → ts ≡ set ws k false → (j : ℕ) → j ≢ k → slice_get ts j ≡ Some false → slice_get ws j ≡ Some false
quiet-taken ws ts k took j n e = sym (mark-other ws k j false n) ∙ sym (ap (λ (vs : List Bool). slice_get vs j) took) ∙ e

-- a fact about what is there
pub at-some : {X : Type 0} (P : X → Type 0) (o : Option X) (x : X) → o ≡ Some x → P x → IfSome o P
at-some {X} P o x e h = subst (λ (p : Option X). IfSome p P) (sym e) h
