-- A run of firings, and those of them that are listed.
use Rattle.std.proofs.Common.{◌≡◌, ℕ, zero, suc, false, IsFalse, replicate, ◌+◌, ◌<◌, ◌≤◌, Option, Some, None, List, [], ◌∷◌, ◌++◌, IsSome, IsNone, IfSome, refl, sym, ap, subst, ◌∙◌, length, length-append, All, arith, slice_get, flat_map}
use Rattle.std.specs.List.{cons_option}
use Rattle.std.specs.Option.{IsSomeAnd}
use Rattle.std.proofs.lemmas.List.Elements.{filter_map-append, All-push, All-cons}
use Rattle.std.proofs.Math.ListN.{length-replicate}
use Rattle.std.proofs.lemmas.List.Concat.{flat_map-append}
use Rattle.tube_spec.specs.Span.{Span}
use Rattle.tube_spec.specs.Shape.{Shape}
use Rattle.tube_spec.specs.Box.{IsBelowBox, measure_of}
use Rattle.tube_spec.specs.Projection.{Projection}
use Rattle.tube_spec.specs.Fixpoint.{IsFixpoint}
use Rattle.tube_spec.proofs.Boxes.{IsBelowBox-trans}
use Rattle.tube_store.specs.State.{State, IsStore}
use Rattle.ctc_core.specs.declared.Revised.{Revised}
use Rattle.ctc_core.specs.declared.Revised.TheVariants.{Same, Narrowed, Empty}
use Rattle.ctc_core.proofs.Composing.{fixpoint-left, fixpoint-right}
use Rattle.ctc_network.specs.declared.answers.CtcId.{CtcId}
use Rattle.ctc_network.specs.Nets.{NetState, IsThere, of_place}
use Rattle.ctc_network.specs.Settling.{Fires, IsNarrowedBy, SettlesAs, StillNarrows, contractors_at}
use Rattle.ctc_network.specs.declared.answers.Settled.{Settled}
use Rattle.ctc_network.specs.declared.answers.Settled.TheVariants.{Fixpoint, Spent}
use Rattle.ctc_network.specs.declared.answers.Settled.TheVariants as ends
use Rattle.cell_readers.specs.Waking.{AreAtRest}
use Rattle.ctc_network.proofs.Runs.{narrowed-none, narrowed-trans, measure-falls, settled-fixpoint}
use Rattle.ctc_network.proofs.Replaying.{run-then, if-some}

-- The net after some firings, and the list of those that narrowed: the box lies below the first one, no common fixpoint was lost, not
-- even of those listed alone, and each of them lowered the measure.
pub record IsTraced {C : Type 0} (projections : C → Shape → List Projection) (old new : NetState C) (fired : List CtcId) : Type 0 where
  pub contractors : new.contractors ≡ old.contractors
  pub narrowed : IsNarrowedBy (flat_map (λ c. of_place projections c old.store.shape) old.contractors) old.store new.store
  pub enough : IsNarrowedBy (flat_map (λ c. of_place projections c old.store.shape) (contractors_at old.contractors fired)) old.store new.store
  pub there : All (λ id. IsThere old.contractors id.0) fired

pub traced-none : {C : Type 0} (projections : C → Shape → List Projection) (n : NetState C) → IsTraced projections n n []
traced-none projections n = record {
  contractors = refl;
  narrowed = narrowed-none (flat_map (λ c. of_place projections c n.store.shape) n.contractors) n.store;
  enough = narrowed-none [] n.store;
  there = λ k d l. absurd (omega (arith, l));
}

-- a firing that changed nothing
same-narrowed : (ps qs : List Projection) (a b : State) → Fires ps a b Same → IsNarrowedBy qs a b
same-narrowed ps qs a b fired =
    let same : record b { touched = fired.0 } ≡ a = fired.1.revised.same refl in
    let shape : b.shape ≡ a.shape = ap (λ (s : State). s.shape) same in
    let box : b.box ≡ a.box = ap (λ (s : State). s.box) same in
    record { shape = shape; below = subst (λ (x : Option (List Span)). IsBelowBox x a.box) (sym box) ((narrowed-none qs a).below); keeps = λ q f low. subst (IsBelowBox (Some q)) (sym box) low }

pub traced-same : {C : Type 0} (projections : C → Shape → List Projection) (old mid new : NetState C) (fired : List CtcId) (ps : List Projection) (x : Revised) → x ≡ Same → IsTraced projections old mid fired
    → new.contractors ≡ mid.contractors → Fires ps mid.store new.store x → IsTraced projections old new fired
traced-same projections old mid new fired ps x e is same f =
    let g = subst (λ (y : Revised). Fires ps mid.store new.store y) e f in
    let all = flat_map (λ c. of_place projections c old.store.shape) old.contractors in
    let listed = flat_map (λ c. of_place projections c old.store.shape) (contractors_at old.contractors fired) in
    record {
      contractors = same ∙ is.contractors;
      narrowed = narrowed-trans all old.store mid.store new.store is.narrowed (same-narrowed ps all mid.store new.store g);
      enough = narrowed-trans listed old.store mid.store new.store is.enough (same-narrowed ps listed mid.store new.store g);
      there = is.there;
    }

-- the measure of the box after it is the same
pub same-measure : (ps : List Projection) (a b : State) (x : Revised) → x ≡ Same → Fires ps a b x → measure_of b.box ≡ measure_of a.box
same-measure ps a b x e f =
    let g = subst (λ (y : Revised). Fires ps a b y) e f in
    let same : record b { touched = g.0 } ≡ a = g.1.revised.same refl in
    ap (λ (s : State). measure_of s.box) same

pub less-measure : (ps : List Projection) (a b : State) (x : Revised) → x ≡ Narrowed → Fires ps a b x → measure_of b.box < measure_of a.box
less-measure ps a b x e f = measure-falls ps a (record b { touched = f.0 }) x e f.1

-- the contractors with the numbers of a longer list
listed-more : {C : Type 0} (cs : List C) (ids : List CtcId) (id : CtcId) (c : C) → slice_get cs id.0 ≡ Some c → contractors_at cs (ids ++ id ∷ []) ≡ contractors_at cs ids ++ c ∷ []
listed-more {C} cs ids id c at =
    filter_map-append (λ (j : CtcId). slice_get cs j.0) ids (id ∷ []) ∙ ap (λ (o : Option C). contractors_at cs ids ++ cons_option o []) at

-- a firing of one more, which is listed
listed-narrowed : {C : Type 0} (f : C → List Projection) (cs : List C) (fired : List CtcId) (id : CtcId) (c : C) (a b d : State) (x : Revised) → slice_get cs id.0 ≡ Some c
    → IsNarrowedBy (flat_map f (contractors_at cs fired)) a b → Fires (f c) b d x → IsNarrowedBy (flat_map f (contractors_at cs (fired ++ id ∷ []))) a d
listed-narrowed {C} f cs fired id c a b d x at n r =
    let split : flat_map f (contractors_at cs (fired ++ id ∷ [])) ≡ flat_map f (contractors_at cs fired) ++ flat_map f (c ∷ []) =
    ap (flat_map f) (listed-more cs fired id c at) ∙ flat_map-append f (contractors_at cs fired) (c ∷ []) in
    subst (λ (ps : List Projection). IsNarrowedBy ps a d) (sym split)
    (record {
      shape = r.1.revised.shape ∙ n.shape;
      below = IsBelowBox-trans d.box b.box a.box r.1.revised.below n.below;
      keeps = λ q fix low.
          let first : IsFixpoint (flat_map f (contractors_at cs fired)) q = fixpoint-left (flat_map f (contractors_at cs fired)) (flat_map f (c ∷ [])) q fix in
          let last : IsFixpoint (flat_map f (c ∷ [])) q = fixpoint-right (flat_map f (contractors_at cs fired)) (flat_map f (c ∷ [])) q fix in
          r.1.revised.keeps q (fixpoint-left (f c) [] q last) (n.keeps q first low);
    })

some-there : {C : Type 0} (o : Option (Option C)) → IsSomeAnd o IsSome → (c : Option C) × (o ≡ Some c)
some-there None h = absurd h
some-there (Some c) h = (c, refl)

pub same-box : (ps : List Projection) (a b : State) (x : Revised) → x ≡ Same → Fires ps a b x → b.box ≡ a.box
same-box ps a b x e f =
    let g = subst (λ (y : Revised). Fires ps a b y) e f in
    let same : record b { touched = g.0 } ≡ a = g.1.revised.same refl in
    ap (λ (s : State). s.box) same

filled : (ps : List Projection) (a b : State) (x : Revised) → x ≡ Narrowed → Fires ps a b x → IsSome b.box
filled ps a b x e f =
    let g = subst (λ (y : Revised). Fires ps a b y) e f in
    g.1.says

all-false : (n : ℕ) → All IsFalse (replicate n false)
all-false zero = λ k d l. absurd (omega (arith, l))
all-false (suc n) = All-cons IsFalse false (replicate n false) refl (all-false n)

pub traced-more : {C : Type 0} (projections : C → Shape → List Projection) (old mid new : NetState C) (fired : List CtcId) (id : CtcId) (x : Revised) → IsTraced projections old mid fired
    → IsThere mid.contractors id.0 → new.contractors ≡ mid.contractors
    → IfSome (slice_get mid.contractors id.0) (λ c. Fires (of_place projections c mid.store.shape) mid.store new.store x)
    → IsNarrowedBy (flat_map (λ c. of_place projections c mid.store.shape) mid.contractors) mid.store new.store → IsTraced projections old new (fired ++ id ∷ [])
traced-more {C} projections old mid new fired id x is there same f all =
    let at : (c : Option C) × (slice_get mid.contractors id.0 ≡ Some c) = some-there (slice_get mid.contractors id.0) there in
    let shape : mid.store.shape ≡ old.store.shape = is.narrowed.shape in
    let fires : Fires (of_place projections at.0 old.store.shape) mid.store new.store x =
    subst (λ (s : Shape). Fires (of_place projections at.0 s) mid.store new.store x) shape
    (if-some (λ (c : Option C). Fires (of_place projections c mid.store.shape) mid.store new.store x) (slice_get mid.contractors id.0) at.0 at.1 f) in
    record {
      contractors = same ∙ is.contractors;
      narrowed = run-then (of_place projections) old.contractors mid.contractors old.store mid.store new.store is.contractors is.narrowed all;
      enough = listed-narrowed (λ c. of_place projections c old.store.shape) old.contractors fired id at.0 old.store mid.store new.store x (ap (λ (cs : List (Option C)). slice_get cs id.0) (sym is.contractors) ∙ at.1) is.enough fires;
      there = All-push (λ j. IsThere old.contractors j.0) fired id is.there (subst (λ (cs : List (Option C)). IsThere cs id.0) is.contractors there);
    }

-- In the midst of a run: not more are listed than may be, and what the measure was covers them.
pub record IsTracing {C : Type 0} (projections : C → Shape → List Projection) (most : ℕ) (old new : NetState C) (fired : List CtcId) (from : ℕ) : Type 0 where
  pub traced : IsTraced projections old new fired
  pub some : IsSome new.store.box
  pub few : length fired ≤ most
  pub measured : measure_of new.store.box + length fired ≤ measure_of old.store.box
  pub next : from ≤ length new.contractors

pub tracing-same : {C : Type 0} (projections : C → Shape → List Projection) (most : ℕ) (old mid new : NetState C) (fired : List CtcId) (from k : ℕ) (x : Revised) → x ≡ Same → IsTracing projections most old mid fired from
    → k < length mid.contractors → IsThere mid.contractors k → new.contractors ≡ mid.contractors
    → IfSome (slice_get mid.contractors k) (λ c. Fires (of_place projections c mid.store.shape) mid.store new.store x) → IsTracing projections most old new fired (k + 1)
tracing-same {C} projections most old mid new fired from k x e is l there same f =
    let at : (c : Option C) × (slice_get mid.contractors k ≡ Some c) = some-there (slice_get mid.contractors k) there in
    let fires = if-some (λ (c : Option C). Fires (of_place projections c mid.store.shape) mid.store new.store x) (slice_get mid.contractors k) at.0 at.1 f in
    let measure = same-measure (of_place projections at.0 mid.store.shape) mid.store new.store x e fires in
    let box : new.store.box ≡ mid.store.box = same-box (of_place projections at.0 mid.store.shape) mid.store new.store x e fires in
    record {
      traced = traced-same projections old mid new fired (of_place projections at.0 mid.store.shape) x e is.traced same fires;
      some = subst (λ (b : Option (List Span)). IsSome b) (sym box) is.some;
      few = is.few;
      measured = omega (arith, measure, is.measured);
      next = omega (arith, l, ap length same);
    }

pub tracing-more : {C : Type 0} (projections : C → Shape → List Projection) (most : ℕ) (old mid new : NetState C) (fired : List CtcId) (from : ℕ) (id : CtcId) (x : Revised) → x ≡ Narrowed → IsTracing projections most old mid fired from
    → id.0 < length mid.contractors → length fired < most → IsThere mid.contractors id.0 → new.contractors ≡ mid.contractors
    → IfSome (slice_get mid.contractors id.0) (λ c. Fires (of_place projections c mid.store.shape) mid.store new.store x)
    → IsNarrowedBy (flat_map (λ c. of_place projections c mid.store.shape) mid.contractors) mid.store new.store → IsTracing projections most old new (fired ++ id ∷ []) (id.0 + 1)
tracing-more {C} projections most old mid new fired from id x e is l few there same f all =
    let at : (c : Option C) × (slice_get mid.contractors id.0 ≡ Some c) = some-there (slice_get mid.contractors id.0) there in
    let fires = if-some (λ (c : Option C). Fires (of_place projections c mid.store.shape) mid.store new.store x) (slice_get mid.contractors id.0) at.0 at.1 f in
    let measure = less-measure (of_place projections at.0 mid.store.shape) mid.store new.store x e fires in
    let long = length-append fired (id ∷ []) in
    record {
      traced = traced-more projections old mid new fired id x is.traced there same f all;
      some = filled (of_place projections at.0 mid.store.shape) mid.store new.store x e fires;
      few = omega (arith, long, few);
      measured = omega (arith, measure, is.measured, long);
      next = omega (arith, l, ap length same);
    }

-- the box at the end of a run that listed as many as may be
pub settled-sought : {C : Type 0} (projections : C → Shape → List Projection) (most : ℕ) (old new : NetState C) (fired : List CtcId) (from : ℕ) (x : Settled) → IsTracing projections most old new fired from → length fired ≡ most → IsStore new.store
    → ((id : CtcId) → x ≡ Spent id → StillNarrows (λ c. of_place projections c new.store.shape) new.contractors new.store.box id.0)
    → (x ≡ Fixpoint → (k : ℕ) (c : Option C) → slice_get new.contractors k ≡ Some c → IfSome new.store.box (IsFixpoint (of_place projections c new.store.shape)))
    → (x ≡ ends.Empty → ⊥) → SettlesAs (λ c. of_place projections c old.store.shape) old.contractors most old.store new.store x
settled-sought {C} projections most old new fired from Fixpoint is full store spent rests never =
    let f = λ (c : Option C). of_place projections c old.store.shape in
    let rest : AreAtRest f old.contractors (replicate (length old.contractors) false) new.store.box = λ k c at quiet.
    subst (λ (s : Shape). IfSome new.store.box (IsFixpoint (of_place projections c s))) is.traced.narrowed.shape (rests refl k c (ap (λ (cs : List (Option C)). slice_get cs k) is.traced.contractors ∙ at)) in
    settled-fixpoint f old.contractors (replicate (length old.contractors) false) most old.store new.store is.traced.narrowed store is.some (length-replicate (length old.contractors) false) rest (all-false (length old.contractors))
settled-sought projections most old new fired from ends.Empty is full store spent rests never = absurd (never refl)
settled-sought {C} projections most old new fired from (Spent id) is full store spent rests never =
    let still = spent id refl in
    let there : slice_get old.contractors id.0 ≡ Some still.0 = ap (λ (cs : List (Option C)). slice_get cs id.0) (sym is.traced.contractors) ∙ still.1 in
    (is.traced.narrowed, omega (arith, is.measured, full), (still.0, there, subst (λ (s : Shape). IsSomeAnd new.store.box (λ xs. IsFixpoint (of_place projections still.0 s) xs → ⊥)) is.traced.narrowed.shape still.2))

-- what the firing of a contractor of a net says of the measure, and of the box
pub fired-same : {C : Type 0} (projections : C → Shape → List Projection) (mid new : NetState C) (k : ℕ) (x : Revised) → x ≡ Same → IsThere mid.contractors k
    → IfSome (slice_get mid.contractors k) (λ c. Fires (of_place projections c mid.store.shape) mid.store new.store x) → measure_of new.store.box ≡ measure_of mid.store.box
fired-same {C} projections mid new k x e there f =
    let at : (c : Option C) × (slice_get mid.contractors k ≡ Some c) = some-there (slice_get mid.contractors k) there in
    same-measure (of_place projections at.0 mid.store.shape) mid.store new.store x e (if-some (λ (c : Option C). Fires (of_place projections c mid.store.shape) mid.store new.store x) (slice_get mid.contractors k) at.0 at.1 f)

pub fired-narrowed : {C : Type 0} (projections : C → Shape → List Projection) (mid new : NetState C) (k : ℕ) (x : Revised) → x ≡ Narrowed → IsThere mid.contractors k
    → IfSome (slice_get mid.contractors k) (λ c. Fires (of_place projections c mid.store.shape) mid.store new.store x) → measure_of new.store.box < measure_of mid.store.box
fired-narrowed {C} projections mid new k x e there f =
    let at : (c : Option C) × (slice_get mid.contractors k ≡ Some c) = some-there (slice_get mid.contractors k) there in
    less-measure (of_place projections at.0 mid.store.shape) mid.store new.store x e (if-some (λ (c : Option C). Fires (of_place projections c mid.store.shape) mid.store new.store x) (slice_get mid.contractors k) at.0 at.1 f)

pub fired-empty : {C : Type 0} (projections : C → Shape → List Projection) (mid new : NetState C) (k : ℕ) (x : Revised) → x ≡ Empty → IsThere mid.contractors k
    → IfSome (slice_get mid.contractors k) (λ c. Fires (of_place projections c mid.store.shape) mid.store new.store x) → IsNone new.store.box
fired-empty {C} projections mid new k x e there f =
    let at : (c : Option C) × (slice_get mid.contractors k ≡ Some c) = some-there (slice_get mid.contractors k) there in
    let fires = if-some (λ (c : Option C). Fires (of_place projections c mid.store.shape) mid.store new.store x) (slice_get mid.contractors k) at.0 at.1 f in
    (subst (λ (y : Revised). Fires (of_place projections at.0 mid.store.shape) mid.store new.store y) e fires).1.says
