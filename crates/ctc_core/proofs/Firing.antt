-- The laws of a firing, for firings one after another and for one cut.
use Rattle.std.proofs.Common.{◌≡◌, ℕ, ◌<◌, Bool, true, ◌||◌, Option, Some, None, List, [], ◌∷◌, ◌++◌, IfSome, IsSome, IsNone, refl, sym, subst, ◌∙◌, length, set, All}
use Rattle.std.proofs.Common.{pos, arith}
use Rattle.std.proofs.lemmas.Int.{ints, clamps}
use Rattle.tube_spec.specs.Span.{Span, IsProper, IsBounded, point, meet_of}
use Rattle.tube_spec.specs.Narrowing.{Within, Nothing, IsUnder}
use Rattle.tube_spec.proofs.Boxes.{under-formula}
use Rattle.tube_spec.specs.Shape.{Shape}
use Rattle.tube_spec.specs.Box.{IsBox, AreBounded, cell_at}
use Rattle.tube_spec.specs.Projection.{Projection, IsStable, IsMonotone}
use Rattle.tube_store.specs.State.{State, IsStore, touch}
use Rattle.tube_store.specs.Cuts.{Cuts, MatchCut}
use Rattle.tube_store.specs.declared.Cut.{Cut}
use Rattle.tube_store.specs.declared.Cut.TheVariants as cuts
use Rattle.ctc_core.specs.Revising.{IsRevised}
use Rattle.ctc_core.specs.Answers.{Revises, MatchRevised, then_of, revised_of, changed_by}
use Rattle.ctc_core.specs.declared.Revised.{Revised}
use Rattle.ctc_core.specs.declared.Revised.TheVariants.{Same, Narrowed, Empty}
use Rattle.ctc_core.proofs.Composing.{IsRevised-append}
use Rattle.ctc_core.proofs.Narrowing.{IsRevised-narrow, cut_changed, only-projection}

changed-then : (x y : Revised) → (changed_by x || changed_by y) ≡ changed_by (then_of x y)
changed-then Same Same = refl
changed-then Same Narrowed = refl
changed-then Same Empty = refl
changed-then Narrowed Same = refl
changed-then Narrowed Narrowed = refl
changed-then Narrowed Empty = refl
changed-then Empty y = refl

pub IsBox-of : (s : State) → IsStore s → IfSome s.box IsBox
IsBox-of s h = at s.box h.box
  where
    at : (b : Option (List Span)) → IfSome b (λ xs. IsBox xs × (length xs ≡ s.shape.cells)) → IfSome b IsBox
    at None h = tt
    at (Some xs) h = h.0

-- two lists of projections, fired one after the other
pub Revises-then : (Fits : List Span → Type 0) (ps qs : List Projection) (a b c : State) (x y : Revised) → IfSome a.box Fits → All (IsMonotone Fits) qs → Revises ps a b x → Revises qs b c y → Revises (ps ++ qs) a c (then_of x y)
Revises-then Fits ps qs a b c x y fits mono r1 r2 = record {
  before = r1.before;
  after = r2.after;
  revised = subst (λ (z : Bool). IsRevised (ps ++ qs) a c z) (changed-then x y) (IsRevised-append Fits ps qs a b c (changed_by x) (changed_by y) (IsBox-of a r1.before) (IsBox-of b r2.before) fits mono r1.revised r2.revised);
  says = at_says x y r1.says r2.says;
  empty = λ n. r2.empty (subst (λ (s : State). IsNone s.box) (sym (r1.empty n)) n) ∙ r1.empty n;
}
  where
    at_says : (x y : Revised) → MatchRevised x (IsSome b.box) (IsSome b.box) (IsNone b.box) → MatchRevised y (IsSome c.box) (IsSome c.box) (IsNone c.box) → MatchRevised (then_of x y) (IsSome c.box) (IsSome c.box) (IsNone c.box)
    at_says Empty y h k = subst (λ (s : State). IsNone s.box) (sym (r2.empty h)) h
    at_says Same y h k = k
    at_says Narrowed Same h k = k
    at_says Narrowed Narrowed h k = k
    at_says Narrowed Empty h k = k

changed-cut : (cut : Cut) → cut_changed cut ≡ changed_by (revised_of cut)
changed-cut cuts.Same = refl
changed-cut cuts.Narrowed = refl
changed-cut cuts.Empty = refl

-- one cut is the firing of the projection that gives the interval
pub Revises-cut : (Fits : List Span → Type 0) (p : Projection) (old new : State) (to : Span) (cut : Cut)
    → IsStore old → IsStore new → IsSome old.box → IfSome old.box Fits → IsMonotone Fits p → p.target < old.shape.cells → IfSome old.box (λ xs. p.formula xs ≡ Within to)
    → IfSome old.box (λ xs. Cuts (cell_at xs p.target) to cut)
    → IfSome old.box (λ xs. MatchCut cut (new ≡ old) (new ≡ record old { box = Some (set xs p.target (meet_of (cell_at xs p.target) to)); touched = touch old.touched p.target }) (new ≡ record old { box = None }))
    → Revises (p ∷ []) old new (revised_of cut)
Revises-cut Fits p old new to cut before after some fits mono inside gives made e = record {
  before = before;
  after = after;
  revised = subst (λ (z : Bool). IsRevised (p ∷ []) old new z) (changed-cut cut) (IsRevised-narrow Fits p old new to cut some (IsBox-of old before) fits mono (inside_box old.box before.box) gives made e);
  says = at_says old.box cut some e;
  empty = λ n. absurd (cc);
}
  where
    inside_box : (b : Option (List Span)) → IfSome b (λ xs. IsBox xs × (length xs ≡ old.shape.cells)) → IfSome b (λ xs. p.target < length xs)
    inside_box None h = tt
    inside_box (Some xs) h = subst (λ (n : ℕ). p.target < n) (sym h.1) inside

    at_says : (b : Option (List Span)) (cut : Cut) → IsSome b → IfSome b (λ xs. MatchCut cut (new ≡ old) (new ≡ record old { box = Some (set xs p.target (meet_of (cell_at xs p.target) to)); touched = touch old.touched p.target }) (new ≡ record old { box = None })) → MatchRevised (revised_of cut) (IsSome new.box) (IsSome new.box) (IsNone new.box)
    at_says None cut s h = absurd (cc)
    at_says (Some xs) cuts.Same s h = subst (λ (n : State). IsSome n.box) (sym h) some
    at_says (Some xs) cuts.Narrowed s h = subst (λ (n : State). IsSome n.box) (sym h) refl
    at_says (Some xs) cuts.Empty s h = subst (λ (n : State). IsNone n.box) (sym h) refl

-- a firing of an empty store
pub Revises-empty : (ps : List Projection) (s : State) → IsStore s → IsNone s.box → Revises ps s s Empty
Revises-empty ps s store none = record {
  before = store;
  after = store;
  revised = at s.shape s.box s.touched none;
  says = none;
  empty = λ n. refl;
}
  where
    at : (h : Shape) (b : Option (List Span)) (t : List ℕ) → IsNone b → IsRevised ps (record { shape = h; box = b; touched = t }) (record { shape = h; box = b; touched = t }) true
    at h (Some xs) t n = absurd (cc)
    at h None t n = record {
      shape = refl;
      below = tt;
      keeps = λ q f b. b;
      stable = tt;
      touched = tt;
      same = λ e. refl;
      narrower = λ e. tt;
    }

-- where a formula gives nothing, the empty box is what the firing leaves
pub Revises-never : (Fits : List Span → Type 0) (p : Projection) (old new : State)
    → IsStore old → IsStore new → IsSome old.box → IfSome old.box Fits → IsMonotone Fits p → IfSome old.box (λ xs. p.formula xs ≡ Nothing)
    → new ≡ record old { box = None } → Revises (p ∷ []) old new Empty
Revises-never Fits p old new before after some fits mono gives e = record {
  before = before;
  after = after;
  revised = subst (λ (n : State). IsRevised (p ∷ []) old n true) (sym e) (at old.shape old.box old.touched (IsBox-of old before) fits gives);
  says = subst (λ (n : State). IsNone n.box) (sym e) refl;
  empty = λ n. absurd (cc);
}
  where
    at : (s : Shape) (b : Option (List Span)) (t : List ℕ) → IfSome b IsBox → IfSome b Fits → IfSome b (λ xs. p.formula xs ≡ Nothing) → IsRevised (p ∷ []) (record { shape = s; box = b; touched = t }) (record { shape = s; box = None; touched = t }) true
    at s None t box fits gives = record { shape = refl; below = tt; keeps = λ q f b. b; stable = tt; touched = tt; same = λ e. absurd (cc); narrower = λ e. tt }
    at s (Some xs) t box fits gives = record {
      shape = refl;
      below = tt;
      keeps = λ q f low. subst (IsUnder (cell_at q p.target)) gives (under-formula Fits p q xs mono f.box box fits low (only-projection (IsStable q) p f.stable));
      stable = tt;
      touched = tt;
      same = λ e. absurd (cc);
      narrower = λ e. tt;
    }

-- a cell shares no number with a point outside the bound of all cells
nowhere-cut : (cell : Span) (cut : Cut) (p q r : Type 0) → IsProper cell → IsBounded 500000000 cell → Cuts cell (point (pos 500000001)) cut → MatchCut cut p q r → r
nowhere-cut cell cuts.Same p q r good bound made h = absurd (omega (arith, ints, good, bound, made.same))
nowhere-cut cell cuts.Narrowed p q r good bound made h = absurd (omega (arith, ints, clamps, good, bound, made.empty))
nowhere-cut cell cuts.Empty p q r good bound made h = h

pub nowhere-empties : (old new : State) (k : ℕ) (to : Span) (cut : Cut) → to ≡ point (pos 500000001) → IsStore old → IsSome old.box
    → IfSome old.box (λ xs. Cuts (cell_at xs k) to cut)
    → IfSome old.box (λ xs. MatchCut cut (new ≡ old) (new ≡ record old { box = Some (set xs k (meet_of (cell_at xs k) to)); touched = touch old.touched k }) (new ≡ record old { box = None }))
    → new ≡ record old { box = None }
nowhere-empties old new k to cut e store some = at old.box some (IsBox-of old store) store.bounded
  where
    at : (b : Option (List Span)) → IsSome b → IfSome b IsBox → IfSome b AreBounded → IfSome b (λ xs. Cuts (cell_at xs k) to cut)
        → IfSome b (λ xs. MatchCut cut (new ≡ old) (new ≡ record old { box = Some (set xs k (meet_of (cell_at xs k) to)); touched = touch old.touched k }) (new ≡ record old { box = None }))
        → new ≡ record old { box = None }
    at None s box bound made h = absurd (cc)
    at (Some xs) s box bound made h = nowhere-cut (cell_at xs k) cut _ _ (new ≡ record old { box = None }) (box k) (bound k) (subst (λ (t : Span). Cuts (cell_at xs k) t cut) e made) h

-- the same, with the cell told apart from the target
pub Revises-cut-at : (Fits : List Span → Type 0) (p : Projection) (k : ℕ) → p.target ≡ k → (old new : State) (to : Span) (cut : Cut)
    → IsStore old → IsStore new → IsSome old.box → IfSome old.box Fits → IsMonotone Fits p → k < old.shape.cells → IfSome old.box (λ xs. p.formula xs ≡ Within to)
    → IfSome old.box (λ xs. Cuts (cell_at xs k) to cut)
    → IfSome old.box (λ xs. MatchCut cut (new ≡ old) (new ≡ record old { box = Some (set xs k (meet_of (cell_at xs k) to)); touched = touch old.touched k }) (new ≡ record old { box = None }))
    → Revises (p ∷ []) old new (revised_of cut)
Revises-cut-at Fits p k e old new to cut before after some fits mono inside gives made h =
    Revises-cut Fits p old new to cut before after some fits mono (subst (λ (j : ℕ). j < old.shape.cells) (sym e) inside) gives
    (subst (λ (j : ℕ). IfSome old.box (λ xs. Cuts (cell_at xs j) to cut)) (sym e) made)
    (subst (λ (j : ℕ). IfSome old.box (λ xs. MatchCut cut (new ≡ old) (new ≡ record old { box = Some (set xs j (meet_of (cell_at xs j) to)); touched = touch old.touched j }) (new ≡ record old { box = None }))) (sym e) h)

pub IfSome-self : {X : Type 0} (b : Option X) → IfSome b (λ x. b ≡ Some x)
IfSome-self None = tt
IfSome-self (Some x) = refl
