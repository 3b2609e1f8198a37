-- Projections that give, whatever the box, what others give of the old one: their firing is a firing of those.
use Rattle.std.proofs.Common.{◌≡◌, ℕ, ◌<◌, Option, Some, None, IfSome, List, arith, sym, subst, length, slice_index_or, All}
use Rattle.tube_spec.specs.Span.{Span}
use Rattle.tube_spec.specs.Narrowing.{Narrowing, IsUnder}
use Rattle.tube_spec.specs.Box.{IsBox, cell_at}
use Rattle.tube_spec.specs.Fixpoint.{KeepsFixpoints}
use Rattle.tube_spec.specs.Projection.{Projection, IsMonotone}
use Rattle.tube_spec.proofs.Boxes.{under-formula}
use Rattle.tube_store.specs.State.{State}
use Rattle.ctc_core.specs.Revising.{IfBoth}
use Rattle.ctc_core.specs.Answers.{Revises}
use Rattle.ctc_core.specs.declared.Revised.{Revised}
use Rattle.ctc_core.proofs.Firing.{IsBox-of}

-- the two lists have the same targets, and each of the second gives what that of the first gives of a box
pub record Fixes (xs : List Span) (ps qs : List Projection) : Type 0 where
  pub len : length ps ≡ length qs
  pub target : (k : ℕ) (d : Projection) → k < length ps → (slice_index_or ps k d).target ≡ (slice_index_or qs k d).target
  pub formula : (k : ℕ) (d : Projection) (ys : List Span) → k < length ps → (slice_index_or qs k d).formula ys ≡ (slice_index_or ps k d).formula xs

under-by : (ys : List Span) (i j : ℕ) (g h : Narrowing) → i ≡ j → g ≡ h → IsUnder (cell_at ys i) g → IsUnder (cell_at ys j) h
under-by ys i j g h e d u = subst (λ (n : Narrowing). IsUnder (cell_at ys j) n) d (subst (λ (k : ℕ). IsUnder (cell_at ys k) g) e u)

fixes-stable : (ps qs : List Projection) (a b : Option (List Span)) → IfSome a (λ xs. Fixes xs ps qs) → IfBoth a b (λ xs ys. All (λ (p : Projection). IsUnder (cell_at ys p.target) (p.formula xs)) qs)
    → IfBoth a b (λ xs ys. All (λ (p : Projection). IsUnder (cell_at ys p.target) (p.formula xs)) ps)
fixes-stable ps qs None b f h = tt
fixes-stable ps qs (Some xs) None f h = tt
fixes-stable ps qs (Some xs) (Some ys) f h =
    λ k d l. under-by ys _ _ _ _ (sym (f.target k d l)) (f.formula k d xs l) (h k d (omega (arith, l, f.len)))

fixes-keeps : (Fits : List Span → Type 0) (ps qs : List Projection) (a b : Option (List Span)) → IfSome a IsBox → IfSome a Fits → All (IsMonotone Fits) ps → IfSome a (λ xs. Fixes xs ps qs) → KeepsFixpoints qs a b → KeepsFixpoints ps a b
fixes-keeps Fits ps qs None b box fits mono f keeps q fix low = absurd low
fixes-keeps Fits ps qs (Some xs) b box fits mono f keeps q fix low =
    keeps q (record {
      box = fix.box;
      stable = λ k d l.
          let inside : k < length ps = omega (arith, l, f.len) in
          under-by q _ _ _ _ (f.target k d inside) (sym (f.formula k d q inside))
          (under-formula Fits (slice_index_or ps k d) q xs (mono k d inside) fix.box box fits low (fix.stable k d inside));
    }) low

-- Where each of the second gives whatever the box what that of the first, which gives no more in a lesser box, gives of the old one, a firing of the
-- second is one of the first. So what many formulas give may be computed at once, before one target is narrowed.
pub fixes-fires : (Fits : List Span → Type 0) (ps qs : List Projection) (old new : State) (answer : Revised) → IfSome old.box Fits → All (IsMonotone Fits) ps → IfSome old.box (λ xs. Fixes xs ps qs) → Revises qs old new answer → Revises ps old new answer
fixes-fires Fits ps qs old new answer fits mono f r = record {
  before = r.before;
  after = r.after;
  revised = record {
    shape = r.revised.shape;
    below = r.revised.below;
    keeps = fixes-keeps Fits ps qs old.box new.box (IsBox-of old r.before) fits mono f r.revised.keeps;
    stable = fixes-stable ps qs old.box new.box f r.revised.stable;
    touched = r.revised.touched;
    same = r.revised.same;
    narrower = r.revised.narrower;
  };
  says = r.says;
  empty = r.empty;
}

pub if-each : (box : Option (List Span)) (P : List Span → Type 0) → ((xs : List Span) → P xs) → IfSome box P
if-each None P h = tt
if-each (Some xs) P h = h xs
