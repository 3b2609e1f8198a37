-- Whether a firing would change the box, of projections one after another.
use Rattle.std.proofs.Common.{◌≡◌, ℕ, ◌+◌, ◌-◌, ◌<◌, ◌≤◌, Bool, true, false, IsTrue, IsFalse, Option, Some, None, IfSome, IsSomeAnd, List, [], length, map, ◌++◌, arith, refl, sym, ap, subst, ◌∙◌}
use Rattle.std.specs.List.{range_with_len}
use Rattle.std.proofs.lemmas.List.Elements.{All-append, All-nil}
use Rattle.tube_spec.specs.Span.{Span}
use Rattle.tube_spec.specs.Narrowing.{Narrowing, IsUnder}
use Rattle.tube_spec.specs.Box.{IsBox, cell_at}
use Rattle.tube_spec.specs.Fixpoint.{IsFixpoint}
use Rattle.tube_spec.specs.Projection.{Projection, IsStable}
use Rattle.ctc_core.proofs.Composing.{fixpoint-left, fixpoint-right}
use Rattle.ctc_core.proofs.Fixing.{Fixes}
use Rattle.ctc_eval.specs.Blocks.{IsMoved}
use Rattle.ctc_eval.specs.Evals.{eval_projections, reached_projection}
use Rattle.slice_gates.specs.Near.{near_of, gates_of}
use Rattle.tube_spec.specs.Shape.{Shape}
use Rattle.ctc_eval.proofs.Blocks.{map-range-append, alone-then}

-- a firing that would change it by some of the projections
pub moved-left : (ps qs : List Projection) (box : Option (List Span)) → IsMoved ps box true → IsMoved (ps ++ qs) box true
moved-left ps qs None m = absurd (m.yes refl)
moved-left ps qs (Some xs) m = record { yes = λ t fix. m.yes t (fixpoint-left ps qs xs fix); no = λ f. absurd (cc) }

pub moved-right : (ps qs : List Projection) (box : Option (List Span)) → IsMoved qs box true → IsMoved (ps ++ qs) box true
moved-right ps qs None m = absurd (m.yes refl)
moved-right ps qs (Some xs) m = record { yes = λ t fix. m.yes t (fixpoint-right ps qs xs fix); no = λ f. absurd (cc) }

-- one that would change it by none
pub moved-none : (ps qs : List Projection) (box : Option (List Span)) → IsMoved ps box false → IsMoved qs box false → IsMoved (ps ++ qs) box false
moved-none ps qs None m n = record { yes = λ t. absurd (cc); no = λ f. tt }
moved-none ps qs (Some xs) m n =
    let a = m.no refl in
    record { yes = λ t. absurd (cc); no = λ f. record { box = a.box; stable = All-append (IsStable xs) ps qs a.stable (n.no refl).stable } }

pub moved-by : (ps qs : List Projection) (box : Option (List Span)) (answer : Bool) → IsMoved ps box false → IsMoved qs box answer → IsMoved (ps ++ qs) box answer
moved-by ps qs box true m n = moved-right ps qs box n
moved-by ps qs box false m n = moved-none ps qs box m n

-- without a rate, and with one more projections
pub moved-rated : (s : Shape) (x : ℕ) (rate : Option ℕ) (t z : ℕ) (declared : Span) (box : Option (List Span)) → IsMoved (eval_projections s x None t z declared) box true → IsMoved (eval_projections s x rate t z declared) box true
moved-rated s x None t z declared box m = m
moved-rated s x (Some v) t z declared box m =
    subst (λ (l : List Projection). IsMoved l box true) (alone-then s x v t z declared)
    (moved-left (eval_projections s x None t z declared) (map (reached_projection s x v t z declared) (gates_of (near_of s.grid declared))) box m)

pub moved-nothing : (box : Option (List Span)) → IfSome box IsBox → IsMoved [] box false
moved-nothing None is = record { yes = λ t. absurd (cc); no = λ f. tt }
moved-nothing (Some xs) is = record { yes = λ t. absurd (cc); no = λ f. record { box = is; stable = All-nil (IsStable xs) } }

pub moved-empty : (ps : List Projection) (box : Option (List Span)) → box ≡ None → IsMoved ps box false
moved-empty ps None e = record { yes = λ t. absurd (cc); no = λ f. tt }
moved-empty ps (Some xs) e = absurd (cc)

-- the same by what stands for the formulas in this box
under-by : (xs : List Span) (i j : ℕ) (g h : Narrowing) → i ≡ j → g ≡ h → IsUnder (cell_at xs i) g → IsUnder (cell_at xs j) h
under-by xs i j g h e d u = subst (λ (n : Narrowing). IsUnder (cell_at xs j) n) d (subst (λ (k : ℕ). IsUnder (cell_at xs k) g) e u)

fixes-there : (xs : List Span) (ps qs : List Projection) → Fixes xs ps qs → IsFixpoint ps xs → IsFixpoint qs xs
fixes-there xs ps qs f fix = record { box = fix.box; stable = λ k d l. let inside : k < length ps = omega (arith, l, f.len) in under-by xs _ _ _ _ (f.target k d inside) (sym (f.formula k d xs inside)) (fix.stable k d inside) }

fixes-back : (xs : List Span) (ps qs : List Projection) → Fixes xs ps qs → IsFixpoint qs xs → IsFixpoint ps xs
fixes-back xs ps qs f fix = record { box = fix.box; stable = λ k d l. under-by xs _ _ _ _ (sym (f.target k d l)) (f.formula k d xs l) (fix.stable k d (omega (arith, l, f.len))) }

pub moved-fixes : (ps qs : List Projection) (box : Option (List Span)) (answer : Bool) → IfSome box (λ xs. Fixes xs ps qs) → (IsTrue answer → IsSomeAnd box (λ xs. IsFixpoint qs xs → ⊥)) → (IsFalse answer → IfSome box (IsFixpoint qs)) → IsMoved ps box answer
moved-fixes ps qs None answer f moves rests = record { yes = moves; no = λ b. tt }
moved-fixes ps qs (Some xs) answer f moves rests = record { yes = λ t fix. moves t (fixes-there xs ps qs f fix); no = λ b. fixes-back xs ps qs f (rests b) }

-- ---- some of many, by number

module _ (p : ℕ → Projection) (box : Option (List Span)) (from done here count : ℕ) (inside : done + here ≤ count) where
  split : map p (range_with_len from count) ≡ map p (range_with_len from done) ++ (map p (range_with_len (from + done) here) ++ map p (range_with_len (from + done + here) (count - (done + here))))
  split =
      let e : count ≡ done + (here + (count - (done + here))) = omega (arith, inside) in
      ap (λ (n : ℕ). map p (range_with_len from n)) e ∙ map-range-append p from done (here + (count - (done + here)))
      ∙ ap (λ (l : List Projection). map p (range_with_len from done) ++ l) (map-range-append p (from + done) here (count - (done + here)))

  pub moved-among : IsMoved (map p (range_with_len (from + done) here)) box true → IsMoved (map p (range_with_len from count)) box true
  moved-among m =
      subst (λ (l : List Projection). IsMoved l box true) (sym split)
      (moved-right (map p (range_with_len from done)) (map p (range_with_len (from + done) here) ++ map p (range_with_len (from + done + here) (count - (done + here)))) box
      (moved-left (map p (range_with_len (from + done) here)) (map p (range_with_len (from + done + here) (count - (done + here)))) box m))

pub moved-more : (p : ℕ → Projection) (box : Option (List Span)) (from done here : ℕ) → IsMoved (map p (range_with_len from done)) box false → IsMoved (map p (range_with_len (from + done) here)) box false → IsMoved (map p (range_with_len from (done + here))) box false
moved-more p box from done here m n =
    subst (λ (l : List Projection). IsMoved l box false) (sym (map-range-append p from done here)) (moved-none (map p (range_with_len from done)) (map p (range_with_len (from + done) here)) box m n)
