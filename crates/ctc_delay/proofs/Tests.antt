-- Tests of places one after another, and of held places for what the formulas give.
use Rattle.std.proofs.Common.{◌≡◌, ℕ, ◌+◌, ◌<◌, ◌≤◌, ◌∙◌, ◌↔◌, Bool, true, false, Option, Some, None, List, IfSome, IsTrue, arith, refl, sym, subst, length, map, slice_index_or, All}
use Rattle.std.specs.List.{range_with_len}
use Rattle.std.proofs.lemmas.List.FromFn.{length-map-range_with_len, get_or-map-range_with_len}
use Rattle.tube_spec.specs.Span.{Span}
use Rattle.tube_spec.specs.Narrowing.{Narrowing, IsUnder}
use Rattle.tube_spec.specs.Box.{cell_at}
use Rattle.tube_spec.specs.Projection.{Projection, IsStable}
use Rattle.ctc_core.specs.Checking.{Checks}
use Rattle.ctc_core.proofs.Checked.{Checks-both}
use Rattle.ctc_core.proofs.Fixing.{Fixes}
use Rattle.ctc_delay.proofs.OverWindows.{map-range-more}

under-by : (ys : List Span) (i j : ℕ) (g h : Narrowing) → i ≡ j → g ≡ h → IsUnder (cell_at ys i) g → IsUnder (cell_at ys j) h
under-by ys i j g h e d u = subst (λ (n : Narrowing). IsUnder (cell_at ys j) n) d (subst (λ (k : ℕ). IsUnder (cell_at ys k) g) e u)

-- a test of projections that give, whatever the box, what others give of this one, is a test of those
pub fixes-checks : (ps qs : List Projection) (b : Option (List Span)) (held : Bool) → IfSome b (λ xs. Fixes xs ps qs) → Checks qs b held → Checks ps b held
fixes-checks ps qs None held f h = tt
fixes-checks ps qs (Some xs) held f h = (
  λ t k d l. under-by xs _ _ _ _ (sym (f.target k d l)) (f.formula k d xs l) (h.0 t k d (omega (arith, l, f.len))),
  λ a. h.1 (λ k d l.
      let inside : k < length ps = omega (arith, l, f.len) in
      under-by xs _ _ _ _ (f.target k d inside) (sym (f.formula k d xs inside)) (a k d inside)),
)

-- no place is tested yet
pub none-checked : (p : ℕ → Projection) (b : Option (List Span)) → Checks (map p (range_with_len 0 0)) b true
none-checked p None = tt
none-checked p (Some xs) = (λ t k d l. absurd (omega (arith, l)), λ a. refl)

-- the places before hold, and so do those tested next
pub more-checked : (p : ℕ → Projection) (b : Option (List Span)) (done here : ℕ) (held : Bool) → held ≡ true → Checks (map p (range_with_len 0 done)) b true → Checks (map p (range_with_len done here)) b held
    → Checks (map p (range_with_len 0 (done + here))) b true
more-checked p b done here held e before now =
    subst (λ (ps : List Projection). Checks ps b true) (sym (map-range-more p done here))
    (Checks-both (map p (range_with_len 0 done)) (map p (range_with_len done here)) b true held true (sym e) before now)

-- one that does not hold among some places is one among all of them
pub one-fails : (p : ℕ → Projection) (b : Option (List Span)) (done here count : ℕ) (held : Bool) → held ≡ false → done + here ≤ count → Checks (map p (range_with_len done here)) b held
    → Checks (map p (range_with_len 0 count)) b false
one-fails p None done here count held e among now = tt
one-fails p (Some xs) done here count held e among now = (λ t. absurd (cc), λ a. subst IsTrue e (now.1 (part a)))
  where
    part : All (IsStable xs) (map p (range_with_len 0 count)) → All (IsStable xs) (map p (range_with_len done here))
    part a k d l =
        let size = length-map-range_with_len p done here in
        let whole = length-map-range_with_len p 0 count in
        let inside : k < here = omega (arith, l, size) in
        subst (IsStable xs)
        (get_or-map-range_with_len p 0 count (done + k) (done + k) d (omega (arith, inside, among)) (omega arith) ∙ sym (get_or-map-range_with_len p done here k (done + k) d inside refl))
        (a (done + k) d (omega (arith, inside, among, whole)))
