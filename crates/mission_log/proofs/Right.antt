-- What is right of the records of points.
use Rattle.std.proofs.Common.{◌≡◌, ◌≢◌, ℕ, ◌+◌, ◌-◌, ◌<◌, ◌≤◌, Bool, true, false, List, [], ◌∷◌, ◌++◌, Option, Some, None, length, take, drop, refl, sym, subst, arith, nat_le, suc, ap, ◌∙◌, ◌&&◌, get_or, Ok}
use Rattle.std.specs.Prelude.{All, IfSome, ℤ, not, ◌==◌}
use Rattle.std.specs.List.{list_any}
use Rattle.std.proofs.Math.Seq.{drop-cons}
use Rattle.log_fields.specs.Steps.{unless}
use Rattle.log_fields.specs.declared.fault.Cause.{Cause}
use Rattle.std.proofs.lemmas.Bool.Decides.{nat_tests}
use Rattle.tube_store.specs.declared.SignalId.{SignalId}
use Rattle.tube_store.specs.declared.VarId.{VarId}
use Rattle.log_fields.specs.Fields as fields
use Rattle.mission_items.specs.Made.{beacons_in, signals_in}
use Rattle.mission_items.specs.Names.{IsNamed, are_distinct}
use Rattle.mission_items.specs.Valid.{IsMark, IsRight}
use Rattle.mission_items.specs.declared.item.Item.{Item}
use Rattle.mission_items.specs.declared.item.Item.TheVariants as item
use Rattle.mission_log.specs.Room.{has_mark}

pub four : (vs : List VarId) → length vs ≡ 4 → (take 2 vs ++ drop 2 vs ≡ vs) × (length (take 2 vs) ≡ 2) × (length (drop 2 vs) ≡ 2)
four [] h = absurd (omega (arith, h))
four (a ∷ []) h = absurd (omega (arith, h))
four (a ∷ b ∷ []) h = absurd (omega (arith, h))
four (a ∷ b ∷ c ∷ []) h = absurd (omega (arith, h))
four (a ∷ b ∷ c ∷ d ∷ []) h = (refl, refl, refl)
four (a ∷ b ∷ c ∷ d ∷ e ∷ vs) h = absurd (omega (arith, h))

pub six : (vs : List VarId) → length vs ≡ 6 → (take 3 vs ++ drop 3 vs ≡ vs) × (length (take 3 vs) ≡ 3) × (length (drop 3 vs) ≡ 3)
six [] h = absurd (omega (arith, h))
six (a ∷ []) h = absurd (omega (arith, h))
six (a ∷ b ∷ []) h = absurd (omega (arith, h))
six (a ∷ b ∷ c ∷ []) h = absurd (omega (arith, h))
six (a ∷ b ∷ c ∷ d ∷ []) h = absurd (omega (arith, h))
six (a ∷ b ∷ c ∷ d ∷ e ∷ []) h = absurd (omega (arith, h))
six (a ∷ b ∷ c ∷ d ∷ e ∷ f ∷ []) h = (refl, refl, refl)
six (a ∷ b ∷ c ∷ d ∷ e ∷ f ∷ g ∷ vs) h = absurd (omega (arith, h))

two : (vs : List VarId) → length vs ≡ 2 → take 2 vs ≡ vs
two [] h = absurd (omega (arith, h))
two (a ∷ []) h = absurd (omega (arith, h))
two (a ∷ b ∷ []) h = refl
two (a ∷ b ∷ c ∷ vs) h = absurd (omega (arith, h))

pub range-right : (version end : ℕ) (before : List Item) (near far : ℤ) (vs : List VarId) → fields.AreRadii near far → All (IsNamed before) vs → are_distinct vs ≡ true → length vs ≡ 4
    → IsRight version end before (item.Dist2 near far (take 2 vs) (drop 2 vs))
range-right version end before near far vs radii named distinct size =
    let f = four vs size in (
      (radii.from_zero, radii.in_order, radii.bounded),
      subst (λ (l : List VarId). All (IsNamed before) l × (are_distinct l ≡ true)) (sym f.0) (named, distinct),
      f.1,
      f.2,
    )

pub range3-right : (version end : ℕ) (before : List Item) (near far : ℤ) (vs : List VarId) → fields.AreRadii near far → All (IsNamed before) vs → are_distinct vs ≡ true → length vs ≡ 6
    → IsRight version end before (item.Dist3 near far (take 3 vs) (drop 3 vs))
range3-right version end before near far vs radii named distinct size =
    let f = six vs size in (
      (radii.from_zero, radii.in_order, radii.bounded),
      subst (λ (l : List VarId). All (IsNamed before) l × (are_distinct l ≡ true)) (sym f.0) (named, distinct),
      f.1,
      f.2,
    )

pub constell-right : (version end : ℕ) (before : List Item) (vs : List VarId) → All (IsNamed before) vs → are_distinct vs ≡ true → length vs ≡ 2 → 1 ≤ beacons_in before
    → IsRight version end before (item.Constell (take 2 vs))
constell-right version end before vs named distinct size some =
    subst (λ (l : List VarId). IsRight version end before (item.Constell l)) (sym (two vs size)) ((named, distinct), some, size)

mark-right : (before : List Item) (beacon : Option ℕ) → IfSome beacon (λ place. place < beacons_in before) → has_mark before beacon ≡ true → IsMark before beacon
mark-right before (Some place) known marked = known
mark-right before None known marked = at_least (beacons_in before) marked
  where
    at_least : (n : ℕ) → nat_le 1 n ≡ true → 1 ≤ n
    at_least n h = grind (arith, nat_tests)

pub ping-right : (version end : ℕ) (before : List Item) (x y : SignalId) (first last : ℕ) (beacon : Option ℕ) (near far : ℤ) → x.0 < signals_in before → y.0 < signals_in before → x.0 ≢ y.0
    → first ≤ last → last ≤ end → last - first ≤ 2000 → IfSome beacon (λ place. place < beacons_in before) → has_mark before beacon ≡ true → fields.AreRadii near far
    → IsRight version end before (item.Ping x y first last beacon near far)
ping-right version end before x y first last beacon near far hx hy other order within short known marked radii = (
  (hx, hy, other),
  (order, within),
  omega (arith, short, order),
  mark-right before beacon known marked,
  (radii.from_zero, radii.in_order, radii.bounded),
)

-- a variable that stands among those after it, or none does
pub distinct_step : (vs : List VarId) (i : ℕ) (v : VarId) → i < length vs → v ≡ get_or vs i v
    → are_distinct (drop i vs) ≡ (not (list_any (λ (w : VarId). w.0 == v.0) (drop (i + 1) vs)) && are_distinct (drop (i + 1) vs))
distinct_step vs i v h e =
    let next : suc i ≡ i + 1 = omega arith in
    ap are_distinct (drop-cons vs i v h)
    ∙ (ap (λ (k : ℕ). not (list_any (λ (w : VarId). w.0 == (get_or vs i v).0) (drop k vs)) && are_distinct (drop k vs)) next
    ∙ ap (λ (u : VarId). not (list_any (λ (w : VarId). w.0 == u.0) (drop (i + 1) vs)) && are_distinct (drop (i + 1) vs)) (sym e))

pub distinct_goes : (vs : List VarId) (i : ℕ) (v : VarId) (b : Bool) (all : Bool) → i < length vs → v ≡ get_or vs i v → b ≡ list_any (λ (w : VarId). w.0 == v.0) (drop (i + 1) vs) → b ≡ false
    → are_distinct (drop i vs) ≡ all → are_distinct (drop (i + 1) vs) ≡ all
distinct_goes vs i v b all h e is off so_far =
    ap (λ (t : Bool). not t && are_distinct (drop (i + 1) vs)) (sym (sym is ∙ off)) ∙ (sym (distinct_step vs i v h e) ∙ so_far)

pub distinct_stops : (vs : List VarId) (i : ℕ) (v : VarId) (b : Bool) (all : Bool) → i < length vs → v ≡ get_or vs i v → b ≡ list_any (λ (w : VarId). w.0 == v.0) (drop (i + 1) vs) → b ≡ true
    → are_distinct (drop i vs) ≡ all → false ≡ all
distinct_stops vs i v b all h e is on so_far =
    ap (λ (t : Bool). not t && are_distinct (drop (i + 1) vs)) (sym (sym is ∙ on)) ∙ (sym (distinct_step vs i v h e) ∙ so_far)

pub unless_passed : (b : Bool) (c : Cause) (x : Unit {0}) → unless b c ≡ Ok x → b ≡ true
unless_passed true c x e = refl
unless_passed false c x e = cc e

pub at_least_one : (n : ℕ) → nat_le 1 n ≡ true → 1 ≤ n
at_least_one n h = grind (arith, nat_tests)

pub at_most : (m n : ℕ) → nat_le m n ≡ true → m ≤ n
at_most m n h = grind (arith, nat_tests)

pub not_same : (m n : ℕ) → not (m == n) ≡ true → m ≢ n
not_same m n h = grind (arith, nat_tests)
