-- Sure pairs of runs and of sets.
use Rattle.std.proofs.Common.{ℤ, pos, neg_ℤ, ◌-ℤ◌, ◌≤ℤ◌, SFits, w64, to_z, of_z, ◌≡◌, ℕ, ◌+◌, ◌<◌, ◌≤◌, ◌⊎◌, inl, inr, Bool, true, false, List, map, get_or, IfSome, length, Option, Some, None, arith, refl, sym, ap, subst, ◌∙◌}
use Rattle.std.proofs.lemmas.Int.{ints, clamps, to_z-of_z}
use Rattle.std.proofs.lemmas.Bool.Decides.{nat_tests}
use Rattle.std.proofs.lemmas.List.{get_or_default, get_or-map}
use Rattle.std.specs.Int.{int_max}
use Rattle.tube_spec.specs.Box.{cell_at}
use Rattle.loop_sets.specs.Tables.{number_at, IsTop, reach_of}
use Rattle.hull_tree.proofs.Gaps.{small_fits}
use Rattle.std.specs.Bool.{OnFalse}
use Rattle.std.specs.Option.{MatchOption, is_some}
use Rattle.tube_spec.specs.Span.{Span, natural, point}
use Rattle.tube_names.specs.declared.queries.Query.{Query}
use Rattle.hull_tree.specs.Plane.{Plane, is_valid, is_sure, greatest_abs, change}
use Rattle.tube_names.specs.Nearness.{is_near}
use Rattle.hull_tree.proofs.Judgements.{near-mono, natural-mono, right-false}
use Rattle.tplane_paver.specs.declared.runs.Run.{Run}
use Rattle.tplane_paver.specs.Runs.{InRun, InRuns, run_at, AreInOrder}
use Rattle.loop_degree.specs.Pairs.{IsBefore}
use Rattle.loop_sets.proofs.Lists.{split}
use Rattle.loop_sets.specs.Sets.{plane_over, AreValid, HaveNoSure, IsFirstSure, IsNoneSure, IsLeastSure}

-- each run of a set with valid pairs has valid pairs
pub valid-run : (p : Plane) (set : List Run) (i : ℕ) → i < length set → ((a b : ℕ) → InRuns set a b → is_valid p a b ≡ true) → AreValid p (run_at set i).a (run_at set i).first (run_at set i).last
valid-run p set i l valid b low high = valid (run_at set i).a b (i, l, record { row = refl; first = low; last = high })

pub none-sure : (p : Plane) (set : List Run) (n : ℕ) → length set ≤ n → ((i : ℕ) → i < n → HaveNoSure p (run_at set i).a (run_at set i).first (run_at set i).last) → IsNoneSure p set
none-sure p set n all none a b h =
    let k = none h.0 (omega (arith, all, h.1)) b h.2.first h.2.last in
    subst (λ (c : ℕ). is_sure p c b ≡ false) h.2.row k

order-cases : (i j : ℕ) → (i < j) ⊎ ((j < i) ⊎ (i ≡ j))
order-cases i j = grind arith

pub least-sure : (p : Plane) (set : List Run) (i b : ℕ) → AreInOrder set → i < length set → ((j : ℕ) → j < i → HaveNoSure p (run_at set j).a (run_at set j).first (run_at set j).last)
    → IsFirstSure p (run_at set i).a (run_at set i).first (run_at set i).last b → IsLeastSure p set (run_at set i).a b
least-sure p set i b order l none h = record {
  in_set = (i, l, record { row = refl; first = h.low; last = h.high });
  sure = h.sure;
  least = λ c d k before. at c d k.0 k.1 k.2 before (order-cases i k.0);
}
  where
    at : (c d j : ℕ) → j < length set → InRun (run_at set j) c d → IsBefore (c, d) ((run_at set i).a, b) → (i < j) ⊎ ((j < i) ⊎ (i ≡ j)) → is_sure p c d ≡ false
    at c d j m k before (inl u) =
        let o = order.order i j u m in
        let same : c ≡ (run_at set i).a = omega (arith, before.0, o.rows, k.row) in
        absurd (omega (arith, before.1 same, o.apart (omega (arith, same, k.row)), k.first, h.high))
    at c d j m k before (inr (inl u)) = subst (λ (e : ℕ). is_sure p e d ≡ false) k.row (none j u d k.first k.last)
    at c d j m k before (inr (inr e)) =
        let same : (run_at set i).a ≡ c = ap (λ (n : ℕ). (run_at set n).a) e ∙ k.row in
        let q : InRun (run_at set i) c d = subst (λ (n : ℕ). InRun (run_at set n) c d) (sym e) k in
        subst (λ (n : ℕ). is_sure p n d ≡ false) same (h.none d q.first (before.1 (sym same)))

-- the ticks of a run of valid pairs are ticks
pub valid-ends : (p : Plane) (set : List Run) (i : ℕ) → AreInOrder set → i < length set → ((a b : ℕ) → InRuns set a b → is_valid p a b ≡ true) → ((run_at set i).a < length p.xs) × ((run_at set i).last < length p.xs)
valid-ends p set i order l valid =
    let v : is_valid p (run_at set i).a (run_at set i).last ≡ true = valid (run_at set i).a (run_at set i).last (i, l, record { row = refl; first = order.some i l; last = omega arith }) in
    (grind (arith, nat_tests), grind (arith, nat_tests))

-- what is known of a range is below each of its ticks
pub reach-law : (ticks : List Span) (lower upper : List ℤ) (at : Span) (a first last : ℕ) (lo up : Option ℤ) (r : ℕ) → lower ≡ map (λ s. s.lo) ticks → upper ≡ map (λ s. neg_ℤ s.hi) ticks → a < length ticks → last < length ticks
    → at ≡ get_or ticks a at → IfSome lo (IsTop lower first last) → IfSome up (IsTop upper first last) → r ≡ reach_of at lo up → (b : ℕ) → first ≤ b → b ≤ last → r ≤ greatest_abs (change ticks a b)
reach-law ticks lower upper at a first last None up r el eu la ll ea hl hu e b low high = omega (arith, e)
reach-law ticks lower upper at a first last (Some l) None r el eu la ll ea hl hu e b low high = omega (arith, e)
reach-law ticks lower upper at a first last (Some l) (Some u) r el eu la ll ea hl hu e b low high =
    let same : at ≡ cell_at ticks a = ea ∙ get_or_default ticks a at (point (pos 0)) la in
    let inside : b < length ticks = omega (arith, high, ll) in
    let x : number_at lower b ≡ (cell_at ticks b).lo = ap (λ (zs : List ℤ). number_at zs b) el ∙ get_or-map (λ (s : Span). s.lo) ticks b (point (pos 0)) (pos 0) inside in
    let y : number_at upper b ≡ neg_ℤ (cell_at ticks b).hi = ap (λ (zs : List ℤ). number_at zs b) eu ∙ get_or-map (λ (s : Span). neg_ℤ s.hi) ticks b (point (pos 0)) (pos 0) inside in
    let p = hl.over b low high in
    let q = hu.over b low high in
    let s = ap (λ (t : Span). t.lo) same in
    let t = ap (λ (t : Span). t.hi) same in
    let m = natural-mono (int_max (neg_ℤ u -ℤ at.lo) (at.hi -ℤ l)) (int_max ((cell_at ticks b).hi -ℤ (cell_at ticks a).lo) (neg_ℤ ((cell_at ticks b).lo -ℤ (cell_at ticks a).hi))) (omega (arith, ints, clamps, x, y, p, q, s, t)) in
    omega (arith, e, m)

-- two halves of a range
pub none-both : (p : Plane) (a first middle last : ℕ) → HaveNoSure p a first middle → HaveNoSure p a (middle + 1) last → HaveNoSure p a first last
none-both p a first middle last h k b low high = elim (split b (middle + 1)) [ inl l ↦ h b low (omega (arith, l)) | inr l ↦ k b l high ]

pub sure-lower : (p : Plane) (a first middle last b : ℕ) → middle ≤ last → IsFirstSure p a first middle b → IsFirstSure p a first last b
sure-lower p a first middle last b l h = record { low = h.low; high = omega (arith, h.high, l); sure = h.sure; none = h.none }

pub sure-upper : (p : Plane) (a first middle last b : ℕ) → first ≤ middle + 1 → HaveNoSure p a first middle → IsFirstSure p a (middle + 1) last b → IsFirstSure p a first last b
sure-upper p a first middle last b l none h = record {
  low = omega (arith, l, h.low);
  high = h.high;
  sure = h.sure;
  none = λ d low before. elim (split d (middle + 1)) [ inl m ↦ none d low (omega (arith, m)) | inr m ↦ h.none d m before ];
}

pub halves : (p : Plane) (a first middle last : ℕ) (o : Option ℕ) → first ≤ middle + 1 → HaveNoSure p a first middle → MatchOption o (HaveNoSure p a (middle + 1) last) (IsFirstSure p a (middle + 1) last) → MatchOption o (HaveNoSure p a first last) (IsFirstSure p a first last)
halves p a first middle last None l none h = none-both p a first middle last none h
halves p a first middle last (Some b) l none h = sure-upper p a first middle last b l none h

pub lower-half : (p : Plane) (a first middle last : ℕ) (o : Option ℕ) → middle ≤ last → is_some o ≡ true → MatchOption o (HaveNoSure p a first middle) (IsFirstSure p a first middle) → MatchOption o (HaveNoSure p a first last) (IsFirstSure p a first last)
lower-half p a first middle last None l some h = absurd (cc)
lower-half p a first middle last (Some b) l some h = sure-lower p a first middle last b l h

pub no-lower : (p : Plane) (a first middle : ℕ) (o : Option ℕ) → is_some o ≡ false → MatchOption o (HaveNoSure p a first middle) (IsFirstSure p a first middle) → HaveNoSure p a first middle
no-lower p a first middle None e h = h
no-lower p a first middle (Some b) e h = absurd (cc)

-- where even the least distances are not near, no pair is sure
pub none-near : (xs ys : List Span) (q : Query) (a first last dx dy : ℕ) (near : Bool) → near ≡ is_near q.norm (natural q.radius) dx dy → ((b : ℕ) → first ≤ b → b ≤ last → dx ≤ greatest_abs (change xs a b)) → ((b : ℕ) → first ≤ b → b ≤ last → dy ≤ greatest_abs (change ys a b))
    → OnFalse near (HaveNoSure (plane_over xs ys q) a first last)
none-near xs ys q a first last dx dy true e fx fy = tt
none-near xs ys q a first last dx dy false e fx fy = λ b low high. right-false _ _ (far b (is_near q.norm (natural q.radius) (greatest_abs (change xs a b)) (greatest_abs (change ys a b))) refl (fx b low high) (fy b low high))
  where
    far : (b : ℕ) (z : Bool) → is_near q.norm (natural q.radius) (greatest_abs (change xs a b)) (greatest_abs (change ys a b)) ≡ z → dx ≤ greatest_abs (change xs a b) → dy ≤ greatest_abs (change ys a b) → z ≡ false
    far b true f x y = let n = near-mono q.norm (natural q.radius) dx dy (greatest_abs (change xs a b)) (greatest_abs (change ys a b)) x y f in absurd (cc)
    far b false f x y = refl

-- the opposite of a small number, as it is read
pub neg-read : (l m : ℤ) → l ≡ m → neg_ℤ (pos 1000000000) ≤ℤ m → m ≤ℤ pos 1000000000 → to_z w64 (of_z w64 (pos 0 -ℤ to_z w64 (of_z w64 l))) ≡ neg_ℤ m
neg-read l m e low high =
    let f : SFits w64 l = small_fits l (omega (arith, ints, e, low)) (omega (arith, ints, e, high)) in
    let g : SFits w64 (pos 0 -ℤ l) = small_fits (pos 0 -ℤ l) (omega (arith, ints, e, high)) (omega (arith, ints, e, low)) in
    rw (to_z-of_z w64 l f, to_z-of_z w64 (pos 0 -ℤ l) g) (omega (arith, ints, e))
