-- The least power of two, and rows that are empty.
use Rattle.std.proofs.Common.{◌≡◌, ℕ, zero, suc, ◌+◌, ◌-◌, ◌*◌, ◌^◌, ◌<◌, ◌≤◌, List, [], ◌∷◌, ◌++◌, Vec, Global, vec_items, length, replicate, sum_by, arith, refl, sym, ap, subst, ◌∙◌, ◌⊎◌, inl, inr}
use Rattle.std.proofs.Math.Nat.{pow-suc}
use Rattle.std.proofs.lemmas.List.{length-map, replicate-append-replicate, map-append}
use Rattle.std.proofs.lemmas.List.Sums.{sum_by-cons}
use Rattle.tplane_paver.specs.Paving.{rows_of}
use Rattle.tplane_paver.specs.declared.rows.Stretch.{Stretch}
use Rattle.hull_tree.specs.Plane.{Plane, is_possible}
use Rattle.tplane_paver.specs.Rows.{row_at, ArePaved, runs_count, runs_below}
use Rattle.tplane_paver.specs.Quartering.{IsRoot}
use Rattle.tplane_paver.specs.Paving.{IsWork, StandAt, Advances}
use Rattle.tplane_paver.proofs.Advancing.{paved}
use Rattle.tplane_paver.proofs.Squares.{late-false, low-false}
use Rattle.tplane_paver.proofs.Lists.{length-all, all-maximal}
use Rattle.tplane_paver.specs.Runs.{AreMaximalRuns}
use Rattle.tplane_paver.specs.declared.runs.Run.{Run}

pub pow-more : (d e : ℕ) → 2 ^ d ≤ 2 ^ (d + e)
pow-more d zero = let s : d + 0 ≡ d = omega arith in rw s (omega arith)
pow-more d (suc e) = let s : d + suc e ≡ suc (d + e) = omega arith in rw s (omega (arith, pow-suc 2 (d + e), pow-more d e))

-- where half of a power is below n, no lesser power holds n
pub root-least : (n d e : ℕ) → (d ≡ 0) ⊎ (2 ^ d < 2 * n) → n ≤ 2 ^ e → d ≤ e
root-least n d e (inl z) l = omega arith
root-least n d e (inr h) l = elim (split d e) [ inl s ↦ s | inr s ↦ absurd (less s) ]
  where
    split : (d e : ℕ) → (d ≤ e) ⊎ (e < d)
    split d e = grind arith

    less : e < d → ⊥
    less s =
        let k : suc e + (d - suc e) ≡ d = omega arith in
        let m : 2 ^ suc e ≤ 2 ^ d = subst (λ (x : ℕ). 2 ^ suc e ≤ 2 ^ x) k (pow-more (suc e) (d - suc e)) in
        omega (arith, m, pow-suc 2 e, h, l)

pub root-is : (n d side : ℕ) → side ≡ 2 ^ d → n ≤ side → (d ≡ 0) ⊎ (side < 2 * n) → IsRoot n d
root-is n d side s h l = record { holds = omega (arith, s, h); least = λ e k. root-least n d e (subst (λ (x : ℕ). (d ≡ 0) ⊎ (x < 2 * n)) s l) k }

pub root-same : (n d e : ℕ) → IsRoot n d → IsRoot n e → d ≡ e
root-same n d e p q = omega (arith, p.least e q.holds, q.least d p.holds)

empty-at : (n a : ℕ) → row_at (replicate n []) a ≡ []
empty-at zero a = refl
empty-at (suc n) zero = refl
empty-at (suc n) (suc a) = empty-at n a

empty-count : (n : ℕ) → sum_by (length {A = Stretch}) (replicate n []) ≡ 0
empty-count zero = refl
empty-count (suc n) = omega (arith, sum_by-cons (length {A = Stretch}) [] (replicate n []), empty-count n)

empty-length : (n : ℕ) → length {A = List Stretch} (replicate n []) ≡ n
empty-length zero = refl
empty-length (suc n) = ap suc (empty-length n)

pub work-start : (p : Plane) (rows : List (List Stretch)) (n : ℕ) → n ≡ length p.xs → rows ≡ replicate n [] → IsWork (is_possible p) (length p.xs) rows 0
work-start p rows n e r = record {
  len = ap (length {A = List Stretch}) r ∙ empty-length n ∙ e;
  counted = sym (ap (sum_by (length {A = Stretch})) r ∙ empty-count n);
  room = omega arith;
  begun = λ a l. (0, ap (λ (rs : List (List Stretch)). row_at rs a) r ∙ empty-at n a);
}

pub stand-start : (p : Plane) (rows : List (List Stretch)) (n e : ℕ) → rows ≡ replicate n [] → StandAt (is_possible p) (length p.xs) rows 0 e 0
stand-start p rows n e r i u v w = ap (λ (rs : List (List Stretch)). row_at rs i) r ∙ empty-at n i

pub pave-done : (p : Plane) (old new : List (List Stretch)) (count side : ℕ) → length p.xs ≤ side → IsWork (is_possible p) (length p.xs) new count
    → Advances (is_possible p) (length p.xs) old new 0 (0 + side) (0 + side) → ArePaved (is_possible p) (length p.xs) new × (runs_count (is_possible p) (length p.xs) ≤ 2000000)
pave-done p old new count side l work adv =
    let done = paved (is_possible p) (length p.xs) (0 + side) new (omega arith) work.len (λ i u v w. adv.inside i u (omega arith) w) (λ a b. late-false p a b) (λ a b. low-false p a b) in
    (done, omega (arith, done.count, work.counted, work.room))

pub rows-push : (rows : List (Vec Stretch Global)) (row : Vec Stretch Global) (n : ℕ) → row.items ≡ [] → rows_of rows ≡ replicate n [] → rows_of (rows ++ row ∷ []) ≡ replicate (n + 1) []
rows-push rows row n e r = map-append vec_items rows (row ∷ []) ∙ ap (λ (rs : List (List Stretch)). rs ++ row.items ∷ []) r ∙ ap (λ (l : List Stretch). replicate n [] ++ l ∷ []) e ∙ replicate-append-replicate n 1 []

-- all squares are done, and the rows are one list
pub pave-runs : (p : Plane) (old : List (List Stretch)) (rows lent : List (Vec Stretch Global)) (count side : ℕ) (runs : List Run) → length p.xs ≤ side → IsWork (is_possible p) (length p.xs) (rows_of rows) count
    → Advances (is_possible p) (length p.xs) old (rows_of rows) 0 (0 + side) (0 + side) → lent ≡ rows → runs ≡ runs_below (rows_of lent) (length lent)
    → AreMaximalRuns (is_possible p) runs × (length runs ≡ runs_count (is_possible p) (length p.xs)) × (runs_count (is_possible p) (length p.xs) ≤ 2000000)
pave-runs p old rows lent count side runs l work adv e made =
    let done = pave-done p old (rows_of rows) count side l work adv in
    let len : length lent ≡ length (rows_of rows) = ap (length {A = Vec Stretch Global}) e ∙ sym (length-map rows vec_items) in
    let all : runs ≡ runs_below (rows_of rows) (length (rows_of rows)) = made ∙ ap (λ (v : List (Vec Stretch Global)). runs_below (rows_of v) (length lent)) e ∙ ap (runs_below (rows_of rows)) len in
    (subst (AreMaximalRuns (is_possible p)) (sym all) (all-maximal (is_possible p) (length p.xs) (rows_of rows) done.0), ap (length {A = Run}) all ∙ length-all (rows_of rows) ∙ done.0.count, done.1)
