-- What the judgement of a square lets the rows do, and how many steps a square takes.
use Rattle.std.proofs.Common.{◌≡◌, ℕ, zero, suc, ◌+◌, ◌-◌, ◌/◌, ◌^◌, ◌<◌, ◌≤◌, ◌≢◌, Bool, true, false, nat_lt, nat_le, min, List, length, reverse, arith, refl, sym, ap, subst, ◌∙◌, ◌⊎◌, inl, inr}
use Rattle.std.proofs.lemmas.Bool.Decides.{nat_tests}
use Rattle.std.proofs.Math.Nat.{pow-suc}
use Rattle.std.proofs.lemmas.Nat.{pow_pos}
use Rattle.tplane_paver.specs.declared.rows.Stretch.{Stretch}
use Rattle.hull_tree.specs.declared.tree.Judged.TheVariants.{Out, Within, Mixed}
use Rattle.hull_tree.specs.Plane.{Plane, is_possible}
use Rattle.hull_tree.specs.Judging.{TickBox, judged, Says}
use Rattle.tplane_paver.specs.Quartering.{mixed_at, mixed_below}
use Rattle.tplane_paver.specs.Paving.{runs_down, Advances, StandAt}
use Rattle.hull_tree.proofs.Judgements.{judged-says, both-false, right-false}
use Rattle.tplane_paver.proofs.RowLaws.{runs-none}
use Rattle.tplane_paver.proofs.Advancing.{advance-none, advance-next, advance-stack, split-lt}

pub late-false : (p : Plane) (a b : ℕ) → length p.xs ≤ b → is_possible p a b ≡ false
late-false p a b h = let e : nat_lt b (length p.xs) ≡ false = grind (arith, nat_tests) in both-false _ _ (both-false _ _ e)

pub low-false : (p : Plane) (a b : ℕ) → length p.xs ≤ a → is_possible p a b ≡ false
low-false p a b h = at (nat_lt b (length p.xs)) refl
  where
    at : (x : Bool) → nat_lt b (length p.xs) ≡ x → is_possible p a b ≡ false
    at false e = both-false _ _ (both-false _ _ e)
    at true e = let f : nat_le (a + p.gap) b ≡ false = grind (arith, nat_tests) in both-false _ _ (right-false _ _ f)

-- rows that went to c stand at d too, where there is nothing between
pub advance-wide : (pairs : ℕ → ℕ → Bool) (n : ℕ) (old new : List (List Stretch)) (a e f c d : ℕ) → c ≤ d → e ≤ f → ((i : ℕ) → i < f → i < n → i < e)
    → ((i j : ℕ) → c ≤ j → j < d → pairs i j ≡ false) → Advances pairs n old new a e c → Advances pairs n old new a f d
advance-wide pairs n old new a e f c d l k few none p = record {
  len = p.len;
  inside = λ i u v w. p.inside i u (few i v w) w ∙ ap (λ (l : List Stretch). reverse l) (sym (same i));
  before = p.before;
  beyond = λ i u. p.beyond i (omega arith);
}
  where
    same : (i : ℕ) → runs_down (pairs i) d ≡ runs_down (pairs i) c
    same i =
        let s : c + (d - c) ≡ d = omega arith in
        subst (λ (m : ℕ). runs_down (pairs i) m ≡ runs_down (pairs i) c) s (runs-none (pairs i) c (d - c) (λ j u v. none i j u (omega arith)))

-- a square with no tick in one direction
pub advance-empty : (p : Plane) (rows : List (List Stretch)) (a b side : ℕ) → (length p.xs ≤ a) ⊎ (length p.xs ≤ b)
    → StandAt (is_possible p) (length p.xs) rows a (a + side) b → Advances (is_possible p) (length p.xs) rows rows a (a + side) (b + side)
advance-empty p rows a b side h stand = advance-none (is_possible p) (length p.xs) rows a (a + side) b (b + side) (omega arith) stand (λ i j q r s u v. none i j q u)
  where
    none : (i j : ℕ) → a ≤ i → b ≤ j → is_possible p i j ≡ false
    none i j q u = elim h [ inl k ↦ low-false p i j (omega arith) | inr k ↦ late-false p i j (omega arith) ]

-- the box of a square
pub record IsCut (n start side last : ℕ) : Type 0 where
  pub has : start < n
  pub ends : last ≡ min (start + side) n - 1
  pub some : 0 < side

pub cut-of : (n ticks start side depth last : ℕ) → ticks ≡ n → start < ticks → last ≡ min (start + side) ticks - 1 → side ≡ 2 ^ depth → IsCut n start side last
cut-of n ticks start side depth last e h l s = record { has = omega arith; ends = rw (← e) l; some = omega (arith, pow_pos depth, s) }

pub one-side : (side depth : ℕ) → side ≡ 2 ^ depth → depth ≡ 0 → side ≡ 1
one-side side depth s d = s ∙ ap (λ (k : ℕ). 2 ^ k) d

pub cut-below : (n start side last : ℕ) → IsCut n start side last → (start ≤ last) × (last < n) × (last < start + side)
cut-below n start side last h = (omega (arith, h.has, h.ends, h.some), omega (arith, h.has, h.ends, h.some), omega (arith, h.has, h.ends, h.some))

cut-holds : (n start side last i : ℕ) → IsCut n start side last → i < start + side → i < n → i ≤ last
cut-holds n start side last i h k l = omega (arith, h.has, h.ends, h.some)

pub advance-out : (p : Plane) (rows : List (List Stretch)) (a b side a_last b_last : ℕ) → IsCut (length p.xs) a side a_last → IsCut (length p.xs) b side b_last
    → StandAt (is_possible p) (length p.xs) rows a (a + side) b → Out ≡ judged p (record { first_a = a; last_a = a_last; first_b = b; last_b = b_last })
    → Advances (is_possible p) (length p.xs) rows rows a (a + side) (b + side)
advance-out p rows a b side a_last b_last ca cb stand e =
    advance-none (is_possible p) (length p.xs) rows a (a + side) b (b + side) (omega arith) stand none
  where
    says : Says (is_possible p) (record { first_a = a; last_a = a_last; first_b = b; last_b = b_last }) Out
    says = subst (Says (is_possible p) (record { first_a = a; last_a = a_last; first_b = b; last_b = b_last })) (sym e) (judged-says p (record { first_a = a; last_a = a_last; first_b = b; last_b = b_last }) (cut-below (length p.xs) b side b_last cb).1)

    none : (i j : ℕ) → a ≤ i → i < a + side → i < length p.xs → b ≤ j → j < b + side → is_possible p i j ≡ false
    none i j q r s u v = elim (split-lt j (length p.xs)) [
      | inl k ↦ says i j (record { first_a = q; last_a = cut-holds (length p.xs) a side a_last i ca r s; first_b = u; last_b = cut-holds (length p.xs) b side b_last j cb v k })
      | inr k ↦ late-false p i j k
    ]

pub says-within : (p : Plane) (x : TickBox) → x.last_b < length p.xs → Within ≡ judged p x → Says (is_possible p) x Within
says-within p x l e = subst (Says (is_possible p) x) (sym e) (judged-says p x l)

pub stand-cut : (p : Plane) (rows : List (List Stretch)) (a b side a_last : ℕ) → IsCut (length p.xs) a side a_last
    → StandAt (is_possible p) (length p.xs) rows a (a + side) b → StandAt (is_possible p) (length p.xs) rows a (a_last + 1) b
stand-cut p rows a b side a_last c s i u v w = s i u (omega (arith, (cut-below (length p.xs) a side a_last c).2)) w

pub advance-within : (p : Plane) (old new : List (List Stretch)) (a b side a_last b_last : ℕ) → IsCut (length p.xs) a side a_last → IsCut (length p.xs) b side b_last
    → Advances (is_possible p) (length p.xs) old new a (a_last + 1) (b_last + 1) → Advances (is_possible p) (length p.xs) old new a (a + side) (b + side)
advance-within p old new a b side a_last b_last ca cb h =
    let low = cut-below (length p.xs) a side a_last ca in
    let left = cut-below (length p.xs) b side b_last cb in
    advance-wide (is_possible p) (length p.xs) old new a (a_last + 1) (a + side) (b_last + 1) (b + side) (omega (arith, left.2)) (omega (arith, low.2))
    (λ i u v. omega (arith, cut-holds (length p.xs) a side a_last i ca u v))
    (λ i j u v. late-false p i j (late j u v)) h
  where
    late : (j : ℕ) → b_last + 1 ≤ j → j < b + side → length p.xs ≤ j
    late j u v = omega (arith, cb.ends, cb.some, cb.has)

-- a box of one pair is not Mixed
pub one-pair : (p : Plane) (a b side a_last b_last : ℕ) → IsCut (length p.xs) a side a_last → IsCut (length p.xs) b side b_last → side ≡ 1
    → Mixed ≡ judged p (record { first_a = a; last_a = a_last; first_b = b; last_b = b_last }) → ⊥
one-pair p a b side a_last b_last ca cb s e =
    subst (Says (is_possible p) (record { first_a = a; last_a = a_last; first_b = b; last_b = b_last })) (sym e) (judged-says p (record { first_a = a; last_a = a_last; first_b = b; last_b = b_last }) (cut-below (length p.xs) b side b_last cb).1)
    (omega (arith, ca.ends, ca.has)) (omega (arith, cb.ends, cb.has))

-- one square that is Mixed and its four quarters
pub mixed-step : (p : Plane) (a b side depth a_last b_last : ℕ) → IsCut (length p.xs) a side a_last → IsCut (length p.xs) b side b_last → side ≡ 2 ^ depth → depth ≢ 0
    → Mixed ≡ judged p (record { first_a = a; last_a = a_last; first_b = b; last_b = b_last })
    → mixed_below (judged p) (length p.xs) depth a b
    ≡ 1 + (mixed_below (judged p) (length p.xs) (depth - 1) a b + mixed_below (judged p) (length p.xs) (depth - 1) a (b + side / 2)
    + (mixed_below (judged p) (length p.xs) (depth - 1) (a + side / 2) b + mixed_below (judged p) (length p.xs) (depth - 1) (a + side / 2) (b + side / 2)))
mixed-step p a b side zero a_last b_last ca cb s d e = absurd (d refl)
mixed-step p a b side (suc less) a_last b_last ca cb s d e =
    let k : suc less - 1 ≡ less = omega arith in
    let h : side / 2 ≡ 2 ^ less = omega (arith, pow-suc 2 less) in
    rw (k, h) (ap (λ (x : ℕ). x + quarters) one)
  where
    quarters : ℕ
    quarters = mixed_below (judged p) (length p.xs) less a b + mixed_below (judged p) (length p.xs) less a (b + 2 ^ less)
        + (mixed_below (judged p) (length p.xs) less (a + 2 ^ less) b + mixed_below (judged p) (length p.xs) less (a + 2 ^ less) (b + 2 ^ less))

    low : nat_le (length p.xs) a ≡ false
    low = let l = ca.has in grind (arith, nat_tests)

    left : nat_le (length p.xs) b ≡ false
    left = let l = cb.has in grind (arith, nat_tests)

    one : mixed_at (judged p) (length p.xs) (2 ^ suc less) a b ≡ 1
    one = rw (low, left, ← s, ← ca.ends, ← cb.ends, ← e)

pub half-pow : (side depth : ℕ) → side ≡ 2 ^ depth → depth ≢ 0 → (side / 2 ≡ 2 ^ (depth - 1)) × (side / 2 + side / 2 ≡ side)
half-pow side zero s d = absurd (d refl)
half-pow side (suc m) s d =
    let k : suc m - 1 ≡ m = omega arith in
    let q : side / 2 ≡ 2 ^ m = omega (arith, pow-suc 2 m) in
    (rw k q, omega (arith, pow-suc 2 m))

-- the two halves of the rows, of each the left quarter and the right one
pub advance-four : (pairs : ℕ → ℕ → Bool) (n : ℕ) (r0 r1 r2 r3 r4 : List (List Stretch)) (a b half side : ℕ) → half + half ≡ side
    → Advances pairs n r0 r1 a (a + half) (b + half) → Advances pairs n r1 r2 a (a + half) (b + half + half)
    → Advances pairs n r2 r3 (a + half) (a + half + half) (b + half) → Advances pairs n r3 r4 (a + half) (a + half + half) (b + half + half)
    → Advances pairs n r0 r4 a (a + side) (b + side)
advance-four pairs n r0 r1 r2 r3 r4 a b half side s p q r t =
    let f : a + half + half ≡ a + side = omega arith in
    let g : b + half + half ≡ b + side = omega arith in
    let all = advance-stack pairs n r0 r2 r4 a (a + half) (a + half + half) (b + half + half) (omega arith) (omega arith)
    (advance-next pairs n r0 r1 r2 a (a + half) (b + half) (b + half + half) p q)
    (advance-next pairs n r2 r3 r4 (a + half) (a + half + half) (b + half) (b + half + half) r t) in
    subst (λ (x : ℕ). Advances pairs n r0 r4 a x (b + side)) f (subst (λ (x : ℕ). Advances pairs n r0 r4 a (a + half + half) x) g all)
