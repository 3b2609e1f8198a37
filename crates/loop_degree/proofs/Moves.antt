-- What a trajectory in a box does between the corners of a cell.
use Rattle.std.proofs.Common.{◌≡◌, ℕ, ◌+◌, ◌<◌, ◌≤◌, Bool, true, false, cond, ◌⊎◌, inl, inr, List, [], ◌∷◌, ℤ, pos, ◌+ℤ◌, ◌-ℤ◌, neg_ℤ, ◌≤ℤ◌, int_le, arith, refl, ap, subst}
use Rattle.std.specs.List.{AllByRecursion, fold}
use Rattle.std.specs.Int.{int_max}
use Rattle.std.proofs.lemmas.Int.{ints, clamps}
use Rattle.std.proofs.lemmas.Bool.{or_cases}
use Rattle.tube_spec.specs.Span.{Span, Holds, meet_of, sub_of}
use Rattle.loop_degree.specs.Pairs.{has}
use Rattle.loop_degree.specs.Cells.{IsCornerOf}
use Rattle.loop_degree.specs.Steps.{Tubes, step_of, greatest_in, greatest_sum, step_bound_of}
use Rattle.loop_degree.proofs.Sharing.{same_pair}
use Rattle.loop_degree.proofs.Alls.{all-weaker}
use Rattle.loop_degree.proofs.Colours.{IsNear}

-- what a signal changes by between the ticks of a pair
abbrev pub change_of : (ℕ → ℕ → ℤ) → ℕ → ℕ × ℕ → ℤ
change_of w x p = w x p.1 -ℤ w x p.0

-- a signal stays in what it may be up to a tick
abbrev pub LiesIn : Tubes → (ℕ → ℕ → ℤ) → ℕ → ℕ → Type 0
LiesIn tube w ticks x = (k : ℕ) → k ≤ ticks → Holds (tube x k) (w x k)

-- v is the rate of x up to a tick
abbrev pub IsRateUpTo : (ℕ → ℕ → ℤ) → ℕ → ℕ → ℕ → Type 0
IsRateUpTo w ticks x v = (k : ℕ) → k < ticks → w x (k + 1) ≡ w x k +ℤ w v k

-- the bound is over each sum, and over where it begins
fold-over : (g : ℕ → ℤ) (top : ℤ) (cs : List (ℕ × ℕ)) → top ≤ℤ fold (λ t c. int_max t (g c.0 +ℤ g c.1)) top cs
fold-over g top [] = omega (arith, ints)
fold-over g top (c ∷ cs) = omega (arith, ints, clamps, fold-over g (int_max top (g c.0 +ℤ g c.1)) cs)

fold-under : (g : ℕ → ℤ) (top : ℤ) (cs : List (ℕ × ℕ)) (c : ℕ × ℕ) → has cs c ≡ true → (g c.0 +ℤ g c.1) ≤ℤ fold (λ t c. int_max t (g c.0 +ℤ g c.1)) top cs
fold-under g top [] c h = absurd (cc)
fold-under g top (d ∷ ds) c h =
    elim (or_cases _ _ h) [
      | inl e ↦ subst (λ (q : ℕ × ℕ). (g q.0 +ℤ g q.1) ≤ℤ fold (λ t c. int_max t (g c.0 +ℤ g c.1)) top (d ∷ ds)) (same_pair d c e) (omega (arith, ints, clamps, fold-over g (int_max top (g d.0 +ℤ g d.1)) ds))
      | inr t ↦ fold-under g (int_max top (g d.0 +ℤ g d.1)) ds c t
    ]

pub sum-first : (g : ℕ → ℤ) (cs : List (ℕ × ℕ)) → pos 1 ≤ℤ greatest_sum g cs
sum-first g cs = fold-over g (pos 1) cs

pub sum-under : (g : ℕ → ℤ) (cs : List (ℕ × ℕ)) (c : ℕ × ℕ) → has cs c ≡ true → (g c.0 +ℤ g c.1) ≤ℤ greatest_sum g cs
sum-under g cs c h = fold-under g (pos 1) cs c h

-- a number of a span is at most the greatest absolute value
pub greatest-over : (s : Span) (v : ℤ) → Holds s v → (v ≤ℤ greatest_in s) × (neg_ℤ v ≤ℤ greatest_in s)
greatest-over s v h = at (int_le s.lo s.hi) refl
  where
    at : (b : Bool) → int_le s.lo s.hi ≡ b → (v ≤ℤ cond b (int_max (neg_ℤ s.lo) s.hi) (pos 0)) × (neg_ℤ v ≤ℤ cond b (int_max (neg_ℤ s.lo) s.hi) (pos 0))
    at true e = (omega (arith, ints, clamps, h.low, h.high), omega (arith, ints, clamps, h.low, h.high))
    at false e = absurd (let a = h.low in let b = h.high in grind (arith, ints))

-- a number that lies in a span and in each rate lies in what they share
meets-hold : (tube : Tubes) (k : ℕ) (v : ℤ) (s : Span) (rates : List ℕ) → Holds s v → AllByRecursion (λ r. Holds (tube r k) v) rates → Holds (fold (λ s r. meet_of s (tube r k)) s rates) v
meets-hold tube k v s [] h a = h
meets-hold tube k v s (r ∷ rs) h a =
    let here = a.0 in
    meets-hold tube k v (meet_of s (tube r k)) rs (record { low = omega (arith, ints, clamps, h.low, here.low); high = omega (arith, ints, clamps, h.high, here.high) }) a.1

-- the change of one tick lies in the step
pub step-holds : (tube : Tubes) (w : ℕ → ℕ → ℤ) (ticks x : ℕ) (rates : List ℕ) (k : ℕ) → LiesIn tube w ticks x → AllByRecursion (λ v. LiesIn tube w ticks v × IsRateUpTo w ticks x v) rates → k < ticks → Holds (step_of tube x rates k) (w x (k + 1) -ℤ w x k)
step-holds tube w ticks x rates k h r l =
    let here = h k (omega arith) in
    let next = h (k + 1) (omega arith) in
    meets-hold tube k (w x (k + 1) -ℤ w x k) (sub_of (tube x (k + 1)) (tube x k)) rates
    (record { low = omega (arith, ints, here.low, here.high, next.low, next.high); high = omega (arith, ints, here.low, here.high, next.low, next.high) })
    (all-weaker (λ v. LiesIn tube w ticks v × IsRateUpTo w ticks x v) (λ v. Holds (tube v k) (w x (k + 1) -ℤ w x k)) rates (λ v a. of-rate v a) r)
  where
    of-rate : (v : ℕ) → LiesIn tube w ticks v × IsRateUpTo w ticks x v → Holds (tube v k) (w x (k + 1) -ℤ w x k)
    of-rate v a =
        let inside = a.0 k (omega arith) in
        let rate = a.1 k l in
        record { low = omega (arith, ints, inside.low, rate); high = omega (arith, ints, inside.high, rate) }

between : (a i : ℕ) → a ≤ i → i ≤ a + 1 → (i ≡ a) ⊎ (i ≡ a + 1)
between a i p q = grind arith

-- between two ticks that are one apart at most
near-ticks : (f : ℕ → ℤ) (s : ℤ) (a i j : ℕ) → (f (a + 1) -ℤ f a) ≤ℤ s → neg_ℤ (f (a + 1) -ℤ f a) ≤ℤ s → a ≤ i → i ≤ a + 1 → a ≤ j → j ≤ a + 1 → IsNear s (f i) (f j)
near-ticks f s a i j u v p q r t =
    elim (between a i p q) [
      | inl e ↦ elim (between a j r t) [
        | inl d ↦ let g = ap f e in let h = ap f d in record { up = omega (arith, ints); down = omega (arith, ints) }
        | inr d ↦ let g = ap f e in let h = ap f d in record { up = omega (arith, ints); down = omega (arith, ints) }
      ]
      | inr e ↦ elim (between a j r t) [
        | inl d ↦ let g = ap f e in let h = ap f d in record { up = omega (arith, ints); down = omega (arith, ints) }
        | inr d ↦ let g = ap f e in let h = ap f d in record { up = omega (arith, ints); down = omega (arith, ints) }
      ]
    ]

-- between two corners of a cell the difference changes by the step bound at most
pub near-corners : (tube : Tubes) (w : ℕ → ℕ → ℤ) (ticks x : ℕ) (rates : List ℕ) (cells : List (ℕ × ℕ)) (c p q : ℕ × ℕ) → LiesIn tube w ticks x → AllByRecursion (λ v. LiesIn tube w ticks v × IsRateUpTo w ticks x v) rates → has cells c ≡ true → c.0 < ticks → c.1 < ticks → IsCornerOf c p → IsCornerOf c q → IsNear (step_bound_of tube x rates cells) (change_of w x p) (change_of w x q)
near-corners tube w ticks x rates cells c p q h r k l m i j =
    let g = λ (t : ℕ). greatest_in (step_of tube x rates t) in
    let first = greatest-over (step_of tube x rates c.0) _ (step-holds tube w ticks x rates c.0 h r l) in
    let second = greatest-over (step_of tube x rates c.1) _ (step-holds tube w ticks x rates c.1 h r m) in
    let a = near-ticks (w x) (g c.0) c.0 p.0 q.0 first.0 first.1 i.left i.right j.left j.right in
    let b = near-ticks (w x) (g c.1) c.1 p.1 q.1 second.0 second.1 i.low i.high j.low j.high in
    let s = sum-under g cells c k in
    near-sum (g c.0) (g c.1) (step_bound_of tube x rates cells) (w x p.0) (w x q.0) (w x p.1) (w x q.1) a b s
  where
    near-sum : (s t d x y z v : ℤ) → IsNear s x y → IsNear t z v → (s +ℤ t) ≤ℤ d → IsNear d (z -ℤ x) (v -ℤ y)
    near-sum s t d x y z v a b h = record { up = omega (arith, ints, a.up, a.down, b.up, b.down); down = omega (arith, ints, a.up, a.down, b.up, b.down) }
