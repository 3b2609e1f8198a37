-- The possible delays: which they are, and their hull.
use Rattle.std.proofs.Common.{◌≡◌, ℕ, zero, suc, ◌+◌, ◌-◌, ◌<◌, ◌≤◌, inl, inr, Bool, true, false, ◌&&◌, cond, Option, Some, None, List, ℤ, pos, arith, refl, sym, ap, subst, ◌∙◌, IsSome, IfSome}
use Rattle.std.proofs.lemmas.Bool.{cases_lt}
use Rattle.std.proofs.lemmas.Int.{ints}
use Rattle.tube_spec.specs.Span.{Span, IsProper, IsBounded, point, meet_of}
use Rattle.tube_spec.specs.Hull.{hull_below, IsWithinOption}
use Rattle.tube_spec.specs.Grid.{last_tick}
use Rattle.tube_spec.specs.Box.{cell_at}
use Rattle.tube_spec.specs.Tick.{tick_place}
use Rattle.tube_spec.proofs.Spans.{same_span}
use Rattle.int_interval.proofs.Hulls.{same_hull}
use Rattle.ctc_delay.specs.Delays.{lies_in, at_tick_from, passes_over, is_possible}
use Rattle.int_interval.specs.Inverse.{meets}
use Rattle.ctc_delay.specs.Ranges.{AreDelays, AreNoDelays, IsLeastOf, IsGreatestOf}
use Rattle.ctc_delay.specs.Hulls.{and-left, and-right, and-both, shares-proper, proper-shares, passes-all, counted-hull-holds, counted-hull-least}
use Rattle.ctc_delay.proofs.DelayHulls.{no-delay}

pub IfSome-map3 : {X : Type 0} (P Q R S : X → Type 0) (b : Option X) → ((x : X) → P x → Q x → R x → S x) → IfSome b P → IfSome b Q → IfSome b R → IfSome b S
IfSome-map3 P Q R S None f h k l = tt
IfSome-map3 P Q R S (Some x) f h k l = f x h k l

-- a test that passes over ticks passes at each
pub passes-at : (p : ℕ → Bool) (a n k : ℕ) → passes_over p a n ≡ true → a ≤ k → k ≤ a + n → p k ≡ true
passes-at p a zero k h low high = let same : a ≡ k = omega (arith, low, high) in subst (λ (j : ℕ). p j ≡ true) same h
passes-at p a (suc n) k h low high = elim (cases_lt (a + n) k) [
  | inl past ↦ let same : a + suc n ≡ k = omega (arith, past, high) in subst (λ (j : ℕ). p j ≡ true) same (and-right (passes_over p a n) (p (a + suc n)) h)
  | inr early ↦ passes-at p a n k (and-left (passes_over p a n) (p (a + suc n)) h) low early
]

not-true : (b : Bool) → (b ≡ true → ⊥) → false ≡ b
not-true true h = absurd (h refl)
not-true false h = refl

-- a delay is not possible where the two signals share no number at some tick
pub not-possible : (grid : List ℕ) (xs : List Span) (x y d k : ℕ) (before now : Span) → before ≡ at_tick_from grid xs x (k - d) → now ≡ at_tick_from grid xs y k → (IsProper (meet_of before now) → ⊥) → d ≤ k → k ≤ last_tick grid
    → false ≡ is_possible grid xs x y d
not-possible grid xs x y d k before now eb en apart low high =
    not-true (is_possible grid xs x y d) (λ h.
    let here = passes-at (λ j. meets (at_tick_from grid xs x (j - d)) (at_tick_from grid xs y j)) d (last_tick grid - d) k h low (omega (arith, low, high)) in
    apart (subst (λ (s : Span). IsProper (meet_of s now)) (sym eb) (subst (λ (s : Span). IsProper (meet_of (at_tick_from grid xs x (k - d)) s)) (sym en)
    (shares-proper (at_tick_from grid xs x (k - d)) (at_tick_from grid xs y k) here))))

-- the hull of the delays that pass a test
module _ (tau : Span) (last : ℕ) (p : ℕ → Bool) where
  abbrev passing_hull : Option Span
  passing_hull = hull_below (λ d. cond (lies_in tau d && p d) (Some (point (pos d))) None) (last + 1)

  none-passing : ((d : ℕ) → d ≤ last → lies_in tau d ≡ true → p d ≡ true → ⊥) → None ≡ passing_hull
  none-passing h =
      same_hull None passing_hull tt (counted-hull-least (λ d. lies_in tau d && p d) (λ d. point (pos d)) (last + 1) None (λ d l e.
      h d (omega (arith, l)) (and-left (lies_in tau d) (p d) e) (and-right (lies_in tau d) (p d) e)))

  pub none-in_no_delays : AreNoDelays tau last → None ≡ passing_hull
  none-in_no_delays none = none-passing (λ d few inside passes. no-delay (lies_in tau d) (none d few) inside)

  module _ (lo hi : ℕ) (are : AreDelays tau last lo hi) where
    pub none-in_delays : IsLeastOf p lo hi None → None ≡ passing_hull
    none-in_delays none = none-passing (λ d few inside passes. let at = are.outside d few inside in no-delay (p d) (none d at.0 at.1) passes)

    pub least-to-greatest : (least greatest : ℕ) → IsLeastOf p lo hi (Some least) → IsGreatestOf p lo hi (Some greatest) → Some (record { lo = pos least; hi = pos greatest }) ≡ passing_hull
    least-to-greatest least greatest first end =
        same_hull (Some (record { lo = pos least; hi = pos greatest })) passing_hull (both passing_hull (holds least first.0 first.1 first.2) (holds greatest end.0 end.1 end.2))
        (counted-hull-least (λ d. lies_in tau d && p d) (λ d. point (pos d)) (last + 1) (Some (record { lo = pos least; hi = pos greatest })) (λ d l e.
        let at = are.outside d (omega (arith, l)) (and-left (lies_in tau d) (p d) e) in
        let passes = and-right (lies_in tau d) (p d) e in
        record {
          low = elim (cases_lt d least) [ inl early ↦ absurd (no-delay (p d) (first.3 d at.0 early) passes) | inr later ↦ omega (arith, ints, later) ];
          high = elim (cases_lt greatest d) [ inl late ↦ absurd (no-delay (p d) (end.3 d late at.1) passes) | inr early ↦ omega (arith, ints, early) ];
        }))
      where
        holds : (d : ℕ) → lo ≤ d → d ≤ hi → p d ≡ true → IsWithinOption (Some (point (pos d))) passing_hull
        holds d low high passes =
            counted-hull-holds (λ d. lies_in tau d && p d) (λ d. point (pos d)) (last + 1) d (omega (arith, high, are.few)) (and-both (lies_in tau d) (p d) (are.inside d low high) passes)

        both : (t : Option Span) → IsWithinOption (Some (point (pos least))) t → IsWithinOption (Some (point (pos greatest))) t → IsWithinOption (Some (record { lo = pos least; hi = pos greatest })) t
        both None v w = v
        both (Some t) v w = record { low = v.low; high = w.high }

pub possible-all : (grid : List ℕ) (xs : List Span) (x y d : ℕ) → d ≤ last_tick grid → ((k : ℕ) → d ≤ k → k < last_tick grid + 1 → meets (at_tick_from grid xs x (k - d)) (at_tick_from grid xs y k) ≡ true) → true ≡ is_possible grid xs x y d
possible-all grid xs x y d few h =
    sym (passes-all (λ k. meets (at_tick_from grid xs x (k - d)) (at_tick_from grid xs y k)) d (last_tick grid - d) (λ k low high. h k low (omega (arith, high, few))))

-- the interval from the least to the greatest, as code makes it
some-value : (o : Option Span) (s : Span) → IsSome o → IfSome o (λ r. r ≡ s) → o ≡ Some s
some-value None s some is = absurd (cc)
some-value (Some r) s some is = ap Some is

pub made-of_both : (tau : Span) (last : ℕ) (p : ℕ → Bool) (lo hi : ℕ) → AreDelays tau last lo hi → last ≤ 100000 → (least greatest : ℕ) → IsLeastOf p lo hi (Some least) → IsGreatestOf p lo hi (Some greatest)
    → (made : Option Span) (a b : ℤ) → a ≡ pos least → b ≡ pos greatest → IfSome made (λ r. r ≡ record { lo = a; hi = b }) → (IsProper (record { lo = a; hi = b }) × IsBounded 4000000000000000000 (record { lo = a; hi = b }) → IsSome made)
    → made ≡ hull_below (λ d. cond (lies_in tau d && p d) (Some (point (pos d))) None) (last + 1)
made-of_both tau last p lo hi are few least greatest first end made a b ea eb is exists =
    let order : least ≤ greatest = elim (cases_lt greatest least) [
      | inl early ↦ absurd (no-delay (p greatest) (first.3 greatest end.0 early) end.2)
      | inr l ↦ l
    ] in
    let span : Span = record { lo = a; hi = b } in
    let some = exists (omega (arith, ints, ea, eb, order), record { low = omega (arith, ints, ea); high = omega (arith, ints, eb, end.1, are.few, few) }) in
    some-value made span some is ∙ ap Some (same_span span (record { lo = pos least; hi = pos greatest }) ea eb)
    ∙ least-to-greatest tau last p lo hi are least greatest first end

-- the two signals share a number as long as both stand at their places
pub shares-on : (grid : List ℕ) (xs : List Span) (x y d tick next b n : ℕ) (before now : Span) → before ≡ cell_at xs (x + b) → now ≡ cell_at xs (y + n) → IsProper (meet_of before now)
    → ((k : ℕ) → tick ≤ k → k < next → (tick_place grid (k - d) ≡ b) × (tick_place grid k ≡ n))
    → ((k : ℕ) → d ≤ k → k < tick → meets (at_tick_from grid xs x (k - d)) (at_tick_from grid xs y k) ≡ true)
    → (k : ℕ) → d ≤ k → k < next → meets (at_tick_from grid xs x (k - d)) (at_tick_from grid xs y k) ≡ true
shares-on grid xs x y d tick next b n before now eb en meet still earlier k low high = elim (cases_lt k tick) [
  | inl l ↦ earlier k low l
  | inr l ↦
      let at = still k l high in
      let left : before ≡ at_tick_from grid xs x (k - d) = eb ∙ ap (λ (p : ℕ). cell_at xs (x + p)) (sym at.0) in
      let right : now ≡ at_tick_from grid xs y k = en ∙ ap (λ (p : ℕ). cell_at xs (y + p)) (sym at.1) in
      subst (λ (s : Span). meets s (at_tick_from grid xs y k) ≡ true) left (subst (λ (s : Span). meets before s ≡ true) right (proper-shares before now meet))
]

-- the cell at the place of a tick is what the signal may be there
pub cell-at : (grid : List ℕ) (xs : List Span) (x k place : ℕ) (held : Span) → held ≡ cell_at xs (x + place) → place ≡ tick_place grid k → held ≡ at_tick_from grid xs x k
cell-at grid xs x k place held e there = e ∙ ap (λ (p : ℕ). cell_at xs (x + p)) there
