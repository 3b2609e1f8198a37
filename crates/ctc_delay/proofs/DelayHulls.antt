-- The hulls over ticks and delays as hulls over ticks alone.
use Rattle.std.proofs.Common.{◌≡◌, ℕ, ◌+◌, ◌-◌, ◌<◌, ◌≤◌, ◌⊎◌, inl, inr, Bool, true, false, Option, Some, None, pos, ◌≤ℤ◌, arith, refl, sym, ap, subst}
use Rattle.std.specs.Int.{int_min, int_max}
use Rattle.std.proofs.lemmas.Bool.{cases_lt}
use Rattle.std.proofs.lemmas.Int.{ints, clamps}
use Rattle.tube_spec.specs.Span.{Span, IsWithin}
use Rattle.tube_spec.specs.Hull.{IsWithinOption}
use Rattle.tube_spec.specs.Tick.{join_over}
use Rattle.tube_spec.proofs.Families.{join_over-holds, join_over-least}
use Rattle.int_interval.proofs.Hulls.{same_hull}
use Rattle.ctc_delay.specs.Delays.{lies_in, delayed_hull}
use Rattle.ctc_delay.specs.Ranges.{AreDelays, AreNoDelays}
use Rattle.ctc_delay.specs.Hulls.{lies_in-holds, holds-lies_in, delayed-holds_at, delayed-least}

-- the delays of a span that is cut to the ticks
pub delays-are : (tau : Span) (last m n : ℕ) → pos m ≡ int_max tau.lo (pos 0) → pos n ≡ int_min tau.hi (pos last) → m ≤ n → AreDelays tau last m n
delays-are tau last m n low high order = record {
  order = order;
  few = omega (arith, ints, clamps, high);
  inside = λ d l h. holds-lies_in tau d (record { low = omega (arith, ints, clamps, low, l); high = omega (arith, ints, clamps, high, h) });
  outside = λ d few e. let at = lies_in-holds tau d e in (omega (arith, ints, clamps, low, at), omega (arith, ints, clamps, high, at, few));
}

-- no delay is above what the span is not above
pub delays-below : (tau : Span) (last least greatest : ℕ) → AreDelays tau last least greatest → pos greatest ≤ℤ tau.hi
delays-below tau last least greatest are = (lies_in-holds tau greatest (are.inside greatest are.order (omega arith))).high

least-option : (g : ℕ → Span) (first n : ℕ) (t : Option Span) → ((k : ℕ) → k ≤ n → IsWithinOption (Some (g (first + k))) t) → IsWithinOption (Some (join_over g first n)) t
least-option g first n None h = absurd (h 0 (omega arith))
least-option g first n (Some t) h = join_over-least g first n t h

-- Where the spans over ticks and delays are those of g at the ticks from one to another, their hull is the hull over these ticks.
hull-by_ticks : (f : ℕ → ℕ → Span) (g : ℕ → Span) (tau : Span) (last a b least greatest first end : ℕ) → AreDelays tau last least greatest → first ≤ end
    → ((k d : ℕ) → a ≤ k → k ≤ b → least ≤ d → d ≤ greatest → (t : ℕ) × (first ≤ t) × (t ≤ end) × (f k d ≡ g t))
    → ((t : ℕ) → first ≤ t → t ≤ end → (k : ℕ) × (d : ℕ) × (a ≤ k) × (k ≤ b) × (least ≤ d) × (d ≤ greatest) × (g t ≡ f k d))
    → a ≤ b → delayed_hull f tau last a b ≡ Some (join_over g first (end - first))
hull-by_ticks f g tau last a b least greatest first end are order there back ticks =
    same_hull (delayed_hull f tau last a b) (Some (join_over g first (end - first)))
    (delayed-least f tau last a b (Some (join_over g first (end - first))) (λ i d among few inside.
    let delay = are.outside d few inside in
    let at = there (a + i) d (omega arith) (omega (arith, among, ticks)) delay.0 delay.1 in
    let same : first + (at.0 - first) ≡ at.0 = omega (arith, at.1) in
    subst (λ (s : Span). IsWithin s (join_over g first (end - first))) (sym at.3)
    (subst (λ (t : ℕ). IsWithin (g t) (join_over g first (end - first))) same (join_over-holds g first (end - first) (at.0 - first) (omega (arith, at.2))))))
    (least-option g first (end - first) (delayed_hull f tau last a b) (λ i among.
    let at = back (first + i) (omega arith) (omega (arith, among, order)) in
    subst (λ (s : Span). IsWithinOption (Some s) (delayed_hull f tau last a b)) (sym at.6)
    (delayed-holds_at f tau last a b at.0 at.1 at.2 at.3 (omega (arith, at.5, are.few)) (are.inside at.1 at.4 at.5))))

pub no-delay : (b : Bool) → b ≡ false → b ≡ true → ⊥
no-delay b e f = cc

pub hull-no_delays : (f : ℕ → ℕ → Span) (tau : Span) (last a b : ℕ) → AreNoDelays tau last → None ≡ delayed_hull f tau last a b
hull-no_delays f tau last a b none =
    same_hull None (delayed_hull f tau last a b) tt (delayed-least f tau last a b None (λ i d among few inside. no-delay (lies_in tau d) (none d few) inside))

-- before the ticks from a to b, and after them
pub hull-earlier : (g : ℕ → Span) (tau : Span) (last a b least greatest : ℕ) → AreDelays tau last least greatest → a ≤ b → greatest ≤ a → Some (join_over g (a - greatest) ((b - least) - (a - greatest))) ≡ delayed_hull (λ k d. g (k - d)) tau last a b
hull-earlier g tau last a b least greatest are ticks reached =
    sym (hull-by_ticks (λ k d. g (k - d)) g tau last a b least greatest (a - greatest) (b - least) are (omega (arith, are.order, ticks))
    (λ k d low high l h. (k - d, omega (arith, low, h), omega (arith, high, l, are.order, ticks, reached), refl))
    (λ t low high. back t low high (cases_lt b (t + greatest))) ticks)
  where
    back : (t : ℕ) → a - greatest ≤ t → t ≤ b - least → (b < t + greatest) ⊎ (t + greatest ≤ b) → (k : ℕ) × (d : ℕ) × (a ≤ k) × (k ≤ b) × (least ≤ d) × (d ≤ greatest) × (g t ≡ g (k - d))
    back t low high (inl past) =
        let same : t ≡ b - (b - t) = omega (arith, high) in
        (b, b - t, ticks, omega arith, omega (arith, high, are.order, reached, ticks), omega (arith, past), ap g same)
    back t low high (inr early) =
        let same : t ≡ (t + greatest) - greatest = omega arith in
        (t + greatest, greatest, omega (arith, low), early, are.order, omega arith, ap g same)

pub hull-later : (g : ℕ → Span) (tau : Span) (last a b least greatest : ℕ) → AreDelays tau last least greatest → a ≤ b → Some (join_over g (a + least) ((b + greatest) - (a + least))) ≡ delayed_hull (λ j d. g (j + d)) tau last a b
hull-later g tau last a b least greatest are ticks =
    sym (hull-by_ticks (λ j d. g (j + d)) g tau last a b least greatest (a + least) (b + greatest) are (omega (arith, are.order, ticks))
    (λ j d low high l h. (j + d, omega (arith, low, l), omega (arith, high, h), refl))
    (λ t low high. back t low high (cases_lt (b + least) t)) ticks)
  where
    back : (t : ℕ) → a + least ≤ t → t ≤ b + greatest → (b + least < t) ⊎ (t ≤ b + least) → (j : ℕ) × (d : ℕ) × (a ≤ j) × (j ≤ b) × (least ≤ d) × (d ≤ greatest) × (g t ≡ g (j + d))
    back t low high (inl past) =
        let same : t ≡ b + (t - b) = omega (arith, past) in
        (b, t - b, ticks, omega arith, omega (arith, past), omega (arith, high), ap g same)
    back t low high (inr early) =
        let same : t ≡ (t - least) + least = omega (arith, low) in
        (t - least, least, omega (arith, low), omega (arith, early), omega arith, are.order, ap g same)
