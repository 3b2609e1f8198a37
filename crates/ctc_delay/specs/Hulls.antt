-- Hulls over ticks and delays: what lies in them, and that they are the least.
use Rattle.std.proofs.Common.{◌≡◌, ℕ, zero, suc, ◌+◌, ◌-◌, ◌<◌, ◌≤◌, Bool, true, false, ◌&&◌, cond, Option, Some, None, ℤ, pos, ◌≤ℤ◌, int_le, arith, refl, subst}
use Rattle.std.proofs.lemmas.Int.{ints}
use Rattle.tube_spec.specs.Span.{Span, IsProper, IsWithin, Holds, meet_of}
use Rattle.tube_spec.specs.Hull.{hull_below, IsWithinOption}
use Rattle.tube_spec.specs.Narrowing.{Narrowing, Whole, Nothing, Within, IsWithinNarrowing, narrowing_of}
use Rattle.tube_spec.proofs.Spans.{IsWithinOption-refl, IsWithinOption-trans, hull-holds, hull-mono, meet-mono, narrowing_of-mono}
use Rattle.ctc_delay.specs.Delays.{lies_in, delayed_hull, passes_over}
use Rattle.int_interval.specs.Inverse.{meets}

-- tests
pub and-left : (a b : Bool) → (a && b) ≡ true → a ≡ true
and-left true b h = refl
and-left false b h = absurd (cc)

pub and-right : (a b : Bool) → (a && b) ≡ true → b ≡ true
and-right true b h = h
and-right false b h = absurd (cc)

pub and-both : (a b : Bool) → a ≡ true → b ≡ true → (a && b) ≡ true
and-both true b e f = f
and-both false b e f = e

pub int_le-true : (a b : ℤ) → int_le a b ≡ true → a ≤ℤ b
int_le-true a b h = grind (arith, ints)

pub le-int_le : (a b : ℤ) → a ≤ℤ b → int_le a b ≡ true
le-int_le a b h = grind (arith, ints)

pub lies_in-holds : (s : Span) (d : ℕ) → lies_in s d ≡ true → Holds s (pos d)
lies_in-holds s d h = record {
  low = int_le-true s.lo (pos d) (and-left (int_le s.lo (pos d)) (int_le (pos d) s.hi) h);
  high = int_le-true (pos d) s.hi (and-right (int_le s.lo (pos d)) (int_le (pos d) s.hi) h);
}

pub holds-lies_in : (s : Span) (d : ℕ) → Holds s (pos d) → lies_in s d ≡ true
holds-lies_in s d h = and-both (int_le s.lo (pos d)) (int_le (pos d) s.hi) (le-int_le s.lo (pos d) h.low) (le-int_le (pos d) s.hi h.high)

pub lies_in-mono : (s t : Span) (d : ℕ) → IsWithin s t → lies_in s d ≡ true → lies_in t d ≡ true
lies_in-mono s t d w h =
    let inside = lies_in-holds s d h in
    holds-lies_in t d (record { low = omega (arith, ints, w, inside); high = omega (arith, ints, w, inside) })

pub shares-proper : (a b : Span) → meets a b ≡ true → IsProper (meet_of a b)
shares-proper a b h = int_le-true (meet_of a b).lo (meet_of a b).hi h

pub proper-shares : (a b : Span) → IsProper (meet_of a b) → meets a b ≡ true
proper-shares a b h = le-int_le (meet_of a b).lo (meet_of a b).hi h

pub shares-mono : (a b c d : Span) → IsWithin a c → IsWithin b d → meets a b ≡ true → meets c d ≡ true
shares-mono a b c d v w h =
    let less = meet-mono a b c d v w in
    let proper = shares-proper a b h in
    proper-shares c d (omega (arith, ints, less.low, less.high, proper))

pub passes-mono : (p q : ℕ → Bool) (a n : ℕ) → ((k : ℕ) → p k ≡ true → q k ≡ true) → passes_over p a n ≡ true → passes_over q a n ≡ true
passes-mono p q a zero f h = f a h
passes-mono p q a (suc n) f h =
    and-both (passes_over q a n) (q (a + suc n)) (passes-mono p q a n f (and-left (passes_over p a n) (p (a + suc n)) h)) (f (a + suc n) (and-right (passes_over p a n) (p (a + suc n)) h))

pub passes-all : (p : ℕ → Bool) (a n : ℕ) → ((k : ℕ) → a ≤ k → k ≤ a + n → p k ≡ true) → passes_over p a n ≡ true
passes-all p a zero h = h a (omega arith) (omega arith)
passes-all p a (suc n) h = and-both (passes_over p a n) (p (a + suc n)) (passes-all p a n (λ k low high. h k low (omega (arith, high)))) (h (a + suc n) (omega arith) (omega arith))

-- a hull lies within all that holds each of its terms
pub hull-least : (f : ℕ → Option Span) (n : ℕ) (t : Option Span) → ((k : ℕ) → k < n → IsWithinOption (f k) t) → IsWithinOption (hull_below f n) t
hull-least f n t h = hull-mono f (λ k. t) n 1 (λ k l. (0, omega arith, h k l))

-- a term that counts where a test passes
pub counted-holds : (b : Bool) (s : Span) → b ≡ true → IsWithinOption (Some s) (cond b (Some s) None)
counted-holds true s e = IsWithinOption-refl (Some s)
counted-holds false s e = absurd (cc)

pub counted-least : (b : Bool) (s : Span) (t : Option Span) → (b ≡ true → IsWithinOption (Some s) t) → IsWithinOption (cond b (Some s) None) t
counted-least true s t h = h refl
counted-least false s t h = tt

-- a hull of the spans that count
pub counted-hull-holds : (test : ℕ → Bool) (f : ℕ → Span) (n d : ℕ) → d < n → test d ≡ true → IsWithinOption (Some (f d)) (hull_below (λ k. cond (test k) (Some (f k)) None) n)
counted-hull-holds test f n d l e =
    IsWithinOption-trans (Some (f d)) (cond (test d) (Some (f d)) None) (hull_below (λ k. cond (test k) (Some (f k)) None) n)
    (counted-holds (test d) (f d) e) (hull-holds (λ k. cond (test k) (Some (f k)) None) n d l)

pub counted-hull-least : (test : ℕ → Bool) (f : ℕ → Span) (n : ℕ) (t : Option Span) → ((d : ℕ) → d < n → test d ≡ true → IsWithinOption (Some (f d)) t) → IsWithinOption (hull_below (λ k. cond (test k) (Some (f k)) None) n) t
counted-hull-least test f n t h = hull-least (λ k. cond (test k) (Some (f k)) None) n t (λ d l. counted-least (test d) (f d) t (h d l))

-- the hull over ticks and delays
module _ (f : ℕ → ℕ → Span) (tau : Span) (last a b : ℕ) where
  pub delayed-holds : (i d : ℕ) → i ≤ b - a → d ≤ last → lies_in tau d ≡ true → IsWithinOption (Some (f (a + i) d)) (delayed_hull f tau last a b)
  delayed-holds i d among few inside =
      let over : ℕ → Option Span = λ j. hull_below (λ e. cond (lies_in tau e) (Some (f (a + j) e)) None) (last + 1) in
      IsWithinOption-trans (Some (f (a + i) d)) (over i) (delayed_hull f tau last a b)
      (counted-hull-holds (lies_in tau) (f (a + i)) (last + 1) d (omega (arith, few)) inside) (hull-holds over (b - a + 1) i (omega (arith, among)))

  pub delayed-least : (t : Option Span) → ((i d : ℕ) → i ≤ b - a → d ≤ last → lies_in tau d ≡ true → IsWithinOption (Some (f (a + i) d)) t) → IsWithinOption (delayed_hull f tau last a b) t
  delayed-least t h =
      hull-least (λ j. hull_below (λ e. cond (lies_in tau e) (Some (f (a + j) e)) None) (last + 1)) (b - a + 1) t (λ i l.
      counted-hull-least (lies_in tau) (f (a + i)) (last + 1) t (λ d m inside. h i d (omega (arith, l)) (omega (arith, m)) inside))

-- the same, by the tick
pub delayed-holds_at : (f : ℕ → ℕ → Span) (tau : Span) (last a b k d : ℕ) → a ≤ k → k ≤ b → d ≤ last → lies_in tau d ≡ true → IsWithinOption (Some (f k d)) (delayed_hull f tau last a b)
delayed-holds_at f tau last a b k d low high few inside =
    let there : a + (k - a) ≡ k = omega (arith, low) in
    subst (λ (j : ℕ). IsWithinOption (Some (f j d)) (delayed_hull f tau last a b)) there (delayed-holds f tau last a b (k - a) d (omega (arith, high)) few inside)

-- it is less over fewer delays and lesser spans
pub delayed-mono : (f g : ℕ → ℕ → Span) (tau wider : Span) (last a b : ℕ) → IsWithin tau wider → ((k d : ℕ) → IsWithin (f k d) (g k d)) → IsWithinOption (delayed_hull f tau last a b) (delayed_hull g wider last a b)
delayed-mono f g tau wider last a b w h =
    delayed-least f tau last a b (delayed_hull g wider last a b) (λ i d among few inside.
    IsWithinOption-trans (Some (f (a + i) d)) (Some (g (a + i) d)) (delayed_hull g wider last a b) (h (a + i) d) (delayed-holds g wider last a b i d among few (lies_in-mono tau wider d w inside)))

-- all lies within the whole line
pub within-whole : (h : Narrowing) → IsWithinNarrowing h Whole
within-whole Whole = tt
within-whole Nothing = tt
within-whole (Within s) = tt

-- what is held only where a test passes
pub guarded-mono : (b c : Bool) (s t : Option Span) → (c ≡ true → b ≡ true) → IsWithinOption s t → IsWithinNarrowing (cond b (narrowing_of s) Whole) (cond c (narrowing_of t) Whole)
guarded-mono true true s t f w = narrowing_of-mono s t w
guarded-mono false true s t f w = let e = f refl in absurd (cc)
guarded-mono true false s t f w = within-whole (narrowing_of s)
guarded-mono false false s t f w = tt
