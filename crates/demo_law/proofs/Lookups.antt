-- What the true assignment gives to signals and variables.
use Rattle.std.proofs.Common.{◌≡◌, ℕ, zero, suc, ◌+◌, ◌-◌, ◌*◌, ◌<◌, ◌≤◌, ◌⊎◌, inl, inr, List, [], ◌∷◌, ◌++◌, refl, sym, ap, ap₂, ◌∙◌, arith, length, length-append, ℤ, pos}
use Rattle.std.specs.Prelude.{slice_index_or}
use Rattle.std.proofs.Math.ListN.{get_or-append}
use Rattle.std.proofs.lemmas.List.{get_or-append_right}
use Rattle.tube_spec.specs.Assignment.{number_of, value_at}
use Rattle.demo_course.specs.Course.{position_at, rate_at}
use Rattle.demo_course.specs.Draws.{place_of}
use Rattle.demo_course.specs.declared.Axis.{Axis}
use Rattle.demo_course.specs.declared.Axis.TheVariants.{X, Y}
use Rattle.demo_course.proofs.Listing.{value-at}
use Rattle.demo_spec.specs.Mission.{each_until, heard_at, position_signal, rate_signal}
use Rattle.demo_spec.proofs.Lists.{each-none, each-suc}
use Rattle.demo_law.specs.Truth.{heard, stands_at, truth}

-- ---- pieces of two and of three

last-step : (k n : ℕ) → k < suc n → (k < n) ⊎ (k ≡ n)
last-step k n h = grind arith

module _ (g : ℕ → List ℤ) where
  pub pairs-size : ((k : ℕ) → length (g k) ≡ 2) → (n : ℕ) → length (each_until g n) ≡ 2 * n
  pairs-size two zero = ap length (each-none g)
  pairs-size two (suc n) = ap length (each-suc g n) ∙ length-append (each_until g n) (g n) ∙ omega (arith, pairs-size two n, two n)

  pub triples-size : ((k : ℕ) → length (g k) ≡ 3) → (n : ℕ) → length (each_until g n) ≡ 3 * n
  triples-size three zero = ap length (each-none g)
  triples-size three (suc n) = ap length (each-suc g n) ∙ length-append (each_until g n) (g n) ∙ omega (arith, triples-size three n, three n)

  -- an item of the last piece
  in-last : (n size i j : ℕ) (d : ℤ) → length (each_until g n) ≡ size → i ≡ size + j → slice_index_or (each_until g n ++ g n) i d ≡ slice_index_or (g n) j d
  in-last n size i j d e f =
      get_or-append_right (each_until g n) (g n) size i d e (omega (arith, f)) ∙ ap (λ (m : ℕ). slice_index_or (g n) m d) (omega (arith, f))

  pub pair-found : ((k : ℕ) → length (g k) ≡ 2) → (n k j i : ℕ) (d : ℤ) → k < n → j < 2 → i ≡ 2 * k + j → slice_index_or (each_until g n) i d ≡ slice_index_or (g k) j d
  pair-found two zero k j i d few inside e = absurd (omega (arith, few))
  pair-found two (suc n) k j i d few inside e =
      ap (λ (l : List ℤ). slice_index_or l i d) (each-suc g n)
      ∙ elim (last-step k n few) [
        | inl l ↦ get_or-append (each_until g n) (g n) d i (omega (arith, l, inside, e, pairs-size two n)) ∙ pair-found two n k j i d l inside e
        | inr s ↦ in-last n (2 * n) i j d (pairs-size two n) (omega (arith, e, s)) ∙ ap (λ (m : ℕ). slice_index_or (g m) j d) (sym s)
      ]

  pub triple-found : ((k : ℕ) → length (g k) ≡ 3) → (n k j i : ℕ) (d : ℤ) → k < n → j < 3 → i ≡ 3 * k + j → slice_index_or (each_until g n) i d ≡ slice_index_or (g k) j d
  triple-found three zero k j i d few inside e = absurd (omega (arith, few))
  triple-found three (suc n) k j i d few inside e =
      ap (λ (l : List ℤ). slice_index_or l i d) (each-suc g n)
      ∙ elim (last-step k n few) [
        | inl l ↦ get_or-append (each_until g n) (g n) d i (omega (arith, l, inside, e, triples-size three n)) ∙ triple-found three n k j i d l inside e
        | inr s ↦ in-last n (3 * n) i j d (triples-size three n) (omega (arith, e, s)) ∙ ap (λ (m : ℕ). slice_index_or (g m) j d) (sym s)
      ]

module _ (words : List ℕ) where
  -- ---- signals

  pub position-value : (axis : Axis) (k : ℕ) → k ≤ 2000 → value_at (truth words) (position_signal axis).0 k ≡ position_at words axis k
  unfolding truth
  position-value X k early = value-at (position_at words X) 2001 k (pos 0) (omega (arith, early))
  position-value Y k early = value-at (position_at words Y) 2001 k (pos 0) (omega (arith, early))

  pub rate-value : (axis : Axis) (k : ℕ) → k ≤ 2000 → value_at (truth words) (rate_signal axis).0 k ≡ rate_at words axis k
  unfolding truth
  rate-value X k early = value-at (rate_at words X) 2001 k (pos 0) (omega (arith, early))
  rate-value Y k early = value-at (rate_at words Y) 2001 k (pos 0) (omega (arith, early))

  -- ---- variables

  pub first-number : (number_of (truth words) 0 ≡ pos 0) × (number_of (truth words) 1 ≡ pos 0) × (number_of (truth words) 2 ≡ pos 0) × (number_of (truth words) 3 ≡ pos 0)
  unfolding truth
  first-number = (refl, refl, refl, refl)

  abbrev places : List ℤ
  places = each_until (stands_at words) 5

  abbrev four : List ℤ
  four = pos 0 ∷ pos 0 ∷ pos 0 ∷ pos 0 ∷ []

  places-size : length places ≡ 10
  places-size = pairs-size (stands_at words) (λ k. refl) 5

  front-size : length (four ++ places) ≡ 14
  front-size = length-append four places ∙ omega (arith, places-size)

  place-number : (i j v : ℕ) → i < 5 → j < 2 → v ≡ 4 + 2 * i + j → number_of (truth words) v ≡ slice_index_or (stands_at words i) j (pos 0)
  unfolding truth
  place-number i j v few inside e =
      get_or-append (four ++ places) (each_until (heard words) 40) (pos 0) v (omega (arith, e, few, inside, front-size))
      ∙ get_or-append_right four places 4 v (pos 0) refl (omega (arith, e))
      ∙ pair-found (stands_at words) (λ k. refl) 5 i j (v - 4) (pos 0) few inside (omega (arith, e))

  pub x-place : (i v : ℕ) → i < 5 → v ≡ 4 + 2 * i → number_of (truth words) v ≡ place_of words X i
  x-place i v few e = place-number i 0 v few (omega arith) (omega (arith, e))

  pub y-place : (i v : ℕ) → i < 5 → v ≡ 4 + 2 * i + 1 → number_of (truth words) v ≡ place_of words Y i
  y-place i v few e = place-number i 1 v few (omega arith) (omega (arith, e))

  ping-number : (i j v : ℕ) → i < 40 → j < 3 → v ≡ 14 + 3 * i + j → number_of (truth words) v ≡ slice_index_or (heard words i) j (pos 0)
  unfolding truth
  ping-number i j v few inside e =
      get_or-append_right (four ++ places) (each_until (heard words) 40) 14 v (pos 0) front-size (omega (arith, e))
      ∙ triple-found (heard words) (λ k. refl) 40 i j (v - 14) (pos 0) few inside (omega (arith, e))

  pub ping-time : (i v : ℕ) → i < 40 → v ≡ 14 + 3 * i → number_of (truth words) v ≡ pos (heard_at i)
  ping-time i v few e = ping-number i 0 v few (omega arith) (omega (arith, e))

  pub ping-x : (i v : ℕ) → i < 40 → v ≡ 14 + 3 * i + 1 → number_of (truth words) v ≡ position_at words X (heard_at i)
  ping-x i v few e = ping-number i 1 v few (omega arith) (omega (arith, e))

  pub ping-y : (i v : ℕ) → i < 40 → v ≡ 14 + 3 * i + 2 → number_of (truth words) v ≡ position_at words Y (heard_at i)
  ping-y i v few e = ping-number i 2 v few (omega arith) (omega (arith, e))
