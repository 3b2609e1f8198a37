-- Marks, and the boundaries that they stand for.
use Rattle.std.proofs.Common.{◌≡◌, ℕ, zero, suc, ◌+◌, ◌-◌, ◌<◌, ◌≤◌, Bool, true, false, List, [], ◌∷◌, ◌++◌, length, refl, sym, ap, ◌∙◌, subst, arith, eqb, ltb, slice_index, take, replicate, inl, inr, ◌⊎◌}
use Rattle.std.specs.Prelude.{Option, None, slice_index_or, slice_set}
use Rattle.std.proofs.lemmas.List.{get_or-set_same, get_or-take, length-set, length-take, take_more}
use Rattle.slice_gates.proofs.Boundaries.{rising-le, rising-lt}
use Rattle.std.proofs.lemmas.Bool.Decides.{nat_tests}
use Rattle.tube_spec.specs.Grid.{IsGrid, last_tick}
use Rattle.mission_items.specs.Cuts.{with_tick}
use Rattle.log_clock.specs.Marks.{AreEnds, IsRunning, marked}

below_eq : (a b : ℕ) → a < b → eqb a b ≡ false
below_eq a b h = grind (arith, nat_tests)

below_lt : (a b : ℕ) → a < b → ltb a b ≡ true
below_lt a b h = grind (arith, nat_tests)

above_eq : (a b : ℕ) → b < a → eqb a b ≡ false
above_eq a b h = grind (arith, nat_tests)

above_lt : (a b : ℕ) → b ≤ a → ltb a b ≡ false
above_lt a b h = grind (arith, nat_tests)

same_eq : (a : ℕ) → eqb a a ≡ true
same_eq a = grind (arith, nat_tests)

-- a tick before all marks
with_tick-front : (n m : ℕ) (bs : List Bool) → m < n → with_tick (marked n bs) m ≡ m ∷ marked n bs
with_tick-front n m [] h = refl
with_tick-front n m (true ∷ bs) h = rw (below_lt m n h) refl
with_tick-front n m (false ∷ bs) h = with_tick-front (suc n) m bs (omega arith)

with_tick-same : (n : ℕ) (xs : List ℕ) → with_tick (n ∷ xs) n ≡ n ∷ xs
with_tick-same n xs = rw (above_lt n n (omega arith), same_eq n) refl

with_tick-later : (n m : ℕ) (xs : List ℕ) → n < m → with_tick (n ∷ xs) m ≡ n ∷ with_tick xs m
with_tick-later n m xs h = rw (above_lt m n (omega arith), above_eq m n h) refl

-- one mark more is one boundary more
marked-set_from : (n k : ℕ) (bs : List Bool) → k < length bs → marked n (slice_set bs k true) ≡ with_tick (marked n bs) (n + k)
marked-set_from n k [] h = absurd (omega (arith, h))
marked-set_from n zero (true ∷ bs) h = let e : n + 0 ≡ n = omega arith in rw e (sym (with_tick-same n (marked (suc n) bs)))
marked-set_from n zero (false ∷ bs) h = let e : n + 0 ≡ n = omega arith in rw e (sym (with_tick-front (suc n) n bs (omega arith)))
marked-set_from n (suc k) (true ∷ bs) h =
    let e : suc n + k ≡ n + suc k = omega arith in
    ap (λ (xs : List ℕ). n ∷ xs) (marked-set_from (suc n) k bs (omega (arith, h)) ∙ ap (with_tick (marked (suc n) bs)) e)
    ∙ sym (with_tick-later n (n + suc k) (marked (suc n) bs) (omega arith))
marked-set_from n (suc k) (false ∷ bs) h =
    let e : suc n + k ≡ n + suc k = omega arith in
    marked-set_from (suc n) k bs (omega (arith, h)) ∙ ap (with_tick (marked (suc n) bs)) e

pub marked-set : (k : ℕ) (bs : List Bool) → k < length bs → marked 0 (slice_set bs k true) ≡ with_tick (marked 0 bs) k
marked-set k bs h = marked-set_from 0 k bs h ∙ ap (with_tick (marked 0 bs)) (omega arith)

-- a mark that stands already
pub set-marked : (k : ℕ) (bs : List Bool) → k < length bs → slice_index_or bs k false ≡ true → slice_set bs k true ≡ bs
set-marked k [] h e = refl
set-marked zero (true ∷ bs) h e = refl
set-marked zero (false ∷ bs) h e = cc e
set-marked (suc k) (b ∷ bs) h e = ap (λ (xs : List Bool). b ∷ xs) (set-marked k bs (omega (arith, h)) e)

-- a mark that is new
length-set_from : (n k : ℕ) (bs : List Bool) → k < length bs → slice_index_or bs k false ≡ false → length (marked n (slice_set bs k true)) ≡ length (marked n bs) + 1
length-set_from n k [] h e = absurd (omega (arith, h))
length-set_from n zero (true ∷ bs) h e = cc e
length-set_from n zero (false ∷ bs) h e = omega arith
length-set_from n (suc k) (true ∷ bs) h e = omega (arith, length-set_from (suc n) k bs (omega (arith, h)) e)
length-set_from n (suc k) (false ∷ bs) h e = length-set_from (suc n) k bs (omega (arith, h)) e

pub length-marked_set : (k : ℕ) (bs : List Bool) → k < length bs → slice_index_or bs k false ≡ false → length (marked 0 (slice_set bs k true)) ≡ length (marked 0 bs) + 1
length-marked_set k bs h e = length-set_from 0 k bs h e

pub length-marked : (n : ℕ) (bs : List Bool) → length (marked n bs) ≤ length bs
length-marked n [] = omega arith
length-marked n (true ∷ bs) = omega (arith, length-marked (suc n) bs)
length-marked n (false ∷ bs) = omega (arith, length-marked (suc n) bs)

-- no mark, no boundary
pub marked-none : (n k : ℕ) → marked n (replicate k false) ≡ []
marked-none n zero = refl
marked-none n (suc k) = marked-none (suc n) k

-- a tick behind all boundaries
pub with_tick-last : (xs : List ℕ) (t : ℕ) → ((i : ℕ) → i < length xs → slice_index xs i < t) → with_tick xs t ≡ xs ++ t ∷ []
with_tick-last [] t h = refl
with_tick-last (x ∷ xs) t h =
    with_tick-later x t xs (h 0 (omega arith)) ∙ ap (λ (ys : List ℕ). x ∷ ys) (with_tick-last xs t (λ i k. h (suc i) (omega (arith, k))))

-- ---- the boundaries of marked ends are a grid

-- all boundaries stand from the first tick on
marked-from : (n i : ℕ) (bs : List Bool) → i < length (marked n bs) → n ≤ slice_index (marked n bs) i
marked-from n i [] h = absurd (omega (arith, h))
marked-from n zero (true ∷ bs) h = omega arith
marked-from n (suc i) (true ∷ bs) h = omega (arith, marked-from (suc n) i bs (omega (arith, h)))
marked-from n i (false ∷ bs) h = omega (arith, marked-from (suc n) i bs h)

marked-rises : (n i : ℕ) (bs : List Bool) → i + 1 < length (marked n bs) → slice_index (marked n bs) i < slice_index (marked n bs) (i + 1)
marked-rises n i [] h = absurd (omega (arith, h))
marked-rises n zero (true ∷ bs) h = marked-from (suc n) 0 bs (omega (arith, h))
marked-rises n (suc i) (true ∷ bs) h =
    let e : suc i + 1 ≡ suc (i + 1) = omega arith in
    subst (λ (k : ℕ). slice_index (n ∷ marked (suc n) bs) (suc i) < slice_index (n ∷ marked (suc n) bs) k) (sym e) (marked-rises (suc n) i bs (omega (arith, h)))
marked-rises n i (false ∷ bs) h = marked-rises (suc n) i bs h

-- the last mark is the last boundary
marked-last : (n k : ℕ) (bs : List Bool) → suc k ≡ length bs → slice_index_or bs k false ≡ true → (1 ≤ length (marked n bs)) × (slice_index (marked n bs) (length (marked n bs) - 1) ≡ n + k)
marked-last n k [] h e = absurd (omega (arith, h))
marked-last n zero (true ∷ []) h e = (omega arith, omega arith)
marked-last n zero (true ∷ b ∷ bs) h e = absurd (omega (arith, h))
marked-last n zero (false ∷ bs) h e = cc e
marked-last n (suc k) (true ∷ bs) h e =
    let more = marked-last (suc n) k bs (omega (arith, h)) e in
    let size : length (n ∷ marked (suc n) bs) - 1 ≡ suc (length (marked (suc n) bs) - 1) = omega (arith, more.0) in
    (omega arith, ap (slice_index (n ∷ marked (suc n) bs)) size ∙ (more.1 ∙ omega arith))
marked-last n (suc k) (false ∷ bs) h e =
    let more = marked-last (suc n) k bs (omega (arith, h)) e in (more.0, more.1 ∙ omega arith)

pub marked-ends : (bs : List Bool) → AreEnds bs → last_tick (marked 0 bs) ≡ length bs - 1
marked-ends bs ends = (marked-last 0 (length bs - 1) bs (omega (arith, ends.some_tick)) ends.last).1 ∙ omega arith

grid_of : (bs : List Bool) → AreEnds bs → 2 ≤ length (marked 0 bs) → slice_index (marked 0 bs) 0 ≡ 0 → IsGrid (marked 0 bs)
grid_of bs ends two first = record {
  slices = two;
  short = omega (arith, length-marked 0 bs, ends.few_ticks);
  starts = first;
  rising = λ i h. marked-rises 0 i bs h;
  ends = omega (arith, marked-ends bs ends, ends.few_ticks);
}

pub marked-grid : (bs : List Bool) → AreEnds bs → IsGrid (marked 0 bs)
marked-grid [] ends = absurd (omega (arith, ends.some_tick))
marked-grid (false ∷ bs) ends = cc ends.first
marked-grid (true ∷ []) ends = absurd (omega (arith, ends.some_tick))
marked-grid (true ∷ b ∷ bs) ends =
    let more = marked-last 1 (length bs) (b ∷ bs) (omega arith) (subst (λ (k : ℕ). slice_index_or (true ∷ b ∷ bs) k false ≡ true) (let e : length (true ∷ b ∷ bs) - 1 ≡ suc (length bs) = omega arith in e) ends.last) in
    grid_of (true ∷ b ∷ bs) ends (omega (arith, more.0)) refl

-- ---- a clock that is started

pub started : (bs : List Bool) (slices : ℕ) (grid : Option (List ℕ)) → IsRunning bs slices grid → 2 ≤ length (marked 0 bs) → AreEnds bs
started bs slices grid k two = k.ends (omega (arith, length-marked 0 bs, two))

pub within : (bs : List Bool) (tick : ℕ) → AreEnds bs → tick ≤ last_tick (marked 0 bs) → tick < length bs
within bs tick ends h = omega (arith, marked-ends bs ends, h, ends.some_tick)

get_or-marked : (bs : List Bool) (k j : ℕ) → k < length bs → slice_index_or bs j false ≡ true → slice_index_or (slice_set bs k true) j false ≡ true
get_or-marked [] k j h e = absurd (omega (arith, h))
get_or-marked (b ∷ bs) zero zero h e = refl
get_or-marked (b ∷ bs) zero (suc j) h e = e
get_or-marked (b ∷ bs) (suc k) zero h e = e
get_or-marked (b ∷ bs) (suc k) (suc j) h e = get_or-marked bs k j (omega (arith, h)) e

pub ends-set : (bs : List Bool) (k : ℕ) → k < length bs → AreEnds bs → AreEnds (slice_set bs k true)
ends-set bs k h ends =
    let size : length (slice_set bs k true) ≡ length bs = length-set bs k true in record {
      some_tick = omega (arith, size, ends.some_tick);
      few_ticks = omega (arith, size, ends.few_ticks);
      first = get_or-marked bs k 0 h ends.first;
      last = ap (λ (n : ℕ). slice_index_or (slice_set bs k true) (n - 1) false) size ∙ get_or-marked bs k (length bs - 1) h ends.last;
    }

pub last-set : (bs : List Bool) (k : ℕ) → k < length bs → AreEnds bs → last_tick (marked 0 (slice_set bs k true)) ≡ last_tick (marked 0 bs)
last-set bs k h ends = omega (arith, marked-ends bs ends, marked-ends (slice_set bs k true) (ends-set bs k h ends), length-set bs k true)

pub running-set : (bs : List Bool) (slices k : ℕ) (grid : Option (List ℕ)) → k < length bs → slice_index_or bs k false ≡ false → IsRunning bs slices grid → 2 ≤ length (marked 0 bs) → IsRunning (slice_set bs k true) (slices + 1) None
running-set bs slices k grid h e r two =
    let ends = started bs slices grid r two in
    let size = length-marked_set k bs h e in
    let more : 2 ≤ length (marked 0 (slice_set bs k true)) = omega (arith, size, two) in record {
      ends = λ some. ends-set bs k h ends;
      small = omega (arith, r.small, length-set bs k true);
      count = omega (arith, size, two, r.count);
      same = tt;
    }

pub slices-few : (bs : List Bool) (slices : ℕ) (grid : Option (List ℕ)) → IsRunning bs slices grid → slices ≤ 100000
slices-few bs slices grid r = omega (arith, r.count, r.small, length-marked 0 bs)

-- marks that stand stay
pub stays-marked : (bs : List Bool) (k j : ℕ) → k < length bs → slice_index_or bs j false ≡ true → slice_index_or (slice_set bs k true) j false ≡ true
stays-marked bs k j h e = get_or-marked bs k j h e

-- ---- a cut

pub record IsCut (bs : List Bool) (slices : ℕ) (grid : Option (List ℕ)) (k : ℕ) (old : List ℕ) : Type 0 where
  pub view : marked 0 bs ≡ old
  pub running : IsRunning bs slices grid
  pub rises : IsGrid old
  pub within : k ≤ last_tick old

pub cut-ends : (bs : List Bool) (slices : ℕ) (grid : Option (List ℕ)) (k : ℕ) (old : List ℕ) → IsCut bs slices grid k old → AreEnds bs
cut-ends bs slices grid k old c = started bs slices grid c.running (subst (λ (xs : List ℕ). 2 ≤ length xs) (sym c.view) c.rises.slices)

pub cut-inside : (bs : List Bool) (slices : ℕ) (grid : Option (List ℕ)) (k : ℕ) (old : List ℕ) → IsCut bs slices grid k old → k < length bs
cut-inside bs slices grid k old c = within bs k (cut-ends bs slices grid k old c) (subst (λ (xs : List ℕ). k ≤ last_tick xs) (sym c.view) c.within)

pub cut-same : (bs : List Bool) (slices : ℕ) (grid : Option (List ℕ)) (k : ℕ) (old : List ℕ) → IsCut bs slices grid k old → slice_index_or bs k false ≡ true → old ≡ with_tick old k
cut-same bs slices grid k old c e =
    let inside = cut-inside bs slices grid k old c in
    subst (λ (xs : List ℕ). xs ≡ with_tick xs k) c.view (ap (marked 0) (sym (set-marked k bs inside e)) ∙ marked-set k bs inside)

pub cut-value : (bs : List Bool) (slices : ℕ) (grid : Option (List ℕ)) (k : ℕ) (old : List ℕ) → IsCut bs slices grid k old → marked 0 (slice_set bs k true) ≡ with_tick old k
cut-value bs slices grid k old c = marked-set k bs (cut-inside bs slices grid k old c) ∙ ap (λ (xs : List ℕ). with_tick xs k) c.view

pub cut-running : (bs : List Bool) (slices : ℕ) (grid : Option (List ℕ)) (k : ℕ) (old : List ℕ) → IsCut bs slices grid k old → slice_index_or bs k false ≡ false → IsRunning (slice_set bs k true) (slices + 1) None
cut-running bs slices grid k old c e =
    running-set bs slices k grid (cut-inside bs slices grid k old c) e c.running (subst (λ (xs : List ℕ). 2 ≤ length xs) (sym c.view) c.rises.slices)

pub cut-grid : (bs : List Bool) (slices : ℕ) (grid : Option (List ℕ)) (k : ℕ) (old : List ℕ) → IsCut bs slices grid k old → IsGrid (marked 0 (slice_set bs k true))
cut-grid bs slices grid k old c = marked-grid (slice_set bs k true) (ends-set bs k (cut-inside bs slices grid k old c) (cut-ends bs slices grid k old c))

pub cut-last : (bs : List Bool) (slices : ℕ) (grid : Option (List ℕ)) (k : ℕ) (old : List ℕ) → IsCut bs slices grid k old → last_tick (marked 0 (slice_set bs k true)) ≡ last_tick old
cut-last bs slices grid k old c = last-set bs k (cut-inside bs slices grid k old c) (cut-ends bs slices grid k old c) ∙ ap last_tick c.view

-- ---- the marks of a grid

-- one boundary more
pub grid-more : (bs : List Bool) (grid : List ℕ) (i : ℕ) → IsGrid grid → i < length grid → length bs ≡ last_tick grid + 1 → slice_index grid i ≤ last_tick grid → marked 0 bs ≡ take i grid
    → marked 0 (slice_set bs (slice_index grid i) true) ≡ take (i + 1) grid
grid-more bs grid i g h size low e =
    let below : (j : ℕ) → j < length (take i grid) → slice_index (take i grid) j < slice_index grid i =
    λ j k. let shorter : j < i = omega (arith, length-take i grid, k) in
    let same : slice_index (take i grid) j ≡ slice_index grid j = get_or-take i grid j 0 shorter in
    omega (arith, same, rising-lt grid g.rising j i shorter h) in
    marked-set (slice_index grid i) bs (omega (arith, size, low))
    ∙ (ap (λ (xs : List ℕ). with_tick xs (slice_index grid i)) e
    ∙ (with_tick-last (take i grid) (slice_index grid i) below ∙ sym (take_more grid i 0 h)))

pub grid-within : (grid : List ℕ) (i : ℕ) → IsGrid grid → i < length grid → slice_index grid i ≤ last_tick grid
grid-within grid i g h = rising-le grid g.rising i (length grid - 1) (omega (arith, h)) (omega (arith, h))

-- which boundaries are marked, after one more mark
pub all-more : (bs : List Bool) (grid : List ℕ) (i : ℕ) → slice_index grid i < length bs → ((k : ℕ) → k < i → slice_index_or bs (slice_index grid k) false ≡ true)
    → (k : ℕ) → k < i + 1 → slice_index_or (slice_set bs (slice_index grid i) true) (slice_index grid k) false ≡ true
all-more bs grid i h all k below = elim (split k i below) [
  | inl less ↦ get_or-marked bs (slice_index grid i) (slice_index grid k) h (all k less)
  | inr same ↦ rw same (get_or-set_same bs (slice_index grid i) true false h)
]
  where
    split : (k i : ℕ) → k < i + 1 → (k < i) ⊎ (k ≡ i)
    split k i h = grind arith

-- all boundaries are marked
pub all-ends : (bs : List Bool) (grid : List ℕ) → IsGrid grid → length bs ≡ last_tick grid + 1 → ((k : ℕ) → k < length grid → slice_index_or bs (slice_index grid k) false ≡ true) → AreEnds bs
all-ends bs grid g size all =
    let spread : 1 ≤ last_tick grid = omega (arith, rising-lt grid g.rising 0 (length grid - 1) (omega (arith, g.slices)) (omega (arith, g.slices))) in
    let last : length bs - 1 ≡ last_tick grid = omega (arith, size) in record {
      some_tick = omega (arith, size, spread);
      few_ticks = omega (arith, size, g.ends);
      first = subst (λ (k : ℕ). slice_index_or bs k false ≡ true) g.starts (all 0 (omega (arith, g.slices)));
      last = subst (λ (k : ℕ). slice_index_or bs k false ≡ true) (sym last) (all (length grid - 1) (omega (arith, g.slices)));
    }
