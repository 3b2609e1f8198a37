-- The laws of the delay constraint as three contractors, over plain numbers.
use Rattle.std.proofs.Common.{◌≡◌, ℕ, ◌+◌, ◌-◌, ◌<◌, ◌&&◌, cond, List, [], ◌∷◌, ◌++◌, Option, pos, ◌+ℤ◌, int_le, arith, refl, sym, ap, ap₂, subst, ◌∙◌, length, length-append, All, Contains, get_or, slice_index}
use Rattle.std.proofs.Math.ListN.{get_or-append}
use Rattle.std.proofs.lemmas.Int.{ints}
use Rattle.std.proofs.lemmas.List.Elements.{All-from_recursion, All-append, Contains-append_left, Contains-append_right}
use Rattle.std.proofs.lemmas.List.FromFn.{length-map-range_with_len, get_or-map-range_with_len}
use Rattle.tube_spec.specs.Span.{Span, IsWithin, point}
use Rattle.tube_spec.specs.Hull.{IsWithinOption}
use Rattle.tube_spec.specs.Narrowing.{Whole, narrowing_of}
use Rattle.tube_spec.specs.Grid.{last_tick}
use Rattle.tube_spec.specs.Shape.{Shape, IsShape, Extends}
use Rattle.tube_spec.specs.Box.{cell_at}
use Rattle.tube_spec.specs.Tick.{tick_place}
use Rattle.tube_spec.specs.Projection.{Projection, IsMonotone, ReadsOnly}
use Rattle.tube_spec.proofs.Spans.{IsWithin-refl, narrowing_of-mono}
use Rattle.int_interval.proofs.Hulls.{same_hull}
use Rattle.slice_gates.proofs.Places.{tick_place-lt}
use Rattle.ctc_delay.specs.Places.{place_count, place_first, place_last, each_place, signal_cells}
use Rattle.ctc_delay.specs.Delays.{at_tick_from, lies_in, delayed_hull, is_possible, possible_hull, delay_to_at, delay_from_at, delay_shift_at, delay_to_projections, delay_from_projections, delay_shift_projections, delay_to_scope, delay_from_scope, delay_shift_scope, DelayFits}
use Rattle.int_interval.specs.Inverse.{meets}
use Rattle.ctc_delay.specs.Hulls.{and-left, and-right, and-both, int_le-true, le-int_le, lies_in-mono, shares-mono, passes-mono, counted-hull-holds, counted-hull-least, delayed-mono, guarded-mono}

-- ---- one for each place

pub length-each_place : {X : Type 0} (grid : List ℕ) (f : ℕ → X) → length (each_place grid f) ≡ place_count grid
length-each_place grid f = length-map-range_with_len f 0 (place_count grid)

pub at-each_place : {X : Type 0} (grid : List ℕ) (f : ℕ → X) (place : ℕ) (d : X) → place < place_count grid → get_or (each_place grid f) place d ≡ f place
at-each_place grid f place d l = get_or-map-range_with_len f 0 (place_count grid) place place d l (omega arith)

pub All-each_place : {X : Type 0} (P : X → Type 0) (grid : List ℕ) (f : ℕ → X) → ((place : ℕ) → place < place_count grid → P (f place)) → All P (each_place grid f)
All-each_place P grid f h k d l =
    let among : k < place_count grid = subst (λ (n : ℕ). k < n) (length-each_place grid f) l in
    subst P (sym (at-each_place grid f k d among)) (h k among)

-- ---- what is read

-- each tick is at a cell of the signal, whatever the grid
tick_place-among : (grid : List ℕ) (k : ℕ) → tick_place grid k < place_count grid
tick_place-among [] k = omega arith
tick_place-among (a ∷ rest) k = omega (arith, tick_place-lt (a ∷ rest) k (omega arith))

signal_cells-has : (grid : List ℕ) (first k : ℕ) → Contains (signal_cells grid first) (first + tick_place grid k)
signal_cells-has grid first k =
    let l = tick_place-among grid k in
    let at = at-each_place grid (λ (place : ℕ). first + place) (tick_place grid k) (first + tick_place grid k) l in
    (tick_place grid k, subst (λ (n : ℕ). tick_place grid k < n) (sym (length-each_place grid (λ (place : ℕ). first + place))) l, at)

last-has : (cells : List ℕ) (cell : ℕ) → Contains (cells ++ cell ∷ []) cell
last-has cells cell = Contains-append_right cells (cell ∷ []) cell (0, omega arith, refl)

-- ---- less in a lesser box, and the same where the cells that are read are the same

delays-mono : (grid : List ℕ) (xs ys : List Span) (x y : ℕ) (tau wider : Span) → IsWithin tau wider → ((k : ℕ) → IsWithin (at_tick_from grid xs x k) (at_tick_from grid ys x k)) → ((k : ℕ) → IsWithin (at_tick_from grid xs y k) (at_tick_from grid ys y k))
    → IsWithinOption (possible_hull grid xs x y tau) (possible_hull grid ys x y wider)
delays-mono grid xs ys x y tau wider w hx hy =
    counted-hull-least (λ d. lies_in tau d && is_possible grid xs x y d) (λ d. point (pos d)) (last_tick grid + 1) (possible_hull grid ys x y wider) (λ d l e.
    let inside = lies_in-mono tau wider d w (and-left (lies_in tau d) (is_possible grid xs x y d) e) in
    let possible =
    passes-mono (λ k. meets (at_tick_from grid xs x (k - d)) (at_tick_from grid xs y k)) (λ k. meets (at_tick_from grid ys x (k - d)) (at_tick_from grid ys y k)) d (last_tick grid - d)
    (λ k m. shares-mono (at_tick_from grid xs x (k - d)) (at_tick_from grid xs y k) (at_tick_from grid ys x (k - d)) (at_tick_from grid ys y k) (hx (k - d)) (hy k) m)
    (and-right (lies_in tau d) (is_possible grid xs x y d) e) in
    counted-hull-holds (λ d. lies_in wider d && is_possible grid ys x y d) (λ d. point (pos d)) (last_tick grid + 1) d l (and-both (lies_in wider d) (is_possible grid ys x y d) inside possible))

pub to-mono : (Fits : List Span → Type 0) (grid : List ℕ) (x y tau place : ℕ) → IsMonotone Fits (delay_to_at grid x y tau place)
to-mono Fits grid x y tau place xs ys bx by fits low =
    let w = low.each tau in
    guarded-mono (int_le (cell_at xs tau).hi (pos (place_first grid place))) (int_le (cell_at ys tau).hi (pos (place_first grid place)))
    (delayed_hull (λ k d. at_tick_from grid xs x (k - d)) (cell_at xs tau) (last_tick grid) (place_first grid place) (place_last grid place))
    (delayed_hull (λ k d. at_tick_from grid ys x (k - d)) (cell_at ys tau) (last_tick grid) (place_first grid place) (place_last grid place))
    (λ e. le-int_le (cell_at xs tau).hi (pos (place_first grid place)) (omega (arith, ints, w.high, int_le-true (cell_at ys tau).hi (pos (place_first grid place)) e)))
    (delayed-mono (λ k d. at_tick_from grid xs x (k - d)) (λ k d. at_tick_from grid ys x (k - d)) (cell_at xs tau) (cell_at ys tau) (last_tick grid) (place_first grid place) (place_last grid place) w (λ k d. low.each (x + tick_place grid (k - d))))

pub from-mono : (Fits : List Span → Type 0) (grid : List ℕ) (x y tau place : ℕ) → IsMonotone Fits (delay_from_at grid x y tau place)
from-mono Fits grid x y tau place xs ys bx by fits low =
    let w = low.each tau in
    let end = place_last grid place in
    guarded-mono (int_le (pos end +ℤ (cell_at xs tau).hi) (pos (last_tick grid))) (int_le (pos end +ℤ (cell_at ys tau).hi) (pos (last_tick grid)))
    (delayed_hull (λ j d. at_tick_from grid xs y (j + d)) (cell_at xs tau) (last_tick grid) (place_first grid place) (place_last grid place))
    (delayed_hull (λ j d. at_tick_from grid ys y (j + d)) (cell_at ys tau) (last_tick grid) (place_first grid place) (place_last grid place))
    (λ e. le-int_le (pos end +ℤ (cell_at xs tau).hi) (pos (last_tick grid)) (omega (arith, ints, w.high, int_le-true (pos end +ℤ (cell_at ys tau).hi) (pos (last_tick grid)) e)))
    (delayed-mono (λ j d. at_tick_from grid xs y (j + d)) (λ j d. at_tick_from grid ys y (j + d)) (cell_at xs tau) (cell_at ys tau) (last_tick grid) (place_first grid place) (place_last grid place) w (λ j d. low.each (y + tick_place grid (j + d))))

shift-mono : (Fits : List Span → Type 0) (grid : List ℕ) (x y tau : ℕ) → IsMonotone Fits (delay_shift_at grid x y tau)
shift-mono Fits grid x y tau xs ys bx by fits low =
    narrowing_of-mono (possible_hull grid xs x y (cell_at xs tau)) (possible_hull grid ys x y (cell_at ys tau))
    (delays-mono grid xs ys x y (cell_at xs tau) (cell_at ys tau) (low.each tau) (λ k. low.each (x + tick_place grid k)) (λ k. low.each (y + tick_place grid k)))

same-within : (a b : Span) → a ≡ b → IsWithin a b
same-within a b e = subst (IsWithin a) e (IsWithin-refl a)

same-delayed : (f g : ℕ → ℕ → Span) (tau sigma : Span) (last a b : ℕ) → tau ≡ sigma → ((k d : ℕ) → f k d ≡ g k d) → delayed_hull f tau last a b ≡ delayed_hull g sigma last a b
same-delayed f g tau sigma last a b e h =
    same_hull (delayed_hull f tau last a b) (delayed_hull g sigma last a b)
    (delayed-mono f g tau sigma last a b (same-within tau sigma e) (λ k d. same-within (f k d) (g k d) (h k d)))
    (delayed-mono g f sigma tau last a b (same-within sigma tau (sym e)) (λ k d. same-within (g k d) (f k d) (sym (h k d))))

to-reads : (Fits : List Span → Type 0) (grid scope : List ℕ) (x y tau place : ℕ) → ((k : ℕ) → Contains scope (x + tick_place grid k)) → Contains scope tau → ReadsOnly Fits scope (delay_to_at grid x y tau place)
to-reads Fits grid scope x y tau place has_x has_tau xs ys fx fy same =
    let e = same tau has_tau in
    ap₂ (λ (s : Span) (h : Option Span). cond (int_le s.hi (pos (place_first grid place))) (narrowing_of h) Whole) e
    (same-delayed (λ k d. at_tick_from grid xs x (k - d)) (λ k d. at_tick_from grid ys x (k - d)) (cell_at xs tau) (cell_at ys tau) (last_tick grid) (place_first grid place) (place_last grid place) e (λ k d. same (x + tick_place grid (k - d)) (has_x (k - d))))

from-reads : (Fits : List Span → Type 0) (grid scope : List ℕ) (x y tau place : ℕ) → ((k : ℕ) → Contains scope (y + tick_place grid k)) → Contains scope tau → ReadsOnly Fits scope (delay_from_at grid x y tau place)
from-reads Fits grid scope x y tau place has_y has_tau xs ys fx fy same =
    let e = same tau has_tau in
    ap₂ (λ (s : Span) (h : Option Span). cond (int_le (pos (place_last grid place) +ℤ s.hi) (pos (last_tick grid))) (narrowing_of h) Whole) e
    (same-delayed (λ j d. at_tick_from grid xs y (j + d)) (λ j d. at_tick_from grid ys y (j + d)) (cell_at xs tau) (cell_at ys tau) (last_tick grid) (place_first grid place) (place_last grid place) e (λ j d. same (y + tick_place grid (j + d)) (has_y (j + d))))

shift-reads : (Fits : List Span → Type 0) (grid scope : List ℕ) (x y tau : ℕ) → ((k : ℕ) → Contains scope (x + tick_place grid k)) → ((k : ℕ) → Contains scope (y + tick_place grid k)) → Contains scope tau → ReadsOnly Fits scope (delay_shift_at grid x y tau)
shift-reads Fits grid scope x y tau has_x has_y has_tau xs ys fx fy same =
    let e = same tau has_tau in
    let at = λ (first : ℕ) (has : (k : ℕ) → Contains scope (first + tick_place grid k)) (k : ℕ). same (first + tick_place grid k) (has k) in
    ap narrowing_of (same_hull (possible_hull grid xs x y (cell_at xs tau)) (possible_hull grid ys x y (cell_at ys tau))
    (delays-mono grid xs ys x y (cell_at xs tau) (cell_at ys tau) (same-within _ _ e) (λ k. same-within _ _ (at x has_x k)) (λ k. same-within _ _ (at y has_y k)))
    (delays-mono grid ys xs x y (cell_at ys tau) (cell_at xs tau) (same-within _ _ (sym e)) (λ k. same-within _ _ (sym (at x has_x k))) (λ k. same-within _ _ (sym (at y has_y k)))))

-- ---- the laws

pub delay_to-monotone : (Fits : List Span → Type 0) (s : Shape) (x y tau : ℕ) → All (IsMonotone Fits) (delay_to_projections s x y tau)
delay_to-monotone Fits s x y tau =
    All-each_place (IsMonotone Fits) s.grid (delay_to_at s.grid (slice_index s.signals x) (slice_index s.signals y) (slice_index s.vars tau)) (λ place l.
    to-mono Fits s.grid (slice_index s.signals x) (slice_index s.signals y) (slice_index s.vars tau) place)

pub delay_from-monotone : (Fits : List Span → Type 0) (s : Shape) (x y tau : ℕ) → All (IsMonotone Fits) (delay_from_projections s x y tau)
delay_from-monotone Fits s x y tau =
    All-each_place (IsMonotone Fits) s.grid (delay_from_at s.grid (slice_index s.signals x) (slice_index s.signals y) (slice_index s.vars tau)) (λ place l.
    from-mono Fits s.grid (slice_index s.signals x) (slice_index s.signals y) (slice_index s.vars tau) place)

pub delay_shift-monotone : (Fits : List Span → Type 0) (s : Shape) (x y tau : ℕ) → All (IsMonotone Fits) (delay_shift_projections s x y tau)
delay_shift-monotone Fits s x y tau =
    All-from_recursion (IsMonotone Fits) (delay_shift_projections s x y tau) (shift-mono Fits s.grid (slice_index s.signals x) (slice_index s.signals y) (slice_index s.vars tau), tt)

pub delay_to-reads_only : (Fits : List Span → Type 0) (s : Shape) (x y tau : ℕ) → All (ReadsOnly Fits (delay_to_scope s x tau)) (delay_to_projections s x y tau)
delay_to-reads_only Fits s x y tau =
    let cells = signal_cells s.grid (slice_index s.signals x) in
    All-each_place (ReadsOnly Fits (delay_to_scope s x tau)) s.grid (delay_to_at s.grid (slice_index s.signals x) (slice_index s.signals y) (slice_index s.vars tau)) (λ place l.
    to-reads Fits s.grid (delay_to_scope s x tau) (slice_index s.signals x) (slice_index s.signals y) (slice_index s.vars tau) place
    (λ k. Contains-append_left cells (slice_index s.vars tau ∷ []) (slice_index s.signals x + tick_place s.grid k) (signal_cells-has s.grid (slice_index s.signals x) k)) (last-has cells (slice_index s.vars tau)))

pub delay_from-reads_only : (Fits : List Span → Type 0) (s : Shape) (x y tau : ℕ) → All (ReadsOnly Fits (delay_from_scope s y tau)) (delay_from_projections s x y tau)
delay_from-reads_only Fits s x y tau =
    let cells = signal_cells s.grid (slice_index s.signals y) in
    All-each_place (ReadsOnly Fits (delay_from_scope s y tau)) s.grid (delay_from_at s.grid (slice_index s.signals x) (slice_index s.signals y) (slice_index s.vars tau)) (λ place l.
    from-reads Fits s.grid (delay_from_scope s y tau) (slice_index s.signals x) (slice_index s.signals y) (slice_index s.vars tau) place
    (λ k. Contains-append_left cells (slice_index s.vars tau ∷ []) (slice_index s.signals y + tick_place s.grid k) (signal_cells-has s.grid (slice_index s.signals y) k)) (last-has cells (slice_index s.vars tau)))

pub delay_shift-reads_only : (Fits : List Span → Type 0) (s : Shape) (x y tau : ℕ) → All (ReadsOnly Fits (delay_shift_scope s x y tau)) (delay_shift_projections s x y tau)
delay_shift-reads_only Fits s x y tau =
    let fx = slice_index s.signals x in
    let fy = slice_index s.signals y in
    let v = slice_index s.vars tau in
    let rest : List ℕ = signal_cells s.grid fy ++ v ∷ [] in
    All-from_recursion (ReadsOnly Fits (delay_shift_scope s x y tau)) (delay_shift_projections s x y tau) (
      shift-reads Fits s.grid (delay_shift_scope s x y tau) fx fy v
          (λ k. Contains-append_left (signal_cells s.grid fx) rest (fx + tick_place s.grid k) (signal_cells-has s.grid fx k))
          (λ k. Contains-append_right (signal_cells s.grid fx) rest (fy + tick_place s.grid k) (Contains-append_left (signal_cells s.grid fy) (v ∷ []) (fy + tick_place s.grid k) (signal_cells-has s.grid fy k)))
          (Contains-append_right (signal_cells s.grid fx) rest v (last-has (signal_cells s.grid fy) v)),
      tt,
    )

-- the cells of the names are of the store
module _ (s : Shape) (shape : IsShape s) where
  signal-in : (signal place : ℕ) → signal < length s.signals → place < place_count s.grid → slice_index s.signals signal + place < s.cells
  signal-in signal place named l = omega (arith, shape.signals signal 0 named, shape.grid.slices, l)

  signal_cells-in : (signal : ℕ) → signal < length s.signals → All (λ k. k < s.cells) (signal_cells s.grid (slice_index s.signals signal))
  signal_cells-in signal named = All-each_place (λ (k : ℕ). k < s.cells) s.grid (λ (place : ℕ). slice_index s.signals signal + place) (λ place l. signal-in signal place named l)

  var-in : (tau : ℕ) → tau < length s.vars → All (λ k. k < s.cells) (slice_index s.vars tau ∷ [])
  var-in tau named = All-from_recursion (λ (k : ℕ). k < s.cells) (slice_index s.vars tau ∷ []) (shape.vars tau 0 named, tt)

pub delay_to-in_store : (s : Shape) (x y tau : ℕ) → IsShape s → DelayFits s x y tau → All (λ k. k < s.cells) (delay_to_scope s x tau) × All (λ (p : Projection). p.target < s.cells) (delay_to_projections s x y tau)
delay_to-in_store s x y tau shape fits = (
  All-append (λ (k : ℕ). k < s.cells) (signal_cells s.grid (slice_index s.signals x)) (slice_index s.vars tau ∷ []) (signal_cells-in s shape x fits.0) (var-in s shape tau fits.2),
  All-each_place (λ (p : Projection). p.target < s.cells) s.grid (delay_to_at s.grid (slice_index s.signals x) (slice_index s.signals y) (slice_index s.vars tau)) (λ place l. signal-in s shape y place fits.1 l),
)

pub delay_from-in_store : (s : Shape) (x y tau : ℕ) → IsShape s → DelayFits s x y tau → All (λ k. k < s.cells) (delay_from_scope s y tau) × All (λ (p : Projection). p.target < s.cells) (delay_from_projections s x y tau)
delay_from-in_store s x y tau shape fits = (
  All-append (λ (k : ℕ). k < s.cells) (signal_cells s.grid (slice_index s.signals y)) (slice_index s.vars tau ∷ []) (signal_cells-in s shape y fits.1) (var-in s shape tau fits.2),
  All-each_place (λ (p : Projection). p.target < s.cells) s.grid (delay_from_at s.grid (slice_index s.signals x) (slice_index s.signals y) (slice_index s.vars tau)) (λ place l. signal-in s shape x place fits.0 l),
)

pub delay_shift-in_store : (s : Shape) (x y tau : ℕ) → IsShape s → DelayFits s x y tau → All (λ k. k < s.cells) (delay_shift_scope s x y tau) × All (λ (p : Projection). p.target < s.cells) (delay_shift_projections s x y tau)
delay_shift-in_store s x y tau shape fits = (
  All-append (λ (k : ℕ). k < s.cells) (signal_cells s.grid (slice_index s.signals x)) (signal_cells s.grid (slice_index s.signals y) ++ slice_index s.vars tau ∷ []) (signal_cells-in s shape x fits.0)
      (All-append (λ (k : ℕ). k < s.cells) (signal_cells s.grid (slice_index s.signals y)) (slice_index s.vars tau ∷ []) (signal_cells-in s shape y fits.1) (var-in s shape tau fits.2)),
  All-from_recursion (λ (p : Projection). p.target < s.cells) (delay_shift_projections s x y tau) (shape.vars tau 0 fits.2, tt),
)

-- additions leave the names where they were
more-named : (old more new : List ℕ) (i : ℕ) → new ≡ old ++ more → i < length old → (i < length new) × (slice_index new i ≡ slice_index old i)
more-named old more new i e l = (
  omega (arith, l, ap length e, length-append old more),
  ap (λ (names : List ℕ). slice_index names i) e ∙ get_or-append old more 0 i l,
)

pub delay-fits_more : (s t : Shape) (x y tau : ℕ) → Extends s t → DelayFits s x y tau → DelayFits t x y tau
delay-fits_more s t x y tau grows fits = (
  (more-named s.signals grows.signals.0 t.signals x grows.signals.1 fits.0).0,
  (more-named s.signals grows.signals.0 t.signals y grows.signals.1 fits.1).0,
  (more-named s.vars grows.vars.0 t.vars tau grows.vars.1 fits.2).0,
)

-- so all that is made of the grid and the cells of the names stays the same
same-made : {X : Type 0} (make : List ℕ → ℕ → ℕ → ℕ → X) (s t : Shape) (x y tau : ℕ) → Extends s t → DelayFits s x y tau
    → make t.grid (slice_index t.signals x) (slice_index t.signals y) (slice_index t.vars tau) ≡ make s.grid (slice_index s.signals x) (slice_index s.signals y) (slice_index s.vars tau)
same-made make s t x y tau grows fits =
    let ex = (more-named s.signals grows.signals.0 t.signals x grows.signals.1 fits.0).1 in
    let ey = (more-named s.signals grows.signals.0 t.signals y grows.signals.1 fits.1).1 in
    let ev = (more-named s.vars grows.vars.0 t.vars tau grows.vars.1 fits.2).1 in
    ap₂ (λ (f g : ℕ). make t.grid f g (slice_index t.vars tau)) ex ey
    ∙ ap₂ (λ (grid : List ℕ) (v : ℕ). make grid (slice_index s.signals x) (slice_index s.signals y) v) grows.grid ev

pub delay_to-same_projections : (s t : Shape) (x y tau : ℕ) → Extends s t → DelayFits s x y tau → delay_to_projections t x y tau ≡ delay_to_projections s x y tau
delay_to-same_projections s t x y tau grows fits =
    same-made (λ (grid : List ℕ) (x y tau : ℕ). each_place grid (delay_to_at grid x y tau)) s t x y tau grows fits

pub delay_from-same_projections : (s t : Shape) (x y tau : ℕ) → Extends s t → DelayFits s x y tau → delay_from_projections t x y tau ≡ delay_from_projections s x y tau
delay_from-same_projections s t x y tau grows fits =
    same-made (λ (grid : List ℕ) (x y tau : ℕ). each_place grid (delay_from_at grid x y tau)) s t x y tau grows fits

pub delay_shift-same_projections : (s t : Shape) (x y tau : ℕ) → Extends s t → DelayFits s x y tau → delay_shift_projections t x y tau ≡ delay_shift_projections s x y tau
delay_shift-same_projections s t x y tau grows fits =
    same-made (λ (grid : List ℕ) (x y tau : ℕ). let ps : List Projection = delay_shift_at grid x y tau ∷ [] in ps) s t x y tau grows fits

pub delay_to-same_scope : (s t : Shape) (x y tau : ℕ) → Extends s t → DelayFits s x y tau → delay_to_scope t x tau ≡ delay_to_scope s x tau
delay_to-same_scope s t x y tau grows fits = same-made (λ (grid : List ℕ) (x y tau : ℕ). signal_cells grid x ++ tau ∷ []) s t x y tau grows fits

pub delay_from-same_scope : (s t : Shape) (x y tau : ℕ) → Extends s t → DelayFits s x y tau → delay_from_scope t y tau ≡ delay_from_scope s y tau
delay_from-same_scope s t x y tau grows fits = same-made (λ (grid : List ℕ) (x y tau : ℕ). signal_cells grid y ++ tau ∷ []) s t x y tau grows fits

pub delay_shift-same_scope : (s t : Shape) (x y tau : ℕ) → Extends s t → DelayFits s x y tau → delay_shift_scope t x y tau ≡ delay_shift_scope s x y tau
delay_shift-same_scope s t x y tau grows fits = same-made (λ (grid : List ℕ) (x y tau : ℕ). signal_cells grid x ++ (signal_cells grid y ++ tau ∷ [])) s t x y tau grows fits
