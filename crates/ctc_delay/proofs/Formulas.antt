-- What the formulas give of the readings of a box.
use Rattle.std.proofs.Common.{◌≡◌, ℕ, ◌+◌, ◌-◌, ◌<◌, Bool, true, false, cond, List, Option, ℤ, pos, ◌+ℤ◌, ◌≤ℤ◌, int_le, refl, sym, ap, subst, ◌∙◌, length, slice_index}
use Rattle.tube_spec.specs.Span.{Span}
use Rattle.tube_spec.specs.Narrowing.{Narrowing, Whole, narrowing_of}
use Rattle.tube_spec.specs.Grid.{last_tick}
use Rattle.tube_spec.specs.Shape.{Shape}
use Rattle.tube_spec.specs.Box.{cell_at}
use Rattle.tube_spec.specs.Projection.{Projection}
use Rattle.ctc_core.specs.Given.{projection_at}
use Rattle.ctc_delay.specs.Places.{place_first, place_last}
use Rattle.ctc_delay.specs.Delays.{at_tick_from, delayed_hull, delay_to_projections, delay_from_projections}
use Rattle.ctc_delay.specs.Hulls.{int_le-true, le-int_le}
use Rattle.ctc_delay.proofs.Counts.{to-at, from-at}

-- what is held only where one number is at most another
pub guarded : (a b : ℤ) (h : Option Span) → a ≤ℤ b → narrowing_of h ≡ cond (int_le a b) (narrowing_of h) Whole
guarded a b h l = ap (λ (t : Bool). cond t (narrowing_of h) Whole) (sym (le-int_le a b l))

unguarded : (a b : ℤ) (h : Option Span) → (a ≤ℤ b → ⊥) → Whole ≡ cond (int_le a b) (narrowing_of h) Whole
unguarded a b h past = at (int_le a b) (λ e. past (int_le-true a b e))
  where
    at : (t : Bool) → (t ≡ true → ⊥) → Whole ≡ cond t (narrowing_of h) Whole
    at true f = absurd (f refl)
    at false f = refl

-- a reading of the variable's cell
read-at : (xs : List Span) (t : Span) (cell var : ℕ) → t ≡ cell_at xs cell → cell ≡ var → t ≡ cell_at xs var
read-at xs t cell var e c = e ∙ ap (cell_at xs) c

module _ (s : Shape) (x y tau i : ℕ) (xs : List Span) (t : Span) (cell : ℕ) (is : t ≡ cell_at xs cell) (var : cell ≡ slice_index s.vars tau) where
  module _ (below : i < length (delay_to_projections s x y tau)) where
    pub to-given : (first last : ℕ) (given : Narrowing) (h : Option Span) → first ≡ place_first s.grid i → last ≡ place_last s.grid i → t.hi ≤ℤ pos first → given ≡ narrowing_of h
        → h ≡ delayed_hull (λ k d. at_tick_from s.grid xs (slice_index s.signals x) (k - d)) t (last_tick s.grid) first last → given ≡ (projection_at (delay_to_projections s x y tau) i).formula xs
    to-given first last given h ef el reached eg eh =
        let X : ℕ → ℕ → Span = λ k d. at_tick_from s.grid xs (slice_index s.signals x) (k - d) in
        let here = delayed_hull X t (last_tick s.grid) (place_first s.grid i) (place_last s.grid i) in
        eg ∙ ap narrowing_of (eh ∙ ap (λ (a : ℕ). delayed_hull X t (last_tick s.grid) a last) ef ∙ ap (λ (b : ℕ). delayed_hull X t (last_tick s.grid) (place_first s.grid i) b) el)
        ∙ guarded t.hi (pos (place_first s.grid i)) here (subst (λ (a : ℕ). t.hi ≤ℤ pos a) ef reached)
        ∙ ap (λ (v : Span). cond (int_le v.hi (pos (place_first s.grid i))) (narrowing_of (delayed_hull X v (last_tick s.grid) (place_first s.grid i) (place_last s.grid i))) Whole) (read-at xs t cell (slice_index s.vars tau) is var)
        ∙ ap (λ (p : Projection). p.formula xs) (sym (to-at s x y tau i below))

    pub to-whole : (first : ℕ) → first ≡ place_first s.grid i → (t.hi ≤ℤ pos first → ⊥) → Whole ≡ (projection_at (delay_to_projections s x y tau) i).formula xs
    to-whole first ef past =
        let X : ℕ → ℕ → Span = λ k d. at_tick_from s.grid xs (slice_index s.signals x) (k - d) in
        unguarded t.hi (pos (place_first s.grid i)) (delayed_hull X t (last_tick s.grid) (place_first s.grid i) (place_last s.grid i)) (λ l. past (subst (λ (a : ℕ). t.hi ≤ℤ pos a) (sym ef) l))
        ∙ ap (λ (v : Span). cond (int_le v.hi (pos (place_first s.grid i))) (narrowing_of (delayed_hull X v (last_tick s.grid) (place_first s.grid i) (place_last s.grid i))) Whole) (read-at xs t cell (slice_index s.vars tau) is var)
        ∙ ap (λ (p : Projection). p.formula xs) (sym (to-at s x y tau i below))

  module _ (below : i < length (delay_from_projections s x y tau)) where
    pub from-given : (first last : ℕ) (given : Narrowing) (h : Option Span) → first ≡ place_first s.grid i → last ≡ place_last s.grid i → (pos last +ℤ t.hi) ≤ℤ pos (last_tick s.grid) → given ≡ narrowing_of h
        → h ≡ delayed_hull (λ j d. at_tick_from s.grid xs (slice_index s.signals y) (j + d)) t (last_tick s.grid) first last → given ≡ (projection_at (delay_from_projections s x y tau) i).formula xs
    from-given first last given h ef el reached eg eh =
        let Y : ℕ → ℕ → Span = λ j d. at_tick_from s.grid xs (slice_index s.signals y) (j + d) in
        let here = delayed_hull Y t (last_tick s.grid) (place_first s.grid i) (place_last s.grid i) in
        eg ∙ ap narrowing_of (eh ∙ ap (λ (a : ℕ). delayed_hull Y t (last_tick s.grid) a last) ef ∙ ap (λ (b : ℕ). delayed_hull Y t (last_tick s.grid) (place_first s.grid i) b) el)
        ∙ guarded (pos (place_last s.grid i) +ℤ t.hi) (pos (last_tick s.grid)) here (subst (λ (b : ℕ). (pos b +ℤ t.hi) ≤ℤ pos (last_tick s.grid)) el reached)
        ∙ ap (λ (v : Span). cond (int_le (pos (place_last s.grid i) +ℤ v.hi) (pos (last_tick s.grid))) (narrowing_of (delayed_hull Y v (last_tick s.grid) (place_first s.grid i) (place_last s.grid i))) Whole) (read-at xs t cell (slice_index s.vars tau) is var)
        ∙ ap (λ (p : Projection). p.formula xs) (sym (from-at s x y tau i below))

    pub from-whole : (last : ℕ) → last ≡ place_last s.grid i → ((pos last +ℤ t.hi) ≤ℤ pos (last_tick s.grid) → ⊥) → Whole ≡ (projection_at (delay_from_projections s x y tau) i).formula xs
    from-whole last el past =
        let Y : ℕ → ℕ → Span = λ j d. at_tick_from s.grid xs (slice_index s.signals y) (j + d) in
        unguarded (pos (place_last s.grid i) +ℤ t.hi) (pos (last_tick s.grid)) (delayed_hull Y t (last_tick s.grid) (place_first s.grid i) (place_last s.grid i)) (λ l. past (subst (λ (b : ℕ). (pos b +ℤ t.hi) ≤ℤ pos (last_tick s.grid)) (sym el) l))
        ∙ ap (λ (v : Span). cond (int_le (pos (place_last s.grid i) +ℤ v.hi) (pos (last_tick s.grid))) (narrowing_of (delayed_hull Y v (last_tick s.grid) (place_first s.grid i) (place_last s.grid i))) Whole) (read-at xs t cell (slice_index s.vars tau) is var)
        ∙ ap (λ (p : Projection). p.formula xs) (sym (from-at s x y tau i below))
