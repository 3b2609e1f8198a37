-- The signals, variables and cells of the shape are those that the records make.
use Rattle.std.proofs.Common.{◌≡◌, ℕ, ◌+◌, ◌-◌, ◌*◌, ◌≤◌, List, [], ◌∷◌, ◌++◌, refl, sym, arith, ap, ap₂, subst, ◌∙◌, length, length-append, map}
use Rattle.std.proofs.Math.Nat.{add-mul}
use Rattle.std.proofs.lemmas.List.Sums.{sum_by-cons}
use Rattle.tube_spec.specs.Span.{Span}
use Rattle.tube_spec.specs.Shape.{Shape, Extends, no_shape, with_signal, with_var}
use Rattle.tube_spec.specs.Owner.{SignalIn, VariableIn, with_owners}
use Rattle.tube_spec.proofs.Hulls.{with_owners-append, owners-extend}
use Rattle.mission_items.specs.declared.item.Item.{Item}
use Rattle.mission_items.specs.Made.{ranges_made, signal_made, signals_made, signals_in, variables_made, variables_in}
use Rattle.mission_items.specs.Room.{cells_of}
use Rattle.mission_items.proofs.Making.{length-signal_made, length-ranges_made}
use Rattle.mission_net.specs.Records.{made, owners_from, shape_by}

-- ---- signals alone, and variables alone

pub signals-signals : (rs : List Span) (s : Shape) → length (with_owners s (map SignalIn rs)).signals ≡ length s.signals + length rs
signals-signals [] s = omega arith
signals-signals (r ∷ rs) s = signals-signals rs (with_signal s) ∙ omega (arith, length-append s.signals (s.cells ∷ []))

pub signals-vars : (rs : List Span) (s : Shape) → length (with_owners s (map SignalIn rs)).vars ≡ length s.vars
signals-vars [] s = refl
signals-vars (r ∷ rs) s = signals-vars rs (with_signal s)

signals-cells : (rs : List Span) (s : Shape) → (with_owners s (map SignalIn rs)).cells ≡ s.cells + length rs * (2 * length s.grid - 1)
signals-cells [] s = omega arith
signals-cells (r ∷ rs) s = signals-cells rs (with_signal s) ∙ omega (arith, add-mul 1 (length rs) (2 * length s.grid - 1))

vars-signals : (rs : List Span) (s : Shape) → length (with_owners s (map VariableIn rs)).signals ≡ length s.signals
vars-signals [] s = refl
vars-signals (r ∷ rs) s = vars-signals rs (with_var s)

pub vars-vars : (rs : List Span) (s : Shape) → length (with_owners s (map VariableIn rs)).vars ≡ length s.vars + length rs
vars-vars [] s = omega arith
vars-vars (r ∷ rs) s = vars-vars rs (with_var s) ∙ omega (arith, length-append s.vars (s.cells ∷ []))

vars-cells : (rs : List Span) (s : Shape) → (with_owners s (map VariableIn rs)).cells ≡ s.cells + length rs
vars-cells [] s = omega arith
vars-cells (r ∷ rs) s = vars-cells rs (with_var s) ∙ omega arith

-- ---- those of one record

pub signals-made : (before : List Item) (r : Item) (s : Shape) → length (with_owners s (made before r)).signals ≡ length s.signals + signals_made r
signals-made before r s =
    ap (λ (t : Shape). length t.signals) (with_owners-append (map SignalIn (signal_made r)) (map VariableIn (ranges_made before r)) s)
    ∙ vars-signals (ranges_made before r) (with_owners s (map SignalIn (signal_made r))) ∙ signals-signals (signal_made r) s ∙ ap (λ (n : ℕ). length s.signals + n) (length-signal_made r)

pub variables-made : (before : List Item) (r : Item) (s : Shape) → length (with_owners s (made before r)).vars ≡ length s.vars + variables_made r
variables-made before r s =
    ap (λ (t : Shape). length t.vars) (with_owners-append (map SignalIn (signal_made r)) (map VariableIn (ranges_made before r)) s)
    ∙ vars-vars (ranges_made before r) (with_owners s (map SignalIn (signal_made r))) ∙ ap₂ (λ (m n : ℕ). m + n) (signals-vars (signal_made r) s) (length-ranges_made before r)

-- the cells that one record takes
pub cells-made : (before : List Item) (r : Item) (s : Shape) → 1 ≤ length s.grid → (with_owners s (made before r)).cells ≡ s.cells + (signals_made r * (2 * (length s.grid - 1) + 1) + variables_made r)
cells-made before r s some =
    let e : 2 * length s.grid - 1 ≡ 2 * (length s.grid - 1) + 1 = omega (arith, some) in
    ap (λ (t : Shape). t.cells) (with_owners-append (map SignalIn (signal_made r)) (map VariableIn (ranges_made before r)) s)
    ∙ vars-cells (ranges_made before r) (with_owners s (map SignalIn (signal_made r)))
    ∙ ap₂ (λ (m n : ℕ). m + n) (signals-cells (signal_made r) s ∙ ap₂ (λ (m n : ℕ). s.cells + m * n) (length-signal_made r) e) (length-ranges_made before r)
    ∙ omega arith

-- ---- those of all records

signals-from : (rs before : List Item) (s : Shape) → length (with_owners s (owners_from before rs)).signals ≡ length s.signals + signals_in rs
signals-from [] before s = omega arith
signals-from (r ∷ rs) before s =
    ap (λ (t : Shape). length t.signals) (with_owners-append (made before r) (owners_from (before ++ r ∷ []) rs) s) ∙ signals-from rs (before ++ r ∷ []) (with_owners s (made before r))
    ∙ omega (arith, signals-made before r s, sum_by-cons signals_made r rs)

variables-from : (rs before : List Item) (s : Shape) → length (with_owners s (owners_from before rs)).vars ≡ length s.vars + variables_in rs
variables-from [] before s = omega arith
variables-from (r ∷ rs) before s =
    ap (λ (t : Shape). length t.vars) (with_owners-append (made before r) (owners_from (before ++ r ∷ []) rs) s) ∙ variables-from rs (before ++ r ∷ []) (with_owners s (made before r))
    ∙ omega (arith, variables-made before r s, sum_by-cons variables_made r rs)

pub signals-count : (grid : List ℕ) (items : List Item) → length (shape_by grid items).signals ≡ signals_in items
signals-count grid items = signals-from items [] (no_shape grid) ∙ omega arith

pub variables-count : (grid : List ℕ) (items : List Item) → length (shape_by grid items).vars ≡ variables_in items
variables-count grid items = variables-from items [] (no_shape grid) ∙ omega arith

-- ---- a shape that goes on from that of records has at least so many

pub more-signals : (grid : List ℕ) (items : List Item) (t : Shape) → Extends (shape_by grid items) t → signals_in items ≤ length t.signals
more-signals grid items t e = omega (arith, ap length e.signals.1, length-append (shape_by grid items).signals e.signals.0, signals-count grid items)

pub more-variables : (grid : List ℕ) (items : List Item) (t : Shape) → Extends (shape_by grid items) t → variables_in items ≤ length t.vars
more-variables grid items t e = omega (arith, ap length e.vars.1, length-append (shape_by grid items).vars e.vars.0, variables-count grid items)

-- ---- the cells of the shape are those that the log counts

cells-step : (a b m n k c x y : ℕ) → a ≡ c + (m * k + x) → b ≡ a + (n * k + y) → b ≡ c + ((m + n) * k + (x + y))
cells-step a b m n k c x y p q = omega (arith, p, q, add-mul m n k)

cells-from : (rs before : List Item) (s : Shape) → 1 ≤ length s.grid → (with_owners s (owners_from before rs)).cells ≡ s.cells + (signals_in rs * (2 * (length s.grid - 1) + 1) + variables_in rs)
cells-from [] before s some = omega arith
cells-from (r ∷ rs) before s some =
    let t = with_owners s (made before r) in
    let more = owners_from (before ++ r ∷ []) rs in
    let same : t.grid ≡ s.grid = (owners-extend (made before r) s).grid in
    let rest = subst (λ (g : List ℕ). (with_owners t more).cells ≡ t.cells + (signals_in rs * (2 * (length g - 1) + 1) + variables_in rs)) same (cells-from rs (before ++ r ∷ []) t (omega (arith, some, ap length same))) in
    ap (λ (u : Shape). u.cells) (with_owners-append (made before r) more s)
    ∙ cells-step t.cells (with_owners t more).cells (signals_made r) (signals_in rs) (2 * (length s.grid - 1) + 1) s.cells (variables_made r) (variables_in rs) (cells-made before r s some) rest
    ∙ ap₂ (λ (m n : ℕ). s.cells + (m * (2 * (length s.grid - 1) + 1) + n)) (sym (sum_by-cons signals_made r rs)) (sym (sum_by-cons variables_made r rs))

pub cells-count : (grid : List ℕ) (items : List Item) → 1 ≤ length grid → (shape_by grid items).cells ≡ cells_of grid (signals_in items) (variables_in items)
cells-count grid items some = cells-from items [] (no_shape grid) some ∙ omega arith
