-- What satisfied records give of the values of an assignment: declared ranges, and rates.
use Rattle.std.proofs.Common.{◌≡◌, ℕ, zero, suc, ◌+◌, ◌<◌, ◌≤◌, ◌==◌, Bool, true, false, cond, List, [], ◌∷◌, ◌++◌, Option, Some, None, ◌+ℤ◌, refl, sym, ap, subst, ◌∙◌, arith, length, length-append, append-nil, append_assoc, map, pos}
use Rattle.std.specs.Prelude.{slice_index_or, IfSome}
use Rattle.std.proofs.lemmas.Bool.{eqb-true}
use Rattle.tube_spec.specs.Span.{Span, Holds, point}
use Rattle.tube_spec.specs.Shape.{Shape, with_var}
use Rattle.tube_spec.specs.Assignment.{Assignment, value_at, number_of}
use Rattle.tube_spec.specs.Owner.{Owner, SignalIn, VariableIn, with_owner, with_owners, AreInRange}
use Rattle.mission_items.specs.declared.item.Item.{Item}
use Rattle.mission_items.specs.declared.item.Item.TheVariants as item
use Rattle.mission_items.specs.Made.{ranges_from, ranges_made, rate_in, signal_made, signals_in, variable_range, variable_ranges, variables_in}
use Rattle.mission_items.proofs.Making.{length-ranges_made, length-variable_ranges, variables-last}
use Rattle.mission_net.specs.Records.{made, owners_from, shape_by, AreIn, Means, Says, SatisfiesFrom}
use Rattle.mission_net.proofs.Shapes.{shape-snoc}
use Rattle.mission_net.proofs.Counts.{signals-count, variables-count, signals-vars}

-- ---- the signals and variables of a record lie in their declared ranges

pub AreInRange-append : (end : ℕ) (a : Assignment) (xs ys : List Owner) (s : Shape) → AreInRange end s a xs → AreInRange end (with_owners s xs) a ys → AreInRange end s a (xs ++ ys)
AreInRange-append end a [] ys s p q = q
AreInRange-append end a (o ∷ xs) ys s p q = (p.0, AreInRange-append end a xs ys (with_owner s o) p.1 q)

signals-in : (end : ℕ) (s : Shape) (a : Assignment) (before : List Item) (r : Item) → signals_in before ≡ length s.signals → Means end a before r → AreInRange end s a (map SignalIn (signal_made r))
signals-in end s a before (item.Signal name range) count h = (subst (λ (n : ℕ). (k : ℕ) → k ≤ end → Holds range (value_at a n k)) count h, tt)
signals-in end s a before r count h = tt

pub variables-in : (end : ℕ) (a : Assignment) (ranges : List Span) (s : Shape) (n : ℕ) → n ≡ length s.vars → AreIn a n ranges → AreInRange end s a (map VariableIn ranges)
variables-in end a [] s n count h = tt
variables-in end a (range ∷ ranges) s n count h =
    (subst (λ (v : ℕ). Holds range (number_of a v)) count h.0, variables-in end a ranges (with_var s) (n + 1) (omega (arith, count, length-append s.vars (s.cells ∷ []))) h.1)

says-in-range : (end : ℕ) (s : Shape) (a : Assignment) (before : List Item) (r : Item) → signals_in before ≡ length s.signals → variables_in before ≡ length s.vars → Says end a before r → AreInRange end s a (made before r)
says-in-range end s a before r signals vars h =
    AreInRange-append end a (map SignalIn (signal_made r)) (map VariableIn (ranges_made before r)) s (signals-in end s a before r signals h.means)
    (variables-in end a (ranges_made before r) (with_owners s (map SignalIn (signal_made r))) (variables_in before) (vars ∙ sym (signals-vars (signal_made r) s)) h.made)

pub satisfies-in-range : (end : ℕ) (grid : List ℕ) (a : Assignment) (rs before : List Item) → SatisfiesFrom end a before rs → AreInRange end (shape_by grid before) a (owners_from before rs)
satisfies-in-range end grid a [] before h = tt
satisfies-in-range end grid a (r ∷ rs) before h =
    AreInRange-append end a (made before r) (owners_from (before ++ r ∷ []) rs) (shape_by grid before)
    (says-in-range end (shape_by grid before) a before r (sym (signals-count grid before)) (sym (variables-count grid before)) h.0)
    (subst (λ (s : Shape). AreInRange end s a (owners_from (before ++ r ∷ []) rs)) (shape-snoc grid before r) (satisfies-in-range end grid a rs (before ++ r ∷ []) h.1))

-- ---- what is needed of the records before one: the ranges of their variables, and their rates

-- v is the rate of x: what it gains from each tick to the next
abbrev pub Gains : ℕ → Assignment → ℕ → ℕ → Type 0
Gains end a x v = (k : ℕ) → k < end → value_at a x (k + 1) ≡ value_at a x k +ℤ value_at a v k

-- what a record that gives a signal a rate says
abbrev pub KeepsRate : ℕ → Assignment → Item → Type 0
KeepsRate end a (item.Deriv x rate) = Gains end a x.0 rate.0
KeepsRate end a r = Unit {0}

-- Each variable that records make lies in its declared range, and each rate is one. What else they say may fail.
abbrev pub KeepsFrom : ℕ → Assignment → List Item → List Item → Type 0
KeepsFrom end a before [] = Unit {0}
KeepsFrom end a before (r ∷ rs) = AreIn a (variables_in before) (ranges_made before r) × KeepsRate end a r × KeepsFrom end a (before ++ r ∷ []) rs

pub says-keeps : (end : ℕ) (a : Assignment) (before : List Item) (r : Item) → Says end a before r → KeepsRate end a r
says-keeps end a before (item.Deriv x rate) says = says.means
says-keeps end a before r says = tt

keeps-append : (end : ℕ) (a : Assignment) (xs ys before : List Item) → KeepsFrom end a before xs → KeepsFrom end a (before ++ xs) ys → KeepsFrom end a before (xs ++ ys)
keeps-append end a [] ys before p q = subst (λ (b : List Item). KeepsFrom end a b ys) (append-nil before) q
keeps-append end a (r ∷ xs) ys before p q = (
  p.0,
  p.1,
  keeps-append end a xs ys (before ++ r ∷ []) p.2 (subst (λ (b : List Item). KeepsFrom end a b ys) (sym (append_assoc before (r ∷ []) xs)) q),
)

-- one more record
pub keeps-more : (end : ℕ) (a : Assignment) (before : List Item) (r : Item) → KeepsFrom end a [] before → AreIn a (variables_in before) (ranges_made before r) → KeepsRate end a r → KeepsFrom end a [] (before ++ r ∷ [])
keeps-more end a before r p inside rate = keeps-append end a before (r ∷ []) [] p (inside, rate, tt)

-- ---- each variable lies in its declared range

AreIn-append : (a : Assignment) (xs ys : List Span) (n : ℕ) → AreIn a n xs → AreIn a (n + length xs) ys → AreIn a n (xs ++ ys)
AreIn-append a [] ys n p q = let e : n + 0 ≡ n = omega arith in subst (λ (m : ℕ). AreIn a m ys) e q
AreIn-append a (x ∷ xs) ys n p q =
    let e : n + suc (length xs) ≡ (n + 1) + length xs = omega arith in
    (p.0, AreIn-append a xs ys (n + 1) p.1 (subst (λ (m : ℕ). AreIn a m ys) e q))

pub AreIn-at : (a : Assignment) (xs : List Span) (n i : ℕ) (d : Span) → AreIn a n xs → i < length xs → Holds (slice_index_or xs i d) (number_of a (n + i))
AreIn-at a [] n i d h l = absurd (omega (arith, l))
AreIn-at a (x ∷ xs) n zero d h l = let e : n ≡ n + 0 = omega arith in subst (λ (v : ℕ). Holds x (number_of a v)) e h.0
AreIn-at a (x ∷ xs) n (suc i) d h l =
    let e : (n + 1) + i ≡ n + suc i = omega arith in
    subst (λ (v : ℕ). Holds (slice_index_or xs i d) (number_of a v)) e (AreIn-at a xs (n + 1) i d h.1 (omega (arith, l)))

all-in : (end : ℕ) (a : Assignment) (rs before : List Item) → KeepsFrom end a before rs → AreIn a (variables_in before) (ranges_from before rs)
all-in end a [] before h = tt
all-in end a (r ∷ rs) before h =
    AreIn-append a (ranges_made before r) (ranges_from (before ++ r ∷ []) rs) (variables_in before) h.0
    (subst (λ (m : ℕ). AreIn a m (ranges_from (before ++ r ∷ []) rs)) (variables-last before r ∙ ap (λ (m : ℕ). variables_in before + m) (sym (length-ranges_made before r))) (all-in end a rs (before ++ r ∷ []) h.2))

pub variable-in-range : (end : ℕ) (a : Assignment) (items : List Item) → KeepsFrom end a [] items → (v : ℕ) → v < variables_in items → Holds (variable_range items v) (number_of a v)
variable-in-range end a items h v l =
    let e : 0 + v ≡ v = omega arith in
    subst (λ (u : ℕ). Holds (variable_range items v) (number_of a u)) e (AreIn-at a (variable_ranges items) 0 v (point (pos 0)) (all-in end a items [] h) (omega (arith, l, length-variable_ranges items)))

-- ---- each rate is one

some_same : (u v : ℕ) → ◌≡◌ {A = Option ℕ} (Some u) (Some v) → u ≡ v
some_same u v e = cc e

rate-or_more : (end : ℕ) (a : Assignment) (x v y rate : ℕ) (more : Option ℕ) (t : Bool) → (x == y) ≡ t → Gains end a y rate → (more ≡ Some v → Gains end a x v) → cond t (Some rate) more ≡ Some v → Gains end a x v
rate-or_more end a x v y rate more true e here rest found =
    let same : y ≡ x = sym (eqb-true x y e) in
    subst (λ (u : ℕ). Gains end a x u) (some_same rate v found) (subst (λ (u : ℕ). Gains end a u rate) same here)
rate-or_more end a x v y rate more false e here rest found = rest found

pub rates-hold : (end : ℕ) (a : Assignment) (rs before : List Item) (x v : ℕ) → KeepsFrom end a before rs → rate_in rs x ≡ Some v → Gains end a x v
rates-hold end a [] before x v h found = cc found
rates-hold end a (item.Deriv y rate ∷ rs) before x v h found =
    rate-or_more end a x v y.0 rate.0 (rate_in rs x) (x == y.0) refl h.1 (rates-hold end a rs (before ++ item.Deriv y rate ∷ []) x v h.2) found
rates-hold end a (r ∷ rs) before x v h found = rates-hold end a rs (before ++ r ∷ []) x v h.2 found

pub rate-holds : (end : ℕ) (a : Assignment) (items : List Item) (x : ℕ) (o : Option ℕ) → KeepsFrom end a [] items → rate_in items x ≡ o → IfSome o (Gains end a x)
rate-holds end a items x None h e = tt
rate-holds end a items x (Some v) h e = rates-hold end a items [] x v h e
