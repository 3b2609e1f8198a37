-- What a net adds for records, and the constraints that they ask.
use Rattle.std.proofs.Common.{◌≡◌, ℕ, zero, suc, ◌-◌, ◌≤◌, Bool, true, false, cond, Some, None, List, [], ◌∷◌, ◌++◌, arith, refl, sym, ap, ap₂, subst, ◌∙◌, Contains, flat_map, length, length-append, append-nil, append_assoc, count_by}
use Rattle.std.specs.Cmp.{nat_eq_equiv}
use Rattle.std.proofs.lemmas.List.Concat.{flat_map-append}
use Rattle.std.proofs.lemmas.List.Sums.{sum_by-append, sum_by-cons}
use Rattle.std.proofs.lemmas.Map.Views.{list_any-from_Contains, Contains-from_any}
use Rattle.tube_spec.specs.Shape.{Shape}
use Rattle.cell_readers.specs.Entries.{reads_cell}
use Rattle.ctc_network.specs.Nets.{readers_of}
use Rattle.ctc_network.proofs.Waking.{same_number}
use Rattle.ctc_deriv.specs.Bounds.{each_below}
use Rattle.expr_values.specs.Expressions.{Comparison, comparison_of}
use Rattle.tube_names.specs.declared.leaves.Leaf.{Leaf}
use Rattle.expr_hc4.specs.declared.places.Place.TheVariants.{Gate}
use Rattle.mission_items.specs.declared.item.Item.{Item}
use Rattle.mission_items.specs.declared.item.Item.TheVariants as item
use Rattle.mission_items.specs.Made.{signals_in}
use Rattle.any_ctc.specs.Constraints.{Constraint, SliceOf, DerivOf, ExprOf, constraint_projections, constraint_scope, reads_of, reads_in, written_of}
use Rattle.any_ctc.proofs.Written.{written-projections, written-reads, written-some, written-covers}
use Rattle.mission_net.specs.Records.{shape_by, formula_at, constraints_of, constraints_from, constraints, contracts_of, contracts_from, contracts}
use Rattle.mission_net.specs.Costs.{readers_in}
use Rattle.mission_net.proofs.Shapes.{shape-grid}

pub contracts-append : (grid : List ℕ) (xs ys before : List Item) → contracts_from grid before (xs ++ ys) ≡ contracts_from grid before xs ++ contracts_from grid (before ++ xs) ys
contracts-append grid [] ys before = ap (λ (l : List Item). contracts_from grid l ys) (sym (append-nil before))
contracts-append grid (r ∷ xs) ys before =
    ap (λ (l : List Constraint). contracts_of grid before r ++ l) (contracts-append grid xs ys (before ++ r ∷ []) ∙ ap (λ (l : List Item). contracts_from grid (before ++ r ∷ []) xs ++ contracts_from grid l ys) (append_assoc before (r ∷ []) xs))
    ∙ sym (append_assoc (contracts_of grid before r) (contracts_from grid (before ++ r ∷ []) xs) (contracts_from grid (before ++ r ∷ xs) ys))

pub contracts-snoc : (grid : List ℕ) (before : List Item) (r : Item) → contracts grid (before ++ r ∷ []) ≡ contracts grid before ++ contracts_of grid before r
contracts-snoc grid before r = contracts-append grid before (r ∷ []) [] ∙ ap (λ (l : List Constraint). contracts grid before ++ l) (append-nil (contracts_of grid before r))

-- ---- what is added is made of what the records ask

written-formulas : (grid : List ℕ) (ls : List Leaf) (c : Comparison) (n : ℕ) → flat_map (written_of grid) (each_below (formula_at ls c) n) ≡ each_below (formula_at ls c) n
written-formulas grid ls c zero = refl
written-formulas grid ls c (suc n) =
    flat_map-append (written_of grid) (each_below (formula_at ls c) n) (formula_at ls c n) ∙ ap (λ (l : List Constraint). l ++ formula_at ls c n) (written-formulas grid ls c n)

written-record : (grid : List ℕ) (before : List Item) (r : Item) → flat_map (written_of grid) (contracts_of grid before r) ≡ constraints_of grid before r
written-record grid before (item.Signal name range) = append-nil (each_below (λ i. SliceOf (signals_in before) i ∷ []) (length grid - 1))
written-record grid before (item.Deriv x rate) = append-nil (each_below (λ i. DerivOf x.0 rate.0 i ∷ []) (length grid - 1))
written-record grid before (item.Ping x y first last (Some beacon) near far) = refl
written-record grid before (item.Ping x y first last None near far) = refl
written-record grid before (item.Each formula ls) =
    let c = comparison_of formula in
    let last : Constraint = ExprOf (Gate (length grid - 1)) ls c in
    flat_map-append (written_of grid) (each_below (formula_at ls c) (length grid - 1)) (last ∷ []) ∙ ap (λ (l : List Constraint). l ++ last ∷ []) (written-formulas grid ls c (length grid - 1))
written-record grid before r = refl

pub written-records : (grid : List ℕ) (rs before : List Item) → flat_map (written_of grid) (contracts_from grid before rs) ≡ constraints_from grid before rs
written-records grid [] before = refl
written-records grid (r ∷ rs) before =
    flat_map-append (written_of grid) (contracts_of grid before r) (contracts_from grid (before ++ r ∷ []) rs)
    ∙ ap₂ (λ (a b : List Constraint). a ++ b) (written-record grid before r) (written-records grid rs (before ++ r ∷ []))

-- ---- projections

pub all-projections : (s : Shape) (cs : List Constraint) → flat_map (constraint_projections s) (flat_map (written_of s.grid) cs) ≡ flat_map (constraint_projections s) cs
all-projections s [] = refl
all-projections s (c ∷ cs) =
    flat_map-append (constraint_projections s) (written_of s.grid c) (flat_map (written_of s.grid) cs) ∙ ap₂ (λ xs ys. xs ++ ys) (written-projections s c) (all-projections s cs)

-- the projections of what is added are those of the records
pub contract-projections : (s : Shape) (grid : List ℕ) (items : List Item) → s.grid ≡ grid → flat_map (constraint_projections s) (contracts grid items) ≡ flat_map (constraint_projections s) (constraints grid items)
contract-projections s grid items same =
    sym (all-projections s (contracts grid items)) ∙ ap (flat_map (constraint_projections s)) (ap (λ (g : List ℕ). flat_map (written_of g) (contracts grid items)) same ∙ written-records grid items [])

-- ---- room

all-reads : (grid : List ℕ) (cs : List Constraint) → 1 ≤ length grid - 1 → reads_in grid cs ≤ reads_in grid (flat_map (written_of grid) cs)
all-reads grid [] some = omega arith
all-reads grid (c ∷ cs) some = omega (arith, written-reads grid c some, all-reads grid cs some, sum_by-cons (reads_of grid) c cs, sum_by-append (reads_of grid) (written_of grid c) (flat_map (written_of grid) cs))

all-count : (grid : List ℕ) (cs : List Constraint) → 1 ≤ length grid - 1 → length cs ≤ length (flat_map (written_of grid) cs)
all-count grid [] some = omega arith
all-count grid (c ∷ cs) some = omega (arith, written-some grid c some, all-count grid cs some, length-append (written_of grid c) (flat_map (written_of grid) cs))

-- what is added reads no more cells, and is no more, than what the records ask
pub contract-reads : (grid : List ℕ) (rs before : List Item) → 1 ≤ length grid - 1 → reads_in grid (contracts_from grid before rs) ≤ reads_in grid (constraints_from grid before rs)
contract-reads grid rs before some = subst (λ (cs : List Constraint). reads_in grid (contracts_from grid before rs) ≤ reads_in grid cs) (written-records grid rs before) (all-reads grid (contracts_from grid before rs) some)

pub contract-count : (grid : List ℕ) (rs before : List Item) → 1 ≤ length grid - 1 → length (contracts_from grid before rs) ≤ length (constraints_from grid before rs)
contract-count grid rs before some = subst (λ (cs : List Constraint). length (contracts_from grid before rs) ≤ length cs) (written-records grid rs before) (all-count grid (contracts_from grid before rs) some)

-- ---- readers

one-true : (b : Bool) → b ≡ true → ◌≡◌ {A = ℕ} (cond b 1 0) 1
one-true true e = refl
one-true false e = absurd (cc)

some-true : {X : Type 0} (P : X → Bool) (xs : List X) (x : X) → Contains xs x → P x ≡ true → 1 ≤ count_by P xs
some-true P [] x m e = absurd (omega (arith, m.1))
some-true P (y ∷ xs) x (zero, l, is) e = let same : y ≡ x = is in omega (arith, sum_by-cons (λ z. cond (P z) 1 0) y xs, one-true (P y) (ap P same ∙ e))
some-true P (y ∷ xs) x (suc i, l, is) e = omega (arith, sum_by-cons (λ z. cond (P z) 1 0) y xs, some-true P xs x (i, omega (arith, l), is) e)

module _ (s : Shape) (some : 1 ≤ length s.grid - 1) (cell : ℕ) where
  abbrev reads : Constraint → Bool
  reads d = reads_cell (constraint_scope s d) cell

  one-reader : (c : Constraint) → cond (reads c) 1 0 ≤ count_by reads (written_of s.grid c)
  one-reader c = at (reads c) refl
    where
      at : (b : Bool) → reads c ≡ b → cond b 1 0 ≤ count_by reads (written_of s.grid c)
      at false e = omega arith
      at true e =
          let r = written-covers s c cell some (Contains-from_any same_number cell (constraint_scope s c) e) in
          some-true reads (written_of s.grid c) r.0 r.1 (list_any-from_Contains nat_eq_equiv cell (constraint_scope s r.0) r.2)

  all-readers : (cs : List Constraint) → count_by reads cs ≤ count_by reads (flat_map (written_of s.grid) cs)
  all-readers [] = omega arith
  all-readers (c ∷ cs) =
      omega (arith, one-reader c, all-readers cs, sum_by-cons (λ d. cond (reads d) 1 0) c cs, sum_by-append (λ d. cond (reads d) 1 0) (written_of s.grid c) (flat_map (written_of s.grid) cs))

-- a cell has no more readers among what is added than among what the records ask
pub contract-readers : (grid : List ℕ) (items : List Item) (cell : ℕ) → 1 ≤ length grid - 1 → readers_of (λ (d : Constraint) (t : Shape). constraint_scope t d) (shape_by grid items) (contracts grid items) cell ≤ readers_in grid items cell
contract-readers grid items cell some =
    let same = shape-grid grid items in
    subst (λ (cs : List Constraint). count_by (λ (d : Constraint). reads_cell (constraint_scope (shape_by grid items) d) cell) (contracts grid items) ≤ count_by (λ (d : Constraint). reads_cell (constraint_scope (shape_by grid items) d) cell) cs)
    (ap (λ (g : List ℕ). flat_map (written_of g) (contracts grid items)) same ∙ written-records grid items [])
    (all-readers (shape_by grid items) (omega (arith, some, ap length same)) cell (contracts grid items))
