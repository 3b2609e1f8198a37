-- What one record adds, from the table before it and after it.
use Rattle.std.proofs.Common.{◌≡◌, ℕ, ◌≤◌, List, [], ◌∷◌, ◌++◌, All, arith, refl, sym, ap, ap₂, subst, ◌∙◌, length, map, drop}
use Rattle.tube_spec.specs.Span.{Span}
use Rattle.tube_spec.specs.Shape.{Shape}
use Rattle.tube_spec.specs.Owner.{Owner, SignalIn, VariableIn, with_owners}
use Rattle.tube_spec.proofs.Hulls.{with_owners-append, owners-extend}
use Rattle.ctc_network.specs.Nets.{NetState}
use Rattle.mission_items.specs.declared.item.Item.{Item}
use Rattle.mission_items.specs.Made.{ranges_made, signal_made, signal_ranges, signals_in, variable_ranges, variables_in}
use Rattle.mission_items.proofs.Making.{length-signal_ranges, length-variable_ranges, signal_ranges-last, signals-last, variable_ranges-last, variables-last}
use Rattle.any_ctc.specs.Constraints.{Constraint, reads_in, IsOf}
use Rattle.mission_net.specs.Records.{contracts_of, made}
use Rattle.mission_net.specs.Tables.{IsTableOf, Table}
use Rattle.mission_net.specs.Building.{CanAdd, CanBuild, IsAdded, IsBeside}
use Rattle.any_ctc.specs.declared.AnyCtc.{AnyCtc}
use Rattle.mission_net.proofs.Counts.{signals-made, variables-made}
use Rattle.mission_net.proofs.Additions.{added-grid, none-few, none-reads}

pub drop-first : {X : Type 0} (xs ys : List X) (n : ℕ) → n ≡ length xs → drop n (xs ++ ys) ≡ ys
drop-first [] ys n e = ap (λ (k : ℕ). drop k ys) e
drop-first (x ∷ xs) ys n e = ap (λ (k : ℕ). drop k (x ∷ (xs ++ ys))) e ∙ drop-first xs ys (length xs) refl

-- the cells of some owners, and of others after them
pub first-cells : (os ps : List Owner) (s : Shape) → (with_owners s (os ++ ps)).cells ≤ 2000000 → (with_owners s os).cells ≤ 2000000
first-cells os ps s h = omega (arith, h, ap (λ (t : Shape). t.cells) (with_owners-append os ps s), (owners-extend ps (with_owners s os)).cells)

pub rest-cells : (os ps : List Owner) (a b : NetState AnyCtc) → (with_owners a.store.shape (os ++ ps)).cells ≤ 2000000 → IsAdded os [] a b → (with_owners b.store.shape ps).cells ≤ 2000000
rest-cells os ps a b h added = omega (arith, h, ap (λ (t : Shape). t.cells) (with_owners-append os ps a.store.shape), ap (λ (t : Shape). (with_owners t ps).cells) added.shape)

module _ (before : List Item) (r : Item) (t u : Table) (was : IsTableOf t before) (is : IsTableOf u (before ++ r ∷ [])) where
  -- what the table has anew
  pub new-signals : (n : ℕ) → n ≡ length t.signals → drop n u.signals ≡ signal_made r
  new-signals n e =
      ap (drop n) (is.signals ∙ signal_ranges-last before r) ∙ drop-first (signal_ranges before) (signal_made r) n (e ∙ ap length was.signals)

  pub new-variables : (n : ℕ) → n ≡ length t.variables → drop n u.variables ≡ ranges_made before r
  new-variables n e =
      ap (drop n) (is.variables ∙ variable_ranges-last before r) ∙ drop-first (variable_ranges before) (ranges_made before r) n (e ∙ ap length was.variables)

  pub new-made : (m n : ℕ) → m ≡ length t.signals → n ≡ length t.variables → map SignalIn (drop m u.signals) ++ map VariableIn (drop n u.variables) ≡ made before r
  new-made m n e f = ap₂ (λ (xs ys : List Span). map SignalIn xs ++ map VariableIn ys) (new-signals m e) (new-variables n f)

  pub more-variables : length t.variables ≤ length u.variables
  more-variables = omega (arith, ap length was.variables, ap length is.variables, length-variable_ranges before, length-variable_ranges (before ++ r ∷ []), variables-last before r)

  pub more-signals : length t.signals ≤ length u.signals
  more-signals = omega (arith, ap length was.signals, ap length is.signals, length-signal_ranges before, length-signal_ranges (before ++ r ∷ []), signals-last before r)

  pub so-many-variables : length t.variables ≡ variables_in before
  so-many-variables = ap length was.variables ∙ length-variable_ranges before

  pub so-many-signals : length t.signals ≡ signals_in before
  so-many-signals = ap length was.signals ∙ length-signal_ranges before

  -- the net with the cells of the record is beside the table, and takes the contractors
  pub cells-beside : (a b : NetState AnyCtc) → CanBuild before r a → IsAdded (made before r) [] a b → IsBeside u b
  cells-beside a b can added = record {
    signals = omega (arith, ap (λ (s : Shape). length s.signals) added.shape, signals-made before r a.store.shape, can.signals_so_far, can.few_signals);
    variables = omega (
      arith,
      ap (λ (s : Shape). length s.vars) added.shape,
      variables-made before r a.store.shape,
      can.variables_so_far,
      ap length is.variables,
      length-variable_ranges (before ++ r ∷ []),
      variables-last before r,
    );
  }

pub cells-can : (before : List Item) (r : Item) (a b : NetState AnyCtc) → CanBuild before r a → IsAdded (made before r) [] a b → CanAdd (contracts_of b.store.shape.grid before r) b
cells-can before r a b can added =
    let same = added-grid (made before r) [] a b added in
    let count = none-few (made before r) a b added in
    let read = none-reads (made before r) a b added in
    let cs : contracts_of b.store.shape.grid before r ≡ contracts_of a.store.shape.grid before r = ap (λ (g : List ℕ). contracts_of g before r) same in
    subst (λ (l : List Constraint). CanAdd l b) (sym cs) (record {
      of = subst (λ (s : Shape). All (IsOf s) (contracts_of a.store.shape.grid before r)) (sym added.shape) can.of;
      few = omega (arith, can.few, count);
      reads = omega (arith, can.reads, read, ap (λ (g : List ℕ). reads_in g (contracts_of a.store.shape.grid before r)) same);
    })
