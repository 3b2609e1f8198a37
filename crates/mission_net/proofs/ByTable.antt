-- The constraints of records in the words of the table of the records so far.
use Rattle.std.proofs.Common.{◌≡◌, ℕ, ◌+◌, ◌<◌, List, [], ◌∷◌, ◌++◌, Option, Some, None, ℤ, arith, refl, sym, ap, ap₂, ◌∙◌, length, pos}
use Rattle.std.specs.Prelude.{slice_index_or}
use Rattle.std.specs.Option.{ForSome}
use Rattle.std.proofs.Math.ListN.{get_or-append}
use Rattle.tube_spec.specs.Span.{Span, point}
use Rattle.tube_store.specs.declared.SignalId.{SignalId}
use Rattle.tube_store.specs.declared.VarId.{VarId}
use Rattle.tube_names.specs.Points.{numbers}
use Rattle.ctc_network.specs.Nets.{NetState}
use Rattle.mission_items.specs.declared.item.Item.{Item}
use Rattle.mission_items.specs.declared.item.Item.TheVariants as item
use Rattle.mission_items.specs.Made.{mark_made, ranges_made, rate_in, signal_range, ticks_from, variable_range, variable_ranges, variables_in}
use Rattle.mission_items.specs.Valid.{IsMark}
use Rattle.mission_items.proofs.Making.{length-variable_ranges, rate_in-kept, variable_ranges-last}
use Rattle.mission_items.proofs.Standing.{at-seam}
use Rattle.any_ctc.specs.Constraints.{Constraint, ConstellOf, DistOf, EvalOf}
use Rattle.mission_net.specs.Records.{constraints_of, evaluation, mark_constraints, mark_of, marks_in, point_at, target_of}
use Rattle.mission_net.specs.Tables.{evaluation_by, mark_by, range_at, rate_at, target_by, IsTableOf, Table}
use Rattle.mission_net.specs.Building.{CanAdd, IsBeside}
use Rattle.any_ctc.specs.declared.AnyCtc.{AnyCtc}
use Rattle.mission_net.proofs.Beacons.{length-marks_in, marks_in-last}

module _ (grid : List ℕ) (before : List Item) (t : Table) where
  -- the rate, the ranges and the beacons before a record that gives none of them
  rate-same : (r : Item) → IsTableOf t (before ++ r ∷ []) → ((x : ℕ) → rate_in (r ∷ []) x ≡ None) → (x : ℕ) → x < 64 → rate_at t x ≡ rate_in before x
  rate-same r is none x inside = is.rates x inside ∙ rate_in-kept before r x (none x)

  range-old : (r : Item) → IsTableOf t (before ++ r ∷ []) → (v : ℕ) → v < variables_in before → range_at t v ≡ variable_range before v
  range-old r is v inside =
      ap (λ (l : List Span). slice_index_or l v (point (pos 0))) (is.variables ∙ variable_ranges-last before r)
      ∙ get_or-append (variable_ranges before) (ranges_made before r) (point (pos 0)) v (omega (arith, inside, length-variable_ranges before))

  range-new : (r : Item) → IsTableOf t (before ++ r ∷ []) → (x : Span) (more : List Span) → ranges_made before r ≡ x ∷ more → range_at t (variables_in before) ≡ x
  range-new r is x more e =
      at-seam t.variables (variable_ranges before) more (variables_in before) x (point (pos 0))
      (is.variables ∙ variable_ranges-last before r ∙ ap (λ (l : List Span). variable_ranges before ++ l) e) (length-variable_ranges before)

  pub marks-kept : (r : Item) → IsTableOf t (before ++ r ∷ []) → mark_of before r ≡ [] → t.marks ≡ marks_in before
  marks-kept r is none = is.marks ∙ marks_in-last before r ∙ ap (λ (l : List (List ℕ)). marks_in before ++ l) none ∙ append_nil (marks_in before) where
    append_nil : (l : List (List ℕ)) → l ++ [] ≡ l
    append_nil [] = refl
    append_nil (x ∷ l) = ap (λ (m : List (List ℕ)). x ∷ m) (append_nil l)

  evaluation-same : (r : Item) → IsTableOf t (before ++ r ∷ []) → ((x : ℕ) → rate_in (r ∷ []) x ≡ None) → (x u z : ℕ) (declared : Span) → x < 64 → range_at t u ≡ declared → evaluation before x u z declared ≡ evaluation_by t x u z
  evaluation-same r is none x u z declared inside e = ap₂ (λ (rate : Option ℕ) (s : Span). EvalOf x rate u z s) (sym (rate-same r is none x inside)) (sym e)

  pub at-by : (x : SignalId) (tick : ℕ) (range : Span) → IsTableOf t (before ++ item.At x tick range ∷ []) → x.0 < 64
      → constraints_of grid before (item.At x tick range) ≡ evaluation_by t x.0 (variables_in before) (variables_in before + 1) ∷ []
  at-by x tick range is inside =
      let r = item.At x tick range in
      ap (λ (c : Constraint). c ∷ []) (evaluation-same r is (λ x. refl) x.0 (variables_in before) (variables_in before + 1) (point (pos tick)) inside (range-new r is (point (pos tick)) (range ∷ []) refl))

  pub eval-by : (x : SignalId) (u z : VarId) → IsTableOf t (before ++ item.Eval x u z ∷ []) → x.0 < 64 → u.0 < variables_in before → constraints_of grid before (item.Eval x u z) ≡ evaluation_by t x.0 u.0 z.0 ∷ []
  eval-by x u z is inside time =
      let r = item.Eval x u z in
      ap (λ (c : Constraint). c ∷ []) (evaluation-same r is (λ x. refl) x.0 u.0 z.0 (variable_range before u.0) inside (range-old r is u.0 time))

  pub constell-by : (p : List VarId) → IsTableOf t (before ++ item.Constell p ∷ []) → constraints_of grid before (item.Constell p) ≡ ConstellOf (numbers p) t.marks ∷ []
  constell-by p is = ap (λ (ms : List (List ℕ)). ConstellOf (numbers p) ms ∷ []) (sym (marks-kept (item.Constell p) is refl))

  target-same : (r : Item) (beacon : Option ℕ) → IsTableOf t (before ++ r ∷ []) → mark_of before r ≡ [] → target_of before beacon ≡ target_by t (variables_in before + 3) beacon
  target-same r (Some beacon) is none = ap (λ (ms : List (List ℕ)). slice_index_or ms beacon []) (sym (marks-kept r is none))
  target-same r None is none = refl

  mark-same : (r : Item) (beacon : Option ℕ) → IsTableOf t (before ++ r ∷ []) → mark_of before r ≡ [] → mark_constraints before beacon ≡ mark_by t (variables_in before + 3) beacon
  mark-same r (Some beacon) is none = refl
  mark-same r None is none = ap (λ (ms : List (List ℕ)). ConstellOf (point_at (variables_in before + 3)) ms ∷ []) (sym (marks-kept r is none))

  -- what a ping's ring is
  abbrev pub ring_by : ℤ → ℤ → Option ℕ → List Constraint
  ring_by near far beacon = DistOf (point_at (variables_in before + 1)) (target_by t (variables_in before + 3) beacon) near far ∷ mark_by t (variables_in before + 3) beacon

  pub ping-by : (x y : SignalId) (first last : ℕ) (beacon : Option ℕ) (near far : ℤ) → IsTableOf t (before ++ item.Ping x y first last beacon near far ∷ []) → x.0 < 64 → y.0 < 64
      → constraints_of grid before (item.Ping x y first last beacon near far)
      ≡ (evaluation_by t x.0 (variables_in before) (variables_in before + 1) ∷ evaluation_by t y.0 (variables_in before) (variables_in before + 2) ∷ []) ++ ring_by near far beacon
  ping-by x y first last beacon near far is sx sy =
      let r = item.Ping x y first last beacon near far in
      let v = variables_in before in
      let time = range-new r is (ticks_from first last) (signal_range before x.0 ∷ signal_range before y.0 ∷ mark_made before beacon) refl in
      ap₂ (λ (c d : Constraint). c ∷ d ∷ DistOf (point_at (v + 1)) (target_of before beacon) near far ∷ mark_constraints before beacon)
      (evaluation-same r is (λ x. refl) x.0 v (v + 1) (ticks_from first last) sx time) (evaluation-same r is (λ x. refl) y.0 v (v + 2) (ticks_from first last) sy time)
      ∙ ap₂ (λ (p : List ℕ) (ms : List Constraint). evaluation_by t x.0 v (v + 1) ∷ evaluation_by t y.0 v (v + 2) ∷ DistOf (point_at (v + 1)) p near far ∷ ms) (target-same r beacon is refl) (mark-same r beacon is refl)

  -- a ping's beacon is in the table
  pub beacon-in : (r : Item) (beacon : Option ℕ) → IsTableOf t (before ++ r ∷ []) → mark_of before r ≡ [] → IsMark before beacon → ForSome beacon (λ b. b < length t.marks)
  beacon-in r (Some b) is none mark = λ x e. let same : b ≡ x = cc e in omega (arith, mark, same, ap length (marks-kept r is none), length-marks_in before)
  beacon-in r None is none mark = λ x e. cc e

-- a signal of an evaluation is one of 64
pub evaluated-below : (before : List Item) (x u z : ℕ) (declared : Span) (cs : List Constraint) (t : Table) (net : NetState AnyCtc) → IsBeside t net → CanAdd (evaluation before x u z declared ∷ cs) net → x < 64
evaluated-below before x u z declared cs t net beside can =
    let fits = can.of 0 (evaluation before x u z declared) (omega arith) in omega (arith, fits.signal, beside.signals)

pub other-below : (before : List Item) (c : Constraint) (x u z : ℕ) (declared : Span) (cs : List Constraint) (t : Table) (net : NetState AnyCtc) → IsBeside t net → CanAdd (c ∷ evaluation before x u z declared ∷ cs) net → x < 64
other-below before c x u z declared cs t net beside can =
    let fits = can.of 1 (evaluation before x u z declared) (omega arith) in omega (arith, fits.signal, beside.signals)
