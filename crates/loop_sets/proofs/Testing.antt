-- The degree test of cells that are given as runs.
use Rattle.std.proofs.Common.{◌≡◌, ℕ, ◌+◌, ◌<◌, Bool, true, false, cond, Option, Some, None, IsSome, IfSome, MatchOption, List, [], ◌∷◌, map, ℤ, pos, ◌-ℤ◌, arith, refl, sym, ap, subst, ◌∙◌, ◌↔◌}
use Rattle.std.specs.Ordering.{int_eq}
use Rattle.std.specs.Option.{IsSomeAnd}
use Rattle.std.specs.List.{AllByRecursion, fold, range_with_len}
use Rattle.std.proofs.lemmas.Bool.{or_left, or_right}
use Rattle.std.proofs.lemmas.Int.{ints}
use Rattle.std.proofs.lemmas.List.Elements.{recursion_from_All, All-from_recursion}
use Rattle.std.proofs.lemmas.List.FromFn.{get_or-map-range_with_len}
use Rattle.tube_spec.specs.Span.{Span, natural}
use Rattle.tube_spec.specs.Grid.{last_tick}
use Rattle.tube_spec.specs.Shape.{Shape}
use Rattle.tube_spec.specs.Tick.{at_tick}
use Rattle.tube_names.specs.Nearness.{is_near}
use Rattle.tube_names.specs.declared.queries.Query.{Query}
use Rattle.tplane_paver.specs.declared.runs.Run.{Run}
use Rattle.tplane_paver.specs.Runs.{InRuns, AreInOrder}
use Rattle.loop_degree.specs.declared.labels.Label.{Label}
use Rattle.loop_degree.specs.Pairs.{has}
use Rattle.loop_degree.specs.Cells.{Edge, boundary}
use Rattle.loop_degree.specs.Labels.{LabelHolds, degree_of}
use Rattle.loop_degree.specs.Steps.{Tubes, step_of, greatest_in, greatest_sum, step_bound_of}
use Rattle.loop_degree.specs.Degree.{change_in, HasLabel, PassesUnder}
use Rattle.loop_degree.proofs.Alls.{all-weaker}
use Rattle.loop_degree.proofs.Sharing.{is_same-self}
use Rattle.loop_prover.specs.First.{label_of}
use Rattle.loop_prover.proofs.Holding.{first-holds}
use Rattle.loop_sets.specs.Cells.{AreCellsOf, pairs_in}
use Rattle.loop_sets.specs.CellRuns.{IsOverSome}
use Rattle.loop_sets.specs.Finding.{IsTested}
use Rattle.loop_sets.specs.Turns.{turns_along}
use Rattle.loop_sets.specs.Bounds.{step_at, greater_sum, EndBefore}
use Rattle.loop_sets.specs.Views.{label_in, tested}
use Rattle.loop_sets.proofs.Over.{end-before}
use Rattle.loop_sets.proofs.Over.{cells-are}
use Rattle.loop_sets.proofs.Told.{AreLabelled, told}

-- the bound depends on what the steps are at the cells alone
fold-same : (f g : ℕ → ℤ) (top : ℤ) (cs : List (ℕ × ℕ)) → ((c : ℕ × ℕ) → has cs c ≡ true → (f c.0 ≡ g c.0) × (f c.1 ≡ g c.1)) → fold (greater_sum f) top cs ≡ fold (greater_sum g) top cs
fold-same f g top [] h = refl
fold-same f g top (c ∷ cs) h =
    let k = h c (or_left _ (has cs c) (is_same-self c)) in
    let e : greater_sum f top c ≡ greater_sum g top c = same-sum k.0 k.1 in
    ap (λ (z : ℤ). fold (greater_sum f) z cs) e ∙ fold-same f g (greater_sum g top c) cs (λ d m. h d (or_right _ (has cs d) m))
  where
    same-sum : f c.0 ≡ g c.0 → f c.1 ≡ g c.1 → greater_sum f top c ≡ greater_sum g top c
    same-sum p q = cc

-- the step bound by a list of steps
pub bound-is : (tubes : Tubes) (last x : ℕ) (rates : List ℕ) (steps : List ℤ) (cells : List (ℕ × ℕ)) (d : ℤ)
    → steps ≡ map (λ k. greatest_in (step_of tubes x rates k)) (range_with_len 0 last) → ((c : ℕ × ℕ) → has cells c ≡ true → (c.0 < last) × (c.1 < last))
    → d ≡ greatest_sum (step_at steps) cells → d ≡ step_bound_of tubes x rates cells
bound-is tubes last x rates steps cells d made within e =
    e ∙ fold-same (step_at steps) (λ k. greatest_in (step_of tubes x rates k)) (pos 1) cells (λ c h. let w = within c h in (at c.0 w.0, at c.1 w.1))
  where
    at : (k : ℕ) → k < last → step_at steps k ≡ greatest_in (step_of tubes x rates k)
    at k l = ap (λ (zs : List ℤ). step_at zs k) made ∙ get_or-map-range_with_len (λ k. greatest_in (step_of tubes x rates k)) 0 last k k (pos 0) l (omega arith)

-- a label that is there holds
has-label : (tubes : Tubes) (q : Query) (d e : ℤ) (p : ℕ × ℕ) → IsSome (label_of tubes q d e p) → HasLabel tubes q d e (label_of tubes q d e) p
has-label tubes q d e p h = at (label_of tubes q d e p) refl h
  where
    at : (o : Option Label) → label_of tubes q d e p ≡ o → IsSome o → IsSomeAnd o (λ l. LabelHolds d e l (change_in tubes q.x.0 p) (change_in tubes q.y.0 p))
    at None f k = absurd (cc)
    at (Some l) f k = first-holds d e (change_in tubes q.x.0 p) (change_in tubes q.y.0 p) l f

some-of : (P : Label → Type 0) (o : Option Label) → IsSomeAnd o P → IsSome o
some-of P None h = absurd h
some-of P (Some l) h = refl

zero-of : (z : ℤ) → int_eq z (pos 0) ≡ true → z ≡ pos 0
zero-of z h = grind (arith, ints)

zero-eq : (z : ℤ) → z ≡ pos 0 → int_eq z (pos 0) ≡ true
zero-eq z h = rw h refl

module _ (tubes : Tubes) (last : ℕ) (q : Query) (d e : ℤ) (runs : List Run) (cells : List (ℕ × ℕ)) (own : AreCellsOf runs q.gap last cells) where
  abbrev label : ℕ × ℕ → Option Label
  label = label_of tubes q d e

  abbrev Meets : Type 0
  Meets = PassesUnder tubes last q d e cells (label_of tubes q d e)

  abbrev near : Bool
  near = is_near q.norm (natural q.radius) (natural (d -ℤ pos 1)) (natural (e -ℤ pos 1))

  labelled : Meets → AllByRecursion (AreLabelled label) (boundary cells)
  labelled meets =
      all-weaker (λ (s : Edge). HasLabel tubes q d e label s.from × HasLabel tubes q d e label s.to) (AreLabelled label) (boundary cells)
      (λ s h. (some-of _ (label s.from) h.0, some-of _ (label s.to) h.1)) (recursion_from_All _ (boundary cells) meets.labels)

  meets : AllByRecursion (AreLabelled label) (boundary cells) → near ≡ true → (degree_of cells label ≡ pos 0 → ⊥) → Meets
  meets all reached turned = record {
    rising = own.rising;
    valid = λ c p h k. ((own.same c).0 h).valid p k;
    reached = reached;
    labels = All-from_recursion (λ (s : Edge). HasLabel tubes q d e label s.from × HasLabel tubes q d e label s.to) (boundary cells)
        (all-weaker (AreLabelled label) (λ (s : Edge). HasLabel tubes q d e label s.from × HasLabel tubes q d e label s.to) (boundary cells)
        (λ s h. (has-label tubes q d e s.from h.0, has-label tubes q d e s.to h.1)) all);
    turned = turned;
  }

  abbrev IsAnswer : Option ℤ → Type 0
  IsAnswer r = MatchOption r (Meets → ⊥) (λ z. Meets × (z ≡ degree_of cells label))

  answer : (turns : Option ℤ) → MatchOption turns (AllByRecursion (AreLabelled label) (boundary cells) → ⊥) (λ z. AllByRecursion (AreLabelled label) (boundary cells) × (z ≡ degree_of cells label)) → IsAnswer (tested q d e turns)
  answer None h = λ m. h (labelled m)
  answer (Some z) h = at (int_eq z (pos 0)) near refl refl
    where
      at : (zero reached : Bool) → int_eq z (pos 0) ≡ zero → near ≡ reached → IsAnswer (cond zero None (cond reached (Some z) None))
      at true reached f g = λ m. m.turned (sym h.1 ∙ zero-of z f)
      at false false f g = λ m. let t = m.reached in absurd (cc)
      at false true f g = (meets h.0 g (λ k. let t = zero-eq z (h.1 ∙ k) in absurd (cc)), h.1)

  pub answered : (turns degree : Option ℤ) → turns ≡ turns_along label (boundary cells) → degree ≡ tested q d e turns → IsAnswer degree
  answered turns degree f g = subst IsAnswer (sym g) (answer turns (subst (λ (o : Option ℤ). MatchOption o (AllByRecursion (AreLabelled label) (boundary cells) → ⊥) (λ z. AllByRecursion (AreLabelled label) (boundary cells) × (z ≡ degree_of cells label))) (sym f) (told label cells)))

-- all in a box that is not empty
pub tested-in : (s : Shape) (xs : List Span) (q : Query) (rates_x rates_y : List ℕ) (set runs : List Run) (steps_x steps_y : List ℤ) (d e : ℤ) (turns degree : Option ℤ)
    → AreInOrder set → AreInOrder runs → ((a b : ℕ) → InRuns runs a b ↔ IsOverSome set q.gap (last_tick s.grid) a b)
    → steps_x ≡ map (λ k. greatest_in (step_of (at_tick s xs) q.x.0 rates_x k)) (range_with_len 0 (last_tick s.grid))
    → steps_y ≡ map (λ k. greatest_in (step_of (at_tick s xs) q.y.0 rates_y k)) (range_with_len 0 (last_tick s.grid))
    → d ≡ greatest_sum (step_at steps_x) (pairs_in runs) → e ≡ greatest_sum (step_at steps_y) (pairs_in runs)
    → turns ≡ turns_along (label_of (at_tick s xs) q d e) (boundary (pairs_in runs)) → degree ≡ tested q d e turns
    → IsTested s xs q rates_x rates_y set degree
tested-in s xs q rates_x rates_y set runs steps_x steps_y d e turns degree set_order order same made_x made_y dx ey t g =
    let own = cells-are set runs q.gap (last_tick s.grid) set_order order same in
    let tubes = at_tick s xs in
    let cells = pairs_in runs in
    let f : d ≡ step_bound_of (at_tick s xs) q.x.0 rates_x (pairs_in runs) = bound-is (at_tick s xs) (last_tick s.grid) q.x.0 rates_x steps_x (pairs_in runs) d made_x within dx in
    let h : e ≡ step_bound_of (at_tick s xs) q.y.0 rates_y (pairs_in runs) = bound-is (at_tick s xs) (last_tick s.grid) q.y.0 rates_y steps_y (pairs_in runs) e made_y within ey in
    record {
      cells = pairs_in runs;
      own = own;
      test = subst (λ (z : ℤ). Answer z (step_bound_of (at_tick s xs) q.y.0 rates_y (pairs_in runs))) f (subst (λ (z : ℤ). Answer d z) h (answered (at_tick s xs) (last_tick s.grid) q d e set (pairs_in runs) own turns degree t g));
    }
  where
    Answer : ℤ → ℤ → Type 0
    Answer d e = MatchOption degree
        (PassesUnder (at_tick s xs) (last_tick s.grid) q d e (pairs_in runs) (label_of (at_tick s xs) q d e) → ⊥)
        (λ z. PassesUnder (at_tick s xs) (last_tick s.grid) q d e (pairs_in runs) (label_of (at_tick s xs) q d e) × (z ≡ degree_of (pairs_in runs) (label_of (at_tick s xs) q d e)))

    within : (c : ℕ × ℕ) → has (pairs_in runs) c ≡ true → (c.0 < last_tick s.grid) × (c.1 < last_tick s.grid)
    within c k =
        let own = cells-are set runs q.gap (last_tick s.grid) set_order order same in
        let cell = (own.same c).0 k in
        let far = cell.valid (c.0 + 1, c.1 + 1) (record { left = omega arith; right = omega arith; low = omega arith; high = omega arith }) in
        (omega (arith, far.apart, far.within), omega (arith, far.within))

-- the cells by a loan, and up to the last tick
pub end-within : (set runs lent : List Run) (gap ticks last n : ℕ) (grid : List ℕ) → AreInOrder runs → ((a b : ℕ) → InRuns runs a b ↔ IsOverSome set gap ticks a b)
    → lent ≡ runs → ticks ≡ last_tick grid → last_tick grid ≡ last → n ≡ last → EndBefore lent n
end-within set runs lent gap ticks last n grid order same e t g l =
    subst (λ (k : ℕ). EndBefore lent k) (sym l) (subst (λ (rs : List Run). EndBefore rs last) (sym e) (subst (EndBefore runs) (t ∙ g) (end-before set runs gap ticks order same)))

-- all in a store
pub tested-of : (box : Option (List Span)) (s : Shape) (q : Query) (rates_x rates_y : List ℕ) (set runs : List Run) (steps_x steps_y : List ℤ) (ticks : ℕ) (grid : List ℕ) (d e d' e' : ℤ) (turns degree : Option ℤ)
    → AreInOrder set → AreInOrder runs → ((a b : ℕ) → InRuns runs a b ↔ IsOverSome set q.gap ticks a b) → ticks ≡ last_tick grid → grid ≡ s.grid
    → IfSome box (λ xs. steps_x ≡ map (λ k. greatest_in (step_of (at_tick s xs) q.x.0 rates_x k)) (range_with_len 0 (last_tick s.grid)))
    → IfSome box (λ xs. steps_y ≡ map (λ k. greatest_in (step_of (at_tick s xs) q.y.0 rates_y k)) (range_with_len 0 (last_tick s.grid)))
    → d ≡ greatest_sum (step_at steps_x) (pairs_in runs) → e ≡ greatest_sum (step_at steps_y) (pairs_in runs) → d' ≡ d → e' ≡ e
    → turns ≡ turns_along (label_in s box q d' e') (boundary (pairs_in runs)) → degree ≡ tested q d' e' turns
    → IfSome box (λ xs. IsTested s xs q rates_x rates_y set degree)
tested-of None s q rates_x rates_y set runs steps_x steps_y ticks grid d e d' e' turns degree set_order order same t g made_x made_y dx ey f h told is = tt
tested-of (Some xs) s q rates_x rates_y set runs steps_x steps_y ticks grid d e d' e' turns degree set_order order same t g made_x made_y dx ey f h told is =
    tested-in s xs q rates_x rates_y set runs steps_x steps_y d' e' turns degree set_order order
    (subst (λ (k : ℕ). (a b : ℕ) → InRuns runs a b ↔ IsOverSome set q.gap k a b) (t ∙ ap last_tick g) same) made_x made_y (f ∙ dx) (h ∙ ey) told is

pub bound-lent : (steps lent : List ℤ) (runs cells : List Run) (d : ℤ) → lent ≡ steps → cells ≡ runs → d ≡ greatest_sum (step_at lent) (pairs_in cells) → d ≡ greatest_sum (step_at steps) (pairs_in runs)
bound-lent steps lent runs cells d e f h = h ∙ ap (λ (zs : List ℤ). greatest_sum (step_at zs) (pairs_in cells)) e ∙ ap (λ (rs : List Run). greatest_sum (step_at steps) (pairs_in rs)) f

pub turns-lent : (label : ℕ × ℕ → Option Label) (runs cells : List Run) (turns : Option ℤ) → cells ≡ runs → turns ≡ turns_along label (boundary (pairs_in cells)) → turns ≡ turns_along label (boundary (pairs_in runs))
turns-lent label runs cells turns f h = h ∙ ap (λ (rs : List Run). turns_along label (boundary (pairs_in rs))) f
