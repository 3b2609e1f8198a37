-- The degree law for trajectories in a box.
use Rattle.std.proofs.Common.{◌≡◌, ℕ, ◌<◌, ◌≤◌, true, Option, Some, None, List, length, ℤ, pos, negsuc, ◌+ℤ◌, ◌-ℤ◌, neg_ℤ, ◌≤ℤ◌, arith, ap, All}
use Rattle.std.specs.Option.{IsSomeAnd}
use Rattle.std.specs.List.{AllByRecursion}
use Rattle.std.specs.Int.{int_max}
use Rattle.std.proofs.lemmas.Int.{ints, clamps}
use Rattle.std.proofs.lemmas.List.Elements.{recursion_from_All, All-from_recursion}
use Rattle.tube_spec.specs.Span.{Span, Holds, natural}
use Rattle.tube_spec.specs.Tick.{at_tick}
use Rattle.tube_spec.specs.Assignment.{value_at}
use Rattle.tube_spec.proofs.Ticks.{at_tick-holds}
use Rattle.tube_spec.specs.Grid.{IsGrid, last_tick}
use Rattle.tube_spec.specs.Shape.{Shape}
use Rattle.tube_spec.specs.Box.{IsBelow}
use Rattle.tube_spec.specs.Assignment.{Assignment, IsHull}
use Rattle.tube_names.specs.declared.queries.Query.{Query}
use Rattle.hull_tree.specs.Revisits.{magnitude}
use Rattle.hull_tree.proofs.Judgements.{near-mono}
use Rattle.loop_degree.specs.declared.labels.Label.{Label}
use Rattle.loop_degree.specs.declared.labels.Label.TheVariants.{East, West, North, South}
use Rattle.loop_degree.specs.Pairs.{has}
use Rattle.loop_degree.specs.Cells.{Edge, IsCornerOf, next_a, next_both, boundary}
use Rattle.loop_degree.specs.Labels.{LabelHolds}
use Rattle.loop_degree.specs.Steps.{Tubes, step_of, greatest_in, step_bound_of}
use Rattle.loop_degree.specs.Degree.{IsValid, change_in, HasLabel, PassesUnder, IsRateOf, HasRevisit, DegreeLaw}
use Rattle.loop_degree.proofs.Rising.{rising-apart}
use Rattle.loop_degree.proofs.Alls.{all-both, all-weaker}
use Rattle.loop_degree.proofs.Edges.{IsSide, boundary-sides}
use Rattle.loop_degree.proofs.Colours.{SaysOf, IsNear}
use Rattle.loop_degree.proofs.Passing.{passes}
use Rattle.loop_degree.proofs.Moves.{change_of, LiesIn, IsRateUpTo, sum-first, near-corners}

-- what a label says of the spans of two differences holds of the numbers in them
label-says : (d e : ℤ) (l : Label) (X Y : Span) (x y : ℤ) → Holds X x → Holds Y y → LabelHolds d e l X Y → SaysOf d e l x y
label-says d e East X Y x y h k t = omega (arith, ints, h.low)
label-says d e West X Y x y h k t = omega (arith, ints, h.high)
label-says d e North X Y x y h k t = omega (arith, ints, k.low)
label-says d e South X Y x y h k t = omega (arith, ints, k.high)

some-says : (d e : ℤ) (o : Option Label) (X Y : Span) (x y : ℤ) → Holds X x → Holds Y y → IsSomeAnd o (λ l. LabelHolds d e l X Y) → IsSomeAnd o (λ l. SaysOf d e l x y)
some-says d e None X Y x y h k t = t
some-says d e (Some l) X Y x y h k t = label-says d e l X Y x y h k t

change-holds : (tubes : Tubes) (w : ℕ → ℕ → ℤ) (last x : ℕ) (p : ℕ × ℕ) → LiesIn tubes w last x → p.0 ≤ last → p.1 ≤ last → Holds (change_in tubes x p) (change_of w x p)
change-holds tubes w last x p h i j =
    let a = h p.0 i in
    let b = h p.1 j in
    record { low = omega (arith, ints, a.low, a.high, b.low, b.high); high = omega (arith, ints, a.low, a.high, b.low, b.high) }

-- what is below its bound is near where the bound less one is
natural-over : (m : ℕ) (z : ℤ) → pos m ≤ℤ z → m ≤ natural z
natural-over m (pos n) h = omega (arith, ints)
natural-over m (negsuc n) h = absurd (omega (arith, ints))

magnitude-under : (x d : ℤ) → pos 0 ≤ℤ x → (x +ℤ pos 1) ≤ℤ d → magnitude x ≤ natural (d -ℤ pos 1)
magnitude-under (negsuc m) d h k = absurd (omega (arith, ints))
magnitude-under (pos m) d h k =
    let same : int_max (pos m) (neg_ℤ (pos m)) ≡ pos m = omega (arith, ints, clamps) in
    let size : magnitude (pos m) ≡ m = ap natural same in
    omega (arith, size, natural-over m (d -ℤ pos 1) (omega (arith, ints)))

module _ (tubes : Tubes) (last : ℕ) (q : Query) (rates_x rates_y : List ℕ) (cells : List (ℕ × ℕ)) (label : ℕ × ℕ → Option Label) (w : ℕ → ℕ → ℤ) (in_x : LiesIn tubes w last q.x.0) (in_y : LiesIn tubes w last q.y.0) where
  abbrev d : ℤ
  d = step_bound_of tubes q.x.0 rates_x cells

  abbrev e : ℤ
  e = step_bound_of tubes q.y.0 rates_y cells

  abbrev change_x : ℕ × ℕ → ℤ
  change_x p = change_of w q.x.0 p

  abbrev change_y : ℕ × ℕ → ℤ
  change_y p = change_of w q.y.0 p

  abbrev Said : ℕ × ℕ → Type 0
  Said p = IsSomeAnd (label p) (λ l. SaysOf d e l (change_x p) (change_y p))

  abbrev Labelled : Edge → Type 0
  Labelled s = HasLabel tubes q d e label s.from × HasLabel tubes q d e label s.to

  abbrev AreRates : ℕ → List ℕ → Type 0
  AreRates x rates = AllByRecursion (λ v. LiesIn tubes w last v × IsRateUpTo w last x v) rates

  -- the label of a valid corner holds of the trajectory
  said-valid : (p : ℕ × ℕ) → IsValid q.gap last p → HasLabel tubes q d e label p → Said p
  said-valid p v t =
      some-says d e (label p) (change_in tubes q.x.0 p) (change_in tubes q.y.0 p) _ _
      (change-holds tubes w last q.x.0 p in_x (omega (arith, v.apart, v.within)) v.within)
      (change-holds tubes w last q.y.0 p in_y (omega (arith, v.apart, v.within)) v.within) t

  module _ (test : PassesUnder tubes last q d e cells label) where
    slow : AreRates q.x.0 rates_x → AreRates q.y.0 rates_y → (c p r : ℕ × ℕ) → has cells c ≡ true → IsCornerOf c p → IsCornerOf c r → IsNear d (change_x p) (change_x r) × IsNear e (change_y p) (change_y r)
    slow rx ry c p r h i j =
        let far = test.valid c (next_both c) h (record { left = omega arith; right = omega arith; low = omega arith; high = omega arith }) in
        let below = test.valid c (next_a c) h (record { left = omega arith; right = omega arith; low = omega arith; high = omega arith }) in
        let m : c.1 < last = omega (arith, far.within) in
        let l : c.0 < last = omega (arith, below.apart, far.within) in
        (near-corners tubes w last q.x.0 rates_x cells c p r in_x rx h l m i j, near-corners tubes w last q.y.0 rates_y cells c p r in_y ry h l m i j)

    all-said : All (λ s. Said s.from × Said s.to) (boundary cells)
    all-said =
        All-from_recursion (λ s. Said s.from × Said s.to) (boundary cells)
        (all-both Labelled (IsSide cells) (λ s. Said s.from × Said s.to) (boundary cells)
        (λ s t h. (said-valid s.from (test.valid h.cell s.from h.in_cells h.from) t.0, said-valid s.to (test.valid h.cell s.to h.in_cells h.to) t.1))
        (recursion_from_All Labelled (boundary cells) test.labels) (boundary-sides cells))

    pub has-revisit : AreRates q.x.0 rates_x → AreRates q.y.0 rates_y → HasRevisit q last (w q.x.0) (w q.y.0) cells
    has-revisit rx ry =
        let first : pos 1 ≤ℤ d = sum-first (λ k. greatest_in (step_of tubes q.x.0 rates_x k)) cells in
        let second : pos 1 ≤ℤ e = sum-first (λ k. greatest_in (step_of tubes q.y.0 rates_y k)) cells in
        let found = passes d e change_x change_y label cells first second (slow rx ry) (rising-apart cells test.rising) all-said test.turned in
        let p = found.2.0 in
        let u = found.2.2 in
        let valid = test.valid found.0 p found.1 found.2.1 in
        record {
          cell = found.0;
          corner = p;
          in_cells = found.1;
          of_cell = found.2.1;
          revisit = record {
            apart = valid.apart;
            within = valid.within;
            near = near-mono q.norm (natural q.radius) (magnitude (change_x p)) (magnitude (change_y p)) (natural (d -ℤ pos 1)) (natural (e -ℤ pos 1))
                (magnitude-under (change_x p) d u.x_low u.x_high) (magnitude-under (change_y p) e u.y_low u.y_high) test.reached;
          };
        }

-- an assignment in a box lies in what the box gives
module _ (s : Shape) (w : Assignment) (hull xs : List Span) (grid : IsGrid s.grid) (is : IsHull s w hull) (below : IsBelow hull xs) where
  lies : (x : ℕ) → x < length s.signals → LiesIn (at_tick s xs) (value_at w) (last_tick s.grid) x
  lies x l k m = at_tick-holds s w hull xs grid is below x k l m

  rates-lie : (x : ℕ) (rates : List ℕ) → AllByRecursion (IsRateOf s w x) rates → AllByRecursion (λ v. LiesIn (at_tick s xs) (value_at w) (last_tick s.grid) v × IsRateUpTo (value_at w) (last_tick s.grid) x v) rates
  rates-lie x rates h = all-weaker (IsRateOf s w x) (λ v. LiesIn (at_tick s xs) (value_at w) (last_tick s.grid) v × IsRateUpTo (value_at w) (last_tick s.grid) x v) rates (λ v r. (lies v r.named, r.gains)) h

pub degree-law : DegreeLaw
degree-law s w hull xs q rates_x rates_y grid is below nx ny rx ry cells label test =
    has-revisit (at_tick s xs) (last_tick s.grid) q rates_x rates_y cells label (value_at w) (lies s w hull xs grid is below q.x.0 nx) (lies s w hull xs grid is below q.y.0 ny) test
    (rates-lie s w hull xs grid is below q.x.0 rates_x (recursion_from_All (IsRateOf s w q.x.0) rates_x rx))
    (rates-lie s w hull xs grid is below q.y.0 rates_y (recursion_from_All (IsRateOf s w q.y.0) rates_y ry))
