-- Where the hull of an assignment lies below a box, its values lie between the bounds that are printed of the box.
use Rattle.std.proofs.Common.{◌≡◌, ℕ, ◌+◌, ◌*◌, ◌-◌, ◌<◌, ◌≤◌, List, Option, Some, None, IsSomeAnd, inl, inr, arith, sym, ap, subst, ◌∙◌, length, slice_index, zero-add, ℤ}
use Rattle.tube_spec.specs.Span.{Span, Holds, IsWithin, point}
use Rattle.tube_spec.specs.Grid.{IsGrid, last_tick}
use Rattle.tube_spec.specs.Shape.{Shape, gate_cell, envelope_cell, slice_width}
use Rattle.tube_spec.specs.Box.{cell_at, IsBelow, IsBelowBox}
use Rattle.tube_spec.specs.Assignment.{Assignment, value_at, number_of, hull_over, IsHull}
use Rattle.tube_spec.specs.Owner.{hull_box}
use Rattle.tube_spec.proofs.Spans.{IsWithin-trans}
use Rattle.tube_spec.proofs.Assignments.{value-within}
use Rattle.tube_spec.proofs.Families.{join_over-holds}
use Rattle.tube_spec.proofs.Ticks.{tick-split}
use Rattle.tube_spec.proofs.Hulls.{hull_box-is}
use Rattle.mission_items.specs.declared.item.Item.{Item}
use Rattle.mission_net.specs.Records.{owners, shape_by, Encloses, SatisfiesAll}
use Rattle.mission_net.proofs.Shapes.{shape-grid}
use Rattle.tube_report.specs.Sections.{tube_cell, tube_range}
use Rattle.section_report.specs.Printed.{LiesIn}

-- a number whose point lies within a span is in it
point-in : (t : Span) (p : ℤ) → IsWithin (point p) t → Holds t p
point-in t p w = record { low = w.low; high = w.high }

module _ (s : Shape) (a : Assignment) (q xs : List Span) (grid : IsGrid s.grid) (hull : IsHull s a q) (below : IsBelow q xs) where
  gate-in : (x i : ℕ) → x < length s.signals → i < length s.grid → IsWithin (point (value_at a x (slice_index s.grid i))) (cell_at xs (gate_cell s x i))
  gate-in x i lx li = subst (λ (t : Span). IsWithin t (cell_at xs (gate_cell s x i))) (hull.gates x i lx li) (below.each (gate_cell s x i))

  slice-in : (x i k : ℕ) → x < length s.signals → i + 1 < length s.grid → slice_index s.grid i ≤ k → k ≤ slice_index s.grid (i + 1)
      → IsWithin (point (value_at a x k)) (cell_at xs (envelope_cell s x i))
  slice-in x i k lx li low high =
      let first = slice_index s.grid i in
      let here : first + (k - first) ≡ k = omega (arith, low) in
      let inside : IsWithin (point (value_at a x k)) (hull_over (value_at a x) first (slice_width s i)) =
      subst (λ (t : ℕ). IsWithin (point (value_at a x t)) (hull_over (value_at a x) first (slice_width s i))) here
      (value-within (value_at a x) first (slice_width s i) (k - first) (omega (arith, low, high))) in
      IsWithin-trans (point (value_at a x k)) (hull_over (value_at a x) first (slice_width s i)) (cell_at xs (envelope_cell s x i)) inside
      (subst (λ (t : Span). IsWithin t (cell_at xs (envelope_cell s x i))) (hull.envelopes x i lx li) (below.each (envelope_cell s x i)))

  -- each cell of a signal lies within its two bounds in brief
  cell-in : (x j : ℕ) → j ≤ 2 * length s.grid - 2 → IsWithin (tube_cell s xs x j) (tube_range s xs x)
  cell-in x j l = subst (λ (i : ℕ). IsWithin (tube_cell s xs x i) (tube_range s xs x)) (zero-add j) (join_over-holds (tube_cell s xs x) 0 (2 * length s.grid - 2) j l)

  brief-in : (x k : ℕ) → x < length s.signals → k ≤ last_tick s.grid → IsWithin (point (value_at a x k)) (tube_range s xs x)
  brief-in x k lx lk = elim (tick-split s.grid (omega (arith, grid.slices)) k (omega (arith, grid.starts)) lk) [
    | inl h ↦
        subst (λ (t : ℕ). IsWithin (point (value_at a x t)) (tube_range s xs x)) h.2
        (IsWithin-trans (point (value_at a x (slice_index s.grid h.0))) (tube_cell s xs x (2 * h.0)) (tube_range s xs x) (gate-in x h.0 lx h.1) (cell-in x (2 * h.0) (omega (arith, h.1))))
    | inr h ↦
        let place : slice_index s.signals x + 2 * h.0 + 1 ≡ slice_index s.signals x + (2 * h.0 + 1) = omega arith in
        IsWithin-trans (point (value_at a x k)) (tube_cell s xs x (2 * h.0 + 1)) (tube_range s xs x)
        (subst (λ (c : ℕ). IsWithin (point (value_at a x k)) (cell_at xs c)) place (slice-in x h.0 k lx h.1 (omega (arith, h.2)) (omega (arith, h.3))))
        (cell-in x (2 * h.0 + 1) (omega (arith, h.1)))
  ]

  pub lies-below : LiesIn s xs a
  lies-below = record {
    gates = λ x i lx li. point-in (cell_at xs (gate_cell s x i)) (value_at a x (slice_index s.grid i)) (gate-in x i lx li);
    slices = λ x i k lx li low high. point-in (cell_at xs (envelope_cell s x i)) (value_at a x k) (slice-in x i k lx li low high);
    brief = λ x k lx lk. point-in (tube_range s xs x) (value_at a x k) (brief-in x k lx lk);
    variables = λ v lv.
        point-in (cell_at xs (slice_index s.vars v)) (number_of a v)
        (subst (λ (t : Span). IsWithin t (cell_at xs (slice_index s.vars v))) (hull.vars v lv) (below.each (slice_index s.vars v)));
  }

lies-in : (s : Shape) (a : Assignment) (q : List Span) → IsGrid s.grid → IsHull s a q → (box : Option (List Span)) → IsBelowBox (Some q) box → IsSomeAnd box (λ xs. LiesIn s xs a)
lies-in s a q grid hull None below = absurd below
lies-in s a q grid hull (Some xs) below = lies-below s a q xs grid hull below

-- an assignment that satisfies records lies in each box that encloses them
pub enclosed-lies : (grid : List ℕ) (items : List Item) (box : Option (List Span)) → IsGrid grid → Encloses grid items box → (a : Assignment) → SatisfiesAll grid a items
    → IsSomeAnd box (λ xs. LiesIn (shape_by grid items) xs a)
enclosed-lies grid items box is encloses a says =
    lies-in (shape_by grid items) a (hull_box grid (owners items) a) (subst IsGrid (sym (shape-grid grid items)) is)
    (hull_box-is grid (owners items) a (omega (arith, is.slices))).hull box (encloses a says)
