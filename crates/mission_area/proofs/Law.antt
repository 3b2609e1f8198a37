-- What is told of the area of a query over a box that encloses the records is true of every assignment that satisfies them.
use Rattle.std.proofs.Common.{◌≡◌, ℕ, ◌<◌, List, Some, None, ℤ, arith, refl, sym, subst, length, take}
use Rattle.std.specs.Prelude.{Option}
use Rattle.std.specs.List.{Contains}
use Rattle.tube_spec.specs.Span.{Span}
use Rattle.tube_spec.specs.Grid.{IsGrid}
use Rattle.tube_spec.specs.Shape.{Shape}
use Rattle.tube_spec.specs.Assignment.{Assignment, IsHull}
use Rattle.tube_spec.specs.Owner.{hull_box}
use Rattle.tube_spec.proofs.Hulls.{hull_box-is}
use Rattle.tube_names.specs.declared.queries.Query.{Query}
use Rattle.hull_tree.specs.Asked.{IsAsked}
use Rattle.area_paver.specs.Charts.{Chart, IsChartOver, mark_of, window_x, window_y}
use Rattle.area_paver.specs.Lattice.{axis_of, coordinate}
use Rattle.area_paver.specs.Laws.{Tells}
use Rattle.area_paver.specs.Survey.{Survey, survey_of, IsMark}
use Rattle.area_paver.specs.declared.axis.Axis.{Axis}
use Rattle.area_paver.proofs.Seeing.{tells}
use Rattle.area_report.specs.declared.coverage.Coverage.{Coverage}
use Rattle.area_report.specs.declared.coverage.Coverage.TheVariants as coverage
use Rattle.mission_items.specs.declared.item.Item.{Item}
use Rattle.mission_items.specs.declared.mission.Mission.{Mission}
use Rattle.mission_items.specs.Valid.{IsMission}
use Rattle.mission_loops.specs.Queries.{queries}
use Rattle.mission_loops.proofs.Asking.{asked}
use Rattle.mission_net.specs.Records.{owners, shape_by, Encloses, SatisfiesAll}
use Rattle.mission_net.proofs.Shapes.{shape-grid}
use Rattle.mission_area.specs.Coverages.{IsCharted, IsCoveredOver, IsCoverage, MarksHold, WindowHolds}
use Rattle.mission_area.specs.Laws.{AreasLaw}

-- the point in a column and a row has its mark
mark-at : (v : Survey) (a b : Axis) (c : Chart) → IsChartOver v a b c → (i j : ℕ) → i < c.columns.count → j < c.rows.count
    → IsMark v (coordinate c.columns i) (coordinate c.rows j) (mark_of c i j)
mark-at v a b c is i j li lj =
    subst (λ (x : Axis). IsMark v (coordinate x i) (coordinate c.rows j) (mark_of c i j)) (sym is.columns)
    (subst (λ (y : Axis). IsMark v (coordinate a i) (coordinate y j) (mark_of c i j)) (sym is.rows)
    (is.marks i j (subst (λ (x : Axis). i < x.count) is.columns li) (subst (λ (y : Axis). j < y.count) is.rows lj)))

module _ (grid : List ℕ) (items : List Item) (q : Query) (is : IsGrid grid) (right : IsAsked (length (shape_by grid items).signals) q) (xs : List Span)
    (encloses : Encloses grid items (Some xs)) where
  same-grid : IsGrid (shape_by grid items).grid
  same-grid = subst IsGrid (sym (shape-grid grid items)) is

  hull-of : (w : Assignment) → IsHull (shape_by grid items) w (hull_box grid (owners items) w)
  hull-of w = (hull_box-is grid (owners items) w (omega (arith, is.slices))).hull

  -- what the box tells of a place holds of each assignment that satisfies the records
  tells-of : (w : Assignment) → SatisfiesAll grid w items → (p r : ℤ) → Tells (shape_by grid items) xs q w p r
  tells-of w says p r =
      tells (shape_by grid items) w (hull_box grid (owners items) w) xs q same-grid (hull-of w) (encloses w says) right.signals.x right.signals.y right.radius.least p r

  pub marks-all : (step : ℤ) (told : Coverage) → IsCharted (shape_by grid items) xs q step told → MarksHold grid items q told
  marks-all step coverage.Empty covered = absurd covered
  marks-all step coverage.Crowded covered = tt
  marks-all step (coverage.Charted c) covered = λ w says.
      let s = shape_by grid items in
      let v = survey_of s xs q in
      let at = mark-at v (axis_of step (window_x s xs q)) (axis_of step (window_y s xs q)) c covered.1 in record {
        seen = λ i j li lj e. (tells-of w says (coordinate c.columns i) (coordinate c.rows j)).seen
            (subst (IsMark v (coordinate c.columns i) (coordinate c.rows j)) e (at i j li lj));
        never = λ i j li lj e. (tells-of w says (coordinate c.columns i) (coordinate c.rows j)).never
            (subst (IsMark v (coordinate c.columns i) (coordinate c.rows j)) e (at i j li lj));
      }

  pub window-all : WindowHolds grid items q xs
  window-all w says p r sees = let t = tells-of w says p r in (t.window_x sees, t.window_y sees)

-- over the empty box no chart is told, and no assignment satisfies the records
none-marked : (grid : List ℕ) (items : List Item) (q : Query) (told : Coverage) → Encloses grid items None → told ≡ coverage.Empty → MarksHold grid items q told
none-marked grid items q coverage.Empty encloses e = λ w says. encloses w says
none-marked grid items q coverage.Crowded encloses e = tt
none-marked grid items q (coverage.Charted c) encloses e = absurd (cc e)

pub areas-law : AreasLaw
areas-law m upto None q step told is there encloses covered = (none-marked m.cuts (take upto m.items) q told encloses covered, tt)
areas-law m upto (Some xs) q step told is there encloses covered =
    let right = asked m is upto q there in (
      marks-all m.cuts (take upto m.items) q is.clock.grid right xs encloses step told covered,
      window-all m.cuts (take upto m.items) q is.clock.grid right xs encloses,
    )

-- What is told over the box is told, for a shape that is that of the mission's first records.
pub coverage-of : (m : Mission) (upto : ℕ) (box : Option (List Span)) (step : ℤ) (q : Query) (told : Coverage) → IsMission m → Contains (queries (take upto m.items)) q → Encloses m.cuts (take upto m.items) box
    → (s : Shape) → s ≡ shape_by m.cuts (take upto m.items) → IsCoveredOver s box q step told → IsCoverage m.cuts (take upto m.items) box step q told
coverage-of m upto box step q told is there encloses s same over =
    let all : IsCoveredOver (shape_by m.cuts (take upto m.items)) box q step told = subst (λ (t : Shape). IsCoveredOver t box q step told) same over in
    let both = areas-law m upto box q step told is there encloses all in
    record { over = all; marks = both.0; window = both.1 }

-- over the empty box nothing is to tell
pub covered-none : (s : Shape) (box : Option (List Span)) (q : Query) (step : ℤ) → box ≡ None → IsCoveredOver s box q step coverage.Empty
covered-none s box q step none = subst (λ (b : Option (List Span)). IsCoveredOver s b q step coverage.Empty) (sym none) refl
