-- What is told of a query over a box that encloses the records is true of every assignment that satisfies them.
use Rattle.std.proofs.Common.{◌≡◌, ℕ, ◌<◌, List, [], Some, None, All, true, arith, sym, ap, subst, length, take, get_or}
use Rattle.std.specs.Prelude.{Option}
use Rattle.std.specs.List.{Contains}
use Rattle.std.proofs.lemmas.List.{length-map}
use Rattle.tube_spec.specs.Span.{Span}
use Rattle.tube_spec.specs.Grid.{IsGrid, last_tick}
use Rattle.tube_spec.specs.Shape.{Shape}
use Rattle.tube_spec.specs.Assignment.{Assignment, value_at, IsHull}
use Rattle.tube_spec.specs.Owner.{hull_box}
use Rattle.tube_spec.proofs.Hulls.{hull_box-is}
use Rattle.hull_tree.specs.Plane.{plane_of, is_possible}
use Rattle.hull_tree.specs.Revisits.{IsRevisit}
use Rattle.tube_names.specs.declared.queries.Query.{Query}
use Rattle.hull_tree.proofs.Nearness.{possible-revisit}
use Rattle.tplane_paver.specs.Runs.{InRuns}
use Rattle.loop_degree.specs.Degree.{IsRateOf}
use Rattle.loop_sets.specs.Sets.{IsComponent, HasRevisitIn}
use Rattle.loop_sets.proofs.Revisiting.{finding-law}
use Rattle.loop_report.specs.declared.found.Found.{Found}
use Rattle.mission_items.specs.declared.item.Item.{Item}
use Rattle.mission_items.specs.declared.mission.Mission.{Mission}
use Rattle.mission_items.specs.Valid.{IsMission}
use Rattle.mission_net.specs.Records.{owners, shape_by, Encloses, SatisfiesAll}
use Rattle.mission_net.proofs.Shapes.{shape-grid}
use Rattle.mission_loops.specs.Queries.{queries, rates_of}
use Rattle.mission_loops.specs.Findings.{sets_in, AreSetsOf, HoldRevisits, IsProved, IsTold, IsToldOver}
use Rattle.mission_loops.specs.Laws.{LoopsLaw}
use Rattle.hull_tree.specs.Asked.{IsAsked}
use Rattle.mission_loops.proofs.Asking.{asked, rates-below, rates-gain}
use Rattle.mission_loops.proofs.Telling.{all-components, all-unmap, in-some-set}

-- no assignment satisfies records whose box is empty
holds-none : (grid : List ℕ) (items : List Item) (q : Query) (sets : List Found) → Encloses grid items None → HoldRevisits grid items q sets
holds-none grid items q sets encloses w says a b r = absurd (encloses w says)

proved-none : (grid : List ℕ) (items : List Item) (q : Query) (found : Found) → Encloses grid items None → IsProved grid items q found
proved-none grid items q found encloses some w says = absurd (encloses w says)

module _ (grid : List ℕ) (items : List Item) (q : Query) (is : IsGrid grid) (right : IsAsked (length (shape_by grid items).signals) q)
    (named : (x : ℕ) → All (λ v. v < length (shape_by grid items).signals) (rates_of items x)) (xs : List Span) (encloses : Encloses grid items (Some xs)) where
  same-grid : IsGrid (shape_by grid items).grid
  same-grid = subst IsGrid (sym (shape-grid grid items)) is

  same-end : last_tick (shape_by grid items).grid ≡ last_tick grid
  same-end = ap last_tick (shape-grid grid items)

  hull-of : (w : Assignment) → IsHull (shape_by grid items) w (hull_box grid (owners items) w)
  hull-of w = (hull_box-is grid (owners items) w (omega (arith, is.slices))).hull

  -- a revisit of an assignment is a possible pair of the box
  revisit-possible : (w : Assignment) → SatisfiesAll grid w items → (a b : ℕ) → IsRevisit q (last_tick grid) (value_at w q.x.0) (value_at w q.y.0) a b
      → is_possible (plane_of (shape_by grid items) xs q) a b ≡ true
  revisit-possible w says a b r =
      possible-revisit (shape_by grid items) w (hull_box grid (owners items) w) xs q same-grid (hull-of w) (encloses w says) right.signals.x right.signals.y a b
      (subst (λ (end : ℕ). IsRevisit q end (value_at w q.x.0) (value_at w q.y.0) a b) (sym same-end) r)

  pub holds-all : (sets : List Found) → AreSetsOf items (shape_by grid items) xs q sets → HoldRevisits grid items q sets
  holds-all sets are w says a b r =
      let there : InRuns are.runs a b = (are.possible.same a b).1 (revisit-possible w says a b r) in
      let found = in-some-set are.runs (sets_in sets) are.components a b there in
      (found.0, omega (arith, found.1, length-map sets (λ (f : Found). f.set)), found.2)

  -- the rates of records are rates of each assignment that satisfies them
  are-rates : (w : Assignment) → SatisfiesAll grid w items → (x : ℕ) → All (IsRateOf (shape_by grid items) w x) (rates_of items x)
  are-rates w says x k d l = record {
    named = named x k d l;
    gains = λ i li. rates-gain (last_tick grid) w x [] items says k d l i (omega (arith, li, same-end));
  }

  pub proved-all : (sets : List Found) → AreSetsOf items (shape_by grid items) xs q sets → All (IsProved grid items q) sets
  proved-all sets are k d l some w says =
      let f = get_or sets k d in
      let component = all-unmap (IsComponent (plane_of (shape_by grid items) xs q)) (λ (g : Found). g.set) sets
      (all-components (plane_of (shape_by grid items) xs q) are.runs (sets_in sets) are.possible are.components) k d l in
      subst (λ (end : ℕ). HasRevisitIn q end (value_at w q.x.0) (value_at w q.y.0) f.set) same-end
      (finding-law (shape_by grid items) w (hull_box grid (owners items) w) xs q (rates_of items q.x.0) (rates_of items q.y.0) same-grid (hull-of w) (encloses w says) right.signals.x right.signals.y
      (are-rates w says q.x.0) (are-rates w says q.y.0) f.set f.finding component (are.findings k d l) some)

pub loops-law : LoopsLaw
loops-law m upto None q None is there encloses told = (tt, tt)
loops-law m upto None q (Some sets) is there encloses told =
    (holds-none m.cuts (take upto m.items) q sets encloses, λ k d l. proved-none m.cuts (take upto m.items) q (get_or sets k d) encloses)
loops-law m upto (Some xs) q None is there encloses told = (tt, tt)
loops-law m upto (Some xs) q (Some sets) is there encloses told =
    let right = asked m is upto q there in
    let named = rates-below m is upto in (
      holds-all m.cuts (take upto m.items) q is.clock.grid right named xs encloses sets told.1,
      proved-all m.cuts (take upto m.items) q is.clock.grid right named xs encloses sets told.1,
    )

-- What is told over the box is told, for records and a shape that are those of the mission's first ones.
pub told-of : (m : Mission) (upto : ℕ) (box : Option (List Span)) (q : Query) (told : Option (List Found)) → IsMission m → Contains (queries (take upto m.items)) q → Encloses m.cuts (take upto m.items) box
    → (s : Shape) → s ≡ shape_by m.cuts (take upto m.items) → (items : List Item) → items ≡ take upto m.items → IsToldOver items s box q told → IsTold m.cuts (take upto m.items) box q told
told-of m upto box q told is there encloses s same items first over =
    let all : IsToldOver (take upto m.items) (shape_by m.cuts (take upto m.items)) box q told =
    subst (λ (t : Shape). IsToldOver (take upto m.items) t box q told) same (subst (λ (l : List Item). IsToldOver l s box q told) first over) in
    let both = loops-law m upto box q told is there encloses all in
    record { over = all; possible = both.0; proved = both.1 }
