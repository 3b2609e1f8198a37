-- The sections of an accepted mission can be written: their names are spelled, their numbers are in range, and their boxes are proper.
use Rattle.std.proofs.Common.{◌≡◌, ℕ, zero, suc, ◌+◌, ◌≤◌, true, List, [], ◌∷◌, ◌++◌, Option, Some, All, arith, sym, ap, subst, length, length-append, map, take, slice_get}
use Rattle.std.specs.List.{AllByRecursion}
use Rattle.std.proofs.lemmas.List.{length-map}
use Rattle.std.proofs.lemmas.Option.{get_or_from_slice_get, slice_get_within}
use Rattle.tube_spec.specs.Grid.{IsGrid}
use Rattle.log_spelling.specs.Names.{is_name}
use Rattle.mission_items.specs.Made.{has_head}
use Rattle.mission_items.specs.Names.{declared, declared_from}
use Rattle.mission_items.specs.Valid.{AreRightFrom, IsMission}
use Rattle.mission_items.specs.declared.decl.Decl.{Decl}
use Rattle.mission_items.specs.declared.item.Item.{Item}
use Rattle.mission_items.specs.declared.item.Item.TheVariants as item
use Rattle.mission_items.specs.declared.mission.Mission.{Mission}
use Rattle.mission_net.specs.Records.{shape_by}
use Rattle.mission_net.proofs.Shapes.{shape-grid}
use Rattle.section_report.specs.Sections.{Section, IsSectionOf, AreSections, items_of, settles_from, section_ends}
use Rattle.report_reader.specs.Described.{CanBeWritten}

-- the names that right records declare are spelled as names
spelled-from : (version end : ℕ) (before items : List Item) → AreRightFrom version end before items → AllByRecursion (λ (d : List ℕ × Decl). is_name d.0 ≡ true) (declared_from before items)
spelled-from version end before [] right = tt
spelled-from version end before (item.Signal key range ∷ items) right = (right.1.0.0, spelled-from version end (before ++ item.Signal key range ∷ []) items right.2)
spelled-from version end before (item.Variable key range ∷ items) right = (right.1.0.0, spelled-from version end (before ++ item.Variable key range ∷ []) items right.2)
spelled-from version end before (item.Beacon key x y ∷ items) right = (right.1.0.0, spelled-from version end (before ++ item.Beacon key x y ∷ []) items right.2)
spelled-from version end before (i ∷ items) right = spelled-from version end (before ++ i ∷ []) items right.2

-- the first of right records are
first-right : (version end n : ℕ) (before items : List Item) → AreRightFrom version end before items → AreRightFrom version end before (take n items)
first-right version end zero before items right = tt
first-right version end (suc n) before [] right = tt
first-right version end (suc n) before (i ∷ items) right = (right.0, right.1, first-right version end n (before ++ i ∷ []) items right.2)

-- there are no more records that end a section than records
settles-few : (n : ℕ) (items : List Item) → length (settles_from n items) ≤ length items
settles-few n [] = omega arith
settles-few n (item.Settle ∷ items) = omega (arith, settles-few (n + 1) items)
settles-few n (i ∷ items) = omega (arith, settles-few (n + 1) items)

-- and fewer where one of these is the mission record
settles-fewer : (n : ℕ) (items : List Item) → has_head items ≡ true → length (settles_from n items) + 1 ≤ length items
settles-fewer n [] h = absurd (cc h)
settles-fewer n (item.Head ∷ items) h = omega (arith, settles-few (n + 1) items)
settles-fewer n (item.Settle ∷ items) h = omega (arith, settles-fewer (n + 1) items h)
settles-fewer n (i ∷ items) h = omega (arith, settles-fewer (n + 1) items h)

-- how many sections a mission has at most
sections-few : (m : Mission) → IsMission m → length (section_ends m.items) ≤ 1000000
sections-few m is = omega (arith, length-append (settles_from 0 m.items) (length m.items ∷ []), settles-fewer 0 m.items is.head, is.few.records)

done-few : (m : Mission) (budget : ℕ) (ds : List Section) → IsMission m → AreSections m budget ds → length ds ≤ 1000000
done-few m budget ds is are =
    let uptos = map (λ (d : Section). d.upto) ds in
    omega (arith, sections-few m is, ap length are.ends.1, length-append uptos are.ends.0, length-map ds (λ (d : Section). d.upto))

-- what holds of each holds of the one with a number
at-number : {X : Type 0} (P : X → Type 0) (xs : List X) (i : ℕ) (x : X) → slice_get xs i ≡ Some x → All P xs → P x
at-number P xs i x e all = subst P (get_or_from_slice_get xs i x x e) (all i x (slice_get_within xs i x e))

pub can-be-written : (m : Mission) (budget : ℕ) (ds : List Section) (i : ℕ) (d : Section) → IsMission m → AreSections m budget ds → slice_get ds i ≡ Some d
    → CanBeWritten (items_of m d) (i + 1) (shape_by m.cuts (items_of m d)) d.box
can-be-written m budget ds i d is are here = record {
  from_one = omega arith;
  to_million = omega (arith, slice_get_within ds i d here, done-few m budget ds is are);
  grid = subst IsGrid (sym (shape-grid m.cuts (items_of m d))) is.clock.grid;
  box = (at-number (IsSectionOf m budget) ds i d here are.each).proper;
  names = spelled-from m.version m.ticks [] (items_of m d) (first-right m.version m.ticks d.upto [] m.items is.right);
}
