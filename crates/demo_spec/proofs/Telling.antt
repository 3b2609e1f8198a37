-- What records so far mean for the record after them, in a demo mission.
use Rattle.std.proofs.Common.{◌≡◌, ◌≢◌, ℕ, zero, suc, ◌+◌, ◌-◌, ◌*◌, ◌<◌, ◌≤◌, ◌||◌, Bool, true, false, cond, List, [], ◌∷◌, ◌++◌, Option, Some, None, refl, sym, ap, subst, ◌∙◌, arith, length, length-append, map, append_assoc, append-nil, bytes_eq}
use Rattle.std.specs.List.{list_any}
use Rattle.std.specs.Map.{lookup}
use Rattle.std.proofs.lemmas.List.{map-append}
use Rattle.std.proofs.lemmas.List.Folds.{list_any-append}
use Rattle.std.proofs.lemmas.List.Sums.{sum_by_push}
use Rattle.tube_spec.specs.Span.{Span}
use Rattle.slice_gates.specs.Clock.{ticks_of}
use Rattle.slice_gates.specs.Near.{near_of, near_to}
use Rattle.slice_gates.specs.declared.clock.Ticks.{Ticks}
use Rattle.mission_items.specs.Made.{beacons_in, beacons_made, has_head, is_head, signals_in, signals_made, variables_in, variables_made}
use Rattle.mission_items.specs.Names.{declaration_of, declared, names_of}
use Rattle.mission_items.specs.Room.{evaluation_foot, feet_of, foot_of, slices_near, touching}
use Rattle.mission_items.specs.Valid.{AreRight, AreRightFrom, IsInPlace, IsRight, is_revisit, revisits_in}
use Rattle.mission_items.specs.declared.decl.Decl.{Decl}
use Rattle.mission_items.specs.declared.item.Item.{Item}
use Rattle.mission_items.proofs.Making.{beacons-last, declared-last, feet-last, signals-last, variables-last}
use Rattle.demo_spec.specs.Mission.{demo_cuts}

-- ---- one record more

right_from-last : (version end : ℕ) (before items : List Item) (i : Item) → AreRightFrom version end before items → IsInPlace (before ++ items) i → IsRight version end (before ++ items) i
    → AreRightFrom version end before (items ++ i ∷ [])
right_from-last version end before [] i h p r =
    (subst (λ (b : List Item). IsInPlace b i) (append-nil before) p, subst (λ (b : List Item). IsRight version end b i) (append-nil before) r, tt)
right_from-last version end before (x ∷ items) i h p r = (
  h.0,
  h.1,
  right_from-last version end (before ++ x ∷ []) items i h.2
      (subst (λ (b : List Item). IsInPlace b i) (sym (append_assoc before (x ∷ []) items)) p)
      (subst (λ (b : List Item). IsRight version end b i) (sym (append_assoc before (x ∷ []) items)) r),
)

pub right-last : (version end : ℕ) (items : List Item) (i : Item) → AreRight version end items → IsInPlace items i → IsRight version end items i → AreRight version end (items ++ i ∷ [])
right-last version end items i h p r = right_from-last version end [] items i h p r

head-stays : (items : List Item) (i : Item) → has_head items ≡ true → has_head (items ++ i ∷ []) ≡ true
head-stays items i h = list_any-append is_head items (i ∷ []) ∙ ap (λ (b : Bool). b || list_any is_head (i ∷ [])) h

revisits-last : (items : List Item) (i : Item) → revisits_in (items ++ i ∷ []) ≡ revisits_in items + cond (is_revisit i) 1 0
revisits-last items i = sum_by_push (λ (j : Item). cond (is_revisit j) 1 0) items i

-- ---- names

-- the names that records declare
abbrev pub names_in : List Item → List (List ℕ)
names_in items = map (λ (d : List ℕ × Decl). d.0) (declared items)

names-last : (items : List Item) (i : Item) → names_in (items ++ i ∷ []) ≡ names_in items ++ map (λ (d : List ℕ × Decl). d.0) (names_of items i)
names-last items i = ap (map (λ (d : List ℕ × Decl). d.0)) (declared-last items i) ∙ map-append (λ (d : List ℕ × Decl). d.0) (declared items) (names_of items i)

looked-past : (t u : Bool) (d : Decl) (o : Option Decl) → (t || u) ≡ false → (u ≡ false → o ≡ None) → cond t (Some d) o ≡ None
looked-past true u d o h more = cc h
looked-past false u d o h more = more h

lookup-none : (name : List ℕ) (ds : List (List ℕ × Decl)) → list_any (bytes_eq name) (map (λ (d : List ℕ × Decl). d.0) ds) ≡ false → lookup (bytes_eq name) ds ≡ None
lookup-none name [] h = refl
lookup-none name (d ∷ ds) h = looked-past (bytes_eq name d.0) (list_any (bytes_eq name) (map (λ (d : List ℕ × Decl). d.0) ds)) d.1 (lookup (bytes_eq name) ds) h (lookup-none name ds)

-- a name that is none of those declared is new
pub new-name : (items : List Item) (name : List ℕ) (names : List (List ℕ)) → names_in items ≡ names → list_any (bytes_eq name) names ≡ false → declaration_of name items ≡ None
new-name items name names e h = lookup-none name (declared items) (ap (list_any (bytes_eq name)) e ∙ h)

-- ---- read entries

few-by : (cuts : List ℕ) (ticks : Option Ticks) → length cuts ≡ 201 → slices_near (Rattle.std.specs.Option.option_map (near_to cuts) ticks) ≤ 200
few-by cuts None size = omega arith
few-by cuts (Some t) size = omega (arith, size)

pub touching-few : (cuts : List ℕ) (range : Span) → length cuts ≡ 201 → touching cuts range ≤ 200
touching-few cuts range size = few-by cuts (ticks_of cuts range) size

pub evaluation-few : (rated : Bool) (s : ℕ) → s ≤ 200 → evaluation_foot rated s ≤ 804
evaluation-few true s few = omega (arith, few)
evaluation-few false s few = omega (arith, few)

-- ---- the records so far

-- Right records of four signals, so many variables and beacons and these names, with no question for loops yet.
pub record IsTold (items : List Item) (variables beacons : ℕ) (names : List (List ℕ)) : Type 0 where
  pub right : AreRight 1 2000 items
  pub headed : has_head items ≡ true
  pub signals_are : signals_in items ≡ 4
  pub variables_are : variables_in items ≡ variables
  pub beacons_are : beacons_in items ≡ beacons
  pub names_are : names_in items ≡ names
  pub revisits_are : revisits_in items ≡ 0
  pub feet : feet_of demo_cuts items ≤ 2000 * length items

-- one record more that is no signal and no question
pub record IsNext (items : List Item) (i : Item) : Type 0 where
  pub place : IsInPlace items i
  pub right : IsRight 1 2000 items i
  pub foot : foot_of demo_cuts items i ≤ 2000
  pub no_signal : signals_made i ≡ 0
  pub no_question : is_revisit i ≡ false

pub told-last : (items : List Item) (i : Item) (variables beacons more_variables more_beacons : ℕ) (names more_names : List (List ℕ)) → IsTold items variables beacons names → IsNext items i
    → variables + variables_made i ≡ more_variables → beacons + beacons_made i ≡ more_beacons → names ++ map (λ (d : List ℕ × Decl). d.0) (names_of items i) ≡ more_names
    → IsTold (items ++ i ∷ []) more_variables more_beacons more_names
told-last items i variables beacons more_variables more_beacons names more_names told next v b n = record {
  right = right-last 1 2000 items i told.right next.place next.right;
  headed = head-stays items i told.headed;
  signals_are = omega (arith, signals-last items i, told.signals_are, next.no_signal);
  variables_are = omega (arith, variables-last items i, told.variables_are, v);
  beacons_are = omega (arith, beacons-last items i, told.beacons_are, b);
  names_are = names-last items i ∙ ap (λ (l : List (List ℕ)). l ++ map (λ (d : List ℕ × Decl). d.0) (names_of items i)) told.names_are ∙ n;
  revisits_are = revisits-last items i ∙ ap (λ (t : Bool). revisits_in items + cond t 1 0) next.no_question ∙ omega (arith, told.revisits_are);
  feet = omega (arith, feet-last demo_cuts items i, told.feet, next.foot, length-append items (i ∷ []));
}
