-- What holds of records holds of them and one more.
use Rattle.std.proofs.Common.{◌≡◌, ℕ, zero, suc, ◌+◌, ◌<◌, ◌≤◌, Bool, true, false, ◌||◌, ◌&&◌, cond, List, [], ◌∷◌, ◌++◌, refl, sym, ap, ◌∙◌, subst, arith, append-nil, append_assoc}
use Rattle.std.specs.Prelude.{not, slice_index_or, Option, Some, None, is_some, fold}
use Rattle.std.specs.List.{list_all, list_any}
use Rattle.std.proofs.lemmas.List.Folds.{list_all-append, list_any-append}
use Rattle.std.proofs.lemmas.List.Sums.{fold-append, sum_by-append, sum_by-cons}
use Rattle.std.specs.Prelude.{ℤ, pos, negsuc, ◌≤ℤ◌, ◌<ℤ◌}
use Rattle.std.proofs.lemmas.Int.{ints}
use Rattle.tube_spec.specs.Span.{natural}
use Rattle.slice_gates.specs.Cuts.{uniform_cuts}
use Rattle.mission_items.specs.Cuts.{boundaries, with_cut}
use Rattle.mission_items.specs.Made.{beacons_in, beacons_made, has_head, is_head, rate_in, signals_in, signals_made, variables_in, variables_made}
use Rattle.mission_items.specs.Room.{feet_from, foot_of}
use Rattle.mission_items.specs.Valid.{AreRight, AreRightFrom, IsInPlace, IsRight, is_revisit, may_precede_cut, revisits_in}
use Rattle.mission_items.specs.declared.item.Item.{Item}
use Rattle.mission_items.specs.declared.item.Item.TheVariants as item
use Rattle.mission_items.proofs.Making.{rate_in-append, rate_or}
use Rattle.log_draft.specs.Kept.{is_note_item}

-- ---- tests

pub or_false : (b : Bool) → (b || false) ≡ b
or_false true = refl
or_false false = refl

pub or_true : (b : Bool) → (b || true) ≡ true
or_true true = refl
or_true false = refl

pub and_true : (b : Bool) → (b && true) ≡ b
and_true true = refl
and_true false = refl

pub and_parts : (a b : Bool) → (a && b) ≡ true → (a ≡ true) × (b ≡ true)
and_parts true b e = (refl, e)
and_parts false b e = cc e

-- ---- one record more

right_from-last : (version end : ℕ) (before items : List Item) (i : Item) → AreRightFrom version end before items → IsInPlace (before ++ items) i → IsRight version end (before ++ items) i
    → AreRightFrom version end before (items ++ i ∷ [])
right_from-last version end before [] i h p r =
    (subst (λ (b : List Item). IsInPlace b i) (append-nil before) p, subst (λ (b : List Item). IsRight version end b i) (append-nil before) r, tt)
right_from-last version end before (x ∷ items) i h p r = (
  h.0,
  h.1,
  right_from-last version end (before ++ x ∷ []) items i h.2
      (subst (λ (b : List Item). IsInPlace b i) (sym (append_assoc before (x ∷ []) items)) p)
      (subst (λ (b : List Item). IsRight version end b i) (sym (append_assoc before (x ∷ []) items)) r),
)

pub right-last : (version end : ℕ) (items : List Item) (i : Item) → AreRight version end items → IsInPlace items i → IsRight version end items i → AreRight version end (items ++ i ∷ [])
right-last version end items i h p r = right_from-last version end [] items i h p r

pub any-last : (p : Item → Bool) (items : List Item) (i : Item) → list_any p (items ++ i ∷ []) ≡ (list_any p items || p i)
any-last p items i = list_any-append p items (i ∷ []) ∙ ap (λ (b : Bool). list_any p items || b) (or_false (p i))

pub all-last : (p : Item → Bool) (items : List Item) (i : Item) → list_all p (items ++ i ∷ []) ≡ (list_all p items && p i)
all-last p items i = list_all-append p items (i ∷ []) ∙ ap (λ (b : Bool). list_all p items && b) (and_true (p i))

pub head-last : (items : List Item) (i : Item) → has_head (items ++ i ∷ []) ≡ (has_head items || is_head i)
head-last items i = any-last is_head items i

rated-or : (o : Option ℕ) (ys : List Item) (x : ℕ) → is_some (rate_or o ys x) ≡ (is_some o || is_some (rate_in ys x))
rated-or None ys x = refl
rated-or (Some rate) ys x = refl

pub rated-last : (x : ℕ) (items : List Item) (i : Item) → is_some (rate_in (items ++ i ∷ []) x) ≡ (is_some (rate_in items x) || is_some (rate_in (i ∷ []) x))
rated-last x items i = ap (λ (o : Option ℕ). is_some o) (rate_in-append items (i ∷ []) x) ∙ rated-or (rate_in items x) (i ∷ []) x

pub revisits-last : (items : List Item) (i : Item) → revisits_in (items ++ i ∷ []) ≡ revisits_in items + cond (is_revisit i) 1 0
revisits-last items i = sum_by-append (λ (j : Item). cond (is_revisit j) 1 0) items (i ∷ []) ∙ omega arith

pub boundaries-last : (ticks width : ℕ) (items : List Item) (i : Item) → boundaries ticks width (items ++ i ∷ []) ≡ with_cut (boundaries ticks width items) i
boundaries-last ticks width items i = fold-append with_cut (uniform_cuts ticks width) items (i ∷ [])

-- each beacon makes two variables
beacons-one : (i : Item) → beacons_made i ≤ variables_made i
beacons-one (item.Beacon name x y) = omega arith
beacons-one i = omega arith

pub beacons-few : (items : List Item) → beacons_in items ≤ variables_in items
beacons-few [] = omega arith
beacons-few (i ∷ items) = omega (arith, sum_by-cons beacons_made i items, sum_by-cons variables_made i items, beacons-one i, beacons-few items)

pub beacons-most : (i : Item) → beacons_made i ≤ 1
beacons-most (item.Beacon name x y) = omega arith
beacons-most i = omega arith

-- a list of nothing but false has false at each place
pub false_at : (xs : List Bool) (x : ℕ) → list_all not xs ≡ true → slice_index_or xs x false ≡ false
false_at [] x h = refl
false_at (true ∷ xs) x h = cc h
false_at (false ∷ xs) zero h = refl
false_at (false ∷ xs) (suc x) h = false_at xs x h

-- ---- notes, and records that may stand before a cut

is_note : (i : Item) → is_note_item i ≡ true → item.Note ≡ i
is_note item.Note h = refl
is_note i h = cc h

pub note-open : (items : List Item) → list_all is_note_item items ≡ true → list_all may_precede_cut items ≡ true
note-open [] h = refl
note-open (i ∷ items) h =
    let p = and_parts (is_note_item i) (list_all is_note_item items) h in
    let first : true ≡ may_precede_cut i = ap may_precede_cut (is_note i p.0) in
    rw (sym first) (note-open items p.1)

open-one : (i : Item) → may_precede_cut i ≡ true → (signals_made i ≡ 0) × (variables_made i ≡ 0)
open-one item.Head h = (refl, refl)
open-one item.Note h = (refl, refl)
open-one (item.Cut tick) h = (refl, refl)
open-one i h = cc h

pub open-makes : (items : List Item) → list_all may_precede_cut items ≡ true → (signals_in items ≡ 0) × (variables_in items ≡ 0)
open-makes [] h = (refl, refl)
open-makes (i ∷ items) h =
    let p = and_parts (may_precede_cut i) (list_all may_precede_cut items) h in
    let rest = open-makes items p.1 in
    let one = open-one i p.0 in
    (omega (arith, sum_by-cons signals_made i items, rest.0, one.0), omega (arith, sum_by-cons variables_made i items, rest.1, one.1))

open-foot : (cuts : List ℕ) (before : List Item) (i : Item) → may_precede_cut i ≡ true → foot_of cuts before i ≡ 0
open-foot cuts before item.Head h = refl
open-foot cuts before item.Note h = refl
open-foot cuts before (item.Cut tick) h = refl
open-foot cuts before i h = cc h

pub open-feet : (cuts : List ℕ) (before items : List Item) → list_all may_precede_cut items ≡ true → feet_from cuts before items ≡ 0
open-feet cuts before [] h = refl
open-feet cuts before (i ∷ items) h =
    let p = and_parts (may_precede_cut i) (list_all may_precede_cut items) h in
    omega (arith, open-foot cuts before i p.0, open-feet cuts (before ++ i ∷ []) items p.1)

pub notes_right : (version end : ℕ) (before items : List Item) → list_all is_note_item items ≡ true → AreRightFrom version end before items
notes_right version end before [] h = tt
notes_right version end before (i ∷ items) h =
    let p = and_parts (is_note_item i) (list_all is_note_item items) h in (
      subst (λ (n : Item). IsInPlace before n) (is_note i p.0) tt,
      subst (λ (n : Item). IsRight version end before n) (is_note i p.0) tt,
      notes_right version end (before ++ i ∷ []) items p.1,
    )

-- notes cut nothing
notes_cut : (cuts : List ℕ) (items : List Item) → list_all is_note_item items ≡ true → fold with_cut cuts items ≡ cuts
notes_cut cuts [] h = refl
notes_cut cuts (i ∷ items) h =
    let p = and_parts (is_note_item i) (list_all is_note_item items) h in
    let uncut : cuts ≡ with_cut cuts i = ap (with_cut cuts) (is_note i p.0) in
    ap (λ (c : List ℕ). fold with_cut c items) (sym uncut) ∙ notes_cut cuts items p.1

pub notes_boundaries : (ticks width : ℕ) (items : List Item) → list_all is_note_item items ≡ true → boundaries ticks width items ≡ uniform_cuts ticks width
notes_boundaries ticks width items h = notes_cut (uniform_cuts ticks width) items h

-- ---- whole numbers as natural ones

pub natural_most : (z : ℤ) (n : ℕ) → z ≤ℤ pos n → natural z ≤ n
natural_most (pos m) n h = omega (arith, ints, h)
natural_most (negsuc m) n h = omega arith

pub natural_above : (z : ℤ) (n : ℕ) → pos n <ℤ z → n < natural z
natural_above (pos m) n h = omega (arith, ints, h)
natural_above (negsuc m) n h = absurd (omega (arith, ints, h))
