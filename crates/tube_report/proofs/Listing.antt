-- The records that declare a name, and the text of a section by their places.
use Rattle.std.proofs.Common.{◌≡◌, ℕ, ◌+◌, ◌<◌, ◌≤◌, Bool, true, false, cond, List, [], ◌∷◌, ◌++◌, length, length-append, take, refl, sym, ap, ap₂, ◌∙◌, subst, arith, append-nil, append_assoc, flat_map, get_or}
use Rattle.std.specs.Prelude.{All}
use Rattle.std.proofs.Math.Seq.{take-append_seam}
use Rattle.std.proofs.lemmas.Grind.{flat_map-append}
use Rattle.std.proofs.lemmas.List.{get_or_default, length-take-le, take_more}
use Rattle.std.proofs.lemmas.List.Elements.{All-append, All-cons, All-nil}
use Rattle.std.proofs.lemmas.List.Sums.{sum_by_more_le}
use Rattle.mission_items.specs.Made.{signals_in, signals_made, variables_in, variables_made}
use Rattle.mission_items.specs.Names.{declared, declared_from, names_of}
use Rattle.mission_items.specs.declared.decl.Decl.{Decl}
use Rattle.mission_items.specs.declared.item.Item.{Item}
use Rattle.mission_items.specs.declared.item.Item.TheVariants as item
use Rattle.mission_items.specs.declared.mission.Mission.{Mission}
use Rattle.mission_items.proofs.Making.{signals-last, variables-last}
use Rattle.mission_items.proofs.Standing.{at-seam}
use Rattle.tube_report.specs.Places.{Listed, Stands, is_naming, listed, names_at, place_behind, place_of, places_from, places_of}
use Rattle.tube_report.specs.declared.listed.Place.{Place}

-- ---- one record more

places_from-append : (before xs ys : List Item) → places_from before (xs ++ ys) ≡ places_from before xs ++ places_from (before ++ xs) ys
places_from-append before [] ys = ap (λ (b : List Item). places_from b ys) (sym (append-nil before))
places_from-append before (r ∷ xs) ys =
    ap (λ (l : List Place). place_of before r ++ l) (places_from-append (before ++ r ∷ []) xs ys ∙ ap (λ (b : List Item). places_from (before ++ r ∷ []) xs ++ places_from b ys) (append_assoc before (r ∷ []) xs))
    ∙ sym (append_assoc (place_of before r) (places_from (before ++ r ∷ []) xs) (places_from (before ++ r ∷ xs) ys))

places-last : (items : List Item) (i : Item) → places_of (items ++ i ∷ []) ≡ places_of items ++ place_of items i
places-last items i = places_from-append [] items (i ∷ []) ∙ ap (λ (l : List Place). places_of items ++ l) (append-nil (place_of items i))

-- the list with a record more
abbrev pub listed_with : Listed → ℕ → Item → Listed
listed_with l index i = record {
  places = l.places ++ place_behind index l.signals l.variables i;
  signals = l.signals + signals_made i;
  variables = l.variables + variables_made i;
}

listed-last : (items : List Item) (i : Item) → listed_with (listed items) (length items) i ≡ listed (items ++ i ∷ [])
listed-last items i = rw (places-last items i, signals-last items i, variables-last items i) refl

module _ (m : Mission) (i : ℕ) (x : Item) (at : x ≡ get_or m.items i x) (inside : i < length m.items) where
  pub listed_more : listed_with (listed (take i m.items)) i x ≡ listed (take (i + 1) m.items)
  listed_more =
      ap (λ (k : ℕ). listed_with (listed (take i m.items)) k x) (sym (length-take-le i m.items (omega (arith, inside))))
      ∙ (listed-last (take i m.items) x
      ∙ ap listed (ap (λ (y : Item). take i m.items ++ y ∷ []) at ∙ sym (take_more m.items i x inside)))

  pub few_signals : signals_in m.items ≤ 64 → signals_in (take i m.items) + signals_made x ≤ 64
  few_signals few = omega (arith, few, sum_by_more_le signals_made m.items i x inside, ap signals_made at)

  pub few_variables : variables_in m.items ≤ 200000 → variables_in (take i m.items) + variables_made x ≤ 200000
  few_variables few = omega (arith, few, sum_by_more_le variables_made m.items i x inside, ap variables_made at)

-- ---- what stands at the places

here : (before items : List Item) (i : Item) → Stands (before ++ i ∷ items) (record { index = length before; signals = signals_in before; variables = variables_in before })
here before items i = record {
  within = omega (arith, length-append before (i ∷ items));
  signals = ap signals_in (take-append_seam before (i ∷ items));
  variables = ap variables_in (take-append_seam before (i ∷ items));
}

one_stands : (before items : List Item) (i : Item) → All (Stands (before ++ i ∷ items)) (place_of before i)
one_stands before items i = by (is_naming i)
  where
    p : Place
    p = record { index = length before; signals = signals_in before; variables = variables_in before }

    by : (b : Bool) → All (Stands (before ++ i ∷ items)) (cond b (p ∷ []) [])
    by true = All-cons (Stands (before ++ i ∷ items)) p [] (here before items i) (All-nil (Stands (before ++ i ∷ items)))
    by false = All-nil (Stands (before ++ i ∷ items))

stand-from : (before items : List Item) → All (Stands (before ++ items)) (places_from before items)
stand-from before [] = All-nil (Stands (before ++ []))
stand-from before (i ∷ items) =
    All-append (Stands (before ++ i ∷ items)) (place_of before i) (places_from (before ++ i ∷ []) items) (one_stands before items i)
    (subst (λ (l : List Item). All (Stands l) (places_from (before ++ i ∷ []) items)) (append_assoc before (i ∷ []) items) (stand-from (before ++ i ∷ []) items))

pub all_stand : (items : List Item) → All (Stands items) (places_of items)
all_stand items = stand-from [] items

pub item_at : (items : List Item) (p : Place) (x : Item) → Stands items p → x ≡ get_or items p.index x → names_of (take p.index items) x ≡ names_at items p
item_at items p x s at = ap (names_of (take p.index items)) (at ∙ get_or_default items p.index x item.Note s.within)

-- ---- the names at the places are all names

module _ (text : List ℕ × Decl → List ℕ) where
  abbrev pub text_at : List Item → Place → List ℕ
  text_at items p = flat_map text (names_at items p)

  names_here : (before items : List Item) (i : Item)
      → text_at (before ++ i ∷ items) (record { index = length before; signals = signals_in before; variables = variables_in before }) ++ [] ≡ flat_map text (names_of before i)
  names_here before items i =
      append-nil _
      ∙ ap (flat_map text) (ap₂ names_of (take-append_seam before (i ∷ items)) (at-seam (before ++ i ∷ items) before items (length before) i item.Note refl refl))

  one_text : (before items : List Item) (i : Item) → flat_map (text_at (before ++ i ∷ items)) (place_of before i) ≡ flat_map text (names_of before i)
  one_text before items (item.Signal name range) = names_here before items (item.Signal name range)
  one_text before items (item.Variable name range) = names_here before items (item.Variable name range)
  one_text before items (item.Beacon name x y) = names_here before items (item.Beacon name x y)
  one_text before items i = refl

  text-from : (before items : List Item) → flat_map (text_at (before ++ items)) (places_from before items) ≡ flat_map text (declared_from before items)
  text-from before [] = refl
  text-from before (i ∷ items) =
      flat_map-append (text_at (before ++ i ∷ items)) (place_of before i) (places_from (before ++ i ∷ []) items)
      ∙ (ap₂ (λ (a b : List ℕ). a ++ b) (one_text before items i)
      (ap (λ (l : List Item). flat_map (text_at l) (places_from (before ++ i ∷ []) items)) (sym (append_assoc before (i ∷ []) items)) ∙ text-from (before ++ i ∷ []) items)
      ∙ sym (flat_map-append text (names_of before i) (declared_from (before ++ i ∷ []) items)))

  pub listed_text : (items : List Item) → flat_map (text_at items) (places_of items) ≡ flat_map text (declared items)
  listed_text items = text-from [] items
