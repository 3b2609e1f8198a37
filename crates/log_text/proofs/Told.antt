-- A declared name stands at its number among the texts.
use Rattle.std.proofs.Common.{◌≡◌, ℕ, ◌+◌, Bool, true, false, cond, List, [], ◌∷◌, ◌++◌, Option, Some, None, inl, inr, ◌⊎◌, length, refl, sym, ap₂, subst, ◌∙◌, append_assoc, length-append, bytes_eq, flat_map}
use Rattle.std.specs.Prelude.{slice_index_or}
use Rattle.std.specs.Map.{lookup}
use Rattle.std.proofs.lemmas.List.Concat.{flat_map-append}
use Rattle.std.proofs.lemmas.List.Sums.{sum_by-cons}
use Rattle.std.proofs.lemmas.Slice.Eq.{bytes_eq-Decides}
use Rattle.tube_spec.specs.Span.{Span}
use Rattle.log_spelling.specs.Names.{is_name}
use Rattle.log_spelling.specs.References.{reference_text}
use Rattle.log_spelling.specs.declared.reference.Part.TheVariants as part
use Rattle.mission_items.specs.Made.{beacons_in, beacons_made, signals_in, signals_made, variables_in, variables_made}
use Rattle.mission_items.specs.Names.{declared_from}
use Rattle.mission_items.specs.Valid.{AreRightFrom}
use Rattle.mission_items.specs.declared.decl.Decl.{Decl}
use Rattle.mission_items.specs.declared.decl.Decl.TheVariants as decl
use Rattle.mission_items.specs.declared.item.Item.{Item}
use Rattle.mission_items.specs.declared.item.Item.TheVariants as item
use Rattle.mission_items.proofs.Standing.{after-seam, at-seam}
use Rattle.log_text.specs.NameTexts.{beacon_text, signal_text, variable_texts}

-- ---- as many texts as signals, variables and beacons

length-signal_text : (i : Item) → length (signal_text i) ≡ signals_made i
length-signal_text (item.Signal name range) = refl
length-signal_text i = refl

length-variable_texts : (i : Item) → length (variable_texts i) ≡ variables_made i
length-variable_texts (item.Ping x y first last (Some beacon) near far) = refl
length-variable_texts (item.Ping x y first last None near far) = refl
length-variable_texts i = refl

length-beacon_text : (i : Item) → length (beacon_text i) ≡ beacons_made i
length-beacon_text (item.Beacon name x y) = refl
length-beacon_text i = refl

pub length-signals : (items : List Item) → length (flat_map signal_text items) ≡ signals_in items
length-signals [] = refl
length-signals (i ∷ items) =
    length-append (signal_text i) (flat_map signal_text items) ∙ ap₂ (λ (a b : ℕ). a + b) (length-signal_text i) (length-signals items) ∙ sym (sum_by-cons signals_made i items)

pub length-variables : (items : List Item) → length (flat_map variable_texts items) ≡ variables_in items
length-variables [] = refl
length-variables (i ∷ items) =
    length-append (variable_texts i) (flat_map variable_texts items) ∙ ap₂ (λ (a b : ℕ). a + b) (length-variable_texts i) (length-variables items) ∙ sym (sum_by-cons variables_made i items)

pub length-beacons : (items : List Item) → length (flat_map beacon_text items) ≡ beacons_in items
length-beacons [] = refl
length-beacons (i ∷ items) =
    length-append (beacon_text i) (flat_map beacon_text items) ∙ ap₂ (λ (a b : ℕ). a + b) (length-beacon_text i) (length-beacons items) ∙ sym (sum_by-cons beacons_made i items)

-- ---- what is declared, among the texts

pub record TellsBeacon (items : List Item) (name : List ℕ) (place first : ℕ) : Type 0 where
  pub own : slice_index_or (flat_map beacon_text items) place [] ≡ name
  pub x : slice_index_or (flat_map variable_texts items) first [] ≡ reference_text name part.X
  pub y : slice_index_or (flat_map variable_texts items) (first + 1) [] ≡ reference_text name part.Y

abbrev pub Tells : List Item → List ℕ → Decl → Type 0
Tells items name (decl.Signal id range) = slice_index_or (flat_map signal_text items) id.0 [] ≡ name
Tells items name (decl.Variable id range) = slice_index_or (flat_map variable_texts items) id.0 [] ≡ reference_text name part.Whole
Tells items name (decl.Beacon place first x y) = TellsBeacon items name place first.0

signal-told : (before items : List Item) (name : List ℕ) (range : Span) → slice_index_or (flat_map signal_text (before ++ item.Signal name range ∷ items)) (signals_in before) [] ≡ name
signal-told before items name range =
    let i = item.Signal name range in
    at-seam (flat_map signal_text (before ++ i ∷ items)) (flat_map signal_text before) (flat_map signal_text items) (signals_in before) name [] (flat_map-append signal_text before (i ∷ items)) (length-signals before)

variable-told : (before items : List Item) (name : List ℕ) (range : Span) → slice_index_or (flat_map variable_texts (before ++ item.Variable name range ∷ items)) (variables_in before) [] ≡ reference_text name part.Whole
variable-told before items name range =
    let i = item.Variable name range in
    at-seam (flat_map variable_texts (before ++ i ∷ items)) (flat_map variable_texts before) (flat_map variable_texts items) (variables_in before) (reference_text name part.Whole) [] (flat_map-append variable_texts before (i ∷ items)) (length-variables before)

beacon-told : (before items : List Item) (name : List ℕ) (x y : Span) → TellsBeacon (before ++ item.Beacon name x y ∷ items) name (beacons_in before) (variables_in before)
beacon-told before items name x y =
    let i = item.Beacon name x y in
    let all = flat_map-append variable_texts before (i ∷ items) in
    let first = reference_text name part.X in
    let second = reference_text name part.Y in
    record {
      own = at-seam (flat_map beacon_text (before ++ i ∷ items)) (flat_map beacon_text before) (flat_map beacon_text items) (beacons_in before) name [] (flat_map-append beacon_text before (i ∷ items)) (length-beacons before);
      x = at-seam (flat_map variable_texts (before ++ i ∷ items)) (flat_map variable_texts before) (second ∷ flat_map variable_texts items) (variables_in before) first [] all (length-variables before);
      y = after-seam (flat_map variable_texts (before ++ i ∷ items)) (flat_map variable_texts before) (flat_map variable_texts items) (variables_in before) first second [] all (length-variables before);
    }

-- ---- what a search finds

-- which way a test went
chosen : {A : Type 0} (b : Bool) (x y z : A) → cond b x y ≡ z → ((b ≡ true) × (x ≡ z)) ⊎ (y ≡ z)
chosen true x y z e = inl (refl, e)
chosen false x y z e = inr e

some_is : (a b : Decl) → ◌≡◌ {A = Option Decl} (Some a) (Some b) → a ≡ b
some_is a b e = cc e

-- one name first, and the others after it
first-or_rest : (name key : List ℕ) (before items rest : List Item) (i : Item) (here d : Decl) → Tells (before ++ i ∷ (items ++ rest)) key here
    → (lookup (bytes_eq name) (declared_from (before ++ i ∷ []) items) ≡ Some d → Tells ((before ++ i ∷ []) ++ (items ++ rest)) name d)
    → cond (bytes_eq name key) (Some here) (lookup (bytes_eq name) (declared_from (before ++ i ∷ []) items)) ≡ Some d → Tells (before ++ i ∷ (items ++ rest)) name d
first-or_rest name key before items rest i here d tells more h =
    elim (chosen (bytes_eq name key) (Some here) (lookup (bytes_eq name) (declared_from (before ++ i ∷ []) items)) (Some d) h) [
      | inl q ↦
          let same : key ≡ name = sym ((bytes_eq-Decides name key).0 q.0) in
          subst (λ (e : Decl). Tells (before ++ i ∷ (items ++ rest)) name e) (some_is here d q.1) (subst (λ (k : List ℕ). Tells (before ++ i ∷ (items ++ rest)) k here) same tells)
      | inr q ↦ subst (λ (l : List Item). Tells l name d) (append_assoc before (i ∷ []) (items ++ rest)) (more q)
    ]

pub told-from : (name : List ℕ) (before items rest : List Item) (d : Decl) → lookup (bytes_eq name) (declared_from before items) ≡ Some d → Tells (before ++ (items ++ rest)) name d
told-from name before [] rest d h = cc h
told-from name before (item.Signal key range ∷ items) rest d h =
    let i = item.Signal key range in
    first-or_rest name key before items rest i (decl.Signal (record { 0 = signals_in before }) range) d (signal-told before (items ++ rest) key range) (told-from name (before ++ i ∷ []) items rest d) h
told-from name before (item.Variable key range ∷ items) rest d h =
    let i = item.Variable key range in
    first-or_rest name key before items rest i (decl.Variable (record { 0 = variables_in before }) range) d (variable-told before (items ++ rest) key range) (told-from name (before ++ i ∷ []) items rest d) h
told-from name before (item.Beacon key x y ∷ items) rest d h =
    let i = item.Beacon key x y in
    first-or_rest name key before items rest i (decl.Beacon (beacons_in before) (record { 0 = variables_in before }) x y) d (beacon-told before (items ++ rest) key x y) (told-from name (before ++ i ∷ []) items rest d) h
told-from name before (i ∷ items) rest d h = subst (λ (l : List Item). Tells l name d) (append_assoc before (i ∷ []) (items ++ rest)) (told-from name (before ++ i ∷ []) items rest d h)

-- ---- declared names are spelled as names

spelled-or_rest : (name key : List ℕ) (here d : Decl) (others : Option Decl) → is_name key ≡ true → (others ≡ Some d → is_name name ≡ true) → cond (bytes_eq name key) (Some here) others ≡ Some d → is_name name ≡ true
spelled-or_rest name key here d others spelled more h =
    elim (chosen (bytes_eq name key) (Some here) others (Some d) h) [
      | inl q ↦ subst (λ (k : List ℕ). is_name k ≡ true) (sym ((bytes_eq-Decides name key).0 q.0)) spelled
      | inr q ↦ more q
    ]

pub spelled-from : (name : List ℕ) (version end : ℕ) (before items : List Item) (d : Decl) → AreRightFrom version end before items → lookup (bytes_eq name) (declared_from before items) ≡ Some d → is_name name ≡ true
spelled-from name version end before [] d right h = cc h
spelled-from name version end before (item.Signal key range ∷ items) d right h =
    let i = item.Signal key range in
    spelled-or_rest name key (decl.Signal (record { 0 = signals_in before }) range) d (lookup (bytes_eq name) (declared_from (before ++ i ∷ []) items)) right.1.0.0 (spelled-from name version end (before ++ i ∷ []) items d right.2) h
spelled-from name version end before (item.Variable key range ∷ items) d right h =
    let i = item.Variable key range in
    spelled-or_rest name key (decl.Variable (record { 0 = variables_in before }) range) d (lookup (bytes_eq name) (declared_from (before ++ i ∷ []) items)) right.1.0.0 (spelled-from name version end (before ++ i ∷ []) items d right.2) h
spelled-from name version end before (item.Beacon key x y ∷ items) d right h =
    let i = item.Beacon key x y in
    spelled-or_rest name key (decl.Beacon (beacons_in before) (record { 0 = variables_in before }) x y) d (lookup (bytes_eq name) (declared_from (before ++ i ∷ []) items)) right.1.0.0 (spelled-from name version end (before ++ i ∷ []) items d right.2) h
spelled-from name version end before (i ∷ items) d right h = spelled-from name version end (before ++ i ∷ []) items d right.2 h
