-- One record, and one field, more.
use Rattle.std.proofs.Common.{◌≡◌, ℕ, ◌+◌, ◌<◌, List, [], ◌∷◌, ◌++◌, length, refl, sym, ap, ◌∙◌, append_assoc, append-nil, flat_map, map, take, get_or}
use Rattle.std.proofs.lemmas.List.{map-append, take_more}
use Rattle.std.specs.Prelude.{replicate}
use Rattle.std.proofs.lemmas.List.Concat.{flat_map-append}
use Rattle.csv_rows.specs.Lines.{others}
use Rattle.tube_spec.specs.Span.{Span}
use Rattle.mission_items.specs.Made.{variables_made}
use Rattle.mission_items.specs.declared.item.Item.{Item}
use Rattle.mission_items.specs.declared.item.Item.TheVariants as item
use Rattle.log_text.specs.NameTexts.{NameTexts, beacon_text, signal_text, texts_of, texts_with, variable_texts}

-- a record that names nothing
pub texts_rest : (names : NameTexts) (i : Item) → ((name : List ℕ) (range : Span) → i ≡ item.Signal name range → ⊥) → ((name : List ℕ) (range : Span) → i ≡ item.Variable name range → ⊥)
    → ((name : List ℕ) (x y : Span) → i ≡ item.Beacon name x y → ⊥) → record names { variables = names.variables ++ replicate (variables_made i) [] } ≡ texts_with names i
texts_rest names (item.Signal name range) s v b = absurd (s name range refl)
texts_rest names (item.Variable name range) s v b = absurd (v name range refl)
texts_rest names (item.Beacon name x y) s v b = absurd (b name x y refl)
texts_rest names i s v b =
    let signals : names.signals ≡ names.signals ++ [] = sym (append-nil names.signals) in
    let beacons : names.beacons ≡ names.beacons ++ [] = sym (append-nil names.beacons) in
    λ j. record { signals = signals j; variables = names.variables ++ replicate (variables_made i) []; beacons = beacons j }

-- one record more
pub texts_last : (items : List Item) (i : Item) → texts_of (items ++ i ∷ []) ≡ texts_with (texts_of items) i
texts_last items i =
    let one : (f : Item → List (List ℕ)) → flat_map f (items ++ i ∷ []) ≡ flat_map f items ++ f i = λ (f : Item → List (List ℕ)). flat_map-append f items (i ∷ []) ∙ ap (λ (l : List (List ℕ)). flat_map f items ++ l) (append-nil (f i)) in
    λ j. record { signals = one signal_text j; variables = one variable_texts j; beacons = one beacon_text j }

-- one field more
pub others_last : (fields : List (List ℕ)) (text : List ℕ) → others (fields ++ text ∷ []) ≡ others fields ++ 44 ∷ text
others_last [] text = ap (λ (l : List ℕ). 44 ∷ l) (append-nil text)
others_last (field ∷ fields) text = ap (λ (l : List ℕ). 44 ∷ (field ++ l)) (others_last fields text) ∙ ap (λ (l : List ℕ). 44 ∷ l) (sym (append_assoc field (others fields) (44 ∷ text)))

-- a comma and the next field
pub field_goes : {F : Type 0} (text : F → List ℕ) (fields : List F) (i : ℕ) (none : F) (start before comma : List ℕ) → before ≡ start ++ others (map text (take i fields)) → comma ≡ before ++ 44 ∷ [] → i < length fields
    → comma ++ text (get_or fields i none) ≡ start ++ others (map text (take (i + 1) fields))
field_goes text fields i none start before comma so_far one h =
    let more : take (i + 1) fields ≡ take i fields ++ get_or fields i none ∷ [] = take_more fields i none h in
    let front = map text (take i fields) in
    let field = text (get_or fields i none) in
    ap (λ (l : List ℕ). l ++ field) (one ∙ ap (λ (l : List ℕ). l ++ 44 ∷ []) so_far)
    ∙ (append_assoc (start ++ others front) (44 ∷ []) field
    ∙ (append_assoc start (others front) (44 ∷ field)
    ∙ ap (λ (l : List ℕ). start ++ l) (sym (others_last front field) ∙ ap others (sym (ap (map text) more ∙ map-append text (take i fields) (get_or fields i none ∷ []))))))
