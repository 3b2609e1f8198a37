-- The names that records declare.
use Rattle.std.proofs.Common.{◌≡◌, ℕ, ◌||◌, Bool, Bor, List, [], ◌∷◌, ◌++◌, Option, length, map, refl, sym, ap, ap₂, ◌∙◌}
use Rattle.std.specs.Prelude.{bytes_eq, nat_lt, option_map}
use Rattle.std.specs.List.{list_any, position}
use Rattle.std.proofs.lemmas.List.Folds.{list_any-append}
use Rattle.mission_items.specs.Names.{declared, declared_from, names_of}
use Rattle.mission_items.specs.declared.decl.Decl.{Decl}
use Rattle.mission_items.specs.declared.item.Item.{Item}
use Rattle.mission_items.specs.declared.item.Item.TheVariants as item
use Rattle.tube_store.specs.declared.SignalId.{SignalId}
use Rattle.pair_causes.specs.Links.{signal_called}
use Rattle.pair_causes.proofs.Places.{position-map}

module _ (test : List ℕ → Bool) where
  -- the records before give a name its number, and not its bytes
  names-alike : (before : List Item) (i : Item) → list_any (λ (d : List ℕ × Decl). test d.0) (names_of before i) ≡ list_any (λ (d : List ℕ × Decl). test d.0) (names_of [] i)
  names-alike before (item.Signal name range) = refl
  names-alike before (item.Variable name range) = refl
  names-alike before (item.Beacon name x y) = refl
  names-alike before i = refl

  names-from : (before items : List Item)
      → list_any (λ (i : Item). list_any (λ (d : List ℕ × Decl). test d.0) (names_of [] i)) items ≡ list_any (λ (d : List ℕ × Decl). test d.0) (declared_from before items)
  names-from before [] = refl
  names-from before (i ∷ items) =
      ap₂ ◌||◌ (sym (names-alike before i)) (names-from (before ++ i ∷ []) items) ∙ sym (list_any-append (λ (d : List ℕ × Decl). test d.0) (names_of before i) (declared_from (before ++ i ∷ []) items))

-- one of the records declares a name that is too long, or none does
pub long_names : (items : List Item)
    → list_any (λ (i : Item). list_any (λ (d : List ℕ × Decl). nat_lt 30 (length d.0)) (names_of [] i)) items ≡ list_any (λ (d : List ℕ × Decl). nat_lt 30 (length d.0)) (declared items)
long_names items = names-from (λ name. nat_lt 30 (length name)) [] items

-- the signal that a place among names is
pub called-at : (held : List (Bor (List ℕ))) (names : List (List ℕ)) (word : List ℕ) (place : Option ℕ) → place ≡ position (λ n. bytes_eq n.now word) held → map (λ n. n.now) held ≡ names
    → option_map {U = SignalId} (λ (n : ℕ). record { 0 = n }) place ≡ signal_called names word
called-at held names word place e named =
    ap (option_map {U = SignalId} (λ (n : ℕ). record { 0 = n })) (e ∙ (sym (position-map (λ (n : Bor (List ℕ)). n.now) (λ name. bytes_eq name word) held) ∙ ap (position (λ name. bytes_eq name word)) named))
