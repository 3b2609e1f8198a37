-- What the names of canonical fields stand for is found.
use Rattle.std.proofs.Common.{◌≡◌, ◌≢◌, ℕ, ◌≤◌, ◌==◌, true, List, [], ◌∷◌, Option, Some, None, Ok, refl, ap, ◌∙◌, arith, map, take, drop, nat_le}
use Rattle.std.specs.Prelude.{not, is_some, option_and_then}
use Rattle.std.proofs.lemmas.Bool.Decides.{nat_tests}
use Rattle.std.proofs.lemmas.List.{take-map, drop-map}
use Rattle.tube_spec.specs.Span.{Span}
use Rattle.tube_store.specs.declared.VarId.{VarId}
use Rattle.log_spelling.specs.References.{bare_name, part_of}
use Rattle.log_spelling.specs.declared.reference.Part.{Part}
use Rattle.expr_tree.specs.Trees.{Relation}
use Rattle.expr_values.specs.Expressions.{leaves, numbered}
use Rattle.expr_values.specs.Values.{range_value}
use Rattle.tube_names.specs.declared.leaves.Leaf.{Leaf}
use Rattle.log_fields.specs.Steps.{found_or, unless}
use Rattle.log_fields.specs.declared.fault.Cause.TheVariants as cause
use Rattle.mission_items.specs.Names.{declaration_of, leaf_at, leaf_of, leaf_range, variable_of}
use Rattle.mission_items.specs.Valid.{HasValues}
use Rattle.mission_items.specs.declared.decl.Decl.{Decl}
use Rattle.mission_items.specs.declared.item.Item.{Item}
use Rattle.mission_log.specs.Found.{declaration_in, declared_part, each, has_values, leaf_in, new_name, reference_in, variable_in}

pub declared-as : (items : List Item) (name : List ℕ) (d : Decl) → declaration_of name items ≡ Some d → declaration_in items name ≡ Ok d
declared-as items name d h = ap (λ (o : Option Decl). found_or o cause.Unknown) h

pub variable-is : (d : Decl) (p : Part) (v : VarId) → variable_of d p ≡ Some v → variable_in d p ≡ Ok v
variable-is d p v h = ap (λ (o : Option VarId). found_or o cause.WrongKind) h

pub is-new : (items : List Item) (name : List ℕ) → declaration_of name items ≡ None → new_name items name ≡ Ok tt
is-new items name h = ap (λ (o : Option Decl). unless (not (is_some o)) cause.Twice) h

pub different : (m n : ℕ) → m ≢ n → not (m == n) ≡ true
different m n h = grind (arith, nat_tests)

pub at_most : (m n : ℕ) → m ≤ n → nat_le m n ≡ true
at_most m n h = grind (arith, nat_tests)

-- ---- the leaves of a formula

pub record AreLeaves (items : List Item) (names : List (List ℕ)) (ls : List Leaf) : Type 0 where
  pub declarations : List (Decl × Part)
  pub declared : each (declared_part items) (map reference_in names) ≡ Ok declarations
  pub stand : each leaf_in declarations ≡ Ok ls

one-leaf : (items : List Item) (name : List ℕ) (l : Leaf) (names : List (List ℕ)) (ls : List Leaf) → leaf_at items name ≡ Some l → AreLeaves items names ls → AreLeaves items (name ∷ names) (l ∷ ls)
one-leaf items name l names ls e more = by (declaration_of (bare_name name) items) refl e
  where
    by : (o : Option Decl) → declaration_of (bare_name name) items ≡ o → option_and_then (λ d. leaf_of d (part_of name)) o ≡ Some l → AreLeaves items (name ∷ names) (l ∷ ls)
    by None found e = cc e
    by (Some d) found e = record {
      declarations = (d, part_of name) ∷ more.declarations;
      declared = rw (found, more.declared) refl;
      stand = rw (e, more.stand) refl;
    }

pub leaves-are : (items : List Item) (names : List (List ℕ)) (ls : List Leaf) → map (leaf_at items) names ≡ map Some ls → AreLeaves items names ls
leaves-are items [] [] e = record { declarations = []; declared = refl; stand = refl }
leaves-are items [] (l ∷ ls) e = cc e
leaves-are items (name ∷ names) [] e = cc e
leaves-are items (name ∷ names) (l ∷ ls) e =
    let first : leaf_at items name ≡ Some l = cc e in
    let rest : map (leaf_at items) names ≡ map Some ls = cc e in
    one-leaf items name l names ls first (leaves-are items names ls rest)

pub values-are : (items : List Item) (r : Relation) (ls : List Leaf) → HasValues items r ls → has_values items r ls ≡ true
unfolding has_values
values-are items r ls h =
    let left : is_some (range_value (take (leaves r.left) (map (leaf_range items) ls)) (numbered r.left 0)) ≡ true = ap (λ (rs : List Span). is_some (range_value rs (numbered r.left 0))) (take-map (leaf_range items) (leaves r.left) ls) ∙ h.0 in
    let right : is_some (range_value (drop (leaves r.left) (map (leaf_range items) ls)) (numbered r.right 0)) ≡ true = ap (λ (rs : List Span). is_some (range_value rs (numbered r.right 0))) (drop-map (leaf_range items) (leaves r.left) ls) ∙ h.1 in
    rw (left, right) refl
