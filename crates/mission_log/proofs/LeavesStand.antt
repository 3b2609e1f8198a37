-- The names of formulas, and their leaves and ranges.
use Rattle.std.proofs.Common.{◌≡◌, ℕ, ◌+◌, ◌≤◌, Bool, true, false, ◌&&◌, List, [], ◌∷◌, Option, Some, None, Result, Ok, Err, map, take, drop, refl, sym, ap, ap₂, ◌∙◌, subst, suc, arith}
use Rattle.std.specs.Prelude.{All, is_some, option_and_then, option_map}
use Rattle.std.proofs.lemmas.List.{drop-map, take-map}
use Rattle.tube_spec.specs.Span.{Span}
use Rattle.tube_store.specs.declared.SignalId.{SignalId}
use Rattle.tube_store.specs.declared.VarId.{VarId}
use Rattle.log_spelling.specs.References.{bare_name, part_of}
use Rattle.log_spelling.specs.declared.reference.Part.{Part}
use Rattle.log_spelling.specs.declared.reference.Part.TheVariants as part
use Rattle.expr_tree.specs.Trees.{Tree, Number, Named, Apply, Join, Relation}
use Rattle.expr_tree.specs.Measures.{nodes, relation_names}
use Rattle.expr_text.specs.Spellable.{IsPrintable}
use Rattle.tube_names.specs.declared.leaves.Leaf.{Leaf}
use Rattle.tube_names.specs.declared.leaves.Leaf.TheVariants.{Sig, Var}
use Rattle.expr_values.specs.Expressions.{leaves, numbered}
use Rattle.expr_values.specs.Values.{range_value}
use Rattle.log_fields.specs.Steps.{◌>>=◌, found_or}
use Rattle.log_fields.specs.declared.fault.Cause.{Cause}
use Rattle.log_fields.specs.declared.fault.Cause.TheVariants as cause
use Rattle.formula_text.specs.Readings.{Deep, Text, TextCause, reading_of}
use Rattle.mission_items.specs.Names.{declaration_of, leaf_at, leaf_of, leaf_range, range_of, variable_of}
use Rattle.mission_items.specs.Valid.{IsFormula}
use Rattle.mission_items.specs.declared.decl.Decl.{Decl}
use Rattle.mission_items.specs.declared.decl.Decl.TheVariants as decl
use Rattle.mission_items.specs.declared.item.Item.{Item}
use Rattle.mission_items.proofs.Standing.{signal-found, variable-found}
use Rattle.mission_log.specs.Found.{declarations_in, declared_part, each, formula_in, has_values, leaf_in, leaves_for, reference_in, references_of, relation_in}
use Rattle.mission_log.specs.Meant.{IsMeant, meant, range_meant}
use Rattle.mission_log.specs.declared.meant.Meant.{Meant}

-- ---- texts

reading_from : (s : Result Relation TextCause) (r : Relation) → relation_in s ≡ Ok r → s ≡ Ok r
reading_from (Ok q) r e = ap (λ (x : Relation). Ok x) (let i : q ≡ r = cc e in i)
reading_from (Err Text) r e = cc e
reading_from (Err Deep) r e = cc e

-- what is read as a formula is the reading of its text
pub formula-read : (text : List ℕ) (r : Relation) → formula_in text ≡ Ok r → reading_of text ≡ Ok r
formula-read text r e = reading_from (reading_of text) r e

-- each leaf is a node
leaves-nodes : (t : Tree) → leaves t ≤ nodes t
leaves-nodes (Number n) = omega arith
leaves-nodes (Named name) = omega arith
leaves-nodes (Apply op a) = omega (arith, leaves-nodes a)
leaves-nodes (Join op a b) = omega (arith, leaves-nodes a, leaves-nodes b)

pub leaves-few : (r : Relation) → IsPrintable r → leaves r.left + leaves r.right ≤ 256
leaves-few r p = omega (arith, p.nodes, leaves-nodes r.left, leaves-nodes r.right)

-- ---- steps that found something

-- what was found first, and with it the rest
pub record IsFound {A B : Type 0} (r : Result A Cause) (f : A → Result B Cause) (y : B) : Type 0 where
  pub value : A
  pub first : r ≡ Ok value
  pub rest : f value ≡ Ok y

pub found-then : {A B : Type 0} (r : Result A Cause) (f : A → Result B Cause) (y : B) → (r >>= f) ≡ Ok y → IsFound r f y
found-then (Ok x) f y e = record { value = x; first = refl; rest = e }
found-then (Err c) f y e = cc e

some-of : {A : Type 0} (o : Option A) (c : Cause) (x : A) → found_or o c ≡ Ok x → o ≡ Some x
some-of None c x e = cc e
some-of (Some y) c x e = ap (λ (z : _). Some z) (let i : y ≡ x = cc e in i)

ok-is : {A : Type 0} (x y : A) → ◌≡◌ {A = Result A Cause} (Ok x) (Ok y) → x ≡ y
ok-is x y e = cc e

-- ---- the leaves that names stand for

leaf-stands : (items : List Item) (name : List ℕ) (d : Decl × Part) (l : Leaf) → declared_part items (reference_in name) ≡ Ok d → leaf_in d ≡ Ok l → leaf_at items name ≡ Some l
leaf-stands items name d l e f =
    let found = found-then (found_or (declaration_of (bare_name name) items) cause.Unknown) (λ (x : Decl). Ok (x, part_of name)) d e in
    let declared = some-of (declaration_of (bare_name name) items) cause.Unknown found.value found.first in
    let same : (found.value, part_of name) ≡ d = ok-is (found.value, part_of name) d found.rest in
    ap (option_and_then (λ x. leaf_of x (part_of name))) declared
    ∙ some-of (leaf_of found.value (part_of name)) cause.WrongKind l (ap leaf_in same ∙ f)

pub leaves-stand : (items : List Item) (names : List (List ℕ)) (ds : List (Decl × Part)) (ls : List Leaf) → each (declared_part items) (map reference_in names) ≡ Ok ds → each leaf_in ds ≡ Ok ls
    → map (leaf_at items) names ≡ map Some ls
leaves-stand items [] ds ls e f =
    let none : ds ≡ [] = sym (ok-is [] ds e) in
    let all : each leaf_in [] ≡ Ok ls = subst (λ (x : List (Decl × Part)). each leaf_in x ≡ Ok ls) none f in
    ap (map Some) (ok-is [] ls all)
leaves-stand items (name ∷ names) ds ls e f =
    let first = found-then (declared_part items (reference_in name)) (λ (d : Decl × Part). each (declared_part items) (map reference_in names) >>= (λ (more : List (Decl × Part)). Ok (d ∷ more))) ds e in
    let rest = found-then (each (declared_part items) (map reference_in names)) (λ (more : List (Decl × Part)). Ok (first.value ∷ more)) ds first.rest in
    let same : first.value ∷ rest.value ≡ ds = ok-is (first.value ∷ rest.value) ds rest.rest in
    let all : each leaf_in (first.value ∷ rest.value) ≡ Ok ls = ap (each leaf_in) same ∙ f in
    let one = found-then (leaf_in first.value) (λ (l : Leaf). each leaf_in rest.value >>= (λ (more : List Leaf). Ok (l ∷ more))) ls all in
    let others = found-then (each leaf_in rest.value) (λ (more : List Leaf). Ok (one.value ∷ more)) ls one.rest in
    let leaves_are : one.value ∷ others.value ≡ ls = ok-is (one.value ∷ others.value) ls others.rest in
    ap₂ (λ (l : Option Leaf) (more : List (Option Leaf)). l ∷ more) (leaf-stands items name first.value one.value first.first one.first)
    (leaves-stand items names rest.value others.value rest.first others.first)
    ∙ ap (map Some) leaves_are

-- ---- the ranges of leaves

var-range : (items : List Item) (name : List ℕ) (d : Decl) (p : Part) (o : Option VarId) (l : Leaf) → declaration_of name items ≡ Some d → o ≡ variable_of d p → option_map Var o ≡ Some l → leaf_range items l ≡ range_of d p
var-range items name d p None l found is e = cc e
var-range items name d p (Some w) (Sig x) found is e = cc e
var-range items name d p (Some w) (Var v) found is e =
    let same : w ≡ v = cc e in
    (variable-found name items d p v found (sym is ∙ ap (λ (u : VarId). Some u) same)).1

leaf-range : (items : List Item) (name : List ℕ) (d : Decl) (p : Part) (l : Leaf) → declaration_of name items ≡ Some d → leaf_of d p ≡ Some l → leaf_range items l ≡ range_of d p
leaf-range items name (decl.Signal id range) part.Whole (Sig x) found e =
    let same : id ≡ x = cc e in
    (signal-found name items (decl.Signal id range) x part.Whole found (ap (λ (u : SignalId). Some u) same)).1
leaf-range items name (decl.Signal id range) part.Whole (Var v) found e = cc e
leaf-range items name (decl.Signal id range) part.X l found e = cc e
leaf-range items name (decl.Signal id range) part.Y l found e = cc e
leaf-range items name (decl.Variable id range) p l found e = var-range items name (decl.Variable id range) p (variable_of (decl.Variable id range) p) l found refl e
leaf-range items name (decl.Beacon place first x y) p l found e = var-range items name (decl.Beacon place first x y) p (variable_of (decl.Beacon place first x y) p) l found refl e

pub ranges-stand : (items : List Item) (ms : List Meant) (ls : List Leaf) → All (IsMeant items) ms → each leaf_in (map meant ms) ≡ Ok ls → map range_meant ms ≡ map (leaf_range items) ls
ranges-stand items [] ls known e = ap (map (leaf_range items)) (ok-is [] ls e)
ranges-stand items (m ∷ ms) ls known e =
    let one = found-then (leaf_in (meant m)) (λ (l : Leaf). each leaf_in (map meant ms) >>= (λ (more : List Leaf). Ok (l ∷ more))) ls e in
    let others = found-then (each leaf_in (map meant ms)) (λ (more : List Leaf). Ok (one.value ∷ more)) ls one.rest in
    let same : one.value ∷ others.value ≡ ls = ok-is (one.value ∷ others.value) ls others.rest in
    let here : IsMeant items m = known 0 m (omega arith) in
    let leaf = some-of (leaf_of m.declared m.part) cause.WrongKind one.value one.first in
    ap₂ (λ (s : Span) (more : List Span). s ∷ more) (sym (leaf-range items here.name m.declared m.part one.value here.found leaf))
    (ranges-stand items ms others.value (λ k d h. known (suc k) d (omega (arith, h))) others.first)
    ∙ ap (map (leaf_range items)) same

-- ---- values

and-both : (a b : Bool) → (a && b) ≡ true → (a ≡ true) × (b ≡ true)
and-both true b e = (refl, e)
and-both false b e = cc e

pub formula-right : (items : List Item) (r : Relation) (ds : List (Decl × Part)) (ls : List Leaf) → IsPrintable r → declarations_in items (references_of r) ≡ Ok ds → leaves_for ds ≡ Ok ls → has_values items r ls ≡ true
    → IsFormula items r ls
unfolding has_values
formula-right items r ds ls printable names stand values =
    let both = and-both (is_some (range_value (take (leaves r.left) (map (leaf_range items) ls)) (numbered r.left 0))) (is_some (range_value (drop (leaves r.left) (map (leaf_range items) ls)) (numbered r.right 0))) values in
    record {
      printable = printable;
      stands = leaves-stand items (relation_names r) ds ls names stand;
      values = (
        ap (λ (rs : List Span). is_some (range_value rs (numbered r.left 0))) (sym (take-map (leaf_range items) (leaves r.left) ls)) ∙ both.0,
        ap (λ (rs : List Span). is_some (range_value rs (numbered r.right 0))) (sym (drop-map (leaf_range items) (leaves r.left) ls)) ∙ both.1,
      );
    }
