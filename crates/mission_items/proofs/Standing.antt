-- What a name is declared as stands among the records, with its declared ranges.
use Rattle.std.proofs.Common.{◌≡◌, ℕ, ◌+◌, ◌<◌, ◌≤◌, Bool, true, false, cond, List, [], ◌∷◌, ◌++◌, Option, Some, None, inl, inr, ◌⊎◌, refl, sym, ap, subst, ◌∙◌, arith, length, map, All, pos, bytes_eq, append_assoc, append-nil, length-append}
use Rattle.std.specs.Prelude.{slice_index_or, option_map, option_and_then}
use Rattle.std.proofs.lemmas.List.Elements.{All-cons, All-nil}
use Rattle.std.specs.Map.{lookup}
use Rattle.std.proofs.Math.Seq.{get_or-append_seam}
use Rattle.std.proofs.lemmas.List.Sums.{sum_by-append, sum_by-cons}
use Rattle.tube_spec.specs.Span.{Span, point}
use Rattle.tube_store.specs.declared.SignalId.{SignalId}
use Rattle.tube_store.specs.declared.VarId.{VarId}
use Rattle.log_spelling.specs.declared.reference.Part.{Part}
use Rattle.log_spelling.specs.declared.reference.Part.TheVariants as part
use Rattle.mission_items.specs.Made.{beacon_ranges, beacons_in, beacons_made, ranges_from, signal_range, signal_ranges, signals_in, signals_made, variable_range, variable_ranges, variables_in, variables_made}
use Rattle.tube_names.specs.declared.leaves.Leaf.{Leaf}
use Rattle.tube_names.specs.declared.leaves.Leaf.TheVariants.{Sig, Var}
use Rattle.log_spelling.specs.References.{bare_name, part_of}
use Rattle.mission_items.specs.Names.{beacon_of, declaration_of, declared, declared_from, leaf_at, leaf_of, leaf_range, names_of, range_of, signal_of, variable_of, IsNamed}
use Rattle.mission_items.specs.declared.decl.Decl.{Decl}
use Rattle.mission_items.specs.declared.decl.Decl.TheVariants as decl
use Rattle.mission_items.specs.declared.item.Item.{Item}
use Rattle.mission_items.specs.declared.item.Item.TheVariants as item
use Rattle.mission_items.proofs.Making.{length-signal_ranges, length-variable_ranges, length-beacon_ranges, signal_ranges-append, beacon_ranges-append, variable_ranges-append, signals-append, variables-append, beacons-append}

-- a beacon among the records: its place, its variables and their ranges
pub record IsBeacon (items : List Item) (place first : ℕ) (x y : Span) : Type 0 where
  pub inside : place < beacons_in items
  pub variables : first + 1 < variables_in items
  pub ranges : slice_index_or (beacon_ranges items) place (x, y) ≡ (x, y)
  pub declared_x : variable_range items first ≡ x
  pub declared_y : variable_range items (first + 1) ≡ y

-- what is declared stands among the records
abbrev pub IsStanding : List Item → Decl → Type 0
IsStanding items (decl.Signal id range) = (id.0 < signals_in items) × (signal_range items id.0 ≡ range)
IsStanding items (decl.Variable id range) = (id.0 < variables_in items) × (variable_range items id.0 ≡ range)
IsStanding items (decl.Beacon place first x y) = IsBeacon items place first.0 x y

-- the element after a list, and the one after that
pub at-seam : {X : Type 0} (l xs ys : List X) (n : ℕ) (x d : X) → l ≡ xs ++ x ∷ ys → length xs ≡ n → slice_index_or l n d ≡ x
at-seam l xs ys n x d e size = subst (λ (k : ℕ). slice_index_or l k d ≡ x) size (ap (λ (m : List _). slice_index_or m (length xs) d) e ∙ get_or-append_seam xs x ys d)

pub after-seam : {X : Type 0} (l xs ys : List X) (n : ℕ) (x y d : X) → l ≡ xs ++ x ∷ y ∷ ys → length xs ≡ n → slice_index_or l (n + 1) d ≡ y
after-seam l xs ys n x y d e size = at-seam l (xs ++ x ∷ []) ys (n + 1) y d (e ∙ sym (append_assoc xs (x ∷ []) (y ∷ ys))) (length-append xs (x ∷ []) ∙ omega (arith, size))

-- ---- each declaration stands where it is made

signal-stands : (before items : List Item) (name : List ℕ) (range : Span) → IsStanding (before ++ item.Signal name range ∷ items) (decl.Signal (record { 0 = signals_in before }) range)
signal-stands before items name range =
    let r = item.Signal name range in (
      omega (arith, signals-append before (r ∷ items), sum_by-cons signals_made r items),
      at-seam (signal_ranges (before ++ r ∷ items)) (signal_ranges before) (signal_ranges items) (signals_in before) range (point (pos 0)) (signal_ranges-append before (r ∷ items)) (length-signal_ranges before),
    )

variable-stands : (before items : List Item) (name : List ℕ) (range : Span) → IsStanding (before ++ item.Variable name range ∷ items) (decl.Variable (record { 0 = variables_in before }) range)
variable-stands before items name range =
    let r = item.Variable name range in (
      omega (arith, variables-append before (r ∷ items), sum_by-cons variables_made r items),
      at-seam (variable_ranges (before ++ r ∷ items)) (variable_ranges before) (ranges_from (before ++ r ∷ []) items) (variables_in before) range (point (pos 0)) (variable_ranges-append before (r ∷ items)) (length-variable_ranges before),
    )

pub beacon-stands : (before items : List Item) (name : List ℕ) (x y : Span) → IsBeacon (before ++ item.Beacon name x y ∷ items) (beacons_in before) (variables_in before) x y
beacon-stands before items name x y =
    let r = item.Beacon name x y in
    let all = variable_ranges-append before (r ∷ items) in record {
      inside = omega (arith, beacons-append before (r ∷ items), sum_by-cons beacons_made r items);
      variables = omega (arith, variables-append before (r ∷ items), sum_by-cons variables_made r items);
      ranges = at-seam (beacon_ranges (before ++ r ∷ items)) (beacon_ranges before) (beacon_ranges items) (beacons_in before) (x, y) (x, y) (beacon_ranges-append before (r ∷ items)) (length-beacon_ranges before);
      declared_x = at-seam (variable_ranges (before ++ r ∷ items)) (variable_ranges before) (y ∷ ranges_from (before ++ r ∷ []) items) (variables_in before) x (point (pos 0)) all (length-variable_ranges before);
      declared_y = after-seam (variable_ranges (before ++ r ∷ items)) (variable_ranges before) (ranges_from (before ++ r ∷ []) items) (variables_in before) x y (point (pos 0)) all (length-variable_ranges before);
    }

-- which way a test went
chosen : {A : Type 0} (b : Bool) (x y z : A) → cond b x y ≡ z → (x ≡ z) ⊎ (y ≡ z)
chosen true x y z e = inl e
chosen false x y z e = inr e

some_is : (a b : Decl) → ◌≡◌ {A = Option Decl} (Some a) (Some b) → a ≡ b
some_is a b e = cc e

-- one name first, and the others after it
first-or_rest : (p : List ℕ → Bool) (before items : List Item) (r : Item) (name : List ℕ) (here d : Decl) → IsStanding (before ++ r ∷ items) here
    → (lookup p (declared_from (before ++ r ∷ []) items) ≡ Some d → IsStanding ((before ++ r ∷ []) ++ items) d)
    → cond (p name) (Some here) (lookup p (declared_from (before ++ r ∷ []) items)) ≡ Some d → IsStanding (before ++ r ∷ items) d
first-or_rest p before items r name here d stands more h =
    elim (chosen (p name) (Some here) (lookup p (declared_from (before ++ r ∷ []) items)) (Some d) h) [
      | inl q ↦ subst (IsStanding (before ++ r ∷ items)) (some_is here d q) stands
      | inr q ↦ subst (λ (l : List Item). IsStanding l d) (append_assoc before (r ∷ []) items) (more q)
    ]

found-from : (p : List ℕ → Bool) (before items : List Item) (d : Decl) → lookup p (declared_from before items) ≡ Some d → IsStanding (before ++ items) d
found-from p before [] d h = cc h
found-from p before (item.Signal name range ∷ items) d h =
    let r = item.Signal name range in
    first-or_rest p before items r name (decl.Signal (record { 0 = signals_in before }) range) d (signal-stands before items name range) (found-from p (before ++ r ∷ []) items d) h
found-from p before (item.Variable name range ∷ items) d h =
    let r = item.Variable name range in
    first-or_rest p before items r name (decl.Variable (record { 0 = variables_in before }) range) d (variable-stands before items name range) (found-from p (before ++ r ∷ []) items d) h
found-from p before (item.Beacon name x y ∷ items) d h =
    let r = item.Beacon name x y in
    first-or_rest p before items r name (decl.Beacon (beacons_in before) (record { 0 = variables_in before }) x y) d (beacon-stands before items name x y) (found-from p (before ++ r ∷ []) items d) h
found-from p before (r ∷ items) d h = subst (λ (l : List Item). IsStanding l d) (append_assoc before (r ∷ []) items) (found-from p (before ++ r ∷ []) items d h)

-- what a name is declared as stands among the records
pub declaration-stands : (name : List ℕ) (items : List Item) (d : Decl) → declaration_of name items ≡ Some d → IsStanding items d
declaration-stands name items d h = found-from (bytes_eq name) [] items d h

-- ---- the signals, variables and beacons of names

signal-of : (items : List Item) (d : Decl) (x : SignalId) (p : Part) → signal_of d ≡ Some x → IsStanding items d → (x.0 < signals_in items) × (signal_range items x.0 ≡ range_of d p)
signal-of items (decl.Signal id range) x p e stands =
    let same : id ≡ x = cc e in subst (λ (y : SignalId). (y.0 < signals_in items) × (signal_range items y.0 ≡ range)) same stands
signal-of items (decl.Variable id range) x p e stands = cc e
signal-of items (decl.Beacon place first bx by) x p e stands = cc e

-- a name that stands for a signal
pub signal-found : (name : List ℕ) (items : List Item) (d : Decl) (x : SignalId) (p : Part) → declaration_of name items ≡ Some d → signal_of d ≡ Some x → (x.0 < signals_in items) × (signal_range items x.0 ≡ range_of d p)
signal-found name items d x p found e = signal-of items d x p e (declaration-stands name items d found)

variable-of : (items : List Item) (d : Decl) (p : Part) (v : VarId) → variable_of d p ≡ Some v → IsStanding items d → (v.0 < variables_in items) × (variable_range items v.0 ≡ range_of d p)
variable-of items (decl.Signal id range) p v e stands = cc e
variable-of items (decl.Variable id range) part.Whole v e stands =
    let same : id ≡ v = cc e in subst (λ (y : VarId). (y.0 < variables_in items) × (variable_range items y.0 ≡ range)) same stands
variable-of items (decl.Variable id range) part.X v e stands = cc e
variable-of items (decl.Variable id range) part.Y v e stands = cc e
variable-of items (decl.Beacon place first bx by) part.Whole v e stands = cc e
variable-of items (decl.Beacon place first bx by) part.X v e stands =
    let same : first.0 ≡ v.0 = ap (λ (y : VarId). y.0) (let i : first ≡ v = cc e in i) in (omega (arith, stands.variables, same), ap (variable_range items) (sym same) ∙ stands.declared_x)
variable-of items (decl.Beacon place first bx by) part.Y v e stands =
    let next : VarId = record { 0 = first.0 + 1 } in
    let same : first.0 + 1 ≡ v.0 = ap (λ (y : VarId). y.0) (let i : next ≡ v = cc e in i) in (omega (arith, stands.variables, same), ap (variable_range items) (sym same) ∙ stands.declared_y)

-- a name that stands for a variable
pub variable-found : (name : List ℕ) (items : List Item) (d : Decl) (p : Part) (v : VarId) → declaration_of name items ≡ Some d → variable_of d p ≡ Some v → (v.0 < variables_in items) × (variable_range items v.0 ≡ range_of d p)
variable-found name items d p v found e = variable-of items d p v e (declaration-stands name items d found)

pub named-below : (items : List Item) (v : VarId) → IsNamed items v → v.0 < variables_in items
named-below items v named = (variable-found named.name items named.declared_as named.part v named.found named.stands).0

beacon-of : (items : List Item) (d : Decl) (place : ℕ) → beacon_of d ≡ Some place → IsStanding items d → place < beacons_in items
beacon-of items (decl.Signal id range) place e stands = cc e
beacon-of items (decl.Variable id range) place e stands = cc e
beacon-of items (decl.Beacon here first x y) place e stands = let same : here ≡ place = cc e in omega (arith, stands.inside, same)

-- a name that stands for a beacon
pub beacon-found : (name : List ℕ) (items : List Item) (d : Decl) (place : ℕ) → declaration_of name items ≡ Some d → beacon_of d ≡ Some place → place < beacons_in items
beacon-found name items d place found e = beacon-of items d place e (declaration-stands name items d found)

-- ---- the leaves of formulas

-- a leaf is a signal or a variable of the records
abbrev pub IsLeafIn : List Item → Leaf → Type 0
IsLeafIn items (Sig x) = x.0 < signals_in items
IsLeafIn items (Var v) = v.0 < variables_in items

var_is : (v w : VarId) → ◌≡◌ {A = Option Leaf} (Some (Var v)) (Some (Var w)) → v ≡ w
var_is v w e = cc e

sig_is : (x y : SignalId) → ◌≡◌ {A = Option Leaf} (Some (Sig x)) (Some (Sig y)) → x ≡ y
sig_is x y e = cc e

mapped : (items : List Item) (d : Decl) (p : Part) (o : Option VarId) (l : Leaf) → option_map Var o ≡ Some l → o ≡ variable_of d p → IsStanding items d → IsLeafIn items l × (leaf_range items l ≡ range_of d p)
mapped items d p None l e is stands = cc e
mapped items d p (Some w) (Sig x) e is stands = cc e
mapped items d p (Some w) (Var v) e is stands =
    let same = var_is w v e in variable-of items d p v (sym is ∙ ap (λ (u : VarId). Some u) same) stands

leaf-of : (items : List Item) (d : Decl) (p : Part) (l : Leaf) → leaf_of d p ≡ Some l → IsStanding items d → IsLeafIn items l × (leaf_range items l ≡ range_of d p)
leaf-of items (decl.Signal id range) part.Whole (Sig x) e stands = let same = sig_is id x e in subst (λ (y : SignalId). (y.0 < signals_in items) × (signal_range items y.0 ≡ range)) same stands
leaf-of items (decl.Signal id range) part.Whole (Var v) e stands = cc e
leaf-of items (decl.Signal id range) part.X l e stands = cc e
leaf-of items (decl.Signal id range) part.Y l e stands = cc e
leaf-of items (decl.Variable id range) p l e stands = mapped items (decl.Variable id range) p (variable_of (decl.Variable id range) p) l e refl stands
leaf-of items (decl.Beacon place first bx by) p l e stands = mapped items (decl.Beacon place first bx by) p (variable_of (decl.Beacon place first bx by) p) l e refl stands

-- a reference that stands for a leaf
pub leaf-found : (items : List Item) (reference : List ℕ) (l : Leaf) → leaf_at items reference ≡ Some l → IsLeafIn items l
leaf-found items reference l e = found (declaration_of (bare_name reference) items) refl e where
  found : (o : Option Decl) → declaration_of (bare_name reference) items ≡ o → option_and_then (λ d. leaf_of d (part_of reference)) o ≡ Some l → IsLeafIn items l
  found None is h = cc h
  found (Some d) is h = (leaf-of items d (part_of reference) l h (declaration-stands (bare_name reference) items d is)).0

-- the leaves of a formula, whose names stand for them
pub leaves-found : (items : List Item) (names : List (List ℕ)) (ls : List Leaf) → map (leaf_at items) names ≡ map Some ls → All (IsLeafIn items) ls
leaves-found items [] [] e = All-nil (IsLeafIn items)
leaves-found items [] (l ∷ ls) e = cc e
leaves-found items (n ∷ names) [] e = cc e
leaves-found items (n ∷ names) (l ∷ ls) e =
    let first : leaf_at items n ≡ Some l = cc e in
    let rest : map (leaf_at items) names ≡ map Some ls = cc e in
    All-cons (IsLeafIn items) l ls (leaf-found items n l first) (leaves-found items names ls rest)
