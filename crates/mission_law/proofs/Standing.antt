-- What the names of a record stand for, where no cause is found in them.
use Rattle.std.proofs.Common.{◌≡◌, ℕ, ◌<◌, true, List, [], ◌∷◌, Option, Some, None, Result, Ok, Err, arith, refl, ap, subst, length}
use Rattle.std.specs.Prelude.{All, IfOk, IfSome, not, is_some, ◌==◌}
use Rattle.std.proofs.lemmas.Bool.Decides.{nat_tests}
use Rattle.std.proofs.lemmas.List.Elements.{All-cons, All-nil}
use Rattle.tube_store.specs.declared.SignalId.{SignalId}
use Rattle.tube_store.specs.declared.VarId.{VarId}
use Rattle.log_spelling.specs.declared.reference.Part.{Part}
use Rattle.log_spelling.specs.declared.reference.Part.TheVariants as part
use Rattle.log_fields.specs.Steps.{◌>>=◌, found_or, unless}
use Rattle.log_fields.specs.declared.fault.Cause.{Cause}
use Rattle.log_fields.specs.declared.fault.Cause.TheVariants as cause
use Rattle.mission_items.specs.Made.{beacons_in, signals_in}
use Rattle.mission_items.specs.Names.{IsNamed, are_distinct, beacon_of, declaration_of, signal_of, variable_of}
use Rattle.mission_items.specs.declared.decl.Decl.{Decl}
use Rattle.mission_items.specs.declared.item.Item.{Item}
use Rattle.mission_items.proofs.Standing.{beacon-found, signal-found}
use Rattle.mission_log.specs.Found.{beacon_in, declaration_in, declared_part, each, mark_declared, mark_in, new_name, signal_in, variable_in, variable_part}
use Rattle.mission_law.proofs.Fields.{goes, knows}

-- ---- one name

some_is : {A : Type 0} (o : Option A) (c : Cause) (x : A) → found_or o c ≡ Ok x → o ≡ Some x
some_is None c x e = cc e
some_is (Some y) c x e = ap (λ (z : _). Some z) (let i : y ≡ x = cc e in i)

pub signal_stands : (items : List Item) (name : List ℕ) (d : Decl) (x : SignalId) → declaration_in items name ≡ Ok d → signal_in d ≡ Ok x → x.0 < signals_in items
signal_stands items name d x e f =
    (signal-found name items d x part.Whole (some_is (declaration_of name items) cause.Unknown d e) (some_is (signal_of d) cause.WrongKind x f)).0

pub variable_stands : (items : List Item) (name : List ℕ) (d : Decl) (p : Part) (v : VarId) → declaration_in items name ≡ Ok d → variable_in d p ≡ Ok v → IsNamed items v
variable_stands items name d p v e f = record {
  name = name;
  part = p;
  declared_as = d;
  found = some_is (declaration_of name items) cause.Unknown d e;
  stands = some_is (variable_of d p) cause.WrongKind v f;
}

beacon_stands : (items : List Item) (name : List ℕ) (d : Decl) (place : ℕ) → declaration_in items name ≡ Ok d → beacon_in d ≡ Ok place → place < beacons_in items
beacon_stands items name d place e f = beacon-found name items d place (some_is (declaration_of name items) cause.Unknown d e) (some_is (beacon_of d) cause.WrongKind place f)

-- a name that is declared now
pub is_fresh : (items : List Item) (name : List ℕ) → IfOk (new_name items name) (λ u. declaration_of name items ≡ None)
is_fresh items name = by (declaration_of name items)
  where
    by : (o : Option Decl) → IfOk (unless (not (is_some o)) cause.Twice) (λ u. o ≡ None)
    by None = refl
    by (Some d) = tt

-- ---- the mark of a ping

pub mark_stands : (items : List Item) (said : Option (List ℕ)) (d : Option Decl) → mark_declared items said ≡ Ok d → IfOk (mark_in d) (λ beacon. IfSome beacon (λ place. place < beacons_in items))
mark_stands items None None e = tt
mark_stands items None (Some d) e = cc e
mark_stands items (Some name) d e = by (declaration_in items name) refl e
  where
    by : (s : Result Decl Cause) → declaration_in items name ≡ s → (s >>= (λ x. Ok (Some x))) ≡ Ok d → IfOk (mark_in d) (λ beacon. IfSome beacon (λ place. place < beacons_in items))
    by (Ok x) found is = subst (λ (o : Option Decl). IfOk (mark_in o) (λ beacon. IfSome beacon (λ place. place < beacons_in items))) (let same : Some x ≡ d = cc is in same)
        (goes (λ beacon. IfSome beacon (λ place. place < beacons_in items)) (beacon_in x) _ (λ place f. beacon_stands items name x place found f))
    by (Err c) found is = cc is

-- ---- several variables

pub record AreFound (items : List Item) (n : ℕ) (vs : List VarId) : Type 0 where
  pub named : All (IsNamed items) vs
  pub count : length vs ≡ n

-- what is found for the first name, and for the others
module _ (items : List Item) (name : List ℕ × Part) (names : List (List ℕ × Part)) (ds : List (Decl × Part))
    (others : (more : List (Decl × Part)) → each (declared_part items) names ≡ Ok more → IfOk (each variable_part more) (AreFound items (length names))) where
  abbrev All_found : List (Decl × Part) → Type 0
  All_found l = IfOk (each variable_part l) (AreFound items (length (name ∷ names)))

  one_stands : (d : Decl) (more : List (Decl × Part)) → declaration_in items name.0 ≡ Ok d → each (declared_part items) names ≡ Ok more → All_found ((d, name.1) ∷ more)
  one_stands d more found rest =
      goes (AreFound items (length (name ∷ names))) (variable_in d name.1) _ (λ v f. knows (AreFound items (length names)) (AreFound items (length (name ∷ names))) (each variable_part more) _ (others more rest) (λ vs k. record {
        named = All-cons (IsNamed items) v vs (variable_stands items name.0 d name.1 v found f) k.named;
        count = omega (arith, k.count);
      }))

  rest_stand : (d : Decl) → declaration_in items name.0 ≡ Ok d → (s : Result (List (Decl × Part)) Cause) → each (declared_part items) names ≡ s → (s >>= (λ more. Ok ((d, name.1) ∷ more))) ≡ Ok ds → All_found ds
  rest_stand d found (Ok more) rest is = subst All_found (let same : (d, name.1) ∷ more ≡ ds = cc is in same) (one_stands d more found rest)
  rest_stand d found (Err c) rest is = cc is

  first_stands : (s : Result Decl Cause) → declaration_in items name.0 ≡ s → ((s >>= (λ d. Ok (d, name.1))) >>= (λ d. each (declared_part items) names >>= (λ more. Ok (d ∷ more)))) ≡ Ok ds → All_found ds
  first_stands (Ok d) found is = rest_stand d found (each (declared_part items) names) refl is
  first_stands (Err c) found is = cc is

pub variables_stand : (items : List Item) (names : List (List ℕ × Part)) (ds : List (Decl × Part)) → each (declared_part items) names ≡ Ok ds → IfOk (each variable_part ds) (AreFound items (length names))
variables_stand items [] [] e = record { named = All-nil (IsNamed items); count = refl }
variables_stand items [] (d ∷ ds) e = cc e
variables_stand items (name ∷ names) ds e =
    first_stands items name names ds (λ more rest. variables_stand items names more rest) (declaration_in items name.0) refl e

-- two variables
pub two_stand : (items : List Item) (v w : VarId) → IsNamed items v → IsNamed items w → All (IsNamed items) (v ∷ w ∷ [])
two_stand items v w p q = All-cons (IsNamed items) v (w ∷ []) p (All-cons (IsNamed items) w [] q (All-nil (IsNamed items)))

pub two_differ : (v w : VarId) → not (v.0 == w.0) ≡ true → are_distinct (v ∷ w ∷ []) ≡ true
two_differ v w h = grind (arith, nat_tests, h)
