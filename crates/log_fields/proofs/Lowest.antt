-- The chain of a kind tells the lowest of the causes that a record has by itself.
use Rattle.std.proofs.Common.{◌≡◌, ℕ, ◌+◌, suc, ◌&&◌, ◌||◌, not, Bool, true, false, List, [], ◌∷◌, Option, Some, None, Result, Ok, Err, refl, ap, ◌∙◌, if◌then◌else◌, ℤ, pos, negsuc, length, ◌==◌, arith}
use Rattle.std.specs.Prelude.{is_some, nat_le, unwrap_or, bytes_eq, codes}
use Rattle.std.proofs.lemmas.Bool.Decides.{nat_tests}
use Rattle.csv_rows.specs.Records.{Record}
use Rattle.log_spelling.specs.Names.{is_name}
use Rattle.log_spelling.specs.Numbers.{number_of}
use Rattle.log_spelling.specs.References.{bare_name, is_reference, part_of}
use Rattle.log_spelling.specs.declared.kind.Kind.TheVariants as kind
use Rattle.log_spelling.specs.declared.reference.Part.{Part}
use Rattle.tube_spec.specs.Span.{Span}
use Rattle.log_fields.specs.Fields.{are_bounds, are_radii, beacon_at, count_of, field, is_radius, name_at, number_at, radii_at, range_at, range_of, reference_at, version_at, version_of}
use Rattle.log_fields.specs.Kinds.{at_fields, beacon_fields, bound_fields, constell_fields, cut_fields, declared_fields, delay_fields, deriv_fields, eval_fields, mission_fields, ping_fields, range3_fields, range_fields, revisit_fields, settle_fields, text_fields}
use Rattle.log_fields.specs.Laws.{LowestIsTold}
use Rattle.log_fields.specs.Sentences.{Want, are_right, cause_in, form_of, is_count, is_named, is_numbered, lowest_cause, value}
use Rattle.log_fields.specs.Steps.{◌>>=◌, found_or, unless}
use Rattle.log_fields.specs.declared.fault.Cause.{Cause}
use Rattle.log_fields.specs.declared.fault.Cause.TheVariants as cause

-- ---- one step of a chain

ok_told : {A : Type 0} (x : A) → cause_in (Ok x) ≡ None
unfolding cause_in
ok_told x = refl

unless_then : {A : Type 0} (b : Bool) (c : Cause) (f : Unit {0} → Result A Cause) (rest : Option Cause) → cause_in (f tt) ≡ rest → cause_in (unless b c >>= f) ≡ (if b then rest else Some c)
unfolding cause_in
unless_then true c f rest h = h
unless_then false c f rest h = refl

name_then : {A : Type 0} (r : Record) (i : ℕ) (f : List ℕ → Result A Cause) (rest : Option Cause) → ((x : List ℕ) → cause_in (f x) ≡ rest) → cause_in (name_at r i >>= f) ≡ (if is_name (field r i) then rest else Some cause.Name)
unfolding cause_in name_at
name_then {A} r i f rest h = by (is_name (field r i))
  where
    by : (b : Bool) → cause_in ((if b then Ok (field r i) else Err cause.Name) >>= f) ≡ (if b then rest else Some cause.Name)
    by true = h (field r i)
    by false = refl

reference_then : {A : Type 0} (r : Record) (i : ℕ) (f : List ℕ × Part → Result A Cause) (rest : Option Cause) → ((x : List ℕ × Part) → cause_in (f x) ≡ rest) → cause_in (reference_at r i >>= f) ≡ (if is_reference (field r i) then rest else Some cause.Name)
unfolding cause_in reference_at
reference_then r i f rest h = by (is_reference (field r i))
  where
    by : (b : Bool) → cause_in ((if b then Ok (bare_name (field r i), part_of (field r i)) else Err cause.Name) >>= f) ≡ (if b then rest else Some cause.Name)
    by true = h (bare_name (field r i), part_of (field r i))
    by false = refl

beacon_then : {A : Type 0} (r : Record) (i : ℕ) (f : Option (List ℕ) → Result A Cause) (rest : Option Cause) → ((x : Option (List ℕ)) → cause_in (f x) ≡ rest) → cause_in (beacon_at r i >>= f) ≡ (if bytes_eq (field r i) (codes "?") || is_name (field r i) then rest else Some cause.Name)
unfolding cause_in beacon_at
beacon_then r i f rest h = by (bytes_eq (field r i) (codes "?")) (is_name (field r i))
  where
    by : (a b : Bool) → cause_in ((if a then Ok None else if b then Ok (Some (field r i)) else Err cause.Name) >>= f) ≡ (if a || b then rest else Some cause.Name)
    by true b = h None
    by false true = h (Some (field r i))
    by false false = refl

number_then : {A : Type 0} (r : Record) (i : ℕ) (f : ℤ → Result A Cause) (rest : Option Cause) → cause_in (f (value r i)) ≡ rest → cause_in (number_at r i >>= f) ≡ (if is_some (number_of (field r i)) then rest else Some cause.Number)
unfolding cause_in number_at
number_then r i f rest h = by (number_of (field r i)) h
  where
    by : (o : Option ℤ) → cause_in (f (unwrap_or o (pos 0))) ≡ rest → cause_in (found_or o cause.Number >>= f) ≡ (if is_some o then rest else Some cause.Number)
    by None e = refl
    by (Some z) e = e

number_last : (r : Record) (i : ℕ) → cause_in (number_at r i) ≡ (if is_some (number_of (field r i)) then None else Some cause.Number)
unfolding cause_in number_at
number_last r i = by (number_of (field r i))
  where
    by : (o : Option ℤ) → cause_in (found_or o cause.Number) ≡ (if is_some o then None else Some cause.Number)
    by None = refl
    by (Some z) = refl

bounds_then : {A : Type 0} (lo hi : ℤ) (f : Span → Result A Cause) (rest : Option Cause) → ((x : Span) → cause_in (f x) ≡ rest) → cause_in (range_of lo hi >>= f) ≡ (if are_bounds lo hi then rest else Some cause.Range)
unfolding cause_in range_of
bounds_then lo hi f rest h = by (are_bounds lo hi)
  where
    by : (b : Bool) → cause_in ((if b then Ok (record { lo = lo; hi = hi }) else Err cause.Range) >>= f) ≡ (if b then rest else Some cause.Range)
    by true = h (record { lo = lo; hi = hi })
    by false = refl

count_then : {A : Type 0} (z : ℤ) (f : ℕ → Result A Cause) (rest : Option Cause) → ((x : ℕ) → cause_in (f x) ≡ rest) → cause_in (count_of z >>= f) ≡ (if is_count z then rest else Some cause.Range)
unfolding cause_in count_of
count_then (pos n) f rest h = by (nat_le 1 n && nat_le n 100000)
  where
    by : (b : Bool) → cause_in ((if b then Ok n else Err cause.Range) >>= f) ≡ (if b then rest else Some cause.Range)
    by true = h n
    by false = refl
count_then (negsuc n) f rest h = refl

-- steps in brackets are steps one after the other
in_line : {A B C : Type 0} (m : Result A Cause) (g : A → Result B Cause) (f : B → Result C Cause) → ((m >>= g) >>= f) ≡ (m >>= (λ x. g x >>= f))
in_line (Ok x) g f = refl
in_line (Err e) g f = refl

range_then : {A : Type 0} (r : Record) (i : ℕ) (f : Span → Result A Cause) (rest : Option Cause) → ((x : Span) → cause_in (f x) ≡ rest) → cause_in (range_at r i >>= f) ≡ (if is_some (number_of (field r i)) then (if is_some (number_of (field r (i + 1))) then (if are_bounds (value r i) (value r (i + 1)) then rest else Some cause.Range) else Some cause.Number) else Some cause.Number)
unfolding range_at
range_then r i f rest h =
    ap cause_in (in_line (number_at r i) (λ lo. number_at r (i + 1) >>= (λ hi. range_of lo hi)) f) ∙ number_then r i _ _
    (ap cause_in (in_line (number_at r (i + 1)) (λ hi. range_of (value r i) hi) f) ∙ number_then r (i + 1) _ _
    (bounds_then (value r i) (value r (i + 1)) f rest h))

radii_then : {A : Type 0} (r : Record) (i : ℕ) (f : ℤ × ℤ → Result A Cause) (rest : Option Cause) → ((x : ℤ × ℤ) → cause_in (f x) ≡ rest) → cause_in (radii_at r i >>= f) ≡ (if is_some (number_of (field r i)) then (if is_some (number_of (field r (i + 1))) then (if are_radii (value r i) (value r (i + 1)) then rest else Some cause.Range) else Some cause.Number) else Some cause.Number)
unfolding radii_at
radii_then r i f rest h =
    let order = λ (near far : ℤ). unless (are_radii near far) cause.Range >>= (λ (x : Unit {0}). Ok (near, far)) in
    ap cause_in (in_line (number_at r i) (λ near. number_at r (i + 1) >>= order near) f) ∙ number_then r i _ _
    (ap cause_in (in_line (number_at r (i + 1)) (order (value r i)) f) ∙ number_then r (i + 1) _ _
    (ap cause_in (in_line (unless (are_radii (value r i) (value r (i + 1))) cause.Range) (λ (x : Unit {0}). Ok (value r i, value r (i + 1))) f) ∙ unless_then (are_radii (value r i) (value r (i + 1))) cause.Range _ _ (h (value r i, value r (i + 1)))))

-- ---- the sentences, one test after the other

-- the tests of fields from a place on, one after the other
abbrev checks : (Want → List ℕ → Bool) → Cause → ℕ → List Want → Record → Option Cause → Option Cause
checks test c i [] r rest = rest
checks test c i (w ∷ ws) r rest = if test w (field r i) then checks test c (suc i) ws r rest else Some c

and_if : (a b : Bool) (c : Cause) (x y : Option Cause) → x ≡ (if b then y else Some c) → (if a then x else Some c) ≡ (if a && b then y else Some c)
and_if true b c x y e = e
and_if false b c x y e = refl

checks_all : (test : Want → List ℕ → Bool) (c : Cause) (i : ℕ) (ws : List Want) (r : Record) (rest : Option Cause) → checks test c i ws r rest ≡ (if are_right test i ws r then rest else Some c)
checks_all test c i [] r rest = refl
checks_all test c i (w ∷ ws) r rest = and_if (test w (field r i)) (are_right test (suc i) ws r) c (checks test c (suc i) ws r rest) rest (checks_all test c (suc i) ws r rest)

-- the first sentence that holds, with its test the other way round
turned : (b : Bool) (c : Cause) (x y : Option Cause) → x ≡ y → (if b then x else Some c) ≡ (if not b then Some c else y)
turned true c x y e = e
turned false c x y e = refl

-- a number of fields, then names, then numbers, then limits
abbrev nested : Bool → List Want → Record → Option Cause → Option Cause
nested n ws r limits = if n then checks is_named cause.Name 1 ws r (checks is_numbered cause.Number 1 ws r limits) else Some cause.Fields

in_form : (n : Bool) (ws : List Want) (r : Record) (limited : Bool)
    → nested n ws r (if limited then None else Some cause.Range)
    ≡ (if not n then Some cause.Fields else if not (are_right is_named 1 ws r) then Some cause.Name else if not (are_right is_numbered 1 ws r) then Some cause.Number else if not limited then Some cause.Range else None)
in_form n ws r limited =
    turned n cause.Fields _ _ (checks_all is_named cause.Name 1 ws r _ ∙ turned (are_right is_named 1 ws r) cause.Name _ _
    (checks_all is_numbered cause.Number 1 ws r _ ∙ turned (are_right is_numbered 1 ws r) cause.Number _ _ (turned limited cause.Range None None refl)))

two_limits : (a b : Bool) → (if a then (if b then None else Some cause.Range) else Some cause.Range) ≡ (if a && b then None else Some cause.Range)
two_limits true b = refl
two_limits false b = refl

-- ---- the kinds

cut_told : (r : Record) → cause_in (cut_fields r) ≡ lowest_cause kind.Cut r
unfolding cut_fields lowest_cause
cut_told r =
    let shape : cause_in (cut_fields r) ≡ nested (length r == 2) (form_of kind.Cut) r (if true then None else Some cause.Range) =
    unless_then (length r == 2) cause.Fields _ _ (number_last r 1) in
    shape ∙ in_form (length r == 2) (form_of kind.Cut) r (true)

signal_told : (r : Record) → cause_in (declared_fields r) ≡ lowest_cause kind.Signal r
unfolding declared_fields lowest_cause
signal_told r =
    let shape : cause_in (declared_fields r) ≡ nested (length r == 4) (form_of kind.Signal) r (if are_bounds (value r 2) (value r 3) then None else Some cause.Range) =
    unless_then (length r == 4) cause.Fields _ _ (name_then r 1 _ _ (λ x1. (range_then r 2 _ _ (λ x2. (ok_told _))))) in
    shape ∙ in_form (length r == 4) (form_of kind.Signal) r (are_bounds (value r 2) (value r 3))

variable_told : (r : Record) → cause_in (declared_fields r) ≡ lowest_cause kind.Variable r
unfolding declared_fields lowest_cause
variable_told r =
    let shape : cause_in (declared_fields r) ≡ nested (length r == 4) (form_of kind.Variable) r (if are_bounds (value r 2) (value r 3) then None else Some cause.Range) =
    unless_then (length r == 4) cause.Fields _ _ (name_then r 1 _ _ (λ x1. (range_then r 2 _ _ (λ x2. (ok_told _))))) in
    shape ∙ in_form (length r == 4) (form_of kind.Variable) r (are_bounds (value r 2) (value r 3))

beacon_told : (r : Record) → cause_in (beacon_fields r) ≡ lowest_cause kind.Beacon r
unfolding beacon_fields lowest_cause
beacon_told r =
    let shape : cause_in (beacon_fields r) ≡ nested (length r == 6) (form_of kind.Beacon) r (if are_bounds (value r 2) (value r 3) then (if are_bounds (value r 4) (value r 5) then None else Some cause.Range) else Some cause.Range) =
    unless_then (length r == 6) cause.Fields _ _ (name_then r 1 _ _ (λ x1. (number_then r 2 _ _ (number_then r 3 _ _ (number_then r 4 _ _ (number_then r 5 _ _ (bounds_then (value r 2) (value r 3) _ _ (λ x2. (bounds_then (value r 4) (value r 5) _ _ (λ x4. (ok_told _))))))))))) in
    shape ∙ (ap (nested (length r == 6) (form_of kind.Beacon) r) (two_limits (are_bounds (value r 2) (value r 3)) (are_bounds (value r 4) (value r 5))) ∙ in_form (length r == 6) (form_of kind.Beacon) r (are_bounds (value r 2) (value r 3) && are_bounds (value r 4) (value r 5)))

deriv_told : (r : Record) → cause_in (deriv_fields r) ≡ lowest_cause kind.Deriv r
unfolding deriv_fields lowest_cause
deriv_told r =
    let shape : cause_in (deriv_fields r) ≡ nested (length r == 3) (form_of kind.Deriv) r (if true then None else Some cause.Range) =
    unless_then (length r == 3) cause.Fields _ _ (name_then r 1 _ _ (λ x1. (name_then r 2 _ _ (λ x2. (ok_told _))))) in
    shape ∙ in_form (length r == 3) (form_of kind.Deriv) r (true)

bound_told : (r : Record) → cause_in (bound_fields r) ≡ lowest_cause kind.Bound r
unfolding bound_fields lowest_cause
bound_told r =
    let shape : cause_in (bound_fields r) ≡ nested (length r == 6) (form_of kind.Bound) r (if are_bounds (value r 4) (value r 5) then None else Some cause.Range) =
    unless_then (length r == 6) cause.Fields _ _ (name_then r 1 _ _ (λ x1. (number_then r 2 _ _ (number_then r 3 _ _ (range_then r 4 _ _ (λ x4. (ok_told _))))))) in
    shape ∙ in_form (length r == 6) (form_of kind.Bound) r (are_bounds (value r 4) (value r 5))

at_told : (r : Record) → cause_in (at_fields r) ≡ lowest_cause kind.At r
unfolding at_fields lowest_cause
at_told r =
    let shape : cause_in (at_fields r) ≡ nested (length r == 5) (form_of kind.At) r (if are_bounds (value r 3) (value r 4) then None else Some cause.Range) =
    unless_then (length r == 5) cause.Fields _ _ (name_then r 1 _ _ (λ x1. (number_then r 2 _ _ (range_then r 3 _ _ (λ x3. (ok_told _)))))) in
    shape ∙ in_form (length r == 5) (form_of kind.At) r (are_bounds (value r 3) (value r 4))

eval_told : (r : Record) → cause_in (eval_fields r) ≡ lowest_cause kind.Eval r
unfolding eval_fields lowest_cause
eval_told r =
    let shape : cause_in (eval_fields r) ≡ nested (length r == 4) (form_of kind.Eval) r (if true then None else Some cause.Range) =
    unless_then (length r == 4) cause.Fields _ _ (name_then r 1 _ _ (λ x1. (reference_then r 2 _ _ (λ x2. (reference_then r 3 _ _ (λ x3. (ok_told _))))))) in
    shape ∙ in_form (length r == 4) (form_of kind.Eval) r (true)

delay_told : (r : Record) → cause_in (delay_fields r) ≡ lowest_cause kind.Delay r
unfolding delay_fields lowest_cause
delay_told r =
    let shape : cause_in (delay_fields r) ≡ nested (length r == 4) (form_of kind.Delay) r (if true then None else Some cause.Range) =
    unless_then (length r == 4) cause.Fields _ _ (name_then r 1 _ _ (λ x1. (name_then r 2 _ _ (λ x2. (reference_then r 3 _ _ (λ x3. (ok_told _))))))) in
    shape ∙ in_form (length r == 4) (form_of kind.Delay) r (true)

range_told : (r : Record) → cause_in (range_fields r) ≡ lowest_cause kind.Range r
unfolding range_fields lowest_cause
range_told r =
    let shape : cause_in (range_fields r) ≡ nested (length r == 7) (form_of kind.Range) r (if are_radii (value r 1) (value r 2) then None else Some cause.Range) =
    unless_then (length r == 7) cause.Fields _ _ (reference_then r 3 _ _ (λ x3. (reference_then r 4 _ _ (λ x4. (reference_then r 5 _ _ (λ x5. (reference_then r 6 _ _ (λ x6. (radii_then r 1 _ _ (λ x1. (ok_told _))))))))))) in
    shape ∙ in_form (length r == 7) (form_of kind.Range) r (are_radii (value r 1) (value r 2))

range3_told : (r : Record) → cause_in (range3_fields r) ≡ lowest_cause kind.Range3 r
unfolding range3_fields lowest_cause
range3_told r =
    let shape : cause_in (range3_fields r) ≡ nested (length r == 9) (form_of kind.Range3) r (if are_radii (value r 1) (value r 2) then None else Some cause.Range) =
    unless_then (length r == 9) cause.Fields _ _ (reference_then r 3 _ _ (λ x3. (reference_then r 4 _ _ (λ x4. (reference_then r 5 _ _ (λ x5. (reference_then r 6 _ _ (λ x6. (reference_then r 7 _ _ (λ x7. (reference_then r 8 _ _ (λ x8. (radii_then r 1 _ _ (λ x1. (ok_told _))))))))))))))) in
    shape ∙ in_form (length r == 9) (form_of kind.Range3) r (are_radii (value r 1) (value r 2))

constell_told : (r : Record) → cause_in (constell_fields r) ≡ lowest_cause kind.Constell r
unfolding constell_fields lowest_cause
constell_told r =
    let shape : cause_in (constell_fields r) ≡ nested (length r == 3) (form_of kind.Constell) r (if true then None else Some cause.Range) =
    unless_then (length r == 3) cause.Fields _ _ (reference_then r 1 _ _ (λ x1. (reference_then r 2 _ _ (λ x2. (ok_told _))))) in
    shape ∙ in_form (length r == 3) (form_of kind.Constell) r (true)

ping_told : (r : Record) → cause_in (ping_fields r) ≡ lowest_cause kind.Ping r
unfolding ping_fields lowest_cause
ping_told r =
    let shape : cause_in (ping_fields r) ≡ nested (length r == 8) (form_of kind.Ping) r (if are_radii (value r 6) (value r 7) then None else Some cause.Range) =
    unless_then (length r == 8) cause.Fields _ _ (name_then r 1 _ _ (λ x1. (name_then r 2 _ _ (λ x2. (beacon_then r 5 _ _ (λ x5. (number_then r 3 _ _ (number_then r 4 _ _ (radii_then r 6 _ _ (λ x6. (ok_told _))))))))))) in
    shape ∙ in_form (length r == 8) (form_of kind.Ping) r (are_radii (value r 6) (value r 7))

expr_told : (r : Record) → cause_in (text_fields r) ≡ lowest_cause kind.Expr r
unfolding text_fields lowest_cause
expr_told r =
    let shape : cause_in (text_fields r) ≡ nested (length r == 2) (form_of kind.Expr) r (if true then None else Some cause.Range) =
    unless_then (length r == 2) cause.Fields _ _ (ok_told _) in
    shape ∙ in_form (length r == 2) (form_of kind.Expr) r (true)

exprv_told : (r : Record) → cause_in (text_fields r) ≡ lowest_cause kind.Exprv r
unfolding text_fields lowest_cause
exprv_told r =
    let shape : cause_in (text_fields r) ≡ nested (length r == 2) (form_of kind.Exprv) r (if true then None else Some cause.Range) =
    unless_then (length r == 2) cause.Fields _ _ (ok_told _) in
    shape ∙ in_form (length r == 2) (form_of kind.Exprv) r (true)

revisit_told : (r : Record) → cause_in (revisit_fields r) ≡ lowest_cause kind.Revisit r
unfolding revisit_fields lowest_cause
revisit_told r =
    let shape : cause_in (revisit_fields r) ≡ nested (length r == 5) (form_of kind.Revisit) r (if is_radius (value r 3) then (if is_count (value r 4) then None else Some cause.Range) else Some cause.Range) =
    unless_then (length r == 5) cause.Fields _ _ (name_then r 1 _ _ (λ x1. (name_then r 2 _ _ (λ x2. (number_then r 3 _ _ (number_then r 4 _ _ (unless_then (is_radius (value r 3)) cause.Range _ _ (count_then (value r 4) _ _ (λ x4. (ok_told _)))))))))) in
    shape ∙ (ap (nested (length r == 5) (form_of kind.Revisit) r) (two_limits (is_radius (value r 3)) (is_count (value r 4))) ∙ in_form (length r == 5) (form_of kind.Revisit) r (is_radius (value r 3) && is_count (value r 4)))

settle_told : (r : Record) → cause_in (settle_fields r) ≡ lowest_cause kind.Settle r
unfolding settle_fields lowest_cause cause_in
settle_told r = by (length r == 1)
  where
    by : (b : Bool) → cause_in (unless b cause.Fields) ≡ (if not b then Some cause.Fields else None)
    by true = refl
    by false = refl

-- a version comes first, and a record without one has too few fields
versioned : (few four : Bool) (v : Option ℕ) (rest : Option Cause) → (few ≡ true → four ≡ false)
    → (if few then Some cause.Fields else if is_some v then (if not four then Some cause.Fields else rest) else Some cause.Version)
    ≡ (if not (few || is_some v) then Some cause.Version else if not four then Some cause.Fields else rest)
versioned true true v rest h = cc (h refl)
versioned true false v rest h = refl
versioned false four None rest h = refl
versioned false four (Some x) rest h = refl

version_then : {A : Type 0} (r : Record) (f : ℕ → Result A Cause) (rest : Option Cause) → ((x : ℕ) → cause_in (f x) ≡ rest) → cause_in (version_at r >>= f) ≡ (if nat_le (length r) 1 then Some cause.Fields else if is_some (version_of (field r 1)) then rest else Some cause.Version)
unfolding cause_in version_at
version_then r f rest h = by (nat_le (length r) 1) (version_of (field r 1))
  where
    by : (b : Bool) (o : Option ℕ) → cause_in ((if b then Err cause.Fields else found_or o cause.Version) >>= f) ≡ (if b then Some cause.Fields else if is_some o then rest else Some cause.Version)
    by true o = refl
    by false None = refl
    by false (Some x) = h x

few_not_four : (n : ℕ) → nat_le n 1 ≡ true → (n == 4) ≡ false
few_not_four n h = grind (arith, nat_tests)

-- the fields of a mission record after its version
abbrev after_version : ℕ → Record → Result (ℕ × ℕ × ℕ) Cause
after_version version r = do
  fields ← unless (length r == 4) cause.Fields
  ticks ← number_at r 2
  width ← number_at r 3
  t ← count_of ticks
  w ← count_of width
  Ok (version, t, w)

after_version_told : (r : Record) (version : ℕ) → cause_in (after_version version r) ≡ nested (length r == 4) (form_of kind.Mission) r (if is_count (value r 2) then (if is_count (value r 3) then None else Some cause.Range) else Some cause.Range)
after_version_told r version = unless_then (length r == 4) cause.Fields _ _ (number_then r 2 _ _ (number_then r 3 _ _ (count_then (value r 2) _ _ (λ x2. count_then (value r 3) _ _ (λ x3. ok_told _)))))

mission_told : (r : Record) → cause_in (mission_fields r) ≡ lowest_cause kind.Mission r
unfolding mission_fields lowest_cause
mission_told r =
    let limited = is_count (value r 2) && is_count (value r 3) in
    let judged = λ (x : ℕ). after_version_told r x ∙ (ap (nested (length r == 4) (form_of kind.Mission) r) (two_limits (is_count (value r 2)) (is_count (value r 3))) ∙ in_form (length r == 4) (form_of kind.Mission) r limited) in
    version_then r (λ (x : ℕ). after_version x r) _ judged ∙ versioned (nat_le (length r) 1) (length r == 4) (version_of (field r 1)) _ (few_not_four (length r))

pub lowest_told : (r : Record) → LowestIsTold r
lowest_told r = record {
  mission = mission_told r;
  cut = cut_told r;
  signal = signal_told r;
  variable = variable_told r;
  beacon = beacon_told r;
  deriv = deriv_told r;
  bound = bound_told r;
  at = at_told r;
  eval = eval_told r;
  delay = delay_told r;
  range = range_told r;
  range3 = range3_told r;
  constell = constell_told r;
  ping = ping_told r;
  expr = expr_told r;
  exprv = exprv_told r;
  revisit = revisit_told r;
  settle = settle_told r;
}
