-- Canonical fields are read as what they were made of.
use Rattle.std.proofs.Common.{◌≡◌, ℕ, ◌+◌, ◌<◌, ◌≤◌, ◌&&◌, nat_le, Bool, true, cond, List, [], Option, Some, Result, Ok, Err, refl, ap, ◌∙◌, arith, ℤ, pos, negsuc, ◌≤ℤ◌}
use Rattle.std.specs.Prelude.{unsigned_abs, unwrap_or, int_le}
use Rattle.std.specs.Fmt.{signed_decimal}
use Rattle.std.proofs.lemmas.Bool.Decides.{nat_tests}
use Rattle.std.proofs.lemmas.Int.{ints}
use Rattle.csv.specs.Records.{field_at}
use Rattle.csv_rows.specs.Records.{Record}
use Rattle.tube_spec.specs.Span.{Span}
use Rattle.log_spelling.specs.Blanks.{trimmed}
use Rattle.log_spelling.specs.Names.{is_name}
use Rattle.log_spelling.specs.Numbers.{number_of}
use Rattle.log_spelling.specs.References.{bare_name, is_reference, part_of, reference_text}
use Rattle.log_spelling.specs.declared.reference.Part.{Part}
use Rattle.log_spelling.proofs.Cutting.{read_as, reference_trimmed}
use Rattle.log_spelling.proofs.Printed.{number_read}
use Rattle.log_spelling.proofs.Solid.{name_trimmed, number_trimmed}
use Rattle.log_fields.specs.Fields.{are_bounds, are_radii, count_of, field, is_radius, name_at, number_at, radii_at, range_at, range_of, reference_at, tick_of, IsRange}
use Rattle.log_fields.specs.Steps.{◌>>=◌, found_or, unless}
use Rattle.log_fields.specs.declared.fault.Cause.{Cause}
use Rattle.log_fields.specs.declared.fault.Cause.TheVariants as cause

-- ---- fields

pub field-is : (r : Record) (i : ℕ) (text : List ℕ) → field_at r i ≡ Some text → trimmed text ≡ text → field r i ≡ text
field-is r i text e t = ap (λ (o : Option (List ℕ)). trimmed (unwrap_or o [])) e ∙ t

pub name-is : (r : Record) (i : ℕ) (name : List ℕ) → field_at r i ≡ Some name → is_name name ≡ true → name_at r i ≡ Ok name
unfolding name_at
name-is r i name e h =
    let same : field r i ≡ name = field-is r i name e (name_trimmed name h) in
    ap (λ (f : List ℕ). cond (is_name f) (Ok f) (Err cause.Name)) same ∙ ap (λ (b : Bool). cond b (Ok name) (Err cause.Name)) h

pub reference-is : (r : Record) (i : ℕ) (name : List ℕ) (p : Part) → field_at r i ≡ Some (reference_text name p) → is_name name ≡ true → reference_at r i ≡ Ok (name, p)
unfolding reference_at
reference-is r i name p e h =
    let text = reference_text name p in
    let same : field r i ≡ text = field-is r i text e (reference_trimmed name p h) in
    let read = read_as name p h in
    ap (λ (f : List ℕ). cond (is_reference f) (Ok (bare_name f, part_of f)) (Err cause.Name)) same
    ∙ (ap (λ (b : Bool). cond b (Ok (bare_name text, part_of text)) (Err cause.Name)) read.reference
    ∙ (ap (λ (n : List ℕ). Ok (n, part_of text)) read.bare ∙ ap (λ (q : Part). Ok (name, q)) read.parted))

pub number-is : (r : Record) (i : ℕ) (z : ℤ) → field_at r i ≡ Some (signed_decimal z) → unsigned_abs z < 1000000000000000000 → number_at r i ≡ Ok z
unfolding number_at
number-is r i z e h =
    let same : field r i ≡ signed_decimal z = field-is r i (signed_decimal z) e (number_trimmed z h) in
    ap (λ (f : List ℕ). found_or (number_of f) cause.Number) same ∙ ap (λ (o : Option ℤ). found_or o cause.Number) (number_read z h)

-- ---- numbers within their limits

test_le : (a b : ℤ) → a ≤ℤ b → int_le a b ≡ true
test_le a b h = grind (arith, ints)

and_true : (a b : Bool) → a ≡ true → b ≡ true → (a && b) ≡ true
and_true a b e f = rw (e, f) refl

-- a number between two bounds has few digits
pub small_between : (z : ℤ) (n : ℕ) → negsuc n ≤ℤ z → z ≤ℤ pos n → n < 999999999999999999 → unsigned_abs z < 1000000000000000000
small_between (pos m) n low high few = omega (arith, ints, low, high, few)
small_between (negsuc m) n low high few = omega (arith, ints, low, high, few)

pub bounds-are : (lo hi : ℤ) → negsuc 499999999 ≤ℤ lo → hi ≤ℤ pos 500000000 → lo ≤ℤ hi → are_bounds lo hi ≡ true
bounds-are lo hi low high order = and_true _ _ (test_le (negsuc 499999999) lo low) (and_true _ _ (test_le hi (pos 500000000) high) (test_le lo hi order))

pub bounds-small : (lo hi : ℤ) → negsuc 499999999 ≤ℤ lo → hi ≤ℤ pos 500000000 → lo ≤ℤ hi → (unsigned_abs lo < 1000000000000000000) × (unsigned_abs hi < 1000000000000000000)
bounds-small lo hi low high order =
    let one : negsuc 500000000 ≤ℤ lo = omega (arith, ints) in
    let two : lo ≤ℤ pos 500000000 = omega (arith, ints) in
    let three : negsuc 500000000 ≤ℤ hi = omega (arith, ints) in
    (small_between lo 500000000 one two (omega arith), small_between hi 500000000 three high (omega arith))

pub range_of-is : (range : Span) → IsRange range → range_of range.lo range.hi ≡ Ok range
unfolding range_of
range_of-is range is = ap (λ (b : Bool). cond b (Ok range) (Err cause.Range)) (bounds-are range.lo range.hi is.1.low is.1.high is.0)

pub range-small : (range : Span) → IsRange range → (unsigned_abs range.lo < 1000000000000000000) × (unsigned_abs range.hi < 1000000000000000000)
range-small range is = bounds-small range.lo range.hi is.1.low is.1.high is.0

pub range-is : (r : Record) (i : ℕ) (range : Span) → IsRange range → field_at r i ≡ Some (signed_decimal range.lo) → field_at r (i + 1) ≡ Some (signed_decimal range.hi) → range_at r i ≡ Ok range
unfolding range_at
range-is r i range is lo hi =
    let small = range-small range is in
    ap (λ (z : Result ℤ Cause). z >>= (λ lo. number_at r (i + 1) >>= (λ hi. range_of lo hi))) (number-is r i range.lo lo small.0)
    ∙ (ap (λ (z : Result ℤ Cause). z >>= (λ hi. range_of range.lo hi)) (number-is r (i + 1) range.hi hi small.1) ∙ range_of-is range is)

pub count-is : (n : ℕ) → 1 ≤ n → n ≤ 100000 → count_of (pos n) ≡ Ok n
unfolding count_of
count-is n some few =
    let least : nat_le 1 n ≡ true = grind (arith, nat_tests) in
    let most : nat_le n 100000 ≡ true = grind (arith, nat_tests) in
    rw (least, most) refl

pub tick-is : (last n : ℕ) → n ≤ last → tick_of last (pos n) ≡ Ok n
tick-is last n h = let most : nat_le n last ≡ true = grind (arith, nat_tests) in rw most refl

pub radii-small : (near far : ℤ) → pos 0 ≤ℤ near → near ≤ℤ far → far ≤ℤ pos 2000000000 → (unsigned_abs near < 1000000000000000000) × (unsigned_abs far < 1000000000000000000)
radii-small near far zero order most =
    let one : negsuc 2000000000 ≤ℤ near = omega (arith, ints) in
    let two : near ≤ℤ pos 2000000000 = omega (arith, ints) in
    let three : negsuc 2000000000 ≤ℤ far = omega (arith, ints) in
    (small_between near 2000000000 one two (omega arith), small_between far 2000000000 three most (omega arith))

pub radius-is : (z : ℤ) → pos 0 ≤ℤ z → z ≤ℤ pos 2000000000 → is_radius z ≡ true
unfolding is_radius
radius-is z zero most = and_true _ _ (test_le (pos 0) z zero) (test_le z (pos 2000000000) most)

pub radii-is : (r : Record) (i : ℕ) (near far : ℤ) → pos 0 ≤ℤ near → near ≤ℤ far → far ≤ℤ pos 2000000000 → field_at r i ≡ Some (signed_decimal near) → field_at r (i + 1) ≡ Some (signed_decimal far) → radii_at r i ≡ Ok (near, far)
unfolding radii_at
radii-is r i near far zero order most e f =
    let small = radii-small near far zero order most in
    let test : are_radii near far ≡ true = and_true _ _ (test_le (pos 0) near zero) (and_true _ _ (test_le near far order) (test_le far (pos 2000000000) most)) in
    ap (λ (z : Result ℤ Cause). z >>= (λ near. number_at r (i + 1) >>= (λ far. unless (are_radii near far) cause.Range >>= (λ _. Ok (near, far))))) (number-is r i near e small.0)
    ∙ (ap (λ (z : Result ℤ Cause). z >>= (λ far. unless (are_radii near far) cause.Range >>= (λ _. Ok (near, far)))) (number-is r (i + 1) far f small.1)
    ∙ ap (λ (b : Bool). unless b cause.Range >>= (λ _. Ok (near, far))) test)
