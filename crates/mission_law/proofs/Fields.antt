-- What the fields of a record are, where no cause is found in them.
use Rattle.std.proofs.Common.{◌≡◌, ℕ, ◌≤◌, Bool, true, false, ◌&&◌, cond, List, Option, Some, None, Result, Ok, Err, ℤ, pos, negsuc, ◌≤ℤ◌, int_le, arith, refl, length, nat_le, bytes_eq, ◌==◌}
use Rattle.std.specs.Prelude.{IfOk, codes, neg_ℤ}
use Rattle.std.proofs.lemmas.Bool.Decides.{nat_tests}
use Rattle.std.proofs.lemmas.Int.{ints}
use Rattle.csv_rows.specs.Records.{Record}
use Rattle.log_spelling.specs.Names.{is_name}
use Rattle.log_spelling.specs.declared.reference.Part.{Part}
use Rattle.tube_spec.specs.Span.{Span}
use Rattle.log_fields.specs.Fields.{AreRadii, IsRange, are_bounds, are_radii, beacon_at, count_of, field, is_radius, name_at, number_at, radii_at, range_at, range_of, reference_at, tick_of, version_at}
use Rattle.log_fields.specs.Kinds.{at_fields, beacon_fields, bound_fields, declared_fields, mission_fields, ping_fields, range3_fields, range_fields, revisit_fields}
use Rattle.log_fields.specs.Steps.{◌>>=◌, found_or, unless}
use Rattle.log_fields.specs.declared.fault.Cause.{Cause}
use Rattle.log_fields.specs.declared.fault.Cause.TheVariants as cause

-- ---- steps that find no cause

-- what holds of all that the steps behind give holds of what the steps give
pub goes : {A B : Type 0} (P : B → Type 0) (s : Result A Cause) (f : A → Result B Cause) → ((x : A) → s ≡ Ok x → IfOk (f x) P) → IfOk (s >>= f) P
goes P (Ok x) f h = h x refl
goes P (Err c) f h = tt

-- and so it is where it is known what the first steps give
pub knows : {A B : Type 0} (Q : A → Type 0) (P : B → Type 0) (s : Result A Cause) (f : A → Result B Cause) → IfOk s Q → ((x : A) → Q x → IfOk (f x) P) → IfOk (s >>= f) P
knows Q P (Ok x) f q h = h x q
knows Q P (Err c) f q h = tt

pub tested : (b : Bool) (c : Cause) → IfOk (unless b c) (λ u. b ≡ true)
tested true c = refl
tested false c = tt

pub some_of : {A : Type 0} (o : Option A) (c : Cause) → IfOk (found_or o c) (λ x. o ≡ Some x)
some_of None c = tt
some_of (Some x) c = refl

both : (a b : Bool) → (a && b) ≡ true → (a ≡ true) × (b ≡ true)
both true b e = (refl, e)
both false b e = cc e

at_most : (m n : ℕ) → nat_le m n ≡ true → m ≤ n
at_most m n h = grind (arith, nat_tests)

le_of : (a b : ℤ) → int_le a b ≡ true → a ≤ℤ b
le_of a b h = grind (arith, ints)

-- ---- one field

name-right : (r : Record) (i : ℕ) → IfOk (name_at r i) (λ name. is_name name ≡ true)
unfolding name_at
name-right r i = by (is_name (field r i)) refl
  where
    by : (b : Bool) → is_name (field r i) ≡ b → IfOk {E = Cause} (cond b (Ok (field r i)) (Err cause.Name)) (λ name. is_name name ≡ true)
    by true e = e
    by false e = tt

bounds-right : (lo hi : ℤ) → IfOk (range_of lo hi) IsRange
unfolding range_of
bounds-right lo hi = by (are_bounds lo hi) refl
  where
    by : (b : Bool) → are_bounds lo hi ≡ b → IfOk {T = Span} {E = Cause} (cond b (Ok (record { lo = lo; hi = hi })) (Err cause.Range)) IsRange
    by true e =
        let low = both (int_le (neg_ℤ (pos 500000000)) lo) (int_le hi (pos 500000000) && int_le lo hi) e in
        let high = both (int_le hi (pos 500000000)) (int_le lo hi) low.1 in
        (le_of lo hi high.1, record { low = le_of (neg_ℤ (pos 500000000)) lo low.0; high = le_of hi (pos 500000000) high.0 })
    by false e = tt

range-right : (r : Record) (i : ℕ) → IfOk (range_at r i) IsRange
unfolding range_at
range-right r i = goes IsRange (number_at r i) _ (λ lo e. goes IsRange (number_at r (_)) _ (λ hi f. bounds-right lo hi))

abbrev pub AreRadiiPair : ℤ × ℤ → Type 0
AreRadiiPair p = AreRadii p.0 p.1

radii-of : (near far : ℤ) → are_radii near far ≡ true → AreRadii near far
radii-of near far e =
    let first = both (int_le (pos 0) near) (int_le near far && int_le far (pos 2000000000)) e in
    let second = both (int_le near far) (int_le far (pos 2000000000)) first.1 in
    record { from_zero = le_of (pos 0) near first.0; in_order = le_of near far second.0; bounded = le_of far (pos 2000000000) second.1 }

radii-right : (r : Record) (i : ℕ) → IfOk (radii_at r i) AreRadiiPair
unfolding radii_at
radii-right r i =
    goes AreRadiiPair (number_at r i) _ (λ near e. goes AreRadiiPair (number_at r (_)) _ (λ far f.
    knows (λ u. are_radii near far ≡ true) AreRadiiPair (unless (are_radii near far) cause.Range) _ (tested (are_radii near far) cause.Range) (λ u order. radii-of near far order)))

abbrev pub IsCount : ℕ → Type 0
IsCount n = (1 ≤ n) × (n ≤ 100000)

count-right : (z : ℤ) → IfOk (count_of z) IsCount
unfolding count_of
count-right (pos n) = by (nat_le 1 n && nat_le n 100000) refl
  where
    by : (b : Bool) → (nat_le 1 n && nat_le n 100000) ≡ b → IfOk {E = Cause} (cond b (Ok n) (Err cause.Range)) IsCount
    by true e = let h = both (nat_le 1 n) (nat_le n 100000) e in (at_most 1 n h.0, at_most n 100000 h.1)
    by false e = tt
count-right (negsuc n) = tt

pub tick-right : (last : ℕ) (z : ℤ) → IfOk (tick_of last z) (λ tick. tick ≤ last)
tick-right last (pos n) = by (nat_le n last) refl
  where
    by : (b : Bool) → nat_le n last ≡ b → IfOk {E = Cause} (cond b (Ok n) (Err cause.Tick)) (λ tick. tick ≤ last)
    by true e = at_most n last e
    by false e = tt
tick-right last (negsuc n) = tt

abbrev pub IsVersion : ℕ → Type 0
IsVersion v = (1 ≤ v) × (v ≤ 2)

version-right : (r : Record) → IfOk (version_at r) IsVersion
unfolding version_at
version-right r = by (nat_le (length r) 1) (bytes_eq (field r 1) (codes "1")) (bytes_eq (field r 1) (codes "2"))
  where
    by : (none one two : Bool) → IfOk (cond none (Err cause.Fields) (found_or (cond one (Some 1) (cond two (Some 2) None)) cause.Version)) IsVersion
    by true one two = tt
    by false true two = (omega arith, omega arith)
    by false false true = (omega arith, omega arith)
    by false false false = tt

-- ---- the kinds

-- a version and a clock
abbrev pub IsStart : ℕ × ℕ × ℕ → Type 0
IsStart f = IsVersion f.0 × IsCount f.1 × IsCount f.2

pub mission-fields : (r : Record) → IfOk (mission_fields r) IsStart
unfolding mission_fields
mission-fields r =
    knows IsVersion IsStart (version_at r) _ (version-right r) (λ version v. goes IsStart (unless (length r == 4) cause.Fields) _ (λ fields e.
    goes IsStart (number_at r 2) _ (λ ticks f. goes IsStart (number_at r 3) _ (λ width g.
    knows IsCount IsStart (count_of ticks) _ (count-right ticks) (λ t some. knows IsCount IsStart (count_of width) _ (count-right width) (λ w wide. (v, some, wide)))))))

-- a name and a range
abbrev pub IsDeclared : List ℕ × Span → Type 0
IsDeclared f = (is_name f.0 ≡ true) × IsRange f.1

pub declared-fields : (r : Record) → IfOk (declared_fields r) IsDeclared
unfolding declared_fields
declared-fields r =
    goes IsDeclared (unless (length r == 4) cause.Fields) _ (λ fields e. knows (λ name. is_name name ≡ true) IsDeclared (name_at r 1) _ (name-right r 1) (λ name spelled.
    knows IsRange IsDeclared (range_at r 2) _ (range-right r 2) (λ range right. (spelled, right))))

-- a name and two ranges
abbrev pub IsPlace : List ℕ × Span × Span → Type 0
IsPlace f = (is_name f.0 ≡ true) × IsRange f.1 × IsRange f.2

pub beacon-fields : (r : Record) → IfOk (beacon_fields r) IsPlace
unfolding beacon_fields
beacon-fields r =
    goes IsPlace (unless (length r == 6) cause.Fields) _ (λ fields e. knows (λ name. is_name name ≡ true) IsPlace (name_at r 1) _ (name-right r 1) (λ name spelled.
    goes IsPlace (number_at r 2) _ (λ x1 a. goes IsPlace (number_at r 3) _ (λ x2 b. goes IsPlace (number_at r 4) _ (λ y1 c. goes IsPlace (number_at r 5) _ (λ y2 d.
    knows IsRange IsPlace (range_of x1 x2) _ (bounds-right x1 x2) (λ x right. knows IsRange IsPlace (range_of y1 y2) _ (bounds-right y1 y2) (λ y also. (spelled, right, also)))))))))

pub bound-fields : (r : Record) → IfOk (bound_fields r) (λ f. IsRange f.3)
unfolding bound_fields
bound-fields r =
    goes (λ f. IsRange f.3) (unless (length r == 6) cause.Fields) _ (λ fields e. goes (λ f. IsRange f.3) (name_at r 1) _ (λ name spelled.
    goes (λ f. IsRange f.3) (number_at r 2) _ (λ first a. goes (λ f. IsRange f.3) (number_at r 3) _ (λ last b.
    knows IsRange (λ f. IsRange f.3) (range_at r 4) _ (range-right r 4) (λ range right. right)))))

pub at-fields : (r : Record) → IfOk (at_fields r) (λ f. IsRange f.2)
unfolding at_fields
at-fields r =
    goes (λ f. IsRange f.2) (unless (length r == 5) cause.Fields) _ (λ fields e. goes (λ f. IsRange f.2) (name_at r 1) _ (λ name spelled.
    goes (λ f. IsRange f.2) (number_at r 2) _ (λ tick a. knows IsRange (λ f. IsRange f.2) (range_at r 3) _ (range-right r 3) (λ range right. right))))

-- two radii and so many names
abbrev pub IsRing : ℕ → ℤ × ℤ × List (List ℕ × Part) → Type 0
IsRing n f = AreRadii f.0 f.1 × (length f.2 ≡ n)

pub range-fields : (r : Record) → IfOk (range_fields r) (IsRing 4)
unfolding range_fields
range-fields r =
    goes (IsRing 4) (unless (length r == 7) cause.Fields) _ (λ fields e.
    goes (IsRing 4) (reference_at r 3) _ (λ px a. goes (IsRing 4) (reference_at r 4) _ (λ py b. goes (IsRing 4) (reference_at r 5) _ (λ bx c. goes (IsRing 4) (reference_at r 6) _ (λ by d.
    knows AreRadiiPair (IsRing 4) (radii_at r 1) _ (radii-right r 1) (λ radii right. (right, refl)))))))

pub range3-fields : (r : Record) → IfOk (range3_fields r) (IsRing 6)
unfolding range3_fields
range3-fields r =
    goes (IsRing 6) (unless (length r == 9) cause.Fields) _ (λ fields e.
    goes (IsRing 6) (reference_at r 3) _ (λ px a. goes (IsRing 6) (reference_at r 4) _ (λ py b. goes (IsRing 6) (reference_at r 5) _ (λ pz c.
    goes (IsRing 6) (reference_at r 6) _ (λ bx d. goes (IsRing 6) (reference_at r 7) _ (λ by f. goes (IsRing 6) (reference_at r 8) _ (λ bz g.
    knows AreRadiiPair (IsRing 6) (radii_at r 1) _ (radii-right r 1) (λ radii right. (right, refl)))))))))

pub ping-fields : (r : Record) → IfOk (ping_fields r) (λ f. AreRadii f.5 f.6)
unfolding ping_fields
ping-fields r =
    goes (λ f. AreRadii f.5 f.6) (unless (length r == 8) cause.Fields) _ (λ fields e. goes (λ f. AreRadii f.5 f.6) (name_at r 1) _ (λ x a. goes (λ f. AreRadii f.5 f.6) (name_at r 2) _ (λ y b.
    goes (λ f. AreRadii f.5 f.6) (beacon_at r 5) _ (λ beacon c. goes (λ f. AreRadii f.5 f.6) (number_at r 3) _ (λ first d. goes (λ f. AreRadii f.5 f.6) (number_at r 4) _ (λ last g.
    knows AreRadiiPair (λ f. AreRadii f.5 f.6) (radii_at r 6) _ (radii-right r 6) (λ radii right. right)))))))

-- a radius and a gap
abbrev pub IsAsked : List ℕ × List ℕ × ℤ × ℕ → Type 0
IsAsked f = (pos 0 ≤ℤ f.2) × (f.2 ≤ℤ pos 2000000000) × IsCount f.3

radius-of : (z : ℤ) → is_radius z ≡ true → (pos 0 ≤ℤ z) × (z ≤ℤ pos 2000000000)
unfolding is_radius
radius-of z e = let h = both (int_le (pos 0) z) (int_le z (pos 2000000000)) e in (le_of (pos 0) z h.0, le_of z (pos 2000000000) h.1)

pub revisit-fields : (r : Record) → IfOk (revisit_fields r) IsAsked
unfolding revisit_fields
revisit-fields r =
    goes IsAsked (unless (length r == 5) cause.Fields) _ (λ fields e. goes IsAsked (name_at r 1) _ (λ x a. goes IsAsked (name_at r 2) _ (λ y b.
    goes IsAsked (number_at r 3) _ (λ radius c. goes IsAsked (number_at r 4) _ (λ gap d.
    knows (λ u. is_radius radius ≡ true) IsAsked (unless (is_radius radius) cause.Range) _ (tested (is_radius radius) cause.Range) (λ u within.
    let h = radius-of radius within in
    knows IsCount IsAsked (count_of gap) _ (count-right gap) (λ ticks some. (h.0, h.1, some))))))))
