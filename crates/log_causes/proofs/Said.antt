-- What the fields of a record give, kind by kind, where they have no cause.
use Rattle.std.proofs.Common.{◌≡◌, ℕ, ◌+◌, ◌&&◌, Bool, true, false, List, [], ◌∷◌, Option, Some, None, Result, Ok, Err, refl, sym, subst, if◌then◌else◌, ℤ, pos, negsuc, length, ◌==◌, nat_le}
use Rattle.std.specs.Prelude.{IfOk, unwrap_or, bytes_eq, codes}
use Rattle.csv_rows.specs.Records.{Record}
use Rattle.log_spelling.specs.Names.{is_name}
use Rattle.log_spelling.specs.Numbers.{number_of}
use Rattle.log_spelling.specs.References.{bare_name, is_reference, part_of}
use Rattle.log_spelling.specs.declared.reference.Part.{Part}
use Rattle.tube_spec.specs.Span.{Span}
use Rattle.log_fields.specs.Fields.{are_bounds, are_radii, beacon_at, count_of, field, is_radius, name_at, number_at, radii_at, range_at, range_of, reference_at, version_at, version_of}
use Rattle.log_fields.specs.Kinds.{at_fields, beacon_fields, bound_fields, constell_fields, cut_fields, declared_fields, delay_fields, deriv_fields, eval_fields, mission_fields, ping_fields, range3_fields, range_fields, revisit_fields, text_fields}
use Rattle.log_fields.specs.Sentences.{value}
use Rattle.log_fields.specs.Steps.{◌>>=◌, found_or, unless}
use Rattle.log_fields.specs.declared.fault.Cause.{Cause}
use Rattle.log_fields.specs.declared.fault.Cause.TheVariants as cause
use Rattle.log_causes.specs.Items.{natural, span_at}
use Rattle.log_causes.specs.Uses.{is_any}

-- ---- one field

behind : {A B : Type 0} (m : Result A Cause) (v : A) (f : A → Result B Cause) (P : B → Type 0) → IfOk m (λ x. x ≡ v) → IfOk (f v) P → IfOk (m >>= f) P
behind (Ok x) v f P is h = subst (λ y. IfOk (f y) P) (sym is) h
behind (Err c) v f P is h = tt

unless-is : (b : Bool) (c : Cause) → IfOk (unless b c) (λ x. x ≡ tt)
unless-is true c = refl
unless-is false c = tt

name-is : (r : Record) (i : ℕ) → IfOk (name_at r i) (λ x. x ≡ field r i)
unfolding name_at
name-is r i = by (is_name (field r i))
  where
    by : (b : Bool) → IfOk {E = Cause} (if b then Ok (field r i) else Err cause.Name) (λ x. x ≡ field r i)
    by true = refl
    by false = tt

-- a reference as its bare name and its part
abbrev pub reference_said : Record → ℕ → List ℕ × Part
reference_said r i = (bare_name (field r i), part_of (field r i))

reference-is : (r : Record) (i : ℕ) → IfOk (reference_at r i) (λ x. x ≡ reference_said r i)
unfolding reference_at
reference-is r i = by (is_reference (field r i))
  where
    by : (b : Bool) → IfOk {E = Cause} (if b then Ok (reference_said r i) else Err cause.Name) (λ x. x ≡ reference_said r i)
    by true = refl
    by false = tt

-- the name of a beacon, or any
abbrev pub beacon_said : List ℕ → Option (List ℕ)
beacon_said text = if is_any text then None else Some text

beacon-is : (r : Record) (i : ℕ) → IfOk (beacon_at r i) (λ x. x ≡ beacon_said (field r i))
unfolding beacon_at
beacon-is r i = by (bytes_eq (field r i) (codes "?")) (is_name (field r i))
  where
    by : (a b : Bool) → IfOk {E = Cause} (if a then Ok None else if b then Ok (Some (field r i)) else Err cause.Name) (λ x. x ≡ (if a then None else Some (field r i)))
    by true b = refl
    by false true = refl
    by false false = tt

number-is : (r : Record) (i : ℕ) → IfOk (number_at r i) (λ x. x ≡ value r i)
unfolding number_at
number-is r i = by (number_of (field r i))
  where
    by : (o : Option ℤ) → IfOk (found_or o cause.Number) (λ x. x ≡ unwrap_or o (pos 0))
    by None = tt
    by (Some z) = refl

bounds-is : (lo hi : ℤ) → IfOk {T = Span} (range_of lo hi) (λ x. x ≡ record { lo = lo; hi = hi })
unfolding range_of
bounds-is lo hi = by (are_bounds lo hi)
  where
    by : (b : Bool) → IfOk {T = Span} {E = Cause} (if b then Ok (record { lo = lo; hi = hi }) else Err cause.Range) (λ x. x ≡ record { lo = lo; hi = hi })
    by true = refl
    by false = tt

count-is : (z : ℤ) → IfOk (count_of z) (λ x. x ≡ natural z)
unfolding count_of
count-is (pos n) = by (nat_le 1 n && nat_le n 100000)
  where
    by : (b : Bool) → IfOk {E = Cause} (if b then Ok n else Err cause.Range) (λ x. x ≡ n)
    by true = refl
    by false = tt
count-is (negsuc n) = tt

range-is : (r : Record) (i : ℕ) → IfOk (range_at r i) (λ x. x ≡ span_at r i)
unfolding range_at
range-is r i = behind (number_at r i) (value r i) _ _ (number-is r i) (behind (number_at r (i + 1)) (value r (i + 1)) _ _ (number-is r (i + 1)) (bounds-is (value r i) (value r (i + 1))))

radii-is : (r : Record) (i : ℕ) → IfOk (radii_at r i) (λ x. x ≡ (value r i, value r (i + 1)))
unfolding radii_at
radii-is r i =
    behind (number_at r i) (value r i) _ _ (number-is r i)
    (behind (number_at r (i + 1)) (value r (i + 1)) _ _ (number-is r (i + 1))
    (behind (unless (are_radii (value r i) (value r (i + 1))) cause.Range) tt _ _ (unless-is (are_radii (value r i) (value r (i + 1))) cause.Range) refl))

abbrev pub version_said : Record → ℕ
version_said r = unwrap_or (version_of (field r 1)) 0

version-is : (r : Record) → IfOk (version_at r) (λ x. x ≡ version_said r)
unfolding version_at
version-is r = by (nat_le (length r) 1) (version_of (field r 1))
  where
    by : (b : Bool) (o : Option ℕ) → IfOk (if b then Err cause.Fields else found_or o cause.Version) (λ x. x ≡ unwrap_or o 0)
    by true o = tt
    by false None = tt
    by false (Some v) = refl

-- ---- the number of fields

sized : {A : Type 0} (b : Bool) (f : Unit {0} → Result A Cause) (P : A → Type 0) → IfOk (f tt) P → IfOk (unless b cause.Fields >>= f) P
sized b f P h = behind (unless b cause.Fields) tt f P (unless-is b cause.Fields) h

named : {A : Type 0} (r : Record) (i : ℕ) (f : List ℕ → Result A Cause) (P : A → Type 0) → IfOk (f (field r i)) P → IfOk (name_at r i >>= f) P
named r i f P h = behind (name_at r i) (field r i) f P (name-is r i) h

referred : {A : Type 0} (r : Record) (i : ℕ) (f : List ℕ × Part → Result A Cause) (P : A → Type 0) → IfOk (f (reference_said r i)) P → IfOk (reference_at r i >>= f) P
referred r i f P h = behind (reference_at r i) (reference_said r i) f P (reference-is r i) h

numbered : {A : Type 0} (r : Record) (i : ℕ) (f : ℤ → Result A Cause) (P : A → Type 0) → IfOk (f (value r i)) P → IfOk (number_at r i >>= f) P
numbered r i f P h = behind (number_at r i) (value r i) f P (number-is r i) h

-- ---- the kinds

pub mission-said : (r : Record) → IfOk (mission_fields r) (λ x. x ≡ (version_said r, natural (value r 2), natural (value r 3)))
unfolding mission_fields
mission-said r =
    behind (version_at r) (version_said r) _ _ (version-is r) (sized (length r == 4) _ _ (numbered r 2 _ _ (numbered r 3 _ _
    (behind (count_of (value r 2)) (natural (value r 2)) _ _ (count-is (value r 2)) (behind (count_of (value r 3)) (natural (value r 3)) _ _ (count-is (value r 3)) refl)))))

pub cut-said : (r : Record) → IfOk (cut_fields r) (λ x. x ≡ value r 1)
unfolding cut_fields
cut-said r = sized (length r == 2) _ _ (number-is r 1)

pub declared-said : (r : Record) → IfOk (declared_fields r) (λ x. x ≡ (field r 1, span_at r 2))
unfolding declared_fields
declared-said r = sized (length r == 4) _ _ (named r 1 _ _ (behind (range_at r 2) (span_at r 2) _ _ (range-is r 2) refl))

pub beacon-said : (r : Record) → IfOk (beacon_fields r) (λ x. x ≡ (field r 1, span_at r 2, span_at r 4))
unfolding beacon_fields
beacon-said r =
    sized (length r == 6) _ _ (named r 1 _ _ (numbered r 2 _ _ (numbered r 3 _ _ (numbered r 4 _ _ (numbered r 5 _ _
    (behind (range_of (value r 2) (value r 3)) (span_at r 2) _ _ (bounds-is (value r 2) (value r 3))
    (behind (range_of (value r 4) (value r 5)) (span_at r 4) _ _ (bounds-is (value r 4) (value r 5)) refl)))))))

pub deriv-said : (r : Record) → IfOk (deriv_fields r) (λ x. x ≡ (field r 1, field r 2))
unfolding deriv_fields
deriv-said r = sized (length r == 3) _ _ (named r 1 _ _ (named r 2 _ _ refl))

pub bound-said : (r : Record) → IfOk (bound_fields r) (λ x. x ≡ (field r 1, value r 2, value r 3, span_at r 4))
unfolding bound_fields
bound-said r = sized (length r == 6) _ _ (named r 1 _ _ (numbered r 2 _ _ (numbered r 3 _ _ (behind (range_at r 4) (span_at r 4) _ _ (range-is r 4) refl))))

pub at-said : (r : Record) → IfOk (at_fields r) (λ x. x ≡ (field r 1, value r 2, span_at r 3))
unfolding at_fields
at-said r = sized (length r == 5) _ _ (named r 1 _ _ (numbered r 2 _ _ (behind (range_at r 3) (span_at r 3) _ _ (range-is r 3) refl)))

pub eval-said : (r : Record) → IfOk (eval_fields r) (λ x. x ≡ (field r 1, reference_said r 2, reference_said r 3))
unfolding eval_fields
eval-said r = sized (length r == 4) _ _ (named r 1 _ _ (referred r 2 _ _ (referred r 3 _ _ refl)))

pub delay-said : (r : Record) → IfOk (delay_fields r) (λ x. x ≡ (field r 1, field r 2, reference_said r 3))
unfolding delay_fields
delay-said r = sized (length r == 4) _ _ (named r 1 _ _ (named r 2 _ _ (referred r 3 _ _ refl)))

pub range-said : (r : Record) → IfOk (range_fields r) (λ x. x ≡ (value r 1, value r 2, reference_said r 3 ∷ reference_said r 4 ∷ reference_said r 5 ∷ reference_said r 6 ∷ []))
unfolding range_fields
range-said r =
    sized (length r == 7) _ _ (referred r 3 _ _ (referred r 4 _ _ (referred r 5 _ _ (referred r 6 _ _
    (behind (radii_at r 1) (value r 1, value r 2) _ _ (radii-is r 1) refl)))))

pub range3-said : (r : Record) → IfOk (range3_fields r) (λ x. x ≡ (value r 1, value r 2, reference_said r 3 ∷ reference_said r 4 ∷ reference_said r 5 ∷ reference_said r 6 ∷ reference_said r 7 ∷ reference_said r 8 ∷ []))
unfolding range3_fields
range3-said r =
    sized (length r == 9) _ _ (referred r 3 _ _ (referred r 4 _ _ (referred r 5 _ _ (referred r 6 _ _ (referred r 7 _ _ (referred r 8 _ _
    (behind (radii_at r 1) (value r 1, value r 2) _ _ (radii-is r 1) refl)))))))

pub constell-said : (r : Record) → IfOk (constell_fields r) (λ x. x ≡ (reference_said r 1, reference_said r 2))
unfolding constell_fields
constell-said r = sized (length r == 3) _ _ (referred r 1 _ _ (referred r 2 _ _ refl))

pub ping-said : (r : Record) → IfOk (ping_fields r) (λ x. x ≡ (field r 1, field r 2, value r 3, value r 4, beacon_said (field r 5), value r 6, value r 7))
unfolding ping_fields
ping-said r =
    sized (length r == 8) _ _ (named r 1 _ _ (named r 2 _ _
    (behind (beacon_at r 5) (beacon_said (field r 5)) _ _ (beacon-is r 5) (numbered r 3 _ _ (numbered r 4 _ _
    (behind (radii_at r 6) (value r 6, value r 7) _ _ (radii-is r 6) refl))))))

pub text-said : (r : Record) → IfOk (text_fields r) (λ x. x ≡ field r 1)
unfolding text_fields
text-said r = sized (length r == 2) _ _ refl

pub revisit-said : (r : Record) → IfOk (revisit_fields r) (λ x. x ≡ (field r 1, field r 2, value r 3, natural (value r 4)))
unfolding revisit_fields
revisit-said r =
    sized (length r == 5) _ _ (named r 1 _ _ (named r 2 _ _ (numbered r 3 _ _ (numbered r 4 _ _
    (behind (unless (is_radius (value r 3)) cause.Range) tt _ _ (unless-is (is_radius (value r 3)) cause.Range)
    (behind (count_of (value r 4)) (natural (value r 4)) _ _ (count-is (value r 4)) refl))))))
