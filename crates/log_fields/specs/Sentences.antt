-- The causes that a record has by itself, each as a sentence about its fields.
use Rattle.std.specs.Prelude.{ℕ, suc, ◌==◌, ◌&&◌, ◌||◌, not, nat_le, Bool, true, false, List, [], ◌∷◌, length, Option, Some, None, Result, Ok, Err, unwrap_or, is_some, find, ℤ, pos, negsuc, codes, bytes_eq}
use Rattle.csv_rows.specs.Records.{Record}
use Rattle.tube_spec.specs.Limits.{most_ticks}
use Rattle.log_spelling.specs.Names.{is_name}
use Rattle.log_spelling.specs.Numbers.{number_of}
use Rattle.log_spelling.specs.References.{is_reference}
use Rattle.log_spelling.specs.declared.kind.Kind.{Kind}
use Rattle.log_spelling.specs.declared.kind.Kind.TheVariants as kind
use Rattle.log_fields.specs.Fields.{are_bounds, are_radii, field, is_radius, version_of}
use Rattle.log_fields.specs.declared.fault.Cause.{Cause}
use Rattle.log_fields.specs.declared.fault.Cause.TheVariants as cause

-- ---- the forms of the kinds

-- what a field has to be
pub data Want : Type 0 where
  AnyText : Want
  Name : Want
  Variable : Want
  Beacon : Want
  Number : Want

-- what the fields of a kind after the first have to be
abbrev pub form_of : Kind → List Want
form_of kind.Mission = AnyText ∷ Number ∷ Number ∷ []
form_of kind.Cut = Number ∷ []
form_of kind.Signal = Name ∷ Number ∷ Number ∷ []
form_of kind.Variable = Name ∷ Number ∷ Number ∷ []
form_of kind.Beacon = Name ∷ Number ∷ Number ∷ Number ∷ Number ∷ []
form_of kind.Deriv = Name ∷ Name ∷ []
form_of kind.Bound = Name ∷ Number ∷ Number ∷ Number ∷ Number ∷ []
form_of kind.At = Name ∷ Number ∷ Number ∷ Number ∷ []
form_of kind.Eval = Name ∷ Variable ∷ Variable ∷ []
form_of kind.Delay = Name ∷ Name ∷ Variable ∷ []
form_of kind.Range = Number ∷ Number ∷ Variable ∷ Variable ∷ Variable ∷ Variable ∷ []
form_of kind.Range3 = Number ∷ Number ∷ Variable ∷ Variable ∷ Variable ∷ Variable ∷ Variable ∷ Variable ∷ []
form_of kind.Constell = Variable ∷ Variable ∷ []
form_of kind.Ping = Name ∷ Name ∷ Number ∷ Number ∷ Beacon ∷ Number ∷ Number ∷ []
form_of kind.Expr = AnyText ∷ []
form_of kind.Exprv = AnyText ∷ []
form_of kind.Revisit = Name ∷ Name ∷ Number ∷ Number ∷ []
form_of kind.Settle = []

-- a field that has to be a name, or a name and then `.x` or `.y`, or a name or `?`, is spelled as one
abbrev pub is_named : Want → List ℕ → Bool
is_named Name text = is_name text
is_named Variable text = is_reference text
is_named Beacon text = bytes_eq text (codes "?") || is_name text
is_named Number text = true
is_named AnyText text = true

-- a field that has to be a number is spelled as one
abbrev pub is_numbered : Want → List ℕ → Bool
is_numbered Number text = is_some (number_of text)
is_numbered w text = true

-- the fields from a place on are what they have to be
abbrev pub are_right : (Want → List ℕ → Bool) → ℕ → List Want → Record → Bool
are_right test i [] r = true
are_right test i (w ∷ ws) r = test w (field r i) && are_right test (suc i) ws r

-- ---- the limits of the kinds

-- the number at a place
abbrev pub value : Record → ℕ → ℤ
value r i = unwrap_or (number_of (field r i)) (pos 0)

-- a count of ticks
abbrev pub is_count : ℤ → Bool
is_count (pos n) = nat_le 1 n && nat_le n most_ticks
is_count (negsuc n) = false

-- the numbers of a record are within their limits, and bounds and radii are in order
abbrev pub are_limited : Kind → Record → Bool
are_limited kind.Mission r = is_count (value r 2) && is_count (value r 3)
are_limited kind.Signal r = are_bounds (value r 2) (value r 3)
are_limited kind.Variable r = are_bounds (value r 2) (value r 3)
are_limited kind.Beacon r = are_bounds (value r 2) (value r 3) && are_bounds (value r 4) (value r 5)
are_limited kind.Bound r = are_bounds (value r 4) (value r 5)
are_limited kind.At r = are_bounds (value r 3) (value r 4)
are_limited kind.Range r = are_radii (value r 1) (value r 2)
are_limited kind.Range3 r = are_radii (value r 1) (value r 2)
are_limited kind.Ping r = are_radii (value r 6) (value r 7)
are_limited kind.Revisit r = is_radius (value r 3) && is_count (value r 4)
are_limited k r = true

-- a mission record that has a second field has a version there
abbrev pub has_version : Kind → Record → Bool
has_version kind.Mission r = nat_le (length r) 1 || is_some (version_of (field r 1))
has_version k r = true

-- ---- the sentences

-- what a cause says of a record of a kind by itself
abbrev pub holds : Kind → Record → Cause → Bool
holds k r cause.Version = not (has_version k r)
holds k r cause.Fields = not (length r == suc (length (form_of k)))
holds k r cause.Name = not (are_right is_named 1 (form_of k) r)
holds k r cause.Number = not (are_right is_numbered 1 (form_of k) r)
holds k r cause.Range = not (are_limited k r)
holds k r other = false

-- the first of these causes of which the sentence holds
unfoldable pub lowest_cause : Kind → Record → Option Cause
lowest_cause k r = find (holds k r) (cause.Version ∷ cause.Fields ∷ cause.Name ∷ cause.Number ∷ cause.Range ∷ [])

-- the cause that an answer tells
unfoldable pub cause_in : {A : Type 0} → Result A Cause → Option Cause
cause_in (Ok x) = None
cause_in (Err e) = Some e
