-- The fields of a record, as names, references, numbers, ranges, radii and ticks.
use Rattle.std.specs.Prelude.{ℕ, ◌+◌, ◌&&◌, nat_le, Bool, List, [], length, Option, Some, None, Result, Ok, Err, unwrap_or, ℤ, pos, negsuc, neg_ℤ, ◌≤ℤ◌, int_le, codes, bytes_eq, if◌then◌else◌}
use Rattle.csv.specs.Records.{field_at}
use Rattle.csv_rows.specs.Records.{Record}
use Rattle.log_spelling.specs.Blanks.{trimmed}
use Rattle.log_spelling.specs.Names.{is_name}
use Rattle.log_spelling.specs.Numbers.{number_of}
use Rattle.log_spelling.specs.References.{bare_name, is_reference, part_of}
use Rattle.log_spelling.specs.declared.reference.Part.{Part}
use Rattle.tube_spec.specs.Limits.{greatest_bound, greatest_radius, most_ticks}
use Rattle.tube_spec.specs.Span.{Span, IsProper, IsBounded}
use Rattle.log_fields.specs.Steps.{◌>>=◌, found_or, unless}
use Rattle.log_fields.specs.declared.fault.Cause.{Cause}
use Rattle.log_fields.specs.declared.fault.Cause.TheVariants as cause

-- the field at a place, trimmed; no bytes past the last one
abbrev pub field : Record → ℕ → List ℕ
field r i = trimmed (unwrap_or (field_at r i) [])

-- ---- names and references

unfoldable pub name_at : Record → ℕ → Result (List ℕ) Cause
name_at r i = if is_name (field r i) then Ok (field r i) else Err cause.Name

-- the bare name that a field speaks of, and which part of it
unfoldable pub reference_at : Record → ℕ → Result (List ℕ × Part) Cause
reference_at r i = if is_reference (field r i) then Ok (bare_name (field r i), part_of (field r i)) else Err cause.Name

-- the name of a beacon, or `?` where it is not known which one it is
unfoldable pub beacon_at : Record → ℕ → Result (Option (List ℕ)) Cause
beacon_at r i =
    if bytes_eq (field r i) (codes "?") then Ok None
    else if is_name (field r i) then Ok (Some (field r i))
    else Err cause.Name

-- ---- numbers

unfoldable pub number_at : Record → ℕ → Result ℤ Cause
number_at r i = found_or (number_of (field r i)) cause.Number

-- a count of ticks is from 1 to 100,000
unfoldable pub count_of : ℤ → Result ℕ Cause
count_of (pos n) = if nat_le 1 n && nat_le n most_ticks then Ok n else Err cause.Range
count_of (negsuc n) = Err cause.Range

-- the bounds of a declared or measured range are from -500,000,000 to 500,000,000, in order
abbrev pub are_bounds : ℤ → ℤ → Bool
are_bounds lo hi = int_le (neg_ℤ (pos greatest_bound)) lo && (int_le hi (pos greatest_bound) && int_le lo hi)

unfoldable pub range_of : ℤ → ℤ → Result Span Cause
range_of lo hi = if are_bounds lo hi then Ok (record { lo = lo; hi = hi }) else Err cause.Range

-- the range that two fields spell, of which both have to be numbers
unfoldable pub range_at : Record → ℕ → Result Span Cause
range_at r i = do
  lo ← number_at r i
  hi ← number_at r (i + 1)
  range_of lo hi

-- a radius is from 0 to 2,000,000,000
unfoldable pub is_radius : ℤ → Bool
is_radius z = int_le (pos 0) z && int_le z (pos greatest_radius)

-- two radii, of which the nearer one comes first
abbrev pub are_radii : ℤ → ℤ → Bool
are_radii near far = int_le (pos 0) near && (int_le near far && int_le far (pos greatest_radius))

-- the radii that two fields spell, of which both have to be numbers
unfoldable pub radii_at : Record → ℕ → Result (ℤ × ℤ) Cause
radii_at r i = do
  near ← number_at r i
  far ← number_at r (i + 1)
  order ← unless (are_radii near far) cause.Range
  Ok (near, far)

-- a tick is from 0 to the last one
abbrev pub tick_of : ℕ → ℤ → Result ℕ Cause
tick_of last (pos n) = if nat_le n last then Ok n else Err cause.Tick
tick_of last (negsuc n) = Err cause.Tick

-- ---- versions

-- the versions of a log, as its first record spells them
abbrev pub version_of : List ℕ → Option ℕ
version_of text =
    if bytes_eq text (codes "1") then Some 1
    else if bytes_eq text (codes "2") then Some 2
    else None

-- the second field; a record without one has no version to judge, and too few fields
unfoldable pub version_at : Record → Result ℕ Cause
version_at r = if nat_le (length r) 1 then Err cause.Fields else found_or (version_of (field r 1)) cause.Version

-- ---- what the numbers keep

-- a range has a number and lies from -500,000,000 to 500,000,000
abbrev pub IsRange : Span → Type 0
IsRange range = IsProper range × IsBounded greatest_bound range

pub record IsRadius (radius : ℤ) : Type 0 where
  pub from_zero : pos 0 ≤ℤ radius
  pub bounded : radius ≤ℤ pos greatest_radius

pub record AreRadii (near far : ℤ) : Type 0 where
  pub from_zero : pos 0 ≤ℤ near
  pub in_order : near ≤ℤ far
  pub bounded : far ≤ℤ pos greatest_radius
