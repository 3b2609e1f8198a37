-- What the fields of each kind of record say, by the record alone, or the lowest cause that it has by itself.
--
-- The lines of a kind stand in the order of the causes: its version, the number of its fields, then all its names and references, then all
-- its numbers, and then their limits. The first line that finds a cause ends it, so the lowest cause is told.
use Rattle.std.specs.Prelude.{ℕ, ◌==◌, List, [], ◌∷◌, length, Option, Result, Ok, ℤ}
use Rattle.csv_rows.specs.Records.{Record}
use Rattle.log_spelling.specs.declared.reference.Part.{Part}
use Rattle.tube_spec.specs.Span.{Span}
use Rattle.log_fields.specs.Fields.{beacon_at, count_of, field, is_radius, name_at, number_at, radii_at, range_at, range_of, reference_at, version_at}
use Rattle.log_fields.specs.Steps.{◌>>=◌, unless}
use Rattle.log_fields.specs.declared.fault.Cause.{Cause}
use Rattle.log_fields.specs.declared.fault.Cause.TheVariants as cause

-- ---- the clock

-- mission,V,T,w: the version, the last tick, and the width of slices
unfoldable pub mission_fields : Record → Result (ℕ × ℕ × ℕ) Cause
mission_fields r = do
  version ← version_at r
  fields ← unless (length r == 4) cause.Fields
  ticks ← number_at r 2
  width ← number_at r 3
  t ← count_of ticks
  w ← count_of width
  Ok (version, t, w)

-- cut,t: a boundary
unfoldable pub cut_fields : Record → Result ℤ Cause
cut_fields r = do
  fields ← unless (length r == 2) cause.Fields
  number_at r 1

-- ---- declarations

-- signal,name,lo,hi and var,name,lo,hi: a new name and its declared range
unfoldable pub declared_fields : Record → Result (List ℕ × Span) Cause
declared_fields r = do
  fields ← unless (length r == 4) cause.Fields
  name ← name_at r 1
  range ← range_at r 2
  Ok (name, range)

-- beacon,name,x1,x2,y1,y2: a new name, and the declared ranges of both coordinates
unfoldable pub beacon_fields : Record → Result (List ℕ × Span × Span) Cause
beacon_fields r = do
  fields ← unless (length r == 6) cause.Fields
  name ← name_at r 1
  x1 ← number_at r 2
  x2 ← number_at r 3
  y1 ← number_at r 4
  y2 ← number_at r 5
  x ← range_of x1 x2
  y ← range_of y1 y2
  Ok (name, x, y)

-- ---- signals

-- deriv,x,v: the names of a signal and of its rate
unfoldable pub deriv_fields : Record → Result (List ℕ × List ℕ) Cause
deriv_fields r = do
  fields ← unless (length r == 3) cause.Fields
  x ← name_at r 1
  rate ← name_at r 2
  Ok (x, rate)

-- bound,x,t1,t2,lo,hi: a signal's name, the first and the last tick, and the measured range
unfoldable pub bound_fields : Record → Result (List ℕ × ℤ × ℤ × Span) Cause
bound_fields r = do
  fields ← unless (length r == 6) cause.Fields
  name ← name_at r 1
  first ← number_at r 2
  last ← number_at r 3
  range ← range_at r 4
  Ok (name, first, last, range)

-- at,x,t,lo,hi: a signal's name, the tick, and the measured range
unfoldable pub at_fields : Record → Result (List ℕ × ℤ × Span) Cause
at_fields r = do
  fields ← unless (length r == 5) cause.Fields
  name ← name_at r 1
  tick ← number_at r 2
  range ← range_at r 3
  Ok (name, tick, range)

-- eval,x,t,z: a signal's name, and the variables of the time and of the value
unfoldable pub eval_fields : Record → Result (List ℕ × (List ℕ × Part) × (List ℕ × Part)) Cause
eval_fields r = do
  fields ← unless (length r == 4) cause.Fields
  x ← name_at r 1
  time ← reference_at r 2
  value ← reference_at r 3
  Ok (x, time, value)

-- delay,x,y,tau: the names of two signals, and the variable of the delay
unfoldable pub delay_fields : Record → Result (List ℕ × List ℕ × (List ℕ × Part)) Cause
delay_fields r = do
  fields ← unless (length r == 4) cause.Fields
  x ← name_at r 1
  y ← name_at r 2
  delay ← reference_at r 3
  Ok (x, y, delay)

-- ---- points

-- range,r1,r2,px,py,bx,by: the least and the greatest distance, and the coordinates of both points
unfoldable pub range_fields : Record → Result (ℤ × ℤ × List (List ℕ × Part)) Cause
range_fields r = do
  fields ← unless (length r == 7) cause.Fields
  px ← reference_at r 3
  py ← reference_at r 4
  bx ← reference_at r 5
  by ← reference_at r 6
  radii ← radii_at r 1
  Ok (radii.0, radii.1, px ∷ py ∷ bx ∷ by ∷ [])

-- range3,r1,r2,px,py,pz,bx,by,bz: the same in space
unfoldable pub range3_fields : Record → Result (ℤ × ℤ × List (List ℕ × Part)) Cause
range3_fields r = do
  fields ← unless (length r == 9) cause.Fields
  px ← reference_at r 3
  py ← reference_at r 4
  pz ← reference_at r 5
  bx ← reference_at r 6
  by ← reference_at r 7
  bz ← reference_at r 8
  radii ← radii_at r 1
  Ok (radii.0, radii.1, px ∷ py ∷ pz ∷ bx ∷ by ∷ bz ∷ [])

-- constell,px,py: the coordinates of the point
unfoldable pub constell_fields : Record → Result ((List ℕ × Part) × (List ℕ × Part)) Cause
constell_fields r = do
  fields ← unless (length r == 3) cause.Fields
  px ← reference_at r 1
  py ← reference_at r 2
  Ok (px, py)

-- ping,x,y,t1,t2,beacon,r1,r2: the names of two signals, the first and the last tick, the beacon if it is known, and the least and the greatest distance
unfoldable pub ping_fields : Record → Result (List ℕ × List ℕ × ℤ × ℤ × Option (List ℕ) × ℤ × ℤ) Cause
ping_fields r = do
  fields ← unless (length r == 8) cause.Fields
  x ← name_at r 1
  y ← name_at r 2
  beacon ← beacon_at r 5
  first ← number_at r 3
  last ← number_at r 4
  radii ← radii_at r 6
  Ok (x, y, first, last, beacon, radii.0, radii.1)

-- ---- texts, questions and sections

-- expr,text and exprv,text: the text
unfoldable pub text_fields : Record → Result (List ℕ) Cause
text_fields r = do
  fields ← unless (length r == 2) cause.Fields
  Ok (field r 1)

-- revisit,x,y,R,G: the names of two signals, the radius, and the least number of ticks between
unfoldable pub revisit_fields : Record → Result (List ℕ × List ℕ × ℤ × ℕ) Cause
revisit_fields r = do
  fields ← unless (length r == 5) cause.Fields
  x ← name_at r 1
  y ← name_at r 2
  radius ← number_at r 3
  gap ← number_at r 4
  within ← unless (is_radius radius) cause.Range
  ticks ← count_of gap
  Ok (x, y, radius, ticks)

-- settle: nothing more
unfoldable pub settle_fields : Record → Result (Unit {0}) Cause
settle_fields r = unless (length r == 1) cause.Fields
