-- The room for one more record, and the ticks of times.
use Rattle.std.specs.Prelude.{ℕ, ◌+◌, nat_le, Bool, length, Result}
use Rattle.tube_spec.specs.Limits.{most_reads, most_records}
use Rattle.tube_spec.specs.Span.{Span, meet_of, width_of}
use Rattle.log_fields.specs.Steps.{◌>>=◌, unless}
use Rattle.log_fields.specs.declared.fault.Cause.{Cause}
use Rattle.log_fields.specs.declared.fault.Cause.TheVariants as cause
use Rattle.mission_items.specs.Made.{signals_in, signals_made, ticks_from, variables_in, variables_made}
use Rattle.mission_items.specs.Room.{are_few, feet_of, foot_of}
use Rattle.mission_items.specs.declared.item.Item.{Item}
use Rattle.mission_items.specs.declared.mission.Mission.{Mission}

-- whether one more record fits: its cells, its read entries and its place, by the boundaries before it
unfoldable pub room_for : Mission → Item → Result (Unit {0}) Cause
room_for d i = do
  cells ← unless (are_few d.cuts (signals_in d.items + signals_made i) (variables_in d.items + variables_made i)) cause.Cells
  feet ← unless (nat_le (feet_of d.cuts d.items + foot_of d.cuts d.items i) most_reads) cause.Foot
  unless (nat_le (length d.items + 1) most_records) cause.Records

-- the last tick of a range, on a clock that ends at a tick, is at most 2,000 above the first
abbrev pub is_narrow : ℕ → Span → Bool
is_narrow end range = nat_le (width_of (meet_of range (ticks_from 0 end))) 2000
