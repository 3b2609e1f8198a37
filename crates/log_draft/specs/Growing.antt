-- A mission that grows record by record.
use Rattle.std.specs.Prelude.{ℕ, [], ◌∷◌, ◌++◌, Result, Ok}
use Rattle.slice_gates.specs.Cuts.{uniform_cuts}
use Rattle.log_fields.specs.Steps.{◌>>=◌}
use Rattle.log_fields.specs.declared.fault.Cause.{Cause}
use Rattle.mission_items.specs.Cuts.{with_cut}
use Rattle.mission_items.specs.declared.item.Item.{Item}
use Rattle.mission_items.specs.declared.mission.Mission.{Mission}
use Rattle.log_draft.specs.Room.{room_for}

abbrev pub nothing_yet : Mission
nothing_yet = record { version = 0; ticks = 0; width = 0; cuts = []; items = [] }

-- a version, and slices of one width
abbrev pub started : ℕ × ℕ × ℕ → Mission → Mission
started clock d = record { version = clock.0; ticks = clock.1; width = clock.2; cuts = uniform_cuts clock.1 clock.2; items = d.items }

-- the mission with one record more; a cut adds its boundary
abbrev pub with_item : Item → Mission → Mission
with_item i d = record d { cuts = with_cut d.cuts i; items = d.items ++ i ∷ [] }

-- the mission with one record more, where it fits
abbrev pub added : Mission → Item → Result Mission Cause
added d i = do
  room ← room_for d i
  Ok (with_item i d)
