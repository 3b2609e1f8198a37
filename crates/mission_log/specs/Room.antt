-- The room for one more record, the ticks of times, and the beacons that a record may mean.
use Rattle.std.specs.Prelude.{ℕ, nat_le, Bool, true, List, Option, Some, None}
pub use Rattle.log_draft.specs.Room.{is_narrow}
unfoldable pub use Rattle.log_draft.specs.Room.{room_for}
use Rattle.mission_items.specs.Made.{beacons_in}
use Rattle.mission_items.specs.declared.item.Item.{Item}

-- a beacon that is named, or some beacon before
abbrev pub has_mark : List Item → Option ℕ → Bool
has_mark items (Some beacon) = true
has_mark items None = nat_le 1 (beacons_in items)
