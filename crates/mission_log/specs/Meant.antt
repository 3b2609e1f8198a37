-- What the names of a record mean, and what a ping says.
use Rattle.std.specs.Prelude.{ℕ, ◌+◌, ◌<◌, ◌≤◌, IfSome, List}
use Rattle.tube_spec.specs.Span.{Span}
use Rattle.log_spelling.specs.declared.reference.Part.{Part}
use Rattle.log_fields.specs.Fields.{AreRadii}
use Rattle.mission_items.specs.Made.{beacons_in, signals_in}
use Rattle.mission_items.specs.Names.{range_of}
use Rattle.mission_items.specs.declared.decl.Decl.{Decl}
use Rattle.mission_items.specs.declared.item.Item.{Item}
use Rattle.log_draft.specs.Kept.{IsKnown}
use Rattle.mission_log.specs.declared.meant.Meant.{Meant}
use Rattle.mission_log.specs.declared.ping.PingSaid.{PingSaid}

-- what a name is declared as, and the part that is meant
abbrev pub meant : Meant → Decl × Part
meant m = (m.declared, m.part)

abbrev pub IsMeant : List Item → Meant → Type 0
IsMeant items m = IsKnown items m.declared

-- the declared range of what is meant
abbrev pub range_meant : Meant → Span
range_meant m = range_of m.declared m.part

-- what a ping says is right, but for its mark and two signals that are the same
pub record IsPing (end : ℕ) (items : List Item) (p : PingSaid) : Type 0 where
  pub x : p.x.0 < signals_in items
  pub y : p.y.0 < signals_in items
  pub order : p.first ≤ p.last
  pub within : p.last ≤ end
  pub short : p.last ≤ p.first + 2000
  pub beacon : IfSome p.beacon (λ place. place < beacons_in items)
  pub radii : AreRadii p.near p.far
