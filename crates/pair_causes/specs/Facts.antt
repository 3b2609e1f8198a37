-- What is known of a link that says something.
use Rattle.std.specs.Prelude.{◌≡◌, ◌≢◌, ℕ, ◌<◌, ◌≤◌, List, [], Some, length, slice_index_or, pos}
use Rattle.tube_spec.specs.Span.{Span, meet_of}
use Rattle.slice_gates.specs.Clock.{clock_of}
use Rattle.tube_store.specs.declared.SignalId.{SignalId}
use Rattle.mission_items.specs.Made.{ticks_from}
use Rattle.mission_items.specs.Valid.{AreRadii}
use Rattle.mission_items.specs.declared.item.Item.{Item}
use Rattle.mission_items.specs.declared.mission.Mission.{Mission}
use Rattle.pair_form.specs.Forms.{LinkForm}
use Rattle.pair_causes.specs.Links.{ahead, link_said, signal_names}
use Rattle.pair_causes.specs.declared.link.Linked.{Linked}

-- a signal has this name
pub record IsNameOf (items : List Item) (word : List ℕ) (x : SignalId) : Type 0 where
  pub declared : x.0 < length (signal_names items)
  pub named : slice_index_or (signal_names items) x.0 [] ≡ word

-- two different signals have these names
pub record AreNamesOf (items : List Item) (words : List ℕ × List ℕ) (signals : SignalId × SignalId) : Type 0 where
  pub x : IsNameOf items words.0 signals.0
  pub y : IsNameOf items words.1 signals.1
  pub apart : signals.0.0 ≢ signals.1.0

pub record IsLinked (first second : Mission) (offset : Span) (link : LinkForm) (l : Linked) : Type 0 where
  pub tick : link.tick ≡ pos l.tick
  pub on_clock : l.tick ≤ first.ticks
  pub radii : AreRadii link.radii.0 link.radii.1
  pub same_radii : l.radii ≡ link.radii
  pub here : AreNamesOf first.items link.first l.first
  pub there : AreNamesOf second.items link.second l.second
  pub times : ticks_from l.times.first l.times.last ≡ meet_of (ahead offset l.tick) (clock_of first.cuts)
  pub some_time : l.times.first ≤ l.times.last

-- what a link says is so
abbrev pub LinksAreKnown : Type 0
LinksAreKnown = (first second : Mission) (offset : Span) (link : LinkForm) (l : Linked) → link_said first second offset link ≡ Some l → IsLinked first second offset link l
