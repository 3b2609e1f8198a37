-- What a link says of two missions: two positions, each at a tick, and how far they lie apart.
use Rattle.std.specs.Prelude.{ℕ, ◌==◌, not, nat_le, Bool, true, false, List, Option, Some, None, option_map, flat_map, ℤ, pos, negsuc, bytes_eq, if◌then◌else◌}
use Rattle.std.specs.List.{position}
use Rattle.tube_spec.specs.Span.{Span, add_of, point}
use Rattle.slice_gates.specs.Clock.{ticks_of}
use Rattle.tube_store.specs.declared.SignalId.{SignalId}
use Rattle.log_fields.specs.Fields.{are_radii}
use Rattle.mission_items.specs.declared.item.Item.{Item}
use Rattle.mission_items.specs.declared.mission.Mission.{Mission}
use Rattle.log_text.specs.NameTexts.{signal_text}
use Rattle.pair_form.specs.Forms.{LinkForm}
use Rattle.pair_causes.specs.declared.link.Linked.{Linked}

-- the first part that says nothing ends the whole
infixl 10 ◌>>=◌
abbrev pub ◌>>=◌ : {A B : Type 0} → Option A → (A → Option B) → Option B
None >>= f = None
(Some x) >>= f = f x

abbrev pub provided : Bool → Option (Unit {0})
provided true = Some tt
provided false = None

-- ---- words in the places of names

-- the names of a log's signals, in order of declaration
abbrev pub signal_names : List Item → List (List ℕ)
signal_names items = flat_map signal_text items

-- the signal whose name is this word
abbrev pub signal_called : List (List ℕ) → List ℕ → Option SignalId
signal_called names word = option_map (λ n. record { 0 = n }) (position (λ name. bytes_eq name word) names)

-- the two different signals whose names are these words
abbrev pub signals_called : List (List ℕ) → List ℕ × List ℕ → Option (SignalId × SignalId)
signals_called names words = do
  x ← signal_called names words.0
  y ← signal_called names words.1
  apart ← provided (not (x.0 == y.0))
  Some (x, y)

-- ---- ticks

-- a tick of a clock that ends at a tick
abbrev pub tick_on : ℕ → ℤ → Option ℕ
tick_on last (pos n) = if nat_le n last then Some n else None
tick_on last (negsuc n) = None

-- where a tick may be on a clock that is so many ticks ahead
abbrev pub ahead : Span → ℕ → Span
ahead offset tick = add_of (point (pos tick)) offset

-- ---- links

-- what a link says, if its tick is on the clock, its radii are within their limits and in order, its words are two different signals of
-- each log, and the second robot's tick may be on the clock
abbrev pub link_said : Mission → Mission → Span → LinkForm → Option Linked
link_said first second offset link = do
  tick ← tick_on first.ticks link.tick
  radii ← provided (are_radii link.radii.0 link.radii.1)
  here ← signals_called (signal_names first.items) link.first
  there ← signals_called (signal_names second.items) link.second
  times ← ticks_of first.cuts (ahead offset tick)
  Some (record { tick = tick; times = times; radii = link.radii; first = here; second = there })
