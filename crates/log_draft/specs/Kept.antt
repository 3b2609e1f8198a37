-- What a draft keeps beside its records.
use Rattle.std.specs.Prelude.{◌≡◌, ℕ, ◌<◌, Bool, true, false, List, Some, is_some, slice_index_or}
use Rattle.std.specs.List.{list_all}
use Rattle.tube_spec.specs.Limits.{most_signals}
use Rattle.mission_items.specs.Made.{beacons_in, has_head, rate_in, signals_in, variables_in}
use Rattle.mission_items.specs.Names.{declaration_of, declared}
use Rattle.mission_items.specs.Room.{feet_of}
use Rattle.mission_items.specs.Valid.{AreFew, AreRight, IsClock, may_precede_cut, revisits_in}
use Rattle.mission_items.specs.declared.decl.Decl.{Decl}
use Rattle.mission_items.specs.declared.item.Item.{Item}
use Rattle.mission_items.specs.declared.item.Item.TheVariants as item
use Rattle.mission_items.specs.declared.mission.Mission.{Mission}
use Rattle.log_draft.specs.declared.counts.Counts.{Counts}

abbrev pub is_note_item : Item → Bool
is_note_item item.Note = true
is_note_item i = false

-- the running counts of records are theirs
pub record AreCounts (c : Counts) (cuts : List ℕ) (items : List Item) : Type 0 where
  pub signal_count : c.signals ≡ signals_in items
  pub variable_count : c.variables ≡ variables_in items
  pub beacon_count : c.beacons ≡ beacons_in items
  pub revisit_count : c.revisits ≡ revisits_in items
  pub foot_count : c.feet ≡ feet_of cuts items

-- The table has the declared names in order. The flags say whether there is a mission record, whether a cut may come, and which signals
-- have a rate.
pub record IsKept (table : List (List ℕ × Decl)) (head open_ : Bool) (rated : List Bool) (c : Counts) (m : Mission) : Type 0 where
  pub names : table ≡ declared m.items
  pub headed : head ≡ has_head m.items
  pub opened : open_ ≡ list_all may_precede_cut m.items
  pub rates : (x : ℕ) → x < most_signals → slice_index_or rated x false ≡ is_some (rate_in m.items x)
  pub counts : AreCounts c m.cuts m.items
  pub few : AreFew m
  pub right : AreRight m.version m.ticks m.items
  pub clock : head ≡ true → IsClock m.version m.ticks m.width m.cuts m.items
  pub notes : head ≡ false → list_all is_note_item m.items ≡ true

-- ---- what a record that is added has to be

-- only notes stand before the mission record, and with it the clock is known
abbrev pub MayFollow : Mission → Item → Type 0
MayFollow d item.Note = Unit {0}
MayFollow d item.Head = (has_head d.items ≡ false) × IsClock d.version d.ticks d.width d.cuts d.items
MayFollow d i = has_head d.items ≡ true

-- ---- names

-- some name is declared so
pub record IsKnown (items : List Item) (d : Decl) : Type 0 where
  pub name : List ℕ
  pub found : declaration_of name items ≡ Some d
