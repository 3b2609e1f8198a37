-- What is true of the text of every accepted mission.
use Rattle.std.specs.Prelude.{◌≡◌, ℕ, ◌<◌, List, ◌++◌, Some}
use Rattle.tube_store.specs.declared.SignalId.{SignalId}
use Rattle.tube_store.specs.declared.VarId.{VarId}
use Rattle.csv_rows.specs.Records.{records_of}
use Rattle.mission_items.specs.Made.{beacons_in, signals_in}
use Rattle.mission_items.specs.Names.{IsNamed}
use Rattle.mission_items.specs.Valid.{IsMission}
use Rattle.mission_items.specs.declared.item.Item.{Item}
use Rattle.mission_items.specs.declared.mission.Mission.{Mission}
use Rattle.log_text.specs.NameTexts.{NameTexts, beacon_name, signal_name, texts_of, variable_name}
use Rattle.log_text.specs.Named.{NamesBeacon, NamesSignal, NamesVariable}
use Rattle.log_text.specs.Texts.{log_records, log_text}

-- each signal, each beacon and each named variable of these records is named by its text
pub record AreNamed (before : List Item) (names : NameTexts) : Type 0 where
  pub signals : (x : SignalId) → x.0 < signals_in before → NamesSignal before x (signal_name names x)
  pub variables : (v : VarId) → IsNamed before v → NamesVariable before v (variable_name names v)
  pub beacons : (place : ℕ) → place < beacons_in before → NamesBeacon before place (beacon_name names (Some place))

-- the texts of a mission's names stand, after any of its records, for what those records declare
abbrev pub NamesAreRight : Type 0
NamesAreRight = (m : Mission) (before rest : List Item) → IsMission m → m.items ≡ before ++ rest → AreNamed before (texts_of m.items)

-- the text has one record for each record of the mission, with its fields
abbrev pub RecordsAreRead : Type 0
RecordsAreRead = (m : Mission) → IsMission m → records_of (log_text m) ≡ log_records m
