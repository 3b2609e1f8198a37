-- The canonical text of a mission.
use Rattle.std.specs.Prelude.{ℕ, List, flat_map, map}
use Rattle.csv_rows.specs.Lines.{line}
use Rattle.csv_rows.specs.Records.{Record}
use Rattle.mission_items.specs.declared.item.Item.{Item}
use Rattle.mission_items.specs.declared.mission.Mission.{Mission}
use Rattle.log_text.specs.NameTexts.{NameTexts, texts_of}
use Rattle.log_text.specs.Records.{record_with}
use Rattle.log_text.specs.Written.{quoted}

-- the line of a record
abbrev pub item_line : NameTexts → Mission → Item → List ℕ
item_line names m i = line (record_with quoted names m i)

-- one line for each record, ended by byte 10
abbrev pub log_text : Mission → List ℕ
log_text m = flat_map (item_line (texts_of m.items) m) m.items

-- the fields of a record, as they are read
abbrev pub item_record : NameTexts → Mission → Item → Record
item_record names m i = record_with (λ text. text) names m i

-- the records of a mission's text
abbrev pub log_records : Mission → List Record
log_records m = map (item_record (texts_of m.items) m) m.items
