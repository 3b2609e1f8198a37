-- The fields of each record in canonical text: numbers without `+` and without leading zeros, and the names that the records declare.
use Rattle.std.specs.Prelude.{ℕ, List, [], ◌∷◌, ◌++◌, map, Option, ℤ, pos, codes}
use Rattle.std.specs.Fmt.{signed_decimal}
use Rattle.tube_spec.specs.Span.{Span}
use Rattle.tube_store.specs.declared.SignalId.{SignalId}
use Rattle.tube_store.specs.declared.VarId.{VarId}
use Rattle.tube_names.specs.declared.queries.Query.{Query}
use Rattle.expr_text.specs.Canonical.{relation_text}
use Rattle.csv_rows.specs.Records.{Record}
use Rattle.mission_items.specs.declared.item.Item.{Item}
use Rattle.mission_items.specs.declared.item.Item.TheVariants as item
use Rattle.mission_items.specs.declared.mission.Mission.{Mission}
use Rattle.log_text.specs.NameTexts.{NameTexts, beacon_name, signal_name, variable_name}

-- ---- fields

abbrev pub count : ℕ → List ℕ
count n = signed_decimal (pos n)

abbrev pub range_fields : Span → List (List ℕ)
range_fields range = signed_decimal range.lo ∷ signed_decimal range.hi ∷ []

-- ---- kinds of records

abbrev pub mission_record : ℕ → ℕ → ℕ → Record
mission_record version ticks width = codes "mission" ∷ count version ∷ count ticks ∷ count width ∷ []

abbrev pub cut_record : ℕ → Record
cut_record tick = codes "cut" ∷ count tick ∷ []

abbrev pub signal_record : List ℕ → Span → Record
signal_record name range = codes "signal" ∷ name ∷ range_fields range

abbrev pub variable_record : List ℕ → Span → Record
variable_record name range = codes "var" ∷ name ∷ range_fields range

abbrev pub beacon_record : List ℕ → Span → Span → Record
beacon_record name x y = codes "beacon" ∷ name ∷ (range_fields x ++ range_fields y)

abbrev pub deriv_record : NameTexts → SignalId → SignalId → Record
deriv_record names x rate = codes "deriv" ∷ signal_name names x ∷ signal_name names rate ∷ []

abbrev pub bound_record : NameTexts → SignalId → ℕ → ℕ → Span → Record
bound_record names x first last range = codes "bound" ∷ signal_name names x ∷ count first ∷ count last ∷ range_fields range

abbrev pub at_record : NameTexts → SignalId → ℕ → Span → Record
at_record names x tick range = codes "at" ∷ signal_name names x ∷ count tick ∷ range_fields range

abbrev pub eval_record : NameTexts → SignalId → VarId → VarId → Record
eval_record names x t z = codes "eval" ∷ signal_name names x ∷ variable_name names t ∷ variable_name names z ∷ []

abbrev pub delay_record : NameTexts → SignalId → SignalId → VarId → Record
delay_record names x y tau = codes "delay" ∷ signal_name names x ∷ signal_name names y ∷ variable_name names tau ∷ []

abbrev pub range_record : NameTexts → ℤ → ℤ → List VarId → List VarId → Record
range_record names near far p b = codes "range" ∷ signed_decimal near ∷ signed_decimal far ∷ map (variable_name names) (p ++ b)

abbrev pub range3_record : NameTexts → ℤ → ℤ → List VarId → List VarId → Record
range3_record names near far p b = codes "range3" ∷ signed_decimal near ∷ signed_decimal far ∷ map (variable_name names) (p ++ b)

abbrev pub constell_record : NameTexts → List VarId → Record
constell_record names p = codes "constell" ∷ map (variable_name names) p

abbrev pub ping_record : NameTexts → SignalId → SignalId → ℕ → ℕ → Option ℕ → ℤ → ℤ → Record
ping_record names x y first last beacon near far =
    codes "ping" ∷ signal_name names x ∷ signal_name names y ∷ count first ∷ count last ∷ beacon_name names beacon ∷ signed_decimal near ∷ signed_decimal far ∷ []

abbrev pub revisit_record : NameTexts → Query → Record
revisit_record names q = codes "revisit" ∷ signal_name names q.x ∷ signal_name names q.y ∷ signed_decimal q.radius ∷ count q.gap ∷ []

-- ---- any record

-- The fields of a record of a mission, where the text of a formula is given in some form: in double quotes as it is written, or without
-- them as it is read.
abbrev pub record_with : (List ℕ → List ℕ) → NameTexts → Mission → Item → Record
record_with form names m item.Head = mission_record m.version m.ticks m.width
record_with form names m item.Note = codes "#" ∷ []
record_with form names m (item.Cut tick) = cut_record tick
record_with form names m (item.Signal name range) = signal_record name range
record_with form names m (item.Variable name range) = variable_record name range
record_with form names m (item.Beacon name x y) = beacon_record name x y
record_with form names m (item.Deriv x rate) = deriv_record names x rate
record_with form names m (item.Bound x first last range) = bound_record names x first last range
record_with form names m (item.At x tick range) = at_record names x tick range
record_with form names m (item.Eval x t z) = eval_record names x t z
record_with form names m (item.Delay x y tau) = delay_record names x y tau
record_with form names m (item.Dist2 near far p b) = range_record names near far p b
record_with form names m (item.Dist3 near far p b) = range3_record names near far p b
record_with form names m (item.Constell p) = constell_record names p
record_with form names m (item.Ping x y first last beacon near far) = ping_record names x y first last beacon near far
record_with form names m (item.Each formula leaves) = codes "expr" ∷ form (relation_text formula) ∷ []
record_with form names m (item.Single formula leaves) = codes "exprv" ∷ form (relation_text formula) ∷ []
record_with form names m (item.Revisit q) = revisit_record names q
record_with form names m item.Settle = codes "settle" ∷ []
