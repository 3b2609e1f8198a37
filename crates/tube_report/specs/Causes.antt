-- What is written where there is no report: why a log is refused.
use Rattle.std.specs.Prelude.{ℕ, List, [], ◌∷◌, codes, decimal}
use Rattle.log_fields.specs.declared.fault.Cause.{Cause}
use Rattle.log_fields.specs.declared.fault.Cause.TheVariants as cause
use Rattle.tube_report.specs.Lines.{line}

abbrev pub cause_number : Cause → ℕ
cause_number cause.NoMission = 1
cause_number cause.Version = 2
cause_number cause.Kind = 3
cause_number cause.Fields = 4
cause_number cause.Name = 5
cause_number cause.Number = 6
cause_number cause.Range = 7
cause_number cause.Twice = 8
cause_number cause.Unknown = 9
cause_number cause.WrongKind = 10
cause_number cause.Tick = 11
cause_number cause.Wide = 12
cause_number cause.Text = 13
cause_number cause.Deep = 14
cause_number cause.Big = 15
cause_number cause.Cells = 16
cause_number cause.Foot = 17
cause_number cause.Records = 18
cause_number cause.NoBeacon = 19
cause_number cause.Same = 20
cause_number cause.Queries = 21
cause_number cause.Plane = 22
cause_number cause.LogTooLong = 23
cause_number cause.LateCut = 24

abbrev pub cause_name : Cause → List ℕ
cause_name cause.NoMission = codes "NoMission"
cause_name cause.Version = codes "Version"
cause_name cause.Kind = codes "Kind"
cause_name cause.Fields = codes "Fields"
cause_name cause.Name = codes "Name"
cause_name cause.Number = codes "Number"
cause_name cause.Range = codes "Range"
cause_name cause.Twice = codes "Twice"
cause_name cause.Unknown = codes "Unknown"
cause_name cause.WrongKind = codes "WrongKind"
cause_name cause.Tick = codes "Tick"
cause_name cause.Wide = codes "Wide"
cause_name cause.Text = codes "Text"
cause_name cause.Deep = codes "Deep"
cause_name cause.Big = codes "Big"
cause_name cause.Cells = codes "Cells"
cause_name cause.Foot = codes "Foot"
cause_name cause.Records = codes "Records"
cause_name cause.NoBeacon = codes "NoBeacon"
cause_name cause.Same = codes "Same"
cause_name cause.Queries = codes "Queries"
cause_name cause.Plane = codes "Plane"
cause_name cause.LogTooLong = codes "LogTooLong"
cause_name cause.LateCut = codes "LateCut"

-- refused NUMBER CAUSENUMBER CAUSENAME
unfoldable pub fault_line : ℕ → Cause → List ℕ
fault_line number c = line (codes "refused" ∷ decimal number ∷ decimal (cause_number c) ∷ cause_name c ∷ [])
