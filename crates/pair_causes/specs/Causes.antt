-- The numbers and the words of the causes.
use Rattle.std.specs.Prelude.{ℕ, List, codes}
use Rattle.pair_causes.specs.declared.cause.PairCause.{PairCause}
use Rattle.pair_causes.specs.declared.cause.PairCause.TheVariants as cause

abbrev pub cause_number : PairCause → ℕ
cause_number cause.Form = 31
cause_number cause.FirstLog = 32
cause_number cause.SecondLog = 33
cause_number cause.Heads = 34
cause_number cause.Sections = 35
cause_number cause.SecondMap = 36
cause_number cause.Offset = 37
cause_number cause.Link = 38
cause_number cause.LongName = 39
cause_number cause.Joined = 40

abbrev pub cause_name : PairCause → List ℕ
cause_name cause.Form = codes "Form"
cause_name cause.FirstLog = codes "FirstLog"
cause_name cause.SecondLog = codes "SecondLog"
cause_name cause.Heads = codes "Heads"
cause_name cause.Sections = codes "Sections"
cause_name cause.SecondMap = codes "SecondMap"
cause_name cause.Offset = codes "Offset"
cause_name cause.Link = codes "Link"
cause_name cause.LongName = codes "LongName"
cause_name cause.Joined = codes "Joined"
