-- The lines of the report: words parted by one space, ended by byte 10.
use Rattle.std.specs.Prelude.{ℕ, List, [], ◌∷◌, ◌++◌, codes, decimal}
use Rattle.std.specs.Fmt.{signed_decimal}
use Rattle.tube_spec.specs.Span.{Span}
use Rattle.tube_report.specs.declared.section.Verdict.{Verdict}
use Rattle.tube_report.specs.declared.section.Verdict.TheVariants as verdict

-- words with a space between each two of them, and the line's end
abbrev pub line : List (List ℕ) → List ℕ
line [] = codes "\n"
line (word ∷ []) = word ++ codes "\n"
line (word ∷ (next ∷ words)) = word ++ 32 ∷ line (next ∷ words)

-- the words of a range after another word, and the line's end
abbrev pub range_text : Span → List ℕ
range_text range = 32 ∷ line (signed_decimal range.lo ∷ signed_decimal range.hi ∷ [])

-- ---- the lines of a section

abbrev pub verdict_word : Verdict → List ℕ
verdict_word verdict.Settled = codes "settled"
verdict_word verdict.Empty = codes "empty"
verdict_word verdict.Spent = codes "spent"

-- section NUMBER VERDICT
unfoldable pub first_line : ℕ → Verdict → List ℕ
first_line number v = line (codes "section" ∷ decimal number ∷ verdict_word v ∷ [])

-- end NUMBER
unfoldable pub last_line : ℕ → List ℕ
last_line number = line (codes "end" ∷ decimal number ∷ [])

-- signal NAME
unfoldable pub signal_line : List ℕ → List ℕ
signal_line name = line (codes "signal" ∷ name ∷ [])

-- gate TICK LO HI
unfoldable pub gate_line : ℕ → Span → List ℕ
gate_line tick range = line (codes "gate" ∷ decimal tick ∷ signed_decimal range.lo ∷ signed_decimal range.hi ∷ [])

-- slice FROM TO LO HI
unfoldable pub slice_line : ℕ → ℕ → Span → List ℕ
slice_line from to range = line (codes "slice" ∷ decimal from ∷ decimal to ∷ signed_decimal range.lo ∷ signed_decimal range.hi ∷ [])

-- var NAME LO HI
unfoldable pub var_line : List ℕ → Span → List ℕ
var_line name range = line (codes "var" ∷ name ∷ signed_decimal range.lo ∷ signed_decimal range.hi ∷ [])

-- brief NAME LO HI SUM
unfoldable pub brief_line : List ℕ → Span → ℕ → List ℕ
brief_line name range sum = line (codes "brief" ∷ name ∷ signed_decimal range.lo ∷ signed_decimal range.hi ∷ decimal sum ∷ [])
