-- Words of a line, and what it is to read one.
use Rattle.std.specs.Prelude.{◌≡◌, ◌≢◌, ℕ, ◌≤◌, ◌==◌, true, false, List, ◌∷◌, ◌++◌, codes, decimal, Option, Some, None, ◌⊎◌}
use Rattle.std.specs.List.{list_any}
use Rattle.std.specs.Fmt.{signed_decimal}
use Rattle.tube_spec.specs.Limits.{interval_bound, most_ticks}
use Rattle.tube_spec.specs.Span.{Span, IsProper, IsBounded}
use Rattle.log_spelling.specs.Names.{is_name}
use Rattle.report_reader.specs.declared.lines.Ticked.{Ticked}

-- What a reader answers: the value whose text it was given, or nothing where no value of the kind has that text.
abbrev pub Reads : {V : Type 0} → (V → List ℕ) → (V → Type 0) → List ℕ → Option V → Type 0
Reads {V} text_of IsOne text None = (v : V) → IsOne v → text_of v ≢ text
Reads {V} text_of IsOne text (Some v) = IsOne v × (text_of v ≡ text)

-- a byte stands nowhere in a text
abbrev pub Lacks : ℕ → List ℕ → Type 0
Lacks c text = list_any (λ b. b == c) text ≡ false

-- a text in two at the first place of a byte, which is in neither part
pub record IsCut (c : ℕ) (text front rest : List ℕ) : Type 0 where
  pub whole : text ≡ front ++ c ∷ rest
  pub first : Lacks c front

abbrev pub IsAxis : List ℕ → Type 0
IsAxis word = (word ≡ codes ".x") ⊎ (word ≡ codes ".y")

-- a name, or a name with `.x` or `.y` behind it, as a beacon's coordinates are called
abbrev pub IsReference : List ℕ → Type 0
IsReference word = (is_name word ≡ true) ⊎ ((beacon axis : List ℕ) × (is_name beacon ≡ true) × IsAxis axis × (beacon ++ axis ≡ word))

-- bounds that make an interval
abbrev pub IsInterval : Span → Type 0
IsInterval range = IsProper range × IsBounded interval_bound range

-- the two bounds of a range
abbrev pub range_text : Span → List ℕ
range_text range = signed_decimal range.lo ++ 32 ∷ signed_decimal range.hi

-- a tick and a range
abbrev pub ticked_text : Ticked → List ℕ
ticked_text gate = decimal gate.tick ++ 32 ∷ range_text gate.range

abbrev pub IsTicked : Ticked → Type 0
IsTicked gate = (gate.tick ≤ most_ticks) × IsInterval gate.range
