-- Parts of lines: numbers behind a word, and before a byte.
use Rattle.std.specs.Prelude.{◌≡◌, ◌≢◌, ℕ, ◌^◌, ℤ, pos, neg_ℤ, ◌≤ℤ◌, ◌<ℤ◌, List, [], ◌∷◌, ◌++◌, decimal}
use Rattle.std.specs.Fmt.{signed_decimal}
use Rattle.loop_degree.specs.declared.labels.Label.{Label}
use Rattle.bundle_text.specs.Lines.{label_word}
use Rattle.report_reader.specs.Words.{Lacks}

-- a number that fits a degree
abbrev pub IsDegree : ℤ → Type 0
IsDegree z = (neg_ℤ (pos (2 ^ 63)) ≤ℤ z) × (z <ℤ pos (2 ^ 63))

abbrev pub count_text : List ℕ → ℕ → ℕ → List ℕ
count_text word end n = word ++ (decimal n ++ end ∷ [])

abbrev pub degree_text : List ℕ → ℕ → ℤ → List ℕ
degree_text word end z = word ++ (signed_decimal z ++ end ∷ [])

-- two numbers with a space between
abbrev pub ticks_text : List ℕ → ℕ → ℕ × ℕ → List ℕ
ticks_text word end c = word ++ (decimal c.0 ++ 32 ∷ (decimal c.1 ++ end ∷ []))

-- the bytes between a word and the first such byte behind it, and what follows
pub record IsFramed (word : List ℕ) (end : ℕ) (bytes inner rest : List ℕ) : Type 0 where
  pub whole : word ++ (inner ++ end ∷ rest) ≡ bytes
  pub first : Lacks end inner

abbrev pub NoneFramed : List ℕ → ℕ → List ℕ → Type 0
NoneFramed word end bytes = (inner rest : List ℕ) → word ++ (inner ++ end ∷ rest) ≢ bytes

-- the word of a label that ends a line
abbrev pub label_text : Label → List ℕ
label_text label = label_word label ++ 10 ∷ []

abbrev pub AnyLabel : Label → Type 0
AnyLabel label = Unit {0}
