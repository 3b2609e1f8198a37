-- The lines of a bundle; those of its queries are lines of the report of loops.
use Rattle.std.specs.Prelude.{ℕ, List, [], ◌∷◌, codes, decimal}
use Rattle.loop_degree.specs.declared.labels.Label.{Label}
use Rattle.loop_degree.specs.declared.labels.Label.TheVariants.{East, West, North, South}
use Rattle.loop_report.specs.Loops.{crowded_line, done_line, sets_line}
use Rattle.tube_report.specs.Lines.{line}
use Rattle.bundle_text.specs.declared.lines.BundleLine.{BundleLine}
use Rattle.bundle_text.specs.declared.lines.BundleLine.TheVariants as kind

abbrev pub label_word : Label → List ℕ
label_word East = codes "east"
label_word West = codes "west"
label_word North = codes "north"
label_word South = codes "south"

-- bundle SIZE
unfoldable pub bundle_line : ℕ → List ℕ
bundle_line size = line (codes "bundle" ∷ decimal size ∷ [])

-- fires NUMBER COUNT
unfoldable pub fires_line : ℕ → ℕ → List ℕ
fires_line number count = line (codes "fires" ∷ decimal number ∷ decimal count ∷ [])

-- fire ID
unfoldable pub fire_line : ℕ → List ℕ
fire_line id = line (codes "fire" ∷ decimal id ∷ [])

-- cell A B
unfoldable pub cell_line : ℕ → ℕ → List ℕ
cell_line a b = line (codes "cell" ∷ decimal a ∷ decimal b ∷ [])

-- corner A B LABEL
unfoldable pub corner_line : ℕ → ℕ → Label → List ℕ
corner_line a b label = line (codes "corner" ∷ decimal a ∷ decimal b ∷ label_word label ∷ [])

-- the text of a line, its end included
abbrev pub line_text : BundleLine → List ℕ
line_text (kind.Bundle size) = bundle_line size
line_text (kind.Fires number count) = fires_line number count
line_text (kind.Fire id) = fire_line id
line_text (kind.Sets number count) = sets_line number count
line_text (kind.Crowded number) = crowded_line number
line_text (kind.Cell a b) = cell_line a b
line_text (kind.Corner a b label) = corner_line a b label
line_text (kind.Done number) = done_line number
