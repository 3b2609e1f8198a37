-- No text of the kinds that stand one after the other is empty.
use Rattle.std.specs.Prelude.{◌≡◌, ℕ, List, ◌∷◌, ◌++◌, Option, Some, None, refl}
use Rattle.bundle_text.specs.Bundles.{cell_text, corner_text, fire_text, query_text, section_text, told_text}
use Rattle.bundle_text.specs.Lines.{cell_line, corner_line, fire_line, fires_line}
use Rattle.bundle_text.specs.declared.bundle.TracedQuery.{TracedQuery}
use Rattle.bundle_text.specs.declared.bundle.TracedSection.{TracedSection}
use Rattle.bundle_text.specs.declared.bundle.TracedSet.{TracedSet}
use Rattle.loop_degree.specs.declared.labels.Label.{Label}
use Rattle.loop_report.specs.Loops.{crowded_line, done_line, run_line, sets_line}
use Rattle.tplane_paver.specs.declared.runs.Run.{Run}

-- a text has a byte
abbrev pub HasByte : List ℕ → Type 0
HasByte text = (c : ℕ) × (cs : List ℕ) × (text ≡ c ∷ cs)

pub fire_some : (n : ℕ) → HasByte (fire_text n)
unfolding fire_line
fire_some n = (_, _, refl)

pub run_some : (r : Run) → HasByte (run_line r)
unfolding run_line
run_some r = (_, _, refl)

pub cell_some : (c : ℕ × ℕ) → HasByte (cell_text c)
unfolding cell_line
cell_some c = (_, _, refl)

pub corner_some : (c : ℕ × ℕ × Label) → HasByte (corner_text c)
unfolding corner_line
corner_some c = (_, _, refl)

pub section_some : (s : TracedSection) → HasByte (section_text s)
unfolding fires_line
section_some s = (_, _, refl)

told_some : (number : ℕ) (sets : Option (List TracedSet)) (rest : List ℕ) → HasByte (told_text number sets ++ rest)
unfolding crowded_line sets_line
told_some number None rest = (_, _, refl)
told_some number (Some sets) rest = (_, _, refl)

pub query_some : (q : TracedQuery) → HasByte (query_text q)
query_some q = told_some q.number q.sets (done_line q.number)
