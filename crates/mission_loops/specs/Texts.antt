-- What is written of queries, and what is handed out.
use Rattle.std.specs.Prelude.{ℕ, ◌+◌, Bool, List, [], ◌∷◌, ◌++◌, Option, None}
use Rattle.loop_report.specs.Loops.{loops_text}
use Rattle.loop_report.specs.declared.found.Found.{Found}

-- the texts of queries with their numbers, from one on
abbrev pub loops_from : Bool → ℕ → List (Option (List Found)) → List ℕ
loops_from brief number [] = []
loops_from brief number (told ∷ more) = loops_text number told brief ++ loops_from brief (number + 1) more

-- the texts of queries one after another, numbered from 1
abbrev pub findings_text : Bool → List (Option (List Found)) → List ℕ
findings_text brief told = loops_from brief 1 told

-- what is told of the last query, none where there is no query
abbrev pub last_told : List (Option (List Found)) → Option (List Found)
last_told [] = None
last_told (told ∷ []) = told
last_told (told ∷ next ∷ more) = last_told (next ∷ more)
