-- What is written of the areas of queries.
use Rattle.std.specs.Prelude.{ℕ, ◌+◌, Bool, List, [], ◌∷◌, ◌++◌}
use Rattle.area_report.specs.Areas.{area_text}
use Rattle.area_report.specs.declared.coverage.Coverage.{Coverage}

-- the texts of queries with their numbers, from one on
abbrev pub areas_from : Bool → ℕ → List Coverage → List ℕ
areas_from brief number [] = []
areas_from brief number (told ∷ more) = area_text number told brief ++ areas_from brief (number + 1) more

-- the texts of queries one after another, numbered from 1
abbrev pub coverages_text : Bool → List Coverage → List ℕ
coverages_text brief told = areas_from brief 1 told
