-- What stands under the numbers of a net, with some of them withdrawn.
use Rattle.std.specs.Prelude.{ℕ, Option, Some, None, List, [], ◌∷◌, slice_get, slice_set}
use Rattle.ctc_network.specs.declared.answers.CtcId.{CtcId}

-- the places, with none under the numbers of a list
abbrev pub without : {C : Type 0} → List (Option C) → List CtcId → List (Option C)
without cs [] = cs
without cs (id ∷ ids) = without (slice_set cs id.0 None) ids

-- the cells of what stands at a place, and none where there is no place
abbrev pub cells_in : {K : Type 0} → (K → List ℕ) → Option K → List ℕ
cells_in cells None = []
cells_in cells (Some c) = cells c

-- the cells of what stands under a number
abbrev pub cells_under : {K : Type 0} → (K → List ℕ) → List K → ℕ → List ℕ
cells_under cells cs k = cells_in cells (slice_get cs k)
