-- What is noted after a firing, in the words of the readers' lists.
use Rattle.std.specs.Prelude.{◌≡◌, ℕ, List, [], Bool, true, false, slice_set}
use Rattle.tube_store.specs.State.{State}
use Rattle.ctc_core.specs.declared.Revised.{Revised}
use Rattle.ctc_core.specs.declared.Revised.TheVariants.{Same, Narrowed, Empty}
use Rattle.cell_readers.specs.Entries.{WakesReaders}

-- Who left the box rests. Who narrowed cells waits, and so do the readers of the touched cells, which are taken.
abbrev pub Notes : Revised → ℕ → List (List ℕ) → State → State → List Bool → List Bool → Type 0
Notes Same number readers old new before after = (new ≡ old) × (after ≡ slice_set before number false)
Notes Narrowed number readers old new before after = (new ≡ record old { touched = [] }) × ((woken : List Bool) × WakesReaders readers old.touched before woken × (after ≡ slice_set woken number true))
Notes Empty number readers old new before after = (new ≡ old) × (after ≡ before)
