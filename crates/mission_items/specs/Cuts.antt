-- The boundaries of a clock: those of slices of one width, and the ticks of its cuts.
use Rattle.std.specs.Prelude.{ℕ, nat_lt, ◌==◌, List, [], ◌∷◌, fold, if◌then◌else◌}
use Rattle.slice_gates.specs.Cuts.{uniform_cuts}
use Rattle.mission_items.specs.declared.item.Item.{Item}
use Rattle.mission_items.specs.declared.item.Item.TheVariants as item

-- a rising list of ticks with one tick more, each once
abbrev pub with_tick : List ℕ → ℕ → List ℕ
with_tick [] t = t ∷ []
with_tick (b ∷ bs) t = if nat_lt t b then t ∷ b ∷ bs else if t == b then b ∷ bs else b ∷ with_tick bs t

-- a cut parts a slice, and no other record does
abbrev pub with_cut : List ℕ → Item → List ℕ
with_cut cuts (item.Cut tick) = with_tick cuts tick
with_cut cuts i = cuts

-- the boundaries of a clock after these records
abbrev pub boundaries : ℕ → ℕ → List Item → List ℕ
boundaries ticks width items = fold with_cut (uniform_cuts ticks width) items
