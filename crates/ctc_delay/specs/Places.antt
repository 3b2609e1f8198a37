-- The cells of a signal by their places, and the ticks of each.
use Rattle.std.specs.Prelude.{ℕ, ◌+◌, ◌-◌, ◌*◌, ◌/◌, ◌%◌, List, length, map, slice_index}
use Rattle.std.specs.List.{range_with_len}

-- The cells of a signal go gate, envelope, gate and so on: place 2i is gate i, over one tick, and place 2i + 1 envelope i, over its slice.
-- There are two for each slice, and one more.
abbrev pub place_count : List ℕ → ℕ
place_count grid = 2 * (length grid - 1) + 1

-- the first and the last tick of the cell at a place, both among its ticks
abbrev pub place_first : List ℕ → ℕ → ℕ
place_first grid place = slice_index grid (place / 2)

abbrev pub place_last : List ℕ → ℕ → ℕ
place_last grid place = slice_index grid ((place + 1) / 2)

-- the first tick after those that stand at a place: past a gate the next tick, and past an envelope the gate that ends its slice
abbrev pub place_end : List ℕ → ℕ → ℕ
place_end grid place = place_last grid place + (1 - place % 2)

-- f 0, f 1 and so on, one for each place
abbrev pub each_place : {X : Type 0} → List ℕ → (ℕ → X) → List X
each_place grid f = map f (range_with_len 0 (place_count grid))

-- all cells of the signal with this first cell
abbrev pub signal_cells : List ℕ → ℕ → List ℕ
signal_cells grid first = each_place grid (λ place. first + place)
