-- What a mark in a range says.
use Rattle.std.proofs.Common.{◌≡◌, ℕ, ◌+◌, ◌<◌, ◌≤◌, leb, ◌&&◌, Bool, true, false, List, arith, slice_index_or}
use Rattle.std.proofs.lemmas.Bool.{leb-true, and_parts}
use Rattle.ctc_parts.specs.Parts.{marked_in}

module _ (marks : List Bool) (first end i : ℕ) (m : marked_in marks first end i ≡ true) where
  -- the number lies in the range
  pub marked-first : first ≤ i
  marked-first = leb-true first i (and_parts (leb first i) (leb (i + 1) end && slice_index_or marks i false) m).0

  rest : (leb (i + 1) end ≡ true) × (slice_index_or marks i false ≡ true)
  rest = and_parts (leb (i + 1) end) (slice_index_or marks i false) (and_parts (leb first i) (leb (i + 1) end && slice_index_or marks i false) m).1

  -- below its end
  pub marked-end : i < end
  marked-end = omega (arith, leb-true (i + 1) end rest.0)

  -- and its flag is set
  pub marked-flag : slice_index_or marks i false ≡ true
  marked-flag = rest.1
