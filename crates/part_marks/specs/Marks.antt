-- The marks of a contractor's parts.
use Rattle.std.specs.Prelude.{ℕ, List, [], ◌∷◌, Bool, true}
use Rattle.ctc_parts.specs.Parts.{marked_in}

-- what contracts see of a contractor's marks: a flag for each part, and the range outside which no part is marked
pub record Marked : Type 0 where
  pub flags : List Bool
  pub first : ℕ
  pub end : ℕ

-- whether a part is marked
abbrev pub marked_at : Marked → ℕ → Bool
marked_at m = marked_in m.flags m.first m.end

-- The flags as a firing is lent them. Where there are none, one is lent that is set: then the range alone says whether the one part is marked.
abbrev pub lent : List Bool → List Bool
lent [] = true ∷ []
lent (flag ∷ flags) = flag ∷ flags
