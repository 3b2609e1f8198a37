-- Lists of spans, coordinate by coordinate.
use Rattle.std.specs.Prelude.{ℕ, ◌<◌, List, [], ◌∷◌, length, ℤ, pos, slice_index_or}
use Rattle.tube_spec.specs.Span.{Span, IsProper, Holds, point, meet_of}

-- the span of a coordinate, and 0..0 past the last
abbrev pub part_of : List Span → ℕ → Span
part_of xs i = slice_index_or xs i (point (pos 0))

-- f of both spans of each coordinate
abbrev pub each_of : (Span → Span → Span) → List Span → List Span → List Span
each_of f [] ys = []
each_of f (x ∷ xs) [] = []
each_of f (x ∷ xs) (y ∷ ys) = f x y ∷ each_of f xs ys

-- both share a number in each coordinate
abbrev pub EachShares : List Span → List Span → Type 0
EachShares xs ys = (i : ℕ) → i < length xs → IsProper (meet_of (part_of xs i) (part_of ys i))

-- each coordinate of a point lies in the span of that coordinate
abbrev pub HoldsPoint : List Span → List ℤ → Type 0
HoldsPoint xs p = (i : ℕ) → i < length xs → Holds (part_of xs i) (slice_index_or p i (pos 0))
