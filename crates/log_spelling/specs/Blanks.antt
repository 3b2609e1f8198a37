-- The blanks at the ends of a field.
use Rattle.std.specs.Prelude.{ℕ, Bool, true, false, ◌==◌, ◌&&◌, ◌||◌, List, [], ◌∷◌, slice_index, if◌then◌else◌}

-- a space or a tab
abbrev pub is_blank : ℕ → Bool
is_blank c = (c == 32) || (c == 9)

abbrev pub is_empty : List ℕ → Bool
is_empty [] = true
is_empty (c ∷ cs) = false

-- with no blank at the start
abbrev pub without_front : List ℕ → List ℕ
without_front [] = []
without_front (c ∷ cs) = if is_blank c then without_front cs else c ∷ cs

-- with no blank at the end
abbrev pub without_back : List ℕ → List ℕ
without_back [] = []
without_back (c ∷ cs) = if is_blank c && is_empty (without_back cs) then [] else c ∷ without_back cs

-- with no blank at either end
abbrev pub trimmed : List ℕ → List ℕ
trimmed cs = without_back (without_front cs)

-- a first field that begins with `#` makes its record a note
abbrev pub is_note : List ℕ → Bool
is_note cs = slice_index cs 0 == 35
