-- Lines of words, and the parts that bytes begin with.
use Rattle.std.specs.Prelude.{◌≡◌, ℕ, ℤ, pos, ◌<◌, ◌≤◌, List, [], ◌∷◌, ◌++◌, length}
use Rattle.std.specs.List.{AllByRecursion, join_with_byte}
use Rattle.pair_form.specs.Words.{IsWord, Lacks}

-- words with one space between, and byte 10
abbrev pub line : List (List ℕ) → List ℕ
line words = join_with_byte 32 words ++ 10 ∷ []

-- a text in two at the first place of a byte, which is in neither part
pub record IsCut (c : ℕ) (text front rest : List ℕ) : Type 0 where
  pub whole : text ≡ front ++ c ∷ rest
  pub first : Lacks c front

-- bytes that begin with the line of these words, one to eight
pub record BeginsWithLine (bytes : List ℕ) (words : List (List ℕ)) (rest : List ℕ) : Type 0 where
  pub some : 0 < length words
  pub few : length words ≤ 8
  pub words_are : AllByRecursion IsWord words
  pub whole : bytes ≡ line words ++ rest

-- bytes that begin with a log of so many bytes, and byte 10
pub record BeginsWithLog (bytes : List ℕ) (count : ℤ) (log rest : List ℕ) : Type 0 where
  pub counted : pos (length log) ≡ count
  pub whole : bytes ≡ log ++ 10 ∷ rest
