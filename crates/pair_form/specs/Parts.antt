-- The parts of a source.
use Rattle.std.specs.Prelude.{◌≡◌, ℕ, ℤ, List, [], ◌∷◌, ◌++◌, codes, flat_map}
use Rattle.pair_form.specs.Forms.{AreLinks, HasNumbers, LinkForm}
use Rattle.pair_form.specs.Lines.{line}

-- bytes that begin with the line of a word and two numbers
pub record BeginsWithNumbers (kind bytes : List ℕ) (numbers : ℤ × ℤ) (rest : List ℕ) : Type 0 where
  pub words : List (List ℕ)
  pub numbers_are : HasNumbers kind words numbers
  pub whole : bytes ≡ line words ++ rest

-- the lines of these links, and the last line
pub record AreLinksAndEnd (bytes : List ℕ) (links : List LinkForm) : Type 0 where
  pub lines : List (List (List ℕ))
  pub links_are : AreLinks lines links
  pub whole : bytes ≡ flat_map line lines ++ line (codes "end" ∷ [])
