-- What a source says, and which bytes say it.
use Rattle.std.specs.Prelude.{◌≡◌, ℕ, ℤ, pos, List, [], ◌∷◌, ◌++◌, Some, codes, flat_map, length}
use Rattle.std.specs.List.{AllByRecursion}
use Rattle.log_spelling.specs.Numbers.{number_of}
use Rattle.pair_form.specs.Lines.{line}
use Rattle.pair_form.specs.Words.{IsWord}

-- a range between the robots: a tick, the least and the greatest distance, and the words for both positions
pub record LinkForm : Type 0 where
  pub tick : ℤ
  pub radii : ℤ × ℤ
  pub first : List ℕ × List ℕ
  pub second : List ℕ × List ℕ

-- two logs, the least and the greatest offset of their clocks, and the links
pub record SourceForm : Type 0 where
  pub first : List ℕ
  pub second : List ℕ
  pub offset : ℤ × ℤ
  pub links : List LinkForm

-- a word of this kind and two numbers
pub record HasNumbers (kind : List ℕ) (words : List (List ℕ)) (numbers : ℤ × ℤ) : Type 0 where
  pub low : List ℕ
  pub high : List ℕ
  pub spelled : words ≡ kind ∷ low ∷ high ∷ []
  pub low_is : number_of low ≡ Some numbers.0
  pub high_is : number_of high ≡ Some numbers.1

-- the word `link`, three numbers, and four words in the places of names
pub record IsLink (words : List (List ℕ)) (link : LinkForm) : Type 0 where
  pub tick : List ℕ
  pub near : List ℕ
  pub far : List ℕ
  pub spelled : words ≡ codes "link" ∷ tick ∷ near ∷ far ∷ link.first.0 ∷ link.first.1 ∷ link.second.0 ∷ link.second.1 ∷ []
  pub tick_is : number_of tick ≡ Some link.tick
  pub near_is : number_of near ≡ Some link.radii.0
  pub far_is : number_of far ≡ Some link.radii.1
  pub names : AllByRecursion IsWord (link.first.0 ∷ link.first.1 ∷ link.second.0 ∷ link.second.1 ∷ [])

-- each has the words of its link, in order
abbrev pub AreLinks : List (List (List ℕ)) → List LinkForm → Type 0
AreLinks [] [] = Unit {0}
AreLinks [] (link ∷ links) = ⊥
AreLinks (words ∷ lines) [] = ⊥
AreLinks (words ∷ lines) (link ∷ links) = IsLink words link × AreLinks lines links

-- the bytes say this: the line `pair` with the lengths of both logs, the logs, the line `offset`, the lines of the links, and `end`
pub record IsPairText (bytes : List ℕ) (form : SourceForm) : Type 0 where
  pub lengths : List (List ℕ)
  pub offset : List (List ℕ)
  pub links : List (List (List ℕ))
  pub lengths_are : HasNumbers (codes "pair") lengths (pos (length form.first), pos (length form.second))
  pub offset_is : HasNumbers (codes "offset") offset form.offset
  pub links_are : AreLinks links form.links
  pub whole : bytes ≡ line lengths ++ (form.first ++ 10 ∷ (form.second ++ 10 ∷ (line offset ++ (flat_map line links ++ line (codes "end" ∷ [])))))
