-- Texts of words and numbers.
use Rattle.std.specs.Prelude.{ℕ, List, decimal}
use Rattle.std.specs.Fmt.{signed_decimal}
use Rattle.text_pieces.specs.declared.Piece.{Piece}
use Rattle.text_pieces.specs.declared.Piece.TheVariants as piece

-- the text of a piece; that of several is `flat_map piece_text`
abbrev pub piece_text : Piece → List ℕ
piece_text (piece.Text text) = text.now
piece_text (piece.Number n) = signed_decimal n
piece_text (piece.Count n) = decimal n
