-- Lines of printed text, in pieces: definitions of the private functions.
use Rattle.std.specs.Prelude.{ℕ, List}
use Rattle.std.specs.Fmt.{decimal}
use Rattle.query_script.specs.declared.pieces.Piece.{Piece}
use Rattle.query_script.specs.declared.pieces.Piece.TheVariants as piece

-- the bytes of a piece
abbrev pub piece_text : Piece → List ℕ
piece_text (piece.Text text) = text.now
piece_text (piece.Number number) = decimal number
