-- Pieces as the grammar sees them.
use Rattle.std.specs.Prelude.{List, map}
use Rattle.java_tree.specs.Seen.{Token, Tokens, token_seen}
use Rattle.java_token_cursor.specs.declared.piece.Piece.{Piece}
use Rattle.java_token_cursor.specs.declared.piece.Piece.TheVariants as p

abbrev pub piece_shown : Piece → Token
piece_shown (p.Token x) = token_seen x.now
piece_shown (p.Block at body) = Token.ArrowBody at body
piece_shown (p.Body at body) = Token.CloseBody at body

unfoldable pub shown : List Piece → Tokens
shown = map piece_shown
