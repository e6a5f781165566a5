-- The first of the pieces.
use Rattle.std.specs.Prelude.{[], ◌∷◌, Option, Some, None}
use Rattle.java_tree.specs.Seen.{Tokens}
use Rattle.java_token_cursor.specs.declared.piece.Piece.{Piece}
use Rattle.java_token_cursor.specs.Shown.{piece_shown}

abbrev pub first_shown : Option Piece → Tokens
first_shown None = []
first_shown (Some x) = piece_shown x ∷ []
