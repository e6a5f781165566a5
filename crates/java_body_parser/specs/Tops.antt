-- What follows what is read.
use Rattle.std.specs.Prelude.{List, Option, Some}
use Rattle.std.specs.Borrow.{Bor}
use Rattle.java_tree.specs.Seen.{Tokens}
use Rattle.java_expr_grammar.specs.Reading.{Reader, ◌>>=◌}
use Rattle.java_token_cursor.specs.declared.piece.Piece.{Piece}
use Rattle.java_token_cursor.specs.Shown.{shown}

abbrev pub past : {A : Type 0} → Reader A → Tokens → Option Tokens
past read ts = read ts >>= λ x. Some x.1

abbrev pub past_found : Bor (List Piece) → Tokens
past_found x = shown x.now
