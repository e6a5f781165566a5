-- What was written, as tokens in which a body counts with the token before it.
use Rattle.std.specs.Prelude.{List, map}
use Rattle.java_tree.specs.Seen.{Token, Tokens, token_seen}
use Rattle.java_expr_printer.specs.declared.written.Written.{Written}
use Rattle.java_expr_printer.specs.declared.written.Written.TheVariants as written

abbrev pub written_shown : Written → Token
written_shown (written.Token x) = token_seen x
written_shown (written.Block at body) = Token.ArrowBody at body
written_shown (written.Body at body) = Token.CloseBody at body

unfoldable pub shown : List Written → Tokens
shown = map written_shown
