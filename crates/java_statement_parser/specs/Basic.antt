-- What stands in the parentheses of a `for`, a step at a time.
use Rattle.std.specs.Prelude.{ℕ, List, if◌then◌else◌, Option, Some, None}
use Rattle.std.specs.Borrow.{Bor}
use Rattle.java_tree.specs.declared.tokens.Position.{Position}
use Rattle.java_tree.specs.Seen.{Tokens}
use Rattle.java_tree.specs.declared.exprs.JExpr.{JExpr}
use Rattle.java_expr_grammar.specs.Reading.{Reader, ◌>>=◌}
use Rattle.java_token_cursor.specs.declared.piece.Piece.{Piece}
use Rattle.java_token_cursor.specs.Shown.{shown}
use Rattle.java_statement_grammar.specs.declared.statements.JForStart.{JForStart}
use Rattle.java_statement_grammar.specs.declared.statements.JForHead.{JForHead}
use Rattle.java_statement_grammar.specs.declared.statements.JForHead.TheVariants as for
use Rattle.java_statement_grammar.specs.Reading.{begins_declaration, for_declared, for_plain, semicolon, condition, expressions}
use Rattle.java_statement_parser.specs.declared.found.TestsFound.{TestsFound}

-- the condition, and the `;` before and behind it
abbrev pub Tests : Type 0
Tests = (Position × Option JExpr) × Position

abbrev pub tests_found : TestsFound × Bor (List Piece) → Tests × Tokens
tests_found x = (((x.0.first, x.0.test), x.0.second), shown x.1.now)

abbrev pub tests_read : ℕ → Reader Tests
tests_read d ts = do
  first ← semicolon ts
  test ← condition d first.1
  second ← semicolon test.1
  Some (((first.0, test.0), second.0), second.1)

-- behind the second `;`
abbrev pub updates_read : ℕ → JForStart → Tests → Reader JForHead
updates_read d start t ts = expressions d ts >>= λ u. Some (for.Basic start t.0.0 t.0.1 t.1 u.0.0 u.0.1, u.1)

unfoldable pub for_first : ℕ → Reader JForHead
for_first d ts = if begins_declaration ts then for_declared d ts else for_plain d ts
