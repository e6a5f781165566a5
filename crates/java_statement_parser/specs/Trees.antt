-- Expressions and classes, as the readers of heads find them.
use Rattle.std.specs.Prelude.{◌∷◌, Some, None}
use Rattle.java_tree.specs.declared.tokens.Position.{Position}
use Rattle.java_tree.specs.declared.tokens.Keyword.TheVariants as w
use Rattle.java_tree.specs.Seen.{Token}
use Rattle.java_tree.specs.declared.exprs.JExpr.{JExpr}
use Rattle.java_expr_grammar.specs.Reading.{Reader}
use Rattle.java_exprs.specs.declared.found.ExprFound.{ExprFound}

abbrev pub tree_found : ExprFound → JExpr
tree_found x = x.tree

abbrev pub class_word : Reader Position
class_word (Token.Word w.Class at ∷ rest) = Some (at, rest)
class_word _ = None
