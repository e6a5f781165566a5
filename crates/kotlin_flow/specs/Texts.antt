-- What the code of a member does, and the locals without a value in it.
use Rattle.std.specs.Prelude.{List, map}
use Rattle.kotlin_tree.specs.declared.types.KName.{KName}
use Rattle.kotlin_tree.specs.declared.expressions.KExpr.{KExpr, fold-KExpr}
use Rattle.kotlin_tree.specs.declared.expressions.KChoice.{KChoice, fold-KChoice}
use Rattle.kotlin_tree.specs.declared.statements.KStmt.{KStmt, fold-KStmt}
use Rattle.kotlin_tree.specs.declared.statements.KBranch.{KBranch, fold-KBranch}
use Rattle.kotlin_tree.specs.declared.statements.KCatch.{KCatch, fold-KCatch}
use Rattle.kotlin_flow.specs.Variables.{KotlinAct, Names, Blank, entered}
use Rattle.kotlin_flow.specs.Expressions.{Said, Choice, all, blanks_of}
use Rattle.kotlin_flow.specs.Statements.{Line, Branch, Catch, body, block_blanks, said_by, line_by, choice_by, branch_by, catch_by}

unfoldable pub said : KExpr → Said
said = fold-KExpr Said Line Choice Branch Catch said_by line_by choice_by branch_by catch_by

unfoldable pub line : KStmt → Line
line = fold-KStmt Said Line Choice Branch Catch said_by line_by choice_by branch_by catch_by

unfoldable pub choice : KChoice → Choice
choice = fold-KChoice Said Line Choice Branch Catch said_by line_by choice_by branch_by catch_by

unfoldable pub branch : KBranch → Branch
branch = fold-KBranch Said Line Choice Branch Catch said_by line_by choice_by branch_by catch_by

unfoldable pub catch : KCatch → Catch
catch = fold-KCatch Said Line Choice Branch Catch said_by line_by choice_by branch_by catch_by

-- a body with its parameters
abbrev pub body_does : List KName → List KStmt → Names → KotlinAct
body_does params xs names = body params (map line xs) names

abbrev pub body_blanks : List KName → List KStmt → Names → List Blank
body_blanks params xs names = block_blanks (map line xs) (entered params names)

abbrev pub values_do : List KExpr → Names → KotlinAct
values_do xs names = all (map said xs) names

abbrev pub values_blanks : List KExpr → Names → List Blank
values_blanks xs names = blanks_of (map said xs) names
