-- The Kotlin of a Java tree, part by part.
use Rattle.std.specs.Prelude.{ℕ, List, map, option_map, nat_abs}
use Rattle.j2k_base.specs.declared.constants.Const.TheVariants as const
use Rattle.j2k_base.specs.declared.constants.Value.{Value}
use Rattle.j2k_base.specs.declared.constants.Value.TheVariants as value
use Rattle.java_typed.specs.declared.exprs.TExpr.{TExpr, fold-TExpr}
use Rattle.java_typed.specs.declared.exprs.TExpr.TheOpen.{TExpr-F}
use Rattle.java_typed.specs.declared.units.TUnit.{TUnit}
use Rattle.meanings.specs.Taken.{operator_of, Statement, Declares, Prints, Untaken, MainMethod, MainClass, class_in}
use Rattle.meanings.specs.declared.kotlin.KExpr.{KExpr}
use Rattle.meanings.specs.declared.kotlin.KExpr.TheVariants as ke
use Rattle.meanings.specs.declared.kotlin.KStmt.{KStmt}
use Rattle.meanings.specs.declared.kotlin.KStmt.TheVariants.{Val, Print}
use Rattle.meanings.specs.declared.kotlin.KMain.{KMain}
use Rattle.meanings.specs.declared.kotlin.KClass.{KClass}
use Rattle.meanings.specs.declared.kotlin.KFile.{KFile}

-- the number of a literal
abbrev pub number_of : Value → ℕ
number_of (value.Number (const.Int z)) = nat_abs z
number_of _ = 0

-- one form, with the Kotlin of its parts; a zero stands for a form that isn't taken
abbrev pub expression_by : TExpr-F KExpr → KExpr
expression_by (TExpr-F.Literal v at) = ke.Number (number_of v)
expression_by (TExpr-F.Local name at k) = ke.Local name
expression_by (TExpr-F.Paren at inner) = ke.Paren inner
expression_by (TExpr-F.Binary a op at b) = ke.Binary a (operator_of op) b
expression_by _ = ke.Number 0

-- the same expression, with its parentheses
unfoldable pub expression_of : TExpr → KExpr
expression_of = fold-TExpr KExpr expression_by

-- A local that is never assigned again is a `val`, and `System.out.println` is `println`; the print of a zero stands for what isn't
-- taken.
abbrev pub statement_of : Statement → KStmt
statement_of (Declares name e) = Val name (expression_of e)
statement_of (Prints e) = Print (expression_of e)
statement_of Untaken = Print (ke.Number 0)

-- `main` with the same parameter
abbrev pub main_of : MainMethod → KMain
main_of main = record { parameter = main.parameter; body = map statement_of main.body }

-- a class whose one member is static has that member in its companion
abbrev pub class_of : MainClass → KClass
class_of class = record { name = class.name; main = option_map main_of class.main }

-- a unit with the same package
abbrev pub file_of : TUnit → KFile
file_of unit = record { «package» = unit.package; class = option_map class_of (class_in unit) }

-- the classes of a project
abbrev pub classes_of : List MainClass → List KClass
classes_of classes = map class_of classes

-- the files of a project
abbrev pub files_of : List TUnit → List KFile
files_of units = map file_of units
