-- Which files of this form have names and literals that Java and Kotlin spell alike, and operands where they may stand.
use Rattle.std.specs.Prelude.{ℕ, pos, ◌+◌, ◌≤◌, ◌<◌, ◌^◌, List, [], ◌∷◌, Option, Some, None}
use Rattle.j2k_base.specs.declared.constants.Const.TheVariants as const
use Rattle.j2k_base.specs.declared.constants.Value.{Value}
use Rattle.j2k_base.specs.declared.constants.Value.TheVariants as value
use Rattle.java_typed.specs.declared.exprs.TExpr.{TExpr, out-TExpr, every-TExpr}
use Rattle.java_typed.specs.declared.exprs.TExpr.TheOpen.{TExpr-F}
use Rattle.java_typed.specs.declared.units.TUnit.{TUnit}
use Rattle.meanings.specs.Levels.{level, primary_level}
use Rattle.meanings.specs.Taken.{operator_of, Statement, Declares, Prints, Untaken, MainMethod, MainClass, class_in}
use Rattle.meanings.specs.KSpells.{IsName, AreNames}

-- the level of a form: that of its operator, else a primary (JLS 15.8)
abbrev pub level_by : TExpr-F TExpr → ℕ
level_by (TExpr-F.Binary a op at b) = level (operator_of op)
level_by _ = primary_level

-- the level of an expression's outermost form
unfoldable pub level_of : TExpr → ℕ
level_of e = level_by (out-TExpr e)

-- a decimal literal of int (JLS 3.10.1)
abbrev pub NumberIsNamed : Value → Type 0
NumberIsNamed (value.Number (const.Int (pos n))) = n < 2 ^ 31
NumberIsNamed _ = Unit {0}

-- a name that may stand in backticks (JLS 3.8), a decimal literal of int; the left operand of an operator is of its level or above, the right one above
-- (JLS 15.17, 15.18)
abbrev pub named_by : TExpr-F TExpr → Type 0
named_by (TExpr-F.Local name at k) = IsName name
named_by (TExpr-F.Literal v at) = NumberIsNamed v
named_by (TExpr-F.Binary a op at b) = (level (operator_of op) ≤ level_of a) × (level (operator_of op) + 1 ≤ level_of b)
named_by _ = Unit {0}

-- each form of an expression is so
unfoldable pub IsNamed : TExpr → Type 0
IsNamed = every-TExpr named_by

-- statements of such expressions
abbrev pub AreNamed : List Statement → Type 0
AreNamed [] = Unit {0}
AreNamed (Declares name value ∷ more) = IsName name × IsNamed value × AreNamed more
AreNamed (Prints value ∷ more) = IsNamed value × AreNamed more
AreNamed (Untaken ∷ more) = ⊥

-- a `main`, where there is one, with such a parameter and such statements
abbrev pub MainIsNamed : Option MainMethod → Type 0
MainIsNamed None = Unit {0}
MainIsNamed (Some main) = IsName main.parameter × AreNamed main.body

-- a class, where there is one, with such a name and such a `main`
abbrev pub ClassIsNamed : Option MainClass → Type 0
ClassIsNamed None = Unit {0}
ClassIsNamed (Some class) = IsName class.name × MainIsNamed class.main

-- a file with such names, literals and operands
pub record JNamed (file : TUnit) : Type 0 where
  pub parts : AreNames file.package
  pub class : ClassIsNamed (class_in file)
