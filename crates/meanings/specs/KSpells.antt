-- Which bytes spell a Kotlin file of this form.
use Rattle.std.specs.Prelude.{◌≡◌, ℕ, ◌+◌, ◌≤◌, ◌<◌, ◌^◌, nat_eq, Bool, true, false, not, List, [], ◌∷◌, Option, Some, None, codes}
use Rattle.std.specs.List.{list_all, list_any}
use Rattle.meanings.specs.declared.kotlin.KExpr.{KExpr, out-KExpr, every-KExpr}
use Rattle.meanings.specs.declared.kotlin.KExpr.TheOpen.{KExpr-F}
use Rattle.meanings.specs.Levels.{level, primary_level}
use Rattle.meanings.specs.declared.kotlin.KStmt.{KStmt}
use Rattle.meanings.specs.declared.kotlin.KStmt.TheVariants.{Val, Print}
use Rattle.meanings.specs.declared.kotlin.KMain.{KMain}
use Rattle.meanings.specs.declared.kotlin.KClass.{KClass}
use Rattle.meanings.specs.declared.kotlin.KFile.{KFile}
use Rattle.meanings.specs.KText.{name_text, KText}
use Rattle.meanings.specs.Values.{Name}
use Rattle.kotlin_words.specs.Words.{hard_keywords, contains_word}

-- a byte that may stand in backticks (Kotlin, "Identifiers": no backtick and no line end; on the JVM none of `.`, `;`, `/`, `[`, `]`, `<`, `>`,
-- `:`, `\`)
abbrev pub may_stand : ℕ → Bool
may_stand byte = not (list_any (nat_eq byte) (codes "`.;/[]<>:\\\n\r"))

-- not empty, of bytes that may stand in backticks (Kotlin, "Identifiers")
abbrev pub IsName : Name → Type 0
IsName [] = ⊥
IsName (byte ∷ more) = list_all may_stand (byte ∷ more) ≡ true

-- each part of a qualified name is one
abbrev pub AreNames : List Name → Type 0
AreNames [] = Unit {0}
AreNames (name ∷ names) = IsName name × AreNames names

-- the level of a form: a primary expression, or that of its operator (Kotlin, "Syntax and grammar": additiveExpression, multiplicativeExpression)
abbrev pub level_by : KExpr-F KExpr → ℕ
level_by (KExpr-F.Local name) = primary_level
level_by (KExpr-F.Number n) = primary_level
level_by (KExpr-F.Paren inner) = primary_level
level_by (KExpr-F.Binary a operator b) = level operator

-- the level of an expression's outermost form
unfoldable pub level_of : KExpr → ℕ
level_of e = level_by (out-KExpr e)

-- a name, a literal of Int (Kotlin, "Integer literals"); the left operand of an operator is of its level or above, the right one above
abbrev pub stands_by : KExpr-F KExpr → Type 0
stands_by (KExpr-F.Local name) = IsName name
stands_by (KExpr-F.Number n) = n < 2 ^ 31
stands_by (KExpr-F.Paren inner) = Unit {0}
stands_by (KExpr-F.Binary a operator b) = (level operator ≤ level_of a) × (level operator + 1 ≤ level_of b)

-- its names and literals are those of Kotlin, and each operand stands where the grammar takes it
unfoldable pub IsExpression : KExpr → Type 0
IsExpression = every-KExpr stands_by

-- so are those of statements
abbrev pub AreStatements : List KStmt → Type 0
AreStatements [] = Unit {0}
AreStatements (Val name value ∷ more) = IsName name × IsExpression value × AreStatements more
AreStatements (Print value ∷ more) = IsExpression value × AreStatements more

-- the parameter and the statements of a `main`, where there is one, are those of Kotlin
abbrev pub IsMain : Option KMain → Type 0
IsMain None = Unit {0}
IsMain (Some main) = IsName main.parameter × AreStatements main.body

-- the name and the `main` of a class, where there is one, are those of Kotlin
abbrev pub IsClass : Option KClass → Type 0
IsClass None = Unit {0}
IsClass (Some class) = IsName class.name × IsMain class.main

-- the bytes are the file's canonical text, its names and numbers are those of Kotlin, and its operands stand (own rule until there is a reader)
pub record KSpells (file : KFile) (bytes : List ℕ) : Type 0 where
  pub parts : AreNames file.package
  pub class : IsClass file.class
  pub text : bytes ≡ KText file

-- bytes spell at most one file
abbrev pub SpellsOne : Type 0
SpellsOne = (file other : KFile) (bytes : List ℕ) → KSpells file bytes → KSpells other bytes → file ≡ other

-- the text of a name is no hard keyword
abbrev pub NoKeywordStandsBare : Type 0
NoKeywordStandsBare = (name : Name) → contains_word hard_keywords (name_text name) ≡ false
