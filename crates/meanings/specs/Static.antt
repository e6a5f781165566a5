-- What is known of a place of Kotlin text: the declared types. Its typing and its evaluator read the same.
use Rattle.std.specs.Prelude.{◌≡◌, Bool, true, false, List, [], ◌∷◌, Option, Some, None, option_map, filter_map, if◌then◌else◌}
use Rattle.meanings.specs.declared.kotlin.KExpr.{KExpr, para-KExpr}
use Rattle.meanings.specs.declared.kotlin.KExpr.TheOpen.{KExpr-F}
use Rattle.meanings.specs.declared.kotlin.KStmt.{KStmt}
use Rattle.meanings.specs.declared.kotlin.KStmt.TheVariants.{Val, Print}
use Rattle.meanings.specs.declared.kotlin.KMain.{KMain}
use Rattle.meanings.specs.declared.kotlin.KClass.{KClass}
use Rattle.meanings.specs.declared.kotlin.KFile.{KFile}
use Rattle.meanings.specs.Values.{Name, same_name, Differ, ClassName, Simple}

-- the types of the profile that this form has (Kotlin, "Built-in types")
pub data KType : Type 0 where
  IntType : KType
  StringType : KType
  ClassType : ClassName → KType
  ArrayType : KType → KType
  Nullable : KType → KType

-- `T?` alone holds null (Kotlin, "Nullable types")
abbrev pub is_non_null : KType → Bool
is_non_null (Nullable type) = false
is_non_null IntType = true
is_non_null StringType = true
is_non_null (ClassType class) = true
is_non_null (ArrayType type) = true

-- What is known at a place of a body: the class whose text it is, what `return` takes, if a value, and the declared types of the
-- parameters and of the locals, the newest declaration first. A local may bear a parameter's name (Kotlin, "Scopes and identifiers").
pub record Static : Type 0 where
  pub class : ClassName
  pub result : Option KType
  pub parameters : List (Name × KType)
  pub locals : List (Name × KType)

-- at the start of a body
abbrev pub static_of : ClassName → Option KType → List (Name × KType) → Static
static_of class result parameters = record { class = class; result = result; parameters = parameters; locals = [] }

-- the newest declaration of a name, else of these
abbrev pub declared_in : List (Name × KType) → Option KType → Name → Option KType
declared_in [] other name = other
declared_in (e ∷ rows) other name = if same_name e.0 name then Some e.1 else declared_in rows other name

-- the declared type of a local, else of a parameter
abbrev pub declared : Static → Name → Option KType
declared static name = declared_in static.locals (declared_in static.parameters None name) name

-- the declared type of a local alone
abbrev pub declared_local : Static → Name → Option KType
declared_local static name = declared_in static.locals None name

-- ---- from one place to the next

-- behind the declaration of a local
abbrev pub with_local : Static → Name → KType → Static
with_local static name type = record static { locals = (name, type) ∷ static.locals }

-- behind an expression, which declares nothing in these forms
abbrev pub past : KExpr → Static → Static
past e static = static

-- behind a statement
abbrev pub extended : Static → KStmt → Static
extended static (Val name value) = with_local (past value static) name IntType
extended static (Print value) = past value static

-- at the start of `fun main(p: Array<String>)` of a class of this name, by the name of its parameter
abbrev pub main_static : Name → Name → Static
main_static class parameter = static_of (Simple class) None ((parameter, ArrayType StringType) ∷ [])

-- ---- types

-- `Int` with `Int` gives `Int` under each operator (Kotlin, class Int); another operand has no operator in this form
abbrev pub type_of_binary : Option KType → Option KType → Option KType
type_of_binary (Some IntType) (Some IntType) = Some IntType
type_of_binary _ _ = None

-- of one form at a place, by its parts and their types at theirs: a name has its declared type, a literal is an `Int` (Kotlin,
-- "Integer literals"), a parenthesized expression has the type of what it holds, a right operand stands behind the left one
abbrev pub type_by : KExpr-F (KExpr × (Static → Option KType)) → Static → Option KType
type_by (KExpr-F.Local name) static = declared static name
type_by (KExpr-F.Number n) static = Some IntType
type_by (KExpr-F.Paren inner) static = inner.1 static
type_by (KExpr-F.Binary a operator b) static = type_of_binary (a.1 static) (b.1 (past a.0 static))

-- the type of an expression at a place, where it has one
unfoldable pub type_of : KExpr → Static → Option KType
type_of = para-KExpr (Static → Option KType) type_by

-- ---- typing (own rule: the Kotlin profile's, in this form)

-- `val x: Int = e` declares a local's name once and e is an `Int`; `println(e)` prints an `Int`
abbrev pub IsTyped : Static → List KStmt → Type 0
IsTyped static [] = Unit {0}
IsTyped static (Val name value ∷ more) = (declared_local static name ≡ None) × (type_of value static ≡ Some IntType) × IsTyped (extended static (Val name value)) more
IsTyped static (Print value ∷ more) = (type_of value static ≡ Some IntType) × IsTyped (extended static (Print value)) more

-- each local of a `main`, where there is one, is declared once and before each use, all expressions are `Int`
abbrev pub MainHasTypes : Name → Option KMain → Type 0
MainHasTypes class None = Unit {0}
MainHasTypes class (Some main) = IsTyped (main_static class main.parameter) main.body

-- a class, where there is one, whose `main` is so
abbrev pub ClassHasTypes : Option KClass → Type 0
ClassHasTypes None = Unit {0}
ClassHasTypes (Some class) = MainHasTypes class.name class.main

-- a file whose class is so
abbrev pub FileHasTypes : KFile → Type 0
FileHasTypes file = ClassHasTypes file.class

-- each file is so
abbrev pub AllHaveTypes : List KFile → Type 0
AllHaveTypes [] = Unit {0}
AllHaveTypes (file ∷ files) = FileHasTypes file × AllHaveTypes files

-- the simple names of the classes of files
abbrev pub class_names : List KFile → List Name
class_names files = filter_map (λ file. option_map (λ (class : KClass). class.name) file.class) files

-- The classes of the files are well typed, and no two of them have one simple name (own rule).
pub record KTyped (files : List KFile) : Type 0 where
  pub classes : AllHaveTypes files
  pub names : Differ (class_names files)
