-- Kotlin: what each construct of a tree does at a place with its declared types, and the program of a project.
use Rattle.std.specs.Prelude.{ℕ, pos, true, false, ◌&&◌, List, [], ◌∷◌, filter_map, Option, Some, None, option_map, if◌then◌else◌}
use Rattle.meanings.specs.declared.kotlin.KExpr.{KExpr, para-KExpr}
use Rattle.meanings.specs.declared.kotlin.KExpr.TheOpen.{KExpr-F}
use Rattle.meanings.specs.declared.kotlin.KExpr.TheVariants as ke
use Rattle.meanings.specs.declared.kotlin.KStmt.{KStmt}
use Rattle.meanings.specs.declared.kotlin.KStmt.TheVariants.{Val, Print}
use Rattle.meanings.specs.declared.kotlin.KMain.{KMain}
use Rattle.meanings.specs.declared.kotlin.KClass.{KClass}
use Rattle.meanings.specs.declared.kotlin.KFile.{KFile}
use Rattle.meanings.specs.Values.{Name, Kind, Value, Integer, Int, is_null, Answer}
use Rattle.meanings.specs.Outcome.{Meaning, pure, ◌>>=◌, ◌>>◌, torn, local, assign}
use Rattle.meanings.specs.Classes.{plain_classes}
use Rattle.meanings.specs.Operators.{operation}
use Rattle.meanings.specs.Machine.{Place, print_line, arithmetic, binary}
use Rattle.meanings.specs.Program.{Program, Body, Start, Turn, thread, plain_callee, main_site, main_entry}
use Rattle.meanings.specs.Static.{KType, is_non_null, Static, declared, type_of, past, extended, main_static}

-- A value at a use: null at a place of a non-null type is Torn (own rule). Where no type is known nothing is.
abbrev pub used : Option KType → Value → Meaning Value
used None v = pure v
used (Some type) v = if is_non_null type && is_null v then torn else pure v

-- the class whose operator is meant, by the type of the whole (Kotlin, "Overload resolution"); this form has that of Int alone
abbrev pub operator_kind : Option KType → Kind
operator_kind None = Int
operator_kind (Some type) = Int

-- what a part does at a place of its text, as it runs
abbrev pub Doing : Type 0 → Type 0
Doing A = Static → Place → Meaning A

-- one form, by its parts and what they do: a name, by the type of its declaration, a literal (Kotlin, "Built-in types and their
-- operations"), a parenthesized expression, `plus`, `minus` and `times`, the receiver first (Kotlin, class Int: the low 32 bits)
abbrev pub kotlin_by : KExpr-F (KExpr × Doing Value) → Doing Value
kotlin_by (KExpr-F.Local name) static p = local name >>= used (declared static name)
kotlin_by (KExpr-F.Number n) static p = pure (Integer Int (pos n))
kotlin_by (KExpr-F.Paren inner) static p = inner.1 static p
kotlin_by (KExpr-F.Binary a operator b) static p =
    let kind = operator_kind (type_of (ke.Binary a.0 operator b.0) static) in
    binary (arithmetic (operation operator) kind kind) (a.1 static p) (b.1 (past a.0 static) p)

-- an expression
unfoldable pub kotlin_expr : KExpr → Doing Value
kotlin_expr = para-KExpr (Doing Value) kotlin_by

-- a property declaration (Kotlin, "Local property declaration"); a call of `println`
abbrev pub kotlin_stmt : KStmt → Doing (Unit {0})
kotlin_stmt (Val name value) static p = kotlin_expr value static p >>= assign name
kotlin_stmt (Print value) static p = kotlin_expr value static p >>= print_line p

-- the statements of a block in order, each with the types declared before it
abbrev pub kotlin_stmts : List KStmt → Doing (Unit {0})
kotlin_stmts [] static p = pure tt
kotlin_stmts (statement ∷ more) static p = kotlin_stmt statement static p >> kotlin_stmts more (extended static statement) p

-- `main` of a class of this name, which the companion holds
abbrev pub kotlin_main : Name → KMain → Body
kotlin_main class main = record { site = main_site class; parameters = main.parameter ∷ []; text = kotlin_stmts main.body (main_static class main.parameter) }

-- the method of a class, where it has one
abbrev pub kotlin_method : KClass → Option Body
kotlin_method class = option_map (kotlin_main class.name) class.main

-- the name of a class that has a `main`
abbrev pub entry_class : KClass → Option Name
entry_class class = option_map (λ main. class.name) class.main

-- the classes of a project's files
abbrev pub classes_in : List KFile → List KClass
classes_in files = filter_map (λ file. file.class) files

-- The program of a project's classes. Their companions have no property and no `init`, so the classes are idle (own rule).
abbrev pub kotlin_program : List KClass → Program
kotlin_program classes = record {
  methods = filter_map kotlin_method classes;
  constructors = [];
  lambdas = [];
  initializers = [];
  entry = main_entry (filter_map entry_class classes);
  defaults = [];
  is_idle = λ name. true;
  touches = λ own name. false;
  resolves = plain_callee;
  classes = plain_classes;
}

-- what a thread of the Kotlin project does next after these answers, with the bound n
abbrev pub KotlinThread : List KClass → Start → List Answer → ℕ → Turn
KotlinThread classes = thread (kotlin_program classes)
