-- Java: what each construct of a typed tree does, and the program of a project.
use Rattle.std.specs.Prelude.{ℕ, true, false, List, [], ◌∷◌, map, filter_map, Option, option_map}
use Rattle.j2k_base.specs.declared.constants.Value.{Value as Constant}
use Rattle.j2k_base.specs.declared.constants.Value.TheVariants as constant
use Rattle.java_typed.specs.declared.exprs.TExpr.{TExpr, fold-TExpr}
use Rattle.java_typed.specs.declared.exprs.TExpr.TheOpen.{TExpr-F}
use Rattle.meanings.specs.Values.{Name, Value, Units, Int, Answer}
use Rattle.meanings.specs.Outcome.{Meaning, pure, torn, ◌>>=◌, local, assign}
use Rattle.meanings.specs.Classes.{plain_classes}
use Rattle.meanings.specs.Taken.{Statement, Declares, Prints, Untaken, MainMethod, MainClass}
use Rattle.meanings.specs.Machine.{Place, print_line, valued, arithmetic, binary, sequence}
use Rattle.meanings.specs.Program.{Program, Body, Start, Turn, thread, plain_callee, main_site, main_entry}

-- what a constant is (JLS 3.10, 15.28)
abbrev pub constant_value : Constant → Value
constant_value (constant.Number c) = valued c
constant_value (constant.Text units) = Units units

-- one form, by what its parts do: a literal (JLS 3.10.1, 15.8.1), a constant expression, which has its value (JLS 15.28), a simple
-- name (JLS 6.5.6.1), a parenthesized expression (JLS 15.8.5), an operator of two ints, the left one first (JLS 15.7.1, 15.17,
-- 15.18). The other forms aren't taken.
abbrev pub java_by : Place → TExpr-F (Meaning Value) → Meaning Value
java_by p (TExpr-F.Literal v at) = pure (constant_value v)
java_by p (TExpr-F.Constant v inner) = pure (constant_value v)
java_by p (TExpr-F.Local name at k) = local name
java_by p (TExpr-F.Paren at inner) = inner
java_by p (TExpr-F.Binary a op at b) = binary (arithmetic op Int Int) a b
java_by p _ = torn

-- an expression
unfoldable pub java_expr : Place → TExpr → Meaning Value
java_expr p = fold-TExpr (Meaning Value) (java_by p)

-- a local with its initializer (JLS 14.4.2); `println` as an expression statement (JLS 14.8)
abbrev pub java_stmt : Place → Statement → Meaning (Unit {0})
java_stmt p (Declares name value) = java_expr p value >>= assign name
java_stmt p (Prints value) = java_expr p value >>= print_line p
java_stmt p Untaken = torn

-- the statements of a block in order (JLS 14.2)
abbrev pub java_stmts : Place → List Statement → List (Meaning (Unit {0}))
java_stmts p body = map (java_stmt p) body

-- `main` of a class of this name (JLS 12.1.4)
abbrev pub java_main : Name → MainMethod → Body
java_main class main = record { site = main_site class; parameters = main.parameter ∷ []; text = λ p. sequence (java_stmts p main.body) }

-- the method of a class, where it has one
abbrev pub java_method : MainClass → Option Body
java_method class = option_map (java_main class.name) class.main

-- the name of a class that has a `main`
abbrev pub entry_class : MainClass → Option Name
entry_class class = option_map (λ main. class.name) class.main

-- The program of a project's classes. They have no static initializers, so they are idle: they are never touched (own rule).
abbrev pub java_program : List MainClass → Program
java_program classes = record {
  methods = filter_map java_method classes;
  constructors = [];
  lambdas = [];
  initializers = [];
  entry = main_entry (filter_map entry_class classes);
  defaults = [];
  is_idle = λ name. true;
  touches = λ own name. false;
  resolves = plain_callee;
  classes = plain_classes;
}

-- what a thread of the Java project does next after these answers, with the bound n
abbrev pub JavaThread : List MainClass → Start → List Answer → ℕ → Turn
JavaThread classes = thread (java_program classes)
