-- Worked runs: `int a = 2; int b = a * 3; System.out.println(a + b);`, and of nested expressions.
use Rattle.std.proofs.Common.{◌≡◌, ℕ, pos, List, [], ◌∷◌, ◌++◌, refl, sym, ap, ◌∙◌}
use Rattle.std.proofs.Math.Path.{fun_ext}
use Rattle.std.specs.Prelude.{Some, None, map, codes}
use Rattle.std.specs.Int.{int_wrap}
use Rattle.std.specs.Fmt.{digits, decimal}
use Rattle.java_tree.specs.declared.tokens.Position.{Position}
use Rattle.j2k_base.specs.declared.constants.Const.TheVariants as const
use Rattle.j2k_base.specs.declared.constants.Value.TheVariants as constant
use Rattle.j2k_base.specs.declared.constants.Op2.{Op2}
use Rattle.java_typed.specs.declared.types.TType.{TType}
use Rattle.java_typed.specs.declared.types.TType.TheVariants as kind
use Rattle.java_typed.specs.declared.exprs.TExpr.{TExpr}
use Rattle.java_typed.specs.declared.exprs.TExpr.TheOpen.{TExpr-F}
use Rattle.java_typed.specs.declared.exprs.TExpr.TheVariants as je
use Rattle.j2k_base.specs.declared.constants.Op2.TheVariants.{Add, Sub, Mul}
use Rattle.meanings.specs.declared.kotlin.KExpr.{KExpr}
use Rattle.meanings.specs.declared.kotlin.KExpr.TheOpen.{KExpr-F}
use Rattle.meanings.specs.declared.kotlin.KExpr.TheVariants as ke
use Rattle.meanings.specs.Taken.{operator_of, Statement, Declares, Prints, MainMethod, MainClass}
use Rattle.meanings.specs.Convert.{expression_of, statement_of, class_of, classes_of}
use Rattle.meanings.specs.KText.{is_bare, name_text, operator_text, expression_text, KText}
use Rattle.meanings.specs.Operators.{operation}
use Rattle.kotlin_words.specs.Words.{hard_keywords}
use Rattle.meanings.specs.Values.{Name, Kind, Value, Null, Integer, Units, Int, Print, End, Result, Done}
use Rattle.meanings.specs.Outcome.{Meaning, pure, ◌>>=◌, ◌>>◌, local, assign}
use Rattle.meanings.specs.Machine.{Place, print_line, arithmetic, binary, sequence}
use Rattle.meanings.specs.Program.{Body, main_site}
use Rattle.meanings.specs.Static.{Static, IntType, declared, type_of, main_static}
use Rattle.meanings.specs.Java.{java_expr, java_stmts, java_main, java_program}
use Rattle.meanings.specs.Kotlin.{used, Doing, kotlin_expr, kotlin_stmts, kotlin_program}
use Rattle.meanings.specs.Runs.{Item, Stepped, WasBusy, HadEnded, Missing}
use Rattle.meanings.specs.Entries.{Strings, Entry, Input, run_of}
use Rattle.meanings.specs.declared.kotlin.KFile.{KFile}
use Rattle.meanings.proofs.Layers.{java_at, kotlin_at, convert_at, text_at}
use Rattle.meanings.proofs.SameText.{operator_is_int}

-- ---- trees

abbrev here : Position
here = record { offset = 0; line = 1; column = 1 }

abbrev int : TType
int = kind.Number Int

abbrev j_local : Name → TExpr
j_local name = je.Local name here int

abbrev j_number : ℕ → TExpr
j_number n = je.Literal (constant.Number (const.Int (pos n))) here

abbrev j_paren : TExpr → TExpr
j_paren e = je.Paren here e

abbrev j_binary : TExpr → Op2 → TExpr → TExpr
j_binary a o b = je.Binary a o here b

-- ---- what each form does

abbrev f_number : ℕ → TExpr-F TExpr
f_number n = TExpr-F.Literal (constant.Number (const.Int (pos n))) here

module _ (p : Place) where
  java_local : (name : Name) → java_expr p (j_local name) ≡ local name
  java_local name = ap (java_expr p) (sym (je.rolls-Local name here int)) ∙ java_at p (TExpr-F.Local name here int)

  java_number : (n : ℕ) → java_expr p (j_number n) ≡ pure (Integer Int (pos n))
  java_number n = ap (java_expr p) (sym (je.rolls-Literal (constant.Number (const.Int (pos n))) here)) ∙ java_at p (f_number n)

  java_paren : (e : TExpr) → java_expr p (j_paren e) ≡ java_expr p e
  java_paren e = ap (java_expr p) (sym (je.rolls-Paren here e)) ∙ java_at p (TExpr-F.Paren here e)

  java_binary : (a b : TExpr) (o : Op2) → java_expr p (j_binary a o b) ≡ binary (arithmetic o Int Int) (java_expr p a) (java_expr p b)
  java_binary a b o = ap (java_expr p) (sym (je.rolls-Binary a o here b)) ∙ java_at p (TExpr-F.Binary a o here b)

module _ (p : Place) (static : Static) where
  -- the Kotlin of a Java expression
  abbrev does : TExpr → Meaning Value
  does e = kotlin_expr (expression_of e) static p

  kotlin_local : (name : Name) → does (j_local name) ≡ (local name >>= used (declared static name))
  kotlin_local name = ap does (sym (je.rolls-Local name here int)) ∙ ap (λ (k : KExpr). kotlin_expr k static p) (convert_at (TExpr-F.Local name here int)) ∙ ap (λ (d : Doing Value). d static p) (kotlin_at (KExpr-F.Local name))

  kotlin_number : (n : ℕ) → does (j_number n) ≡ pure (Integer Int (pos n))
  kotlin_number n = ap does (sym (je.rolls-Literal (constant.Number (const.Int (pos n))) here)) ∙ ap (λ (k : KExpr). kotlin_expr k static p) (convert_at (f_number n)) ∙ ap (λ (d : Doing Value). d static p) (kotlin_at (KExpr-F.Number n))

  kotlin_paren : (e : TExpr) → does (j_paren e) ≡ does e
  kotlin_paren e = ap does (sym (je.rolls-Paren here e)) ∙ ap (λ (k : KExpr). kotlin_expr k static p) (convert_at (TExpr-F.Paren here e)) ∙ ap (λ (d : Doing Value). d static p) (kotlin_at (KExpr-F.Paren (expression_of e)))

  kotlin_binary : (a b : TExpr) (o : Op2) → does (j_binary a o b) ≡ binary (arithmetic (operation (operator_of o)) Int Int) (does a) (does b)
  kotlin_binary a b o =
      ap does (sym (je.rolls-Binary a o here b)) ∙ ap (λ (k : KExpr). kotlin_expr k static p) (convert_at (TExpr-F.Binary a o here b))
      ∙ ap (λ (d : Doing Value). d static p) (kotlin_at (KExpr-F.Binary (expression_of a) (operator_of o) (expression_of b)))
      ∙ ap (λ (kind : Kind). binary (arithmetic (operation (operator_of o)) kind kind) (does a) (does b)) (operator_is_int (type_of (ke.Binary (expression_of a) (operator_of o) (expression_of b)) static))

-- ---- programs of one class, by what its `main` does

abbrev a : Name
a = codes "a"

abbrev b : Name
b = codes "b"

abbrev args : Name
args = codes "args"

abbrev main_of : Name → Name → (Place → Meaning (Unit {0})) → Body
main_of class parameter text = record { site = main_site class; parameters = parameter ∷ []; text = text }

abbrev entry : Entry
entry = record { class = codes "Main"; method = codes "main"; takes = Strings }

abbrev input : Input
input = record { arguments = Units (codes "x") ∷ []; bytes = [] }

-- a class with a `main`
abbrev class_with : Name → Name → List Statement → MainClass
class_with class parameter body = record { name = class; main = Some (record { parameter = parameter; body = body }) }

abbrev main_class : List Statement → MainClass
main_class body = class_with (codes "Main") args body

abbrev JavaRun : List MainClass → Entry → Input → List ℕ → ℕ → List Item
JavaRun classes = run_of (java_program classes)

abbrev KotlinRun : List MainClass → Entry → Input → List ℕ → ℕ → List Item
KotlinRun classes = run_of (kotlin_program (classes_of classes))

abbrev run_text : List ℕ → ℕ → (Place → Meaning (Unit {0})) → List Item
run_text schedule n text = run_of (record (java_program (main_class [] ∷ [])) { methods = main_of (codes "Main") args text ∷ [] }) entry input schedule n

-- what is declared at the start
abbrev static_main : Static
static_main = main_static (codes "Main") args

-- ---- a sum

abbrev java_body : List Statement
java_body =
    Declares a (j_number 2) ∷
    Declares b (j_binary (j_local a) Mul (j_number 3)) ∷
    Prints (j_binary (j_local a) Add (j_local b)) ∷ []

abbrev java : MainClass
java = main_class java_body

abbrev java_does : Place → Meaning (Unit {0})
java_does p = sequence (
    (pure (Integer Int (pos 2)) >>= assign a) ∷
    (binary (arithmetic Mul Int Int) (local a) (pure (Integer Int (pos 3))) >>= assign b) ∷
    (binary (arithmetic Add Int Int) (local a) (local b) >>= print_line p) ∷ [])

java_is : (p : Place) → sequence (java_stmts p java_body) ≡ java_does p
java_is p = rw (java_binary p (j_local a) (j_number 3) Mul, java_binary p (j_local a) (j_local b) Add, java_number p 2, java_number p 3, java_local p a, java_local p b) refl

-- the steps are Print of 8 and End
java_run : JavaRun (java ∷ []) entry input (0 ∷ 0 ∷ 0 ∷ []) 1 ≡ Stepped 0 (Print (codes "8\n")) Done ∷ Stepped 0 (End (Result Null)) Done ∷ HadEnded 0 ∷ []
unfolding int_wrap digits
java_run = ap (run_text (0 ∷ 0 ∷ 0 ∷ []) 1) (fun_ext java_is)

-- another schedule names a thread that there isn't: the steps are the same
java_other_schedule : JavaRun (java ∷ []) entry input (1 ∷ 0 ∷ 2 ∷ 0 ∷ []) 5 ≡ Missing 1 ∷ Stepped 0 (Print (codes "8\n")) Done ∷ Missing 2 ∷ Stepped 0 (End (Result Null)) Done ∷ []
unfolding int_wrap digits
java_other_schedule = ap (run_text (1 ∷ 0 ∷ 2 ∷ 0 ∷ []) 5) (fun_ext java_is)

-- a use of a local that is an `Int`
abbrev int_local : Name → Meaning Value
int_local name = local name >>= used (Some IntType)

abbrev kotlin_does : Place → Meaning (Unit {0})
kotlin_does p =
    (pure (Integer Int (pos 2)) >>= assign a)
    >> ((binary (arithmetic Mul Int Int) (int_local a) (pure (Integer Int (pos 3))) >>= assign b) >> ((binary (arithmetic Add Int Int) (int_local a) (int_local b) >>= print_line p) >> pure tt))

-- what is declared after `a`, and after `b`
abbrev static_a : Static
static_a = record static_main { locals = (a, IntType) ∷ static_main.locals }

abbrev static_b : Static
static_b = record static_main { locals = (b, IntType) ∷ (a, IntType) ∷ static_main.locals }

kotlin_is : (p : Place) → kotlin_stmts (map statement_of java_body) static_main p ≡ kotlin_does p
kotlin_is p =
    rw (
      kotlin_number p static_main 2,
      kotlin_binary p static_a (j_local a) (j_number 3) Mul,
      kotlin_local p static_a a,
      kotlin_number p static_a 3,
      kotlin_binary p static_b (j_local a) (j_local b) Add,
      kotlin_local p static_b a,
      kotlin_local p static_b b,
    ) refl

kotlin_run : KotlinRun (java ∷ []) entry input (0 ∷ 0 ∷ 0 ∷ []) 1 ≡ Stepped 0 (Print (codes "8\n")) Done ∷ Stepped 0 (End (Result Null)) Done ∷ HadEnded 0 ∷ []
unfolding int_wrap digits
kotlin_run = ap (run_text (0 ∷ 0 ∷ 0 ∷ []) 1) (fun_ext kotlin_is)

-- with n = 0 no body is entered: the thread is Busy at every turn
java_no_bound : JavaRun (java ∷ []) entry input (0 ∷ 0 ∷ []) 0 ≡ WasBusy 0 ∷ WasBusy 0 ∷ []
java_no_bound = refl

kotlin_no_bound : KotlinRun (java ∷ []) entry input (0 ∷ 0 ∷ []) 0 ≡ WasBusy 0 ∷ WasBusy 0 ∷ []
kotlin_no_bound = refl

-- ---- nested expressions: `int a = 2; System.out.println((a + 2) * 7 - a); System.out.println(a - (7 - a));`

abbrev first : TExpr
first = j_binary (j_binary (j_paren (j_binary (j_local a) Add (j_number 2))) Mul (j_number 7)) Sub (j_local a)

abbrev second : TExpr
second = j_binary (j_local a) Sub (j_paren (j_binary (j_number 7) Sub (j_local a)))

abbrev nested_body : List Statement
nested_body = Declares a (j_number 2) ∷ Prints first ∷ Prints second ∷ []

abbrev nested : MainClass
nested = main_class nested_body

-- what each does, by what the name does
abbrev first_does : Meaning Value → Meaning Value
first_does x = binary (arithmetic Sub Int Int) (binary (arithmetic Mul Int Int) (binary (arithmetic Add Int Int) x (pure (Integer Int (pos 2)))) (pure (Integer Int (pos 7)))) x

abbrev second_does : Meaning Value → Meaning Value
second_does x = binary (arithmetic Sub Int Int) x (binary (arithmetic Sub Int Int) (pure (Integer Int (pos 7))) x)

java_first : (p : Place) → java_expr p first ≡ first_does (local a)
java_first p =
    rw (
      java_binary p (j_binary (j_paren (j_binary (j_local a) Add (j_number 2))) Mul (j_number 7)) (j_local a) Sub,
      java_binary p (j_paren (j_binary (j_local a) Add (j_number 2))) (j_number 7) Mul,
      java_paren p (j_binary (j_local a) Add (j_number 2)),
      java_binary p (j_local a) (j_number 2) Add,
      java_local p a,
      java_number p 2,
      java_number p 7,
    ) refl

java_second_is : (p : Place) → java_expr p second ≡ second_does (local a)
java_second_is p =
    rw (
      java_binary p (j_local a) (j_paren (j_binary (j_number 7) Sub (j_local a))) Sub,
      java_paren p (j_binary (j_number 7) Sub (j_local a)),
      java_binary p (j_number 7) (j_local a) Sub,
      java_local p a,
      java_number p 7,
    ) refl

kotlin_first : (p : Place) → kotlin_expr (expression_of first) static_a p ≡ first_does (int_local a)
kotlin_first p =
    rw (
      kotlin_binary p static_a (j_binary (j_paren (j_binary (j_local a) Add (j_number 2))) Mul (j_number 7)) (j_local a) Sub,
      kotlin_binary p static_a (j_paren (j_binary (j_local a) Add (j_number 2))) (j_number 7) Mul,
      kotlin_paren p static_a (j_binary (j_local a) Add (j_number 2)),
      kotlin_binary p static_a (j_local a) (j_number 2) Add,
      kotlin_local p static_a a,
      kotlin_number p static_a 2,
      kotlin_number p static_a 7,
    ) refl

kotlin_second : (p : Place) → kotlin_expr (expression_of second) static_a p ≡ second_does (int_local a)
kotlin_second p =
    rw (
      kotlin_binary p static_a (j_local a) (j_paren (j_binary (j_number 7) Sub (j_local a))) Sub,
      kotlin_paren p static_a (j_binary (j_number 7) Sub (j_local a)),
      kotlin_binary p static_a (j_number 7) (j_local a) Sub,
      kotlin_local p static_a a,
      kotlin_number p static_a 7,
    ) refl

java_nested_is : (p : Place) → sequence (java_stmts p nested_body) ≡ sequence ((pure (Integer Int (pos 2)) >>= assign a) ∷ (first_does (local a) >>= print_line p) ∷ (second_does (local a) >>= print_line p) ∷ [])
java_nested_is p = rw (java_number p 2, java_first p, java_second_is p) refl

kotlin_nested_is : (p : Place) → kotlin_stmts (map statement_of nested_body) static_main p ≡
    ((pure (Integer Int (pos 2)) >>= assign a) >> ((first_does (int_local a) >>= print_line p) >> ((second_does (int_local a) >>= print_line p) >> pure tt)))
kotlin_nested_is p = rw (kotlin_number p static_main 2, kotlin_first p, kotlin_second p) refl

java_nested : JavaRun (nested ∷ []) entry input (0 ∷ 0 ∷ 0 ∷ []) 1 ≡ Stepped 0 (Print (codes "26\n")) Done ∷ Stepped 0 (Print (codes "-3\n")) Done ∷ Stepped 0 (End (Result Null)) Done ∷ []
unfolding int_wrap digits
java_nested = ap (run_text (0 ∷ 0 ∷ 0 ∷ []) 1) (fun_ext java_nested_is)

kotlin_nested : KotlinRun (nested ∷ []) entry input (0 ∷ 0 ∷ 0 ∷ []) 1 ≡ Stepped 0 (Print (codes "26\n")) Done ∷ Stepped 0 (Print (codes "-3\n")) Done ∷ Stepped 0 (End (Result Null)) Done ∷ []
unfolding int_wrap digits
kotlin_nested = ap (run_text (0 ∷ 0 ∷ 0 ∷ []) 1) (fun_ext kotlin_nested_is)

-- the text of the Kotlin of each form
abbrev text_of : TExpr → List ℕ
text_of e = expression_text (expression_of e)

text_local : (name : Name) → text_of (j_local name) ≡ name_text name
text_local name = ap text_of (sym (je.rolls-Local name here int)) ∙ ap expression_text (convert_at (TExpr-F.Local name here int)) ∙ text_at (KExpr-F.Local name)

text_number : (n : ℕ) → text_of (j_number n) ≡ decimal n
text_number n = ap text_of (sym (je.rolls-Literal (constant.Number (const.Int (pos n))) here)) ∙ ap expression_text (convert_at (f_number n)) ∙ text_at (KExpr-F.Number n)

text_paren : (e : TExpr) → text_of (j_paren e) ≡ codes "(" ++ text_of e ++ codes ")"
text_paren e = ap text_of (sym (je.rolls-Paren here e)) ∙ ap expression_text (convert_at (TExpr-F.Paren here e)) ∙ text_at (KExpr-F.Paren (expression_of e))

text_binary : (a b : TExpr) (o : Op2) → text_of (j_binary a o b) ≡ text_of a ++ operator_text (operator_of o) ++ text_of b
text_binary a b o =
    ap text_of (sym (je.rolls-Binary a o here b)) ∙ ap expression_text (convert_at (TExpr-F.Binary a o here b)) ∙ text_at (KExpr-F.Binary (expression_of a) (operator_of o) (expression_of b))

-- parentheses are kept
first_text : text_of first ≡ codes "(a + 2) * 7 - a"
unfolding digits name_text is_bare hard_keywords
first_text =
    rw (
      text_binary (j_binary (j_paren (j_binary (j_local a) Add (j_number 2))) Mul (j_number 7)) (j_local a) Sub,
      text_binary (j_paren (j_binary (j_local a) Add (j_number 2))) (j_number 7) Mul,
      text_paren (j_binary (j_local a) Add (j_number 2)),
      text_binary (j_local a) (j_number 2) Add,
      text_local a,
      text_number 2,
      text_number 7,
    ) refl

second_text : text_of second ≡ codes "a - (7 - a)"
unfolding digits name_text is_bare hard_keywords
second_text =
    rw (
      text_binary (j_local a) (j_paren (j_binary (j_number 7) Sub (j_local a))) Sub,
      text_paren (j_binary (j_number 7) Sub (j_local a)),
      text_binary (j_number 7) (j_local a) Sub,
      text_local a,
      text_number 7,
    ) refl

-- ---- a product wraps to 32 bits: 65536 * 65536 is 0, and 2147483647 * 2 is -2

abbrev wrapping_body : List Statement
wrapping_body =
    Prints (j_binary (j_number 65536) Mul (j_number 65536)) ∷
    Prints (j_binary (j_number 2147483647) Mul (j_number 2)) ∷ []

abbrev wrapping : MainClass
wrapping = main_class wrapping_body

abbrev product : ℕ → ℕ → Meaning Value
product m n = binary (arithmetic Mul Int Int) (pure (Integer Int (pos m))) (pure (Integer Int (pos n)))

wrapping_is : (p : Place) → sequence (java_stmts p wrapping_body) ≡ sequence ((product 65536 65536 >>= print_line p) ∷ (product 2147483647 2 >>= print_line p) ∷ [])
wrapping_is p =
    rw (java_binary p (j_number 65536) (j_number 65536) Mul, java_binary p (j_number 2147483647) (j_number 2) Mul, java_number p 65536, java_number p 2147483647, java_number p 2) refl

java_wraps : JavaRun (wrapping ∷ []) entry input (0 ∷ 0 ∷ []) 1 ≡ Stepped 0 (Print (codes "0\n")) Done ∷ Stepped 0 (Print (codes "-2\n")) Done ∷ []
unfolding int_wrap digits
java_wraps = ap (run_text (0 ∷ 0 ∷ []) 1) (fun_ext wrapping_is)

-- ---- in a project of several files the entry point of a later class enters its own text

abbrev other_body : List Statement
other_body = Prints (j_number 7) ∷ []

abbrev other : MainClass
other = class_with (codes "B") (codes "x") other_body

-- a class without `main`
abbrev plain : MainClass
plain = record { name = codes "C"; main = None }

-- the Kotlin of a class, and of no class, in a package
abbrev file_in : List Name → MainClass → KFile
file_in names class = record { «package» = names; class = Some (class_of class) }

abbrev no_class : List Name → KFile
no_class names = record { «package» = names; class = None }

abbrev files : List MainClass
files = wrapping ∷ plain ∷ other ∷ []

abbrev entry_of : Name → Entry
entry_of class = record { class = class; method = codes "main"; takes = Strings }

other_is : (p : Place) → sequence (java_stmts p other_body) ≡ sequence ((pure (Integer Int (pos 7)) >>= print_line p) ∷ [])
other_is p = rw (java_number p 7) refl

abbrev wraps : MainMethod
wraps = record { parameter = args; body = wrapping_body }

java_later : JavaRun files (entry_of (codes "B")) input (0 ∷ 0 ∷ []) 1 ≡ Stepped 0 (Print (codes "7\n")) Done ∷ Stepped 0 (End (Result Null)) Done ∷ []
unfolding int_wrap digits
java_later =
    ap (λ (text : Place → Meaning (Unit {0})). run_of (record (java_program files) { methods = java_main (codes "Main") wraps ∷ main_of (codes "B") (codes "x") text ∷ [] }) (entry_of (codes "B")) input (0 ∷ 0 ∷ []) 1)
    (fun_ext other_is)

-- a class without `main` is no entry point
java_no_main : JavaRun files (entry_of (codes "C")) input (0 ∷ []) 1 ≡ Missing 0 ∷ []
java_no_main = refl

kotlin_no_main : KotlinRun files (entry_of (codes "C")) input (0 ∷ []) 1 ≡ Missing 0 ∷ []
kotlin_no_main = refl

-- which names stand in backticks: a hard keyword, one past ASCII, and one of `_` alone
keyword_text : name_text (codes "when") ≡ codes "`when`"
unfolding name_text is_bare hard_keywords
keyword_text = refl

past_ascii_text : name_text (195 ∷ 169 ∷ []) ≡ 96 ∷ 195 ∷ 169 ∷ 96 ∷ []
unfolding name_text is_bare hard_keywords
past_ascii_text = refl

underscores_text : name_text (codes "__") ≡ codes "`__`"
unfolding name_text is_bare hard_keywords
underscores_text = refl

bare_text : name_text (codes "_my1") ≡ codes "_my1"
unfolding name_text is_bare hard_keywords
bare_text = refl

-- the texts of these files: the package and the name of the parameter are kept
other_text : KText (file_in (a ∷ b ∷ []) other) ≡ codes "package a.b\n\nclass B {\n    companion object {\n        @JvmStatic fun main(x: Array<String>) {\n            println(7)\n        }\n    }\n}\n"
unfolding KText digits name_text is_bare hard_keywords
other_text = rw (text_number 7) refl

plain_text : KText (file_in [] plain) ≡ codes "class C {\n}\n"
unfolding KText name_text is_bare hard_keywords
plain_text = refl

no_class_text : KText (no_class (a ∷ b ∷ [])) ≡ codes "package a.b\n"
unfolding KText name_text is_bare hard_keywords
no_class_text = refl

nothing_text : KText (no_class []) ≡ []
unfolding KText
nothing_text = refl
