-- What statements do (Kotlin, "Statements"), and the fold over all code.
use Rattle.std.specs.Prelude.{Bool, true, false, List, [], ◌∷◌, ◌++◌, codes, Option, Some, None, if◌then◌else◌}
use Rattle.std.specs.Str.{bytes_eq}
use Rattle.kotlin_tree.specs.declared.places.Position.{Position}
use Rattle.kotlin_tree.specs.declared.types.KName.{KName}
use Rattle.kotlin_tree.specs.declared.types.KType.{KType, out-KType}
use Rattle.kotlin_tree.specs.declared.types.KType.TheOpen.{KType-F}
use Rattle.kotlin_tree.specs.declared.statements.KVariability.{KVariability}
use Rattle.kotlin_tree.specs.declared.statements.KVariability.TheVariants as word
use Rattle.kotlin_tree.specs.declared.statements.KDeclared.{KDeclared}
use Rattle.kotlin_tree.specs.declared.statements.KLabel.{KLabel}
use Rattle.kotlin_tree.specs.declared.statements.KTarget.{KTarget}
use Rattle.kotlin_tree.specs.declared.expressions.KExpr.TheOpen.{KExpr-F, KStmt-F, KChoice-F, KBranch-F, KCatch-F}
use Rattle.flow.specs.Acts as a
use Rattle.flow.specs.Acts.{Skip, Does, Asks, Jumps, Throws, Then, If, Forever, Block, Try, Finally, Later, Choose}
use Rattle.flow.specs.Analyses.{Assigns}
use Rattle.kotlin_flow.specs.Variables.{Target, Behind, BehindLabel, Next, NextLabel, Out, OutOf, Unlocked, KotlinAct, KotlinTest, Names, Declaration, Blank, entered, next, reached}
use Rattle.kotlin_flow.specs.Expressions.{Said, Other, Choice, done, all, just, tested, among, blanks_of, nothing, no_variable, no_blanks, assign, name_by, this_by, field_by, paren_by, element_by, literal_test, binary_test, prefix_by, postfix_by, fits, chosen, choices_blanks}

-- What a statement does where some locals are in scope; its first token; what it declares, which is in scope behind it to the end of
-- the block; and the locals without a value that are declared in it and whose blocks end in it.
pub record Line : Type 0 where
  pub first : Position
  pub declares : Option Declaration
  pub does : Names → KotlinAct
  pub blanks : Names → List Blank

-- an alternative of a `when` that stands as a statement
pub record Branch : Type 0 where
  pub labels : List Said
  pub does : Names → KotlinAct
  pub blanks : Names → List Blank

pub record Catch : Type 0 where
  pub does : Names → KotlinAct
  pub blanks : Names → List Blank

-- ---- blocks

abbrev pub behind : Option Declaration → Names → Names
behind None names = names
behind (Some d) names = d.name ∷ names

-- one after another
abbrev pub block : List Line → Names → KotlinAct
block [] names = Skip
block (x ∷ more) names = Then (x.does names) (block more (behind x.declares names))

-- what a declaration without a value begins, and what is done in its scope
abbrev pub begun : Option Declaration → List Line → Names → List Blank
begun None more names = []
begun (Some d) more names = if d.has_value then [] else record { declared = d; variable = next names; does = block more (d.name ∷ names) } ∷ []

abbrev pub block_blanks : List Line → Names → List Blank
block_blanks [] names = []
block_blanks (x ∷ more) names = x.blanks names ++ (begun x.declares more names ++ block_blanks more (behind x.declares names))

-- the local that is declared next has its value
abbrev pub given : Position → Names → KotlinAct
given at names = Does (Assigns (next names) at)

-- parameters have their values
abbrev pub all_given : List KName → Names → KotlinAct
all_given [] names = Skip
all_given (x ∷ more) names = Then (given x.at names) (all_given more (x.name ∷ names))

abbrev pub body : List KName → List Line → Names → KotlinAct
body params xs names = Then (all_given params names) (block xs (entered params names))

-- ---- declarations and jumps

abbrev pub is_val : KVariability → Bool
is_val word.Val = true
is_val word.Var = false

abbrev pub declaration : KDeclared → Bool → Declaration
declaration x has_value = record { name = x.name.name; at = x.name.at; is_val = is_val x.word; has_value = has_value }

abbrev pub break_by : Option KTarget → Target
break_by None = Behind
break_by (Some x) = BehindLabel x.name.name

abbrev pub continue_by : Option KTarget → Target
continue_by None = Next
continue_by (Some x) = NextLabel x.name.name

-- `return@synchronized` leaves the innermost `synchronized` block, `return@F` the lambda of F (own rule)
abbrev pub return_by : Option KTarget → Target
return_by None = Out
return_by (Some x) = if bytes_eq x.name.name (codes "synchronized") then Unlocked else OutOf x.name.name

-- ---- loops

abbrev pub labeled : Option KLabel → KotlinAct → KotlinAct
labeled None x = x
labeled (Some l) x = Block (BehindLabel l.name.name) x

-- a round of a loop, which `continue` ends, also by the loop's label
abbrev pub round : Option KLabel → KotlinAct → KotlinAct
round None x = Block Next x
round (Some l) x = Block (NextLabel l.name.name) (Block Next x)

-- the test before each round; `break` goes behind the loop
abbrev pub looped : KotlinTest → KotlinAct → KotlinAct
looped c x = Block Behind (Forever (If true c x (Jumps Behind)))

-- the test behind each round
abbrev pub looped_do : KotlinAct → KotlinTest → KotlinAct
looped_do x c = Block Behind (Forever (Then x (If true c Skip (Jumps Behind))))

-- of whether there is one more value nothing is known
abbrev pub more_values : KotlinTest
more_values = a.Value Skip

-- a loop over values, with its variable
abbrev pub walked : Option KLabel → KName → List Line → Names → KotlinAct
walked label x xs names = labeled label (looped more_values (Then (given x.at names) (round label (block xs (x.name ∷ names)))))

abbrev pub loop_first : Option KLabel → Position → Position
loop_first None at = at
loop_first (Some l) at = l.name.at

-- ---- `when`, `try`

-- the alternatives in their order; one is always taken, since `else` stands last
abbrev pub taken : List Branch → KotlinAct → Names → KotlinAct
taken [] other names = other
taken (x ∷ more) other names = If false (fits x.labels names) (x.does names) (taken more other names)

abbrev pub branches_blanks : List Branch → Names → List Blank
branches_blanks [] names = []
branches_blanks (x ∷ more) names = blanks_of x.labels names ++ (x.blanks names ++ branches_blanks more names)

-- one of the catches
abbrev pub one_of : Catch → List Catch → Names → KotlinAct
one_of x [] names = x.does names
one_of x (y ∷ more) names = If false more_values (x.does names) (one_of y more names)

abbrev pub tried : KotlinAct → List Catch → Names → KotlinAct
tried x [] names = x
tried x (y ∷ more) names = Try x (one_of y more names)

abbrev pub catches_blanks : List Catch → Names → List Blank
catches_blanks [] names = []
catches_blanks (x ∷ more) names = x.blanks names ++ catches_blanks more names

-- the first token of a type
abbrev pub type_first : KType-F KType → Position
type_first (KType-F.Plain x question variable) = x.first.at
type_first (KType-F.Applied x angles arguments commas question) = x.first.at

-- ---- all expressions

abbrev pub said_by : KExpr-F Said Line Choice Branch Catch → Said
said_by (KExpr-F.Literal x at) = tested at (λ names. literal_test x)
said_by (KExpr-F.Name x) = name_by x
said_by (KExpr-F.This at) = this_by at
said_by (KExpr-F.Paren round inner) = paren_by round.opens inner
said_by (KExpr-F.Call x types round arguments commas) = among arguments (just x.at (all arguments))
said_by (KExpr-F.SuperCall at x round arguments commas) = among arguments (just at.word (all arguments))
said_by (KExpr-F.Field object dot x) = field_by object x
said_by (KExpr-F.Method object dot x types round arguments commas) = among (object ∷ arguments) (just object.first (all (object ∷ arguments)))
said_by (KExpr-F.Element array square index) = element_by array index
said_by (KExpr-F.Postfix operand o at) = postfix_by o operand
said_by (KExpr-F.Prefix o at operand) = prefix_by o at operand
said_by (KExpr-F.As value at kind) = among (value ∷ []) (just value.first (done value))
said_by (KExpr-F.Is value at kind) = among (value ∷ []) (just value.first (done value))
said_by (KExpr-F.Binary left o at right) = among (left ∷ right ∷ []) (tested left.first (λ names. binary_test o (left.test names) (right.test names)))
said_by (KExpr-F.IfValue at condition value else_at other) =
    among (condition ∷ value ∷ other ∷ []) (tested at.word (λ names. Choose (condition.test names) (value.test names) (other.test names)))
said_by (KExpr-F.WhenValue at subject curly choices else_at other) = record {
  first = at.word;
  object = Other;
  test = λ names. a.Value (Then (done subject names) (Asks (chosen choices other names)));
  before = nothing;
  variable = no_variable;
  blanks = λ names. blanks_of (subject ∷ []) names ++ (choices_blanks choices names ++ blanks_of (other ∷ []) names);
}
-- a lambda runs later, any number of times
said_by (KExpr-F.Lambda face curly params statements) = record {
  first = type_first (out-KType face);
  object = Other;
  test = λ names. a.Value (Later (body params.items statements names));
  before = nothing;
  variable = no_variable;
  blanks = λ names. block_blanks statements (entered params.items names);
}
-- `run` runs in its place, and of its value nothing is known (own rule)
said_by (KExpr-F.Run at curly statements) = record {
  first = at;
  object = Other;
  test = λ names. a.Value (block statements names);
  before = nothing;
  variable = no_variable;
  blanks = block_blanks statements;
}
said_by (KExpr-F.Class x at) = just x.first.at nothing

abbrev pub choice_by : KChoice-F Said Line Choice Branch Catch → Choice
choice_by x = record { labels = x.labels; value = x.value }

-- ---- all statements

abbrev pub branch_by : KBranch-F Said Line Choice Branch Catch → Branch
branch_by x = record { labels = x.labels; does = block x.statements; blanks = block_blanks x.statements }

abbrev pub catch_by : KCatch-F Said Line Choice Branch Catch → Catch
catch_by x = record {
  does = λ names. Then (given x.name.at names) (block x.statements (x.name.name ∷ names));
  blanks = λ names. block_blanks x.statements (x.name.name ∷ names);
}

-- one that declares nothing, behind its first token
abbrev pub plain : Position → (Names → KotlinAct) → (Names → List Blank) → Line
plain first does blanks = record { first = first; declares = None; does = λ names. Then (reached first) (does names); blanks = blanks }

abbrev pub declared : Position → Declaration → (Names → KotlinAct) → (Names → List Blank) → Line
declared first d does blanks = record { first = first; declares = Some d; does = λ names. Then (reached first) (does names); blanks = blanks }

abbrev pub line_by : KStmt-F Said Line Choice Branch Catch → Line
line_by (KStmt-F.Commented comments statement) = statement
line_by (KStmt-F.Declared x) = declared x.at (declaration x false) nothing no_blanks
line_by (KStmt-F.Local x at value) = declared x.at (declaration x true) (λ names. Then (done value names) (given x.name.at names)) value.blanks
line_by (KStmt-F.Expression x) = plain x.first (done x) x.blanks
line_by (KStmt-F.Assign target at value) =
    plain target.first (λ names. Then (target.before names) (Then (done value names) (assign (target.variable names) target.first))) (blanks_of (target ∷ value ∷ []))
line_by (KStmt-F.While label at condition curly statements) =
    plain (loop_first label at.word) (λ names. labeled label (looped (condition.test names) (round label (block statements names))))
    (λ names. condition.blanks names ++ block_blanks statements names)
line_by (KStmt-F.DoWhile label do_at curly statements at condition) =
    plain (loop_first label do_at) (λ names. labeled label (looped_do (round label (block statements names)) (condition.test names)))
    (λ names. block_blanks statements names ++ condition.blanks names)
line_by (KStmt-F.For label at x in_at values curly statements) =
    plain (loop_first label at.word) (λ names. Then (done values names) (walked label x statements names))
    (λ names. values.blanks names ++ block_blanks statements (x.name ∷ names))
line_by (KStmt-F.ForRange label at x in_at start until_at end curly statements) =
    plain (loop_first label at.word) (λ names. Then (done start names) (Then (done end names) (walked label x statements names)))
    (λ names. blanks_of (start ∷ end ∷ []) names ++ block_blanks statements (x.name ∷ names))
line_by (KStmt-F.If at condition curly statements) =
    plain at.word (λ names. If false (condition.test names) (block statements names) Skip)
    (λ names. condition.blanks names ++ block_blanks statements names)
line_by (KStmt-F.IfElse at condition curly statements else_at other_curly others) =
    plain at.word (λ names. If false (condition.test names) (block statements names) (block others names))
    (λ names. condition.blanks names ++ (block_blanks statements names ++ block_blanks others names))
line_by (KStmt-F.IfElseIf at condition curly statements else_at other) =
    plain at.word (λ names. If false (condition.test names) (block statements names) (other.does names))
    (λ names. condition.blanks names ++ (block_blanks statements names ++ other.blanks names))
line_by (KStmt-F.When at subject curly branches else_at other_curly others) =
    plain at.word (λ names. Then (done subject names) (taken branches (block others names) names))
    (λ names. subject.blanks names ++ (branches_blanks branches names ++ block_blanks others names))
line_by (KStmt-F.Break at target) = plain at (λ names. Jumps (break_by target)) no_blanks
line_by (KStmt-F.Continue at target) = plain at (λ names. Jumps (continue_by target)) no_blanks
line_by (KStmt-F.Return at target) = plain at (λ names. Jumps (return_by target)) no_blanks
line_by (KStmt-F.Give at target value) = plain at (λ names. Then (done value names) (Jumps (return_by target))) value.blanks
line_by (KStmt-F.Throw at value) = plain at (λ names. Then (done value names) Throws) value.blanks
line_by (KStmt-F.Try at curly statements catches) =
    plain at (λ names. tried (block statements names) catches names) (λ names. block_blanks statements names ++ catches_blanks catches names)
line_by (KStmt-F.TryFinally at curly statements catches last_at last) =
    plain at (λ names. Finally (tried (block statements names) catches names) (block last names))
    (λ names. block_blanks statements names ++ (catches_blanks catches names ++ block_blanks last names))
-- what `return@synchronized` leaves
line_by (KStmt-F.Synchronized at lock curly statements) =
    plain at.word (λ names. Then (done lock names) (Block Unlocked (block statements names)))
    (λ names. lock.blanks names ++ block_blanks statements names)
