-- What expressions do: their operands from left to right, reads where a variable gives its value, and assignments behind the value
-- (Kotlin, "Expressions", "Order of evaluation"; own rules where the text says so).
use Rattle.std.specs.Prelude.{ℕ, true, false, List, [], ◌∷◌, ◌++◌, Option, Some, None}
use Rattle.kotlin_tree.specs.declared.places.Position.{Position}
use Rattle.kotlin_tree.specs.declared.types.KName.{KName}
use Rattle.kotlin_tree.specs.declared.expressions.KLiteral.{KLiteral}
use Rattle.kotlin_tree.specs.declared.expressions.KLiteral.TheVariants as literal
use Rattle.kotlin_tree.specs.declared.expressions.KPrefix.{KPrefix}
use Rattle.kotlin_tree.specs.declared.expressions.KPrefix.TheVariants as prefix
use Rattle.kotlin_tree.specs.declared.expressions.KPostfix.{KPostfix}
use Rattle.kotlin_tree.specs.declared.expressions.KPostfix.TheVariants as postfix
use Rattle.kotlin_tree.specs.declared.expressions.KBinary.{KBinary}
use Rattle.kotlin_tree.specs.declared.expressions.KBinary.TheVariants as binary
use Rattle.flow.specs.Acts as a
use Rattle.flow.specs.Acts.{Skip, Does, Asks, Then, Constant, And, Or, Not, Choose}
use Rattle.flow.specs.Analyses.{Reads, Assigns}
use Rattle.kotlin_flow.specs.Variables.{Variable, OfThis, OfClass, Distant, KotlinAct, KotlinTest, Names, Blank, local}

-- what an expression is as the object before a dot
pub data Object : Type 0 where
  This : Object
  Named : List ℕ → Object
  Other : Object

-- What an expression does where some locals are in scope: as a value or a test; as a target, before what is assigned; the variable
-- that it names; what it is before a dot; its first token; and the locals without a value that are declared in it.
pub record Said : Type 0 where
  pub first : Position
  pub object : Object
  pub test : Names → KotlinTest
  pub before : Names → KotlinAct
  pub variable : Names → Option Variable
  pub blanks : Names → List Blank

abbrev pub done : Said → Names → KotlinAct
done x names = Asks (x.test names)

abbrev pub all : List Said → Names → KotlinAct
all [] names = Skip
all (x ∷ more) names = Then (done x names) (all more names)

abbrev pub nothing : Names → KotlinAct
nothing names = Skip

abbrev pub no_variable : Names → Option Variable
no_variable names = None

abbrev pub no_blanks : Names → List Blank
no_blanks names = []

abbrev pub blanks_of : List Said → Names → List Blank
blanks_of [] names = []
blanks_of (x ∷ more) names = x.blanks names ++ blanks_of more names

-- with what is declared in its parts
abbrev pub among : List Said → Said → Said
among parts x = record { first = x.first; object = x.object; test = x.test; before = x.before; variable = x.variable; blanks = blanks_of parts }

-- its value is no test that is known
abbrev pub just : Position → (Names → KotlinAct) → Said
just first does = record { first = first; object = Other; test = λ names. a.Value (does names); before = does; variable = no_variable; blanks = no_blanks }

abbrev pub tested : Position → (Names → KotlinTest) → Said
tested first test = record { first = first; object = Other; test = test; before = λ names. Asks (test names); variable = no_variable; blanks = no_blanks }

-- ---- names

abbrev pub read : Option Variable → Position → KotlinAct
read None at = Skip
read (Some x) at = Does (Reads x at)

abbrev pub assign : Option Variable → Position → KotlinAct
assign None at = Skip
assign (Some x) at = Does (Assigns x at)

-- a name that is no local is that of a class, and does nothing
abbrev pub name_by : KName → Said
name_by x = record {
  first = x.at;
  object = Named x.name;
  test = λ names. a.Value (read (local x.name names) x.at);
  before = nothing;
  variable = local x.name;
  blanks = no_blanks;
}

abbrev pub this_by : Position → Said
this_by at = record { first = at; object = This; test = λ names. a.Value Skip; before = nothing; variable = no_variable; blanks = no_blanks }

-- a member behind a dot
abbrev pub behind_name : Option Variable → List ℕ → List ℕ → Variable
behind_name None class name = OfClass class name
behind_name (Some x) class name = Distant name

abbrev pub member : Object → List ℕ → Names → Variable
member This name names = OfThis name
member (Named class) name names = behind_name (local class names) class name
member Other name names = Distant name

abbrev pub field_by : Said → KName → Said
field_by object x = record {
  first = object.first;
  object = Other;
  test = λ names. a.Value (Then (done object names) (Does (Reads (member object.object x.name names) object.first)));
  before = λ names. done object names;
  variable = λ names. Some (member object.object x.name names);
  blanks = object.blanks;
}

-- parentheses change nothing
abbrev pub paren_by : Position → Said → Said
paren_by opens inner = record { first = opens; object = inner.object; test = inner.test; before = inner.before; variable = inner.variable; blanks = inner.blanks }

abbrev pub element_by : Said → Said → Said
element_by array index = among (array ∷ index ∷ []) (just array.first (λ names. Then (done array names) (done index names)))

-- ---- operators

-- `true` and `false` are the only constants (own rule)
abbrev pub literal_test : KLiteral → KotlinTest
literal_test literal.True = Constant true
literal_test literal.False = Constant false
literal_test _ = a.Value Skip

abbrev pub binary_test : KBinary → KotlinTest → KotlinTest → KotlinTest
binary_test binary.AndAlso x y = And x y
binary_test binary.OrElse x y = Or x y
binary_test _ x y = a.Value (Then (Asks x) (Asks y))

-- `x++` and its like read the variable and assign it; at fault is the whole
abbrev pub step_by : Position → Said → Said
step_by first x = among (x ∷ []) (just first (λ names. Then (x.before names) (Then (read (x.variable names) x.first) (assign (x.variable names) first))))

abbrev pub prefix_by : KPrefix → Position → Said → Said
prefix_by prefix.Plus at x = among (x ∷ []) (just at (done x))
prefix_by prefix.Minus at x = among (x ∷ []) (just at (done x))
prefix_by prefix.Not at x = among (x ∷ []) (tested at (λ names. Not (x.test names)))
prefix_by prefix.Increment at x = step_by at x
prefix_by prefix.Decrement at x = step_by at x

abbrev pub postfix_by : KPostfix → Said → Said
postfix_by postfix.NotNull x = among (x ∷ []) (just x.first (done x))
postfix_by postfix.Increment x = step_by x.first x
postfix_by postfix.Decrement x = step_by x.first x

-- ---- `when`

-- a label is asked where those before it don't fit, and of whether it fits nothing is known
abbrev pub fits : List Said → Names → KotlinTest
fits [] names = a.Value Skip
fits (x ∷ more) names = Or (a.Value (done x names)) (fits more names)

-- an alternative that gives a value
pub record Choice : Type 0 where
  pub labels : List Said
  pub value : Said

abbrev pub chosen : List Choice → Said → Names → KotlinTest
chosen [] other names = other.test names
chosen (x ∷ more) other names = Choose (fits x.labels names) (x.value.test names) (chosen more other names)

abbrev pub choices_blanks : List Choice → Names → List Blank
choices_blanks [] names = []
choices_blanks (x ∷ more) names = blanks_of (x.value ∷ x.labels) names ++ choices_blanks more names
