-- What expressions do (JLS 15, 16.1): their operands from left to right, reads where a variable gives its value, and
-- assignments behind the value.
use Rattle.std.specs.Prelude.{ℕ, Bool, true, false, ◌==◌, List, [], ◌∷◌, Option, Some, None, if◌then◌else◌}
use Rattle.java_tree.specs.declared.tokens.Position.{Position}
use Rattle.j2k_base.specs.declared.constants.Const.TheVariants as const
use Rattle.j2k_base.specs.declared.constants.Value.{Value}
use Rattle.j2k_base.specs.declared.constants.Value.TheVariants as value
use Rattle.j2k_base.specs.declared.constants.Op2.{Op2}
use Rattle.j2k_base.specs.declared.constants.Op2.TheVariants as op
use Rattle.java_typed.specs.declared.types.TType.{TType, out-TType}
use Rattle.java_typed.specs.declared.types.TType.TheOpen.{TType-F}
use Rattle.java_typed.specs.declared.members.MemberRef.{MemberRef}
use Rattle.java_typed.specs.declared.exprs.UnaryOp.{UnaryOp}
use Rattle.java_typed.specs.declared.exprs.UnaryOp.TheVariants as unary
use Rattle.java_typed.specs.declared.exprs.TExpr.{TExpr, fold-TExpr}
use Rattle.java_typed.specs.declared.exprs.TExpr.TheOpen.{TExpr-F}
use Rattle.flow.specs.Acts as a
use Rattle.flow.specs.Acts.{Skip, Does, Asks, Then, If, Later, Constant, And, Or, Not, Choose}
use Rattle.flow.specs.Analyses.{Reads, Assigns}
use Rattle.java_flow.specs.Variables.{Variable, Local, Simple, OfThis, Distant, JavaAct, JavaTest}

-- a variable that is named, and where its name stands
pub record Named : Type 0 where
  pub variable : Variable
  pub at : Position

-- What an expression does: as a value or a test; as a target, before what is assigned; the variable that it names; and whether
-- it is `this`, and `this` is written.
pub record Said : Type 0 where
  pub test : JavaTest
  pub before : JavaAct
  pub named : Option Named
  pub this : Option Bool

abbrev pub done : Said → JavaAct
done x = Asks x.test

abbrev pub all : List Said → JavaAct
all [] = Skip
all (x ∷ more) = Then (done x) (all more)

-- its value is no test that is known
abbrev pub just : JavaAct → Said
just x = record { test = a.Value x; before = Skip; named = None; this = None }

abbrev pub tested : JavaTest → Said
tested c = record { test = c; before = Skip; named = None; this = None }

-- ---- names

abbrev pub read : Option Named → JavaAct
read None = Skip
read (Some x) = Does (Reads x.variable x.at)

abbrev pub assign : Option Named → JavaAct
assign None = Skip
assign (Some x) = Does (Assigns x.variable x.at)

abbrev pub named_by : Variable → Position → Said
named_by v at = record { test = a.Value (Does (Reads v at)); before = Skip; named = Some (record { variable = v; at = at }); this = None }

-- a static field is named by its simple name where its name stands first
abbrev pub static_by : Position → MemberRef → Position → Said
static_by first member at = named_by (if first.offset == at.offset then Simple member else Distant member) at

-- a field of `this` by its simple name or behind `this`, or of another object
abbrev pub field_variable : Option Bool → MemberRef → Variable
field_variable (Some false) member = Simple member
field_variable (Some true) member = OfThis member
field_variable None member = Distant member

abbrev pub field_by : Said → MemberRef → Position → Said
field_by object member at = record { test = a.Value (Then (done object) (Does (Reads (field_variable object.this member) at))); before = done object; named = Some (record { variable = field_variable object.this member; at = at }); this = None }

-- a static member that is reached by an expression
abbrev pub far : Variable → Variable
far (Local name) = Local name
far (Simple member) = Distant member
far (OfThis member) = Distant member
far (Distant member) = Distant member

abbrev pub far_named : Option Named → Option Named
far_named None = None
far_named (Some x) = Some (record { variable = far x.variable; at = x.at })

abbrev pub value_far : Said → JavaAct
value_far x = value_by x.named
  where
    value_by : Option Named → JavaAct
    value_by None = done x
    value_by (Some n) = read (far_named (Some n))

abbrev pub through : Said → Said → Said
through object member = record { test = a.Value (Then (done object) (value_far member)); before = Then (done object) member.before; named = far_named member.named; this = None }

-- ---- operators

-- a constant expression (JLS 15.28, 16.1.1)
abbrev pub constant_test : Value → JavaTest
constant_test (value.Number (const.Bool b)) = Constant b
constant_test _ = a.Value Skip

abbrev pub constant_by : Value → Said
constant_by v = tested (constant_test v)

-- `!` (JLS 16.1.4)
abbrev pub unary_test : UnaryOp → JavaTest → JavaTest
unary_test unary.Not x = Not x
unary_test _ x = a.Value (Asks x)

abbrev pub unary_by : UnaryOp → Said → Said
unary_by o x = tested (unary_test o x.test)

-- `&&` and `||` (JLS 16.1.2, 16.1.3)
abbrev pub binary_test : Op2 → JavaTest → JavaTest → JavaTest
binary_test op.AndAlso x y = And x y
binary_test op.OrElse x y = Or x y
binary_test _ x y = a.Value (Then (Asks x) (Asks y))

abbrev pub binary_by : Op2 → Said → Said → Said
binary_by o x y = tested (binary_test o x.test y.test)

abbrev pub is_boolean_by : TType-F TType → Bool
is_boolean_by TType-F.Boolean = true
is_boolean_by _ = false

-- `?:` of truth values, and of others (JLS 16.1.5, 16.1.6)
abbrev pub conditional_test : Bool → JavaTest → JavaTest → JavaTest → JavaTest
conditional_test true test x y = Choose test x y
conditional_test false test x y = a.Value (If false test (Asks x) (Asks y))

abbrev pub conditional_by : Bool → Said → Said → Said → Said
conditional_by is_boolean test x y = tested (conditional_test is_boolean test.test x.test y.test)

-- `=`, and the operators that read their target first (JLS 15.26, 15.14.2, 15.15.1, 16.1.8, 16.1.9)
abbrev pub assign_by : Said → Said → Said
assign_by target v = just (Then target.before (Then (done v) (assign target.named)))

abbrev pub compound_by : Said → JavaAct → Said
compound_by target v = just (Then target.before (Then (read target.named) (Then v (assign target.named))))

-- the body of an anonymous class, where it has one (JLS 15.9.5)
abbrev pub body_by : (ℕ → JavaAct) → Option ℕ → JavaAct
body_by bodies None = Skip
body_by bodies (Some n) = bodies n

-- what the bodies beside the expression do, by their numbers
module _ (bodies : ℕ → JavaAct) where
  abbrev pub said_by : TExpr-F Said → Said
  said_by (TExpr-F.Literal v at) = constant_by v
  said_by (TExpr-F.Null at) = just Skip
  said_by (TExpr-F.Constant v inner) = constant_by v
  said_by (TExpr-F.This at is_written kind) = record { test = a.Value Skip; before = Skip; named = None; this = Some is_written }
  said_by (TExpr-F.Paren at inner) = inner
  said_by (TExpr-F.Local name at kind) = named_by (Local name) at
  said_by (TExpr-F.Static first member at kind) = static_by first member at
  said_by (TExpr-F.Field object member at kind) = field_by object member at
  said_by (TExpr-F.Length array at) = just (done array)
  said_by (TExpr-F.Element array index kind) = record { test = a.Value (Then (done array) (done index)); before = Then (done array) (done index); named = None; this = None }
  said_by (TExpr-F.StaticCall first member at arguments result) = just (all arguments)
  said_by (TExpr-F.VirtualCall object member at arguments result) = just (Then (done object) (all arguments))
  said_by (TExpr-F.ExactCall object is_super member at arguments result) = just (Then (done object) (all arguments))
  said_by (TExpr-F.Through object member) = through object member
  said_by (TExpr-F.Step is_prefix o at target kind) = compound_by target Skip
  said_by (TExpr-F.Unary o at inner) = unary_by o inner
  said_by (TExpr-F.Binary left o at right) = binary_by o left right
  said_by (TExpr-F.Concat left at right) = just (Then (done left) (done right))
  said_by (TExpr-F.Same left is_equal at right) = just (Then (done left) (done right))
  said_by (TExpr-F.Instanceof inner at kind) = just (done inner)
  said_by (TExpr-F.Cast at kind inner) = just (done inner)
  said_by (TExpr-F.Convert c inner) = just (done inner)
  said_by (TExpr-F.Conditional test first second kind) = conditional_by (is_boolean_by (out-TType kind)) test first second
  said_by (TExpr-F.Assign target at v) = assign_by target v
  said_by (TExpr-F.Compound target o kind at v) = compound_by target (done v)
  said_by (TExpr-F.Append target at v) = compound_by target (done v)
  -- a lambda's body runs later (JLS 16.1.10)
  said_by (TExpr-F.Lambda lambda inner) = just (Later (done inner))
  said_by (TExpr-F.LambdaBlock lambda number) = just (Later (bodies number))
  said_by (TExpr-F.New at kind member arguments body) = just (Then (all arguments) (body_by bodies body))
  said_by (TExpr-F.NewArray at kind size) = just (done size)
  said_by (TExpr-F.NewFilled at kind elements) = just (all elements)

  unfoldable pub said : TExpr → Said
  said = fold-TExpr Said said_by
