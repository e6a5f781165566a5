-- Which tokens a tree spells, and which trees stand: each operand at its level, at a depth.
use Rattle.std.specs.Prelude.{◌≡◌, ℕ, zero, suc, ◌+◌, ◌-◌, ◌≤◌, max, Bool, true, false, not, List, [], ◌∷◌, ◌++◌, length, map, Option, Some, None}
use Rattle.std.specs.List.{AllByRecursion}
use Rattle.java_tree.specs.declared.tokens.Position.{Position}
use Rattle.java_tree.specs.declared.tokens.Mark.{Mark}
use Rattle.java_tree.specs.declared.tokens.Mark.TheVariants as m
use Rattle.java_tree.specs.declared.tokens.Keyword.{Keyword}
use Rattle.java_tree.specs.declared.tokens.Keyword.TheVariants as w
use Rattle.java_tree.specs.Seen.{Token, Tokens}
use Rattle.java_tree.specs.declared.types.Primitive.{Primitive}
use Rattle.java_tree.specs.declared.types.Primitive.TheVariants as primitive
use Rattle.java_tree.specs.declared.exprs.PrefixOp.{PrefixOp}
use Rattle.java_tree.specs.declared.exprs.PrefixOp.TheVariants as prefix
use Rattle.java_tree.specs.declared.exprs.PostfixOp.{PostfixOp}
use Rattle.java_tree.specs.declared.exprs.PostfixOp.TheVariants as postfix
use Rattle.java_tree.specs.declared.exprs.BinaryOp.{BinaryOp}
use Rattle.java_tree.specs.declared.exprs.BinaryOp.TheVariants as op
use Rattle.java_tree.specs.declared.exprs.AssignOp.{AssignOp}
use Rattle.java_tree.specs.declared.exprs.AssignOp.TheVariants as assign
use Rattle.java_tree.specs.declared.exprs.Span.{Span}
use Rattle.java_tree.specs.declared.exprs.JLiteral.{JLiteral}
use Rattle.java_tree.specs.declared.exprs.JLiteral.TheVariants as literal
use Rattle.java_tree.specs.declared.exprs.JCreated.{JCreated}
use Rattle.java_tree.specs.declared.exprs.JCreated.TheVariants as created
use Rattle.java_tree.specs.declared.exprs.JTypedParam.{JTypedParam}
use Rattle.java_tree.specs.declared.exprs.JParam.{JParam}
use Rattle.java_tree.specs.declared.exprs.JParams.{JParams}
use Rattle.java_tree.specs.declared.exprs.JParams.TheVariants as params
use Rattle.java_tree.specs.declared.types.JDotted.{JDotted}
use Rattle.java_tree.specs.declared.types.JQualified.{JQualified}
use Rattle.java_tree.specs.declared.types.JBrackets.{JBrackets}
use Rattle.java_tree.specs.declared.types.JType.{JType, out-JType, fold-JType}
use Rattle.java_tree.specs.declared.types.JType.TheOpen.{JType-F}
use Rattle.java_tree.specs.declared.exprs.JExpr.{JExpr, out-JExpr, fold-JExpr}
use Rattle.java_tree.specs.declared.exprs.JExpr.TheOpen.{JExpr-F}

-- ---- lists with commas

abbrev pub more_tokens : List Position → List Tokens → Tokens
more_tokens [] texts = []
more_tokens (p ∷ ps) [] = []
more_tokens (p ∷ ps) (text ∷ texts) = Token.Sign m.Comma p ∷ (text ++ more_tokens ps texts)

abbrev pub listed : List Position → List Tokens → Tokens
listed commas [] = []
listed commas (text ∷ texts) = text ++ more_tokens commas texts

-- as many commas as stand between the items
abbrev pub AreBetween : {A : Type 0} → List Position → List A → Type 0
AreBetween commas [] = commas ≡ []
AreBetween commas (x ∷ xs) = length commas ≡ length xs

abbrev pub deepest : List ℕ → ℕ
deepest [] = 0
deepest (n ∷ ns) = max n (deepest ns)

-- ---- types

abbrev pub primitive_word : Primitive → Keyword
primitive_word primitive.Byte = w.Byte
primitive_word primitive.Short = w.Short
primitive_word primitive.Char = w.Char
primitive_word primitive.Int = w.Int
primitive_word primitive.Long = w.Long
primitive_word primitive.Boolean = w.Boolean

-- a `>`, and whether it stands directly before another or before a `=`
abbrev pub closing : Bool → Mark
closing true = m.GreaterJoined
closing false = m.Greater

abbrev pub dotted_tokens : List JDotted → Tokens
dotted_tokens [] = []
dotted_tokens (x ∷ xs) = Token.Sign m.Dot x.dot ∷ Token.Id x.name x.at ∷ dotted_tokens xs

abbrev pub qualified_tokens : JQualified → Tokens
qualified_tokens q = Token.Id q.name q.at ∷ dotted_tokens q.rest

abbrev pub brackets_tokens : List JBrackets → Tokens
brackets_tokens [] = []
brackets_tokens (x ∷ xs) = Token.Sign m.OpenSquare x.opens ∷ Token.Sign m.CloseSquare x.closes ∷ brackets_tokens xs

abbrev pub type_tokens_by : JType-F Tokens → Tokens
type_tokens_by (JType-F.Primitive p at) = Token.Word (primitive_word p) at ∷ []
type_tokens_by (JType-F.Class q) = qualified_tokens q
type_tokens_by (JType-F.Applied q lp args commas is_joined close) =
    qualified_tokens q ++ Token.Sign m.Less lp ∷ (listed commas args ++ Token.Sign (closing is_joined) close ∷ [])
type_tokens_by (JType-F.Array element brackets) = element ++ brackets_tokens brackets

unfoldable pub type_tokens : JType → Tokens
type_tokens = fold-JType Tokens type_tokens_by

abbrev pub type_depth_by : JType-F ℕ → ℕ
type_depth_by (JType-F.Applied q lp args commas is_joined close) = suc (deepest args)
type_depth_by (JType-F.Array element brackets) = suc element
type_depth_by _ = 1

unfoldable pub type_depth : JType → ℕ
type_depth = fold-JType ℕ type_depth_by

abbrev pub is_primitive_by : JType-F JType → Bool
is_primitive_by (JType-F.Primitive p at) = true
is_primitive_by _ = false

abbrev pub is_primitive : JType → Bool
is_primitive x = is_primitive_by (out-JType x)

abbrev pub is_array_by : JType-F JType → Bool
is_array_by (JType-F.Array element brackets) = true
is_array_by _ = false

abbrev pub is_array : JType → Bool
is_array x = is_array_by (out-JType x)

abbrev pub is_class_by : JType-F JType → Bool
is_class_by (JType-F.Class q) = true
is_class_by (JType-F.Applied q lp args commas is_joined close) = true
is_class_by _ = false

abbrev pub is_class : JType → Bool
is_class x = is_class_by (out-JType x)

abbrev pub type_stands_by : (JType → Type 0) → JType-F JType → Type 0
type_stands_by P (JType-F.Applied q lp args commas is_joined close) = (1 ≤ length args) × AreBetween commas args × AllByRecursion P args
type_stands_by P (JType-F.Array element brackets) = (1 ≤ length brackets) × (is_array element ≡ false) × P element
type_stands_by P _ = Unit {0}

-- at a depth of at most the number
unfoldable pub TypeStands : ℕ → JType → Type 0
TypeStands zero x = ⊥
TypeStands (suc d) x = type_stands_by (TypeStands d) (out-JType x)

-- ---- operators

abbrev pub prefix_mark : PrefixOp → Mark
prefix_mark prefix.Plus = m.Plus
prefix_mark prefix.Minus = m.Minus
prefix_mark prefix.Increment = m.PlusPlus
prefix_mark prefix.Decrement = m.MinusMinus
prefix_mark prefix.Complement = m.Tilde
prefix_mark prefix.Not = m.Not

abbrev pub postfix_mark : PostfixOp → Mark
postfix_mark postfix.Increment = m.PlusPlus
postfix_mark postfix.Decrement = m.MinusMinus

abbrev pub operator_tokens : BinaryOp → Position → Tokens
operator_tokens op.OrElse at = Token.Sign m.OrOr at ∷ []
operator_tokens op.AndAlso at = Token.Sign m.AndAnd at ∷ []
operator_tokens op.BitOr at = Token.Sign m.Or at ∷ []
operator_tokens op.BitXor at = Token.Sign m.Hat at ∷ []
operator_tokens op.BitAnd at = Token.Sign m.And at ∷ []
operator_tokens op.Equal at = Token.Sign m.Equal at ∷ []
operator_tokens op.NotEqual at = Token.Sign m.NotEqual at ∷ []
operator_tokens op.Less at = Token.Sign m.Less at ∷ []
operator_tokens op.LessEqual at = Token.Sign m.LessEqual at ∷ []
operator_tokens op.Greater at = Token.Sign m.Greater at ∷ []
operator_tokens (op.GreaterEqual second) at = Token.Sign m.GreaterJoined at ∷ Token.Sign m.Assign second ∷ []
operator_tokens op.ShiftLeft at = Token.Sign m.ShiftLeft at ∷ []
operator_tokens (op.ShiftRight second) at = Token.Sign m.GreaterJoined at ∷ Token.Sign m.Greater second ∷ []
operator_tokens (op.ShiftUnsigned second third) at = Token.Sign m.GreaterJoined at ∷ Token.Sign m.GreaterJoined second ∷ Token.Sign m.Greater third ∷ []
operator_tokens op.Add at = Token.Sign m.Plus at ∷ []
operator_tokens op.Subtract at = Token.Sign m.Minus at ∷ []
operator_tokens op.Multiply at = Token.Sign m.Star at ∷ []
operator_tokens op.Divide at = Token.Sign m.Slash at ∷ []
operator_tokens op.Remainder at = Token.Sign m.Percent at ∷ []

abbrev pub assign_tokens : AssignOp → Position → Tokens
assign_tokens assign.Plain at = Token.Sign m.Assign at ∷ []
assign_tokens assign.Add at = Token.Sign m.PlusAssign at ∷ []
assign_tokens assign.Subtract at = Token.Sign m.MinusAssign at ∷ []
assign_tokens assign.Multiply at = Token.Sign m.StarAssign at ∷ []
assign_tokens assign.Divide at = Token.Sign m.SlashAssign at ∷ []
assign_tokens assign.Remainder at = Token.Sign m.PercentAssign at ∷ []
assign_tokens assign.ShiftLeft at = Token.Sign m.ShiftLeftAssign at ∷ []
assign_tokens (assign.ShiftRight second third) at = Token.Sign m.GreaterJoined at ∷ Token.Sign m.GreaterJoined second ∷ Token.Sign m.Assign third ∷ []
assign_tokens (assign.ShiftUnsigned second third fourth) at = Token.Sign m.GreaterJoined at ∷ Token.Sign m.GreaterJoined second ∷ Token.Sign m.GreaterJoined third ∷ Token.Sign m.Assign fourth ∷ []
assign_tokens assign.BitAnd at = Token.Sign m.AndAssign at ∷ []
assign_tokens assign.BitOr at = Token.Sign m.OrAssign at ∷ []
assign_tokens assign.BitXor at = Token.Sign m.HatAssign at ∷ []

-- ---- levels. A place of the grammar takes the forms of its level and above.

-- of the values in braces
abbrev pub init_level : ℕ
init_level = 0

abbrev pub any_level : ℕ
any_level = 1

-- a lambda, or a conditional and above
abbrev pub else_level : ℕ
else_level = 2

abbrev pub cond_level : ℕ
cond_level = 3

abbrev pub or_level : ℕ
or_level = 4

abbrev pub level : BinaryOp → ℕ
level op.OrElse = 4
level op.AndAlso = 5
level op.BitOr = 6
level op.BitXor = 7
level op.BitAnd = 8
level op.Equal = 9
level op.NotEqual = 9
level op.Less = 10
level op.LessEqual = 10
level op.Greater = 10
level (op.GreaterEqual second) = 10
level op.ShiftLeft = 11
level (op.ShiftRight second) = 11
level (op.ShiftUnsigned second third) = 11
level op.Add = 12
level op.Subtract = 12
level op.Multiply = 13
level op.Divide = 13
level op.Remainder = 13

-- of `instanceof`
abbrev pub relation_level : ℕ
relation_level = 10

abbrev pub unary_level : ℕ
unary_level = 14

abbrev pub postfix_level : ℕ
postfix_level = 15

abbrev pub primary_level : ℕ
primary_level = 16

abbrev pub top_by : JExpr-F JExpr → ℕ
top_by (JExpr-F.Assign left op at right) = any_level
top_by (JExpr-F.Braces lc inits commas more rc) = init_level
top_by (JExpr-F.Lambda params arrow body) = else_level
top_by (JExpr-F.LambdaBlock params arrow body) = else_level
top_by (JExpr-F.Conditional left question then_ colon else_) = cond_level
top_by (JExpr-F.Binary left op at right) = level op
top_by (JExpr-F.Instanceof left at to) = relation_level
top_by (JExpr-F.Prefix op at inner) = unary_level
top_by (JExpr-F.MinusLeast minus literal at) = unary_level
top_by (JExpr-F.Cast lp to rp inner) = unary_level
top_by (JExpr-F.Postfix left op at) = postfix_level
top_by _ = primary_level

-- the level of the outermost form
unfoldable pub top : JExpr → ℕ
top e = top_by (out-JExpr e)

abbrev pub is_left_by : JExpr-F JExpr → Bool
is_left_by (JExpr-F.Name n at) = true
is_left_by (JExpr-F.Field left dot n at) = true
is_left_by (JExpr-F.Element left lp index rp) = true
is_left_by _ = false

-- whether it may stand before an assignment operator
unfoldable pub is_left : JExpr → Bool
is_left e = is_left_by (out-JExpr e)

abbrev pub is_test_by : JExpr-F JExpr → Bool
is_test_by (JExpr-F.Instanceof left at to) = true
is_test_by _ = false

-- whether it is an `instanceof`
unfoldable pub is_test : JExpr → Bool
is_test e = is_test_by (out-JExpr e)

abbrev pub is_sized_by : JExpr-F JExpr → Bool
is_sized_by (JExpr-F.NewArray at of lb size rb more) = true
is_sized_by _ = false

-- whether it is an array that is created with a size, behind which no `[` begins an element
unfoldable pub is_sized : JExpr → Bool
is_sized e = is_sized_by (out-JExpr e)

-- A `<` behind an `instanceof` begins the arguments of its type.
abbrev pub may_compare : BinaryOp → Bool → Bool
may_compare op.Less is_test = not is_test
may_compare _ is_test = true

-- ---- expressions

abbrev pub param_tokens : JParam → Tokens
param_tokens p = Token.Id p.name p.at ∷ []

abbrev pub final_tokens : Option Position → Tokens
final_tokens None = []
final_tokens (Some at) = Token.Word w.Final at ∷ []

abbrev pub typed_tokens : JTypedParam → Tokens
typed_tokens p = final_tokens p.is_final ++ (type_tokens p.kind ++ Token.Id p.name p.at ∷ [])

abbrev pub params_tokens : JParams → Tokens
params_tokens (params.One p) = param_tokens p
params_tokens (params.Several lp ps commas rp) = Token.Sign m.OpenRound lp ∷ (listed commas (map param_tokens ps) ++ Token.Sign m.CloseRound rp ∷ [])
params_tokens (params.Typed lp ps commas rp) = Token.Sign m.OpenRound lp ∷ (listed commas (map typed_tokens ps) ++ Token.Sign m.CloseRound rp ∷ [])

abbrev pub created_tokens : JCreated → Tokens
created_tokens (created.Type x) = type_tokens x
created_tokens (created.Inferred q lp is_joined close) = qualified_tokens q ++ Token.Sign m.Less lp ∷ Token.Sign (closing is_joined) close ∷ []

-- the `)` behind arguments, with the body of an anonymous class where there is one
abbrev pub args_close : Position → Option Span → Token
args_close rp None = Token.Sign m.CloseRound rp
args_close rp (Some body) = Token.CloseBody rp body

abbrev pub trailing : Option Position → Tokens
trailing None = []
trailing (Some at) = Token.Sign m.Comma at ∷ []

abbrev pub braces_tokens : Position → List Tokens → List Position → Option Position → Position → Tokens
braces_tokens lc inits commas more rc = Token.Sign m.OpenCurly lc ∷ (listed commas inits ++ (trailing more ++ Token.Sign m.CloseCurly rc ∷ []))

abbrev pub tokens_by : JExpr-F Tokens → Tokens
tokens_by (JExpr-F.Name n at) = Token.Id n at ∷ []
tokens_by (JExpr-F.Literal literal at) = Token.Literal literal at ∷ []
tokens_by (JExpr-F.This at) = Token.Word w.This at ∷ []
tokens_by (JExpr-F.Paren lp inner rp) = Token.Sign m.OpenRound lp ∷ (inner ++ Token.Sign m.CloseRound rp ∷ [])
tokens_by (JExpr-F.Call n at lp args commas rp) =
    Token.Id n at ∷ Token.Sign m.OpenRound lp ∷ (listed commas args ++ Token.Sign m.CloseRound rp ∷ [])
tokens_by (JExpr-F.SuperCall above dot n at lp args commas rp) =
    Token.Word w.Super above ∷ Token.Sign m.Dot dot ∷ Token.Id n at ∷ Token.Sign m.OpenRound lp ∷ (listed commas args ++ Token.Sign m.CloseRound rp ∷ [])
tokens_by (JExpr-F.Field left dot n at) = left ++ Token.Sign m.Dot dot ∷ Token.Id n at ∷ []
tokens_by (JExpr-F.Method left dot n at lp args commas rp) =
    left ++ Token.Sign m.Dot dot ∷ Token.Id n at ∷ Token.Sign m.OpenRound lp ∷ (listed commas args ++ Token.Sign m.CloseRound rp ∷ [])
tokens_by (JExpr-F.Element left lp index rp) = left ++ Token.Sign m.OpenSquare lp ∷ (index ++ Token.Sign m.CloseSquare rp ∷ [])
tokens_by (JExpr-F.Postfix left op at) = left ++ Token.Sign (postfix_mark op) at ∷ []
tokens_by (JExpr-F.Prefix op at inner) = Token.Sign (prefix_mark op) at ∷ inner
tokens_by (JExpr-F.Cast lp to rp inner) = Token.Sign m.OpenRound lp ∷ (type_tokens to ++ Token.Sign m.CloseRound rp ∷ inner)
tokens_by (JExpr-F.Binary left op at right) = left ++ (operator_tokens op at ++ right)
tokens_by (JExpr-F.Instanceof left at to) = left ++ Token.Word w.Instanceof at ∷ type_tokens to
tokens_by (JExpr-F.Conditional left question then_ colon else_) = left ++ Token.Sign m.Question question ∷ (then_ ++ Token.Sign m.Colon colon ∷ else_)
tokens_by (JExpr-F.Assign left op at right) = left ++ (assign_tokens op at ++ right)
tokens_by (JExpr-F.MinusLeast minus literal at) = Token.Sign m.Minus minus ∷ Token.Literal literal at ∷ []
tokens_by (JExpr-F.Lambda params arrow body) = params_tokens params ++ Token.Sign m.Arrow arrow ∷ body
tokens_by (JExpr-F.LambdaBlock params arrow body) = params_tokens params ++ Token.ArrowBody arrow body ∷ []
tokens_by (JExpr-F.New at made lp args commas rp body) =
    Token.Word w.New at ∷ (created_tokens made ++ Token.Sign m.OpenRound lp ∷ (listed commas args ++ args_close rp body ∷ []))
tokens_by (JExpr-F.NewArray at of lb size rb more) =
    Token.Word w.New at ∷ (type_tokens of ++ Token.Sign m.OpenSquare lb ∷ (size ++ Token.Sign m.CloseSquare rb ∷ brackets_tokens more))
tokens_by (JExpr-F.NewFilled at of brackets lc inits commas more rc) =
    Token.Word w.New at ∷ (type_tokens of ++ (brackets_tokens brackets ++ braces_tokens lc inits commas more rc))
tokens_by (JExpr-F.Braces lc inits commas more rc) = braces_tokens lc inits commas more rc

-- the tokens that a tree spells
unfoldable pub tokens : JExpr → Tokens
tokens = fold-JExpr Tokens tokens_by

abbrev pub typed_depth : JTypedParam → ℕ
typed_depth p = suc (type_depth p.kind)

abbrev pub params_depth : JParams → ℕ
params_depth (params.Typed lp ps commas rp) = deepest (map typed_depth ps)
params_depth _ = 1

-- The type behind `new` is no part that stands by itself: its arguments are parts of what is created.
abbrev pub new_depth : JType → ℕ
new_depth x = type_depth x - 1

abbrev pub created_depth : JCreated → ℕ
created_depth (created.Type x) = new_depth x
created_depth (created.Inferred q lp is_joined close) = 0

-- A body is 1 deep.
abbrev pub depth_by : JExpr-F ℕ → ℕ
depth_by (JExpr-F.Name n at) = 1
depth_by (JExpr-F.Literal literal at) = 1
depth_by (JExpr-F.This at) = 1
depth_by (JExpr-F.Paren lp inner rp) = suc inner
depth_by (JExpr-F.Call n at lp args commas rp) = suc (deepest args)
depth_by (JExpr-F.SuperCall above dot n at lp args commas rp) = suc (deepest args)
depth_by (JExpr-F.Field left dot n at) = suc left
depth_by (JExpr-F.Method left dot n at lp args commas rp) = suc (max left (deepest args))
depth_by (JExpr-F.Element left lp index rp) = suc (max left index)
depth_by (JExpr-F.Postfix left op at) = suc left
depth_by (JExpr-F.Prefix op at inner) = suc inner
depth_by (JExpr-F.Cast lp to rp inner) = suc (max (type_depth to) inner)
depth_by (JExpr-F.Binary left op at right) = suc (max left right)
depth_by (JExpr-F.Instanceof left at to) = suc (max left (type_depth to))
depth_by (JExpr-F.Conditional left question then_ colon else_) = suc (max left (max then_ else_))
depth_by (JExpr-F.Assign left op at right) = suc (max left right)
depth_by (JExpr-F.MinusLeast minus literal at) = 2
depth_by (JExpr-F.Lambda params arrow body) = suc (max (params_depth params) body)
depth_by (JExpr-F.LambdaBlock params arrow body) = suc (max (params_depth params) 1)
depth_by (JExpr-F.New at made lp args commas rp body) = suc (max (created_depth made) (deepest args))
depth_by (JExpr-F.NewArray at of lb size rb more) = suc (max (new_depth of) size)
depth_by (JExpr-F.NewFilled at of brackets lc inits commas more rc) = suc (max (new_depth of) (deepest inits))
depth_by (JExpr-F.Braces lc inits commas more rc) = suc (deepest inits)

unfoldable pub depth : JExpr → ℕ
depth = fold-JExpr ℕ depth_by

abbrev pub is_sign : Mark → Bool
is_sign m.Plus = true
is_sign m.Minus = true
is_sign m.PlusPlus = true
is_sign m.MinusMinus = true
is_sign _ = false

-- whether `+`, `-`, `++` or `--` comes first
abbrev pub begins_sign : Tokens → Bool
begins_sign (Token.Sign mark at ∷ rest) = is_sign mark
begins_sign _ = false

abbrev pub may_cast : Bool → Tokens → Type 0
may_cast true text = Unit {0}
may_cast false text = begins_sign text ≡ false

abbrev pub is_least : JLiteral → Bool
is_least literal.LeastInteger = true
is_least literal.LeastLong = true
is_least _ = false

-- at a depth of at most the number
unfoldable pub TypedStands : ℕ → JTypedParam → Type 0
TypedStands zero p = ⊥
TypedStands (suc d) p = TypeStands d p.kind

abbrev pub params_stand : (JTypedParam → Type 0) → JParams → Type 0
params_stand R (params.One p) = Unit {0}
params_stand R (params.Several lp ps commas rp) = (1 ≤ length ps) × AreBetween commas ps
params_stand R (params.Typed lp ps commas rp) = AreBetween commas ps × AllByRecursion R ps

-- The arguments of its type may be d deep.
abbrev pub created_stands : ℕ → JCreated → Type 0
created_stands d (created.Type x) = TypeStands (suc d) x × (is_class x ≡ true)
created_stands d (created.Inferred q lp is_joined close) = Unit {0}

-- Each operand stands at its level: `P l` says that of an operand at the level l, Q of a type, and R of a parameter with its type.
-- The parts may be d deep.
abbrev pub stands_by : ℕ → (JType → Type 0) → (JTypedParam → Type 0) → (ℕ → JExpr → Type 0) → JExpr-F JExpr → Type 0
stands_by d Q R P (JExpr-F.Name n at) = Unit {0}
stands_by d Q R P (JExpr-F.Literal literal at) = is_least literal ≡ false
stands_by d Q R P (JExpr-F.This at) = Unit {0}
stands_by d Q R P (JExpr-F.Paren lp inner rp) = P any_level inner
stands_by d Q R P (JExpr-F.Call n at lp args commas rp) = AreBetween commas args × AllByRecursion (P any_level) args
stands_by d Q R P (JExpr-F.SuperCall above dot n at lp args commas rp) = AreBetween commas args × AllByRecursion (P any_level) args
stands_by d Q R P (JExpr-F.Field left dot n at) = P primary_level left
stands_by d Q R P (JExpr-F.Method left dot n at lp args commas rp) = P primary_level left × AreBetween commas args × AllByRecursion (P any_level) args
stands_by d Q R P (JExpr-F.Element left lp index rp) = P primary_level left × (is_sized left ≡ false) × P any_level index
stands_by d Q R P (JExpr-F.Postfix left op at) = P postfix_level left
stands_by d Q R P (JExpr-F.Prefix op at inner) = P unary_level inner
stands_by d Q R P (JExpr-F.Cast lp to rp inner) = Q to × P unary_level inner × may_cast (is_primitive to) (tokens inner)
stands_by d Q R P (JExpr-F.Binary left op at right) = P (level op) left × P ((level op + 1)) right × (may_compare op (is_test left) ≡ true)
stands_by d Q R P (JExpr-F.Instanceof left at to) = P relation_level left × Q to
stands_by d Q R P (JExpr-F.Conditional left question then_ colon else_) = P or_level left × P any_level then_ × P else_level else_
stands_by d Q R P (JExpr-F.Assign left op at right) = P primary_level left × (is_left left ≡ true) × P any_level right
stands_by d Q R P (JExpr-F.MinusLeast minus literal at) = (is_least literal ≡ true) × (1 ≤ d)
stands_by d Q R P (JExpr-F.Lambda params arrow body) = params_stand R params × P any_level body
stands_by d Q R P (JExpr-F.LambdaBlock params arrow body) = params_stand R params × (1 ≤ d)
stands_by d Q R P (JExpr-F.New at made lp args commas rp body) = created_stands d made × AreBetween commas args × AllByRecursion (P any_level) args
stands_by d Q R P (JExpr-F.NewArray at of lb size rb more) = TypeStands (suc d) of × (is_array of ≡ false) × P any_level size
stands_by d Q R P (JExpr-F.NewFilled at of brackets lc inits commas more rc) =
    TypeStands (suc d) of × (is_array of ≡ false) × (1 ≤ length brackets) × AreBetween commas inits × AllByRecursion (P init_level) inits
stands_by d Q R P (JExpr-F.Braces lc inits commas more rc) = AreBetween commas inits × AllByRecursion (P init_level) inits

-- It stands at the level, with a depth of at most the first number.
unfoldable pub Stands : ℕ → ℕ → JExpr → Type 0
Stands zero l e = ⊥
Stands (suc d) l e = (l ≤ top e) × stands_by d (TypeStands d) (TypedStands d) (Stands d) (out-JExpr e)

abbrev pub max_depth : ℕ
max_depth = 200

-- The tree spells the tokens, and is no deeper than 200.
pub record JSpells (e : JExpr) (text : Tokens) : Type 0 where
  pub stands : Stands max_depth any_level e
  pub same : tokens e ≡ text

-- Tokens that no tree spells.
pub record JSpellsNone (text : Tokens) : Type 0 where
  pub none : (e : JExpr) → JSpells e text → ⊥
