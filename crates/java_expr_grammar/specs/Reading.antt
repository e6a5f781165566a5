-- Reading an expression from a list of tokens: the tree, and the tokens after it.
use Rattle.std.specs.Prelude.{ℕ, zero, suc, ◌+◌, Bool, true, false, not, ◌&&◌, ◌||◌, nat_lt, nat_le, if◌then◌else◌, List, [], ◌∷◌, ◌++◌, length, Option, Some, None}
use Rattle.java_tree.specs.declared.tokens.Position.{Position}
use Rattle.java_tree.specs.declared.tokens.Mark.{Mark}
use Rattle.java_tree.specs.declared.tokens.Mark.TheVariants as m
use Rattle.java_tree.specs.Seen.{Token}
use Rattle.java_tree.specs.declared.types.Primitive.{Primitive}
use Rattle.java_tree.specs.declared.types.Primitive.TheVariants as primitive
use Rattle.java_tree.specs.declared.exprs.PrefixOp.{PrefixOp}
use Rattle.java_tree.specs.declared.exprs.PrefixOp.TheVariants as prefix
use Rattle.java_tree.specs.declared.tokens.Keyword.{Keyword}
use Rattle.java_tree.specs.declared.tokens.Keyword.TheVariants as w
use Rattle.java_tree.specs.declared.exprs.PostfixOp.TheVariants as postfix
use Rattle.java_tree.specs.declared.exprs.BinaryOp.TheVariants as op
use Rattle.java_tree.specs.declared.exprs.AssignOp.TheVariants as assign
use Rattle.java_tree.specs.declared.exprs.Span.{Span}
use Rattle.java_tree.specs.declared.exprs.JLiteral.{JLiteral}
use Rattle.java_tree.specs.declared.exprs.JCreated.{JCreated}
use Rattle.java_tree.specs.declared.exprs.JCreated.TheVariants as created
use Rattle.java_tree.specs.declared.exprs.JTypedParam.{JTypedParam}
use Rattle.java_tree.specs.declared.exprs.JParam.{JParam}
use Rattle.java_tree.specs.declared.exprs.JParams.{JParams}
use Rattle.java_tree.specs.declared.exprs.JParams.TheVariants as params
use Rattle.java_tree.specs.declared.types.JDotted.{JDotted}
use Rattle.java_tree.specs.declared.types.JQualified.{JQualified}
use Rattle.java_tree.specs.declared.types.JBrackets.{JBrackets}
use Rattle.java_tree.specs.declared.types.JType.{JType}
use Rattle.java_tree.specs.declared.types.JType.TheVariants as ty
use Rattle.java_tree.specs.declared.exprs.JExpr.{JExpr}
use Rattle.java_tree.specs.declared.exprs.JExpr.TheVariants as e
use Rattle.java_expr_grammar.specs.declared.suffix.Suffix.{Suffix}
use Rattle.java_expr_grammar.specs.declared.suffix.Suffix.TheVariants as sx
use Rattle.java_tree.specs.Seen.{Tokens}
use Rattle.java_tree.specs.Trees.{level, init_level, any_level, else_level, cond_level, or_level, relation_level, unary_level, postfix_level, primary_level, top, is_test, is_sized, may_compare, is_left, is_least, depth, type_depth, is_primitive, is_class, begins_sign}

-- a value and the tokens after it
abbrev pub Read : Type 0 → Type 0
Read A = Option (A × Tokens)

abbrev pub Reader : Type 0 → Type 0
Reader A = Tokens → Read A

infixl 10 ◌>>=◌
abbrev pub ◌>>=◌ : {A B : Type 0} → Option A → (A → Option B) → Option B
(Some x) >>= f = f x
None >>= f = None

abbrev pub maybe : {A B : Type 0} → Option A → B → (A → B) → B
maybe None b f = b
maybe (Some x) b f = f x

-- ---- one token

-- the place of this mark, if it comes first
abbrev pub comma : Reader Position
comma (Token.Sign m.Comma at ∷ rest) = Some (at, rest)
comma _ = None

abbrev pub close : Reader Position
close (Token.Sign m.CloseRound at ∷ rest) = Some (at, rest)
close _ = None

abbrev pub open_round : Reader Position
open_round (Token.Sign m.OpenRound at ∷ rest) = Some (at, rest)
open_round _ = None

abbrev pub close_square : Reader Position
close_square (Token.Sign m.CloseSquare at ∷ rest) = Some (at, rest)
close_square _ = None

abbrev pub open_square : Reader Position
open_square (Token.Sign m.OpenSquare at ∷ rest) = Some (at, rest)
open_square _ = None

abbrev pub open_curly : Reader Position
open_curly (Token.Sign m.OpenCurly at ∷ rest) = Some (at, rest)
open_curly _ = None

abbrev pub dot : Reader Position
dot (Token.Sign m.Dot at ∷ rest) = Some (at, rest)
dot _ = None

abbrev pub colon : Reader Position
colon (Token.Sign m.Colon at ∷ rest) = Some (at, rest)
colon _ = None

abbrev pub arrow : Reader Position
arrow (Token.Sign m.Arrow at ∷ rest) = Some (at, rest)
arrow _ = None

abbrev pub ident : Reader JParam
ident (Token.Id n at ∷ rest) = Some (record { name = n; at = at }, rest)
ident _ = None

-- ---- lists with commas, which `between` reads. The number bounds the turns, and each turn takes a comma.

abbrev pub Listed : Type 0 → Type 0
Listed A = List A × List Position

unfoldable pub more_by : {A : Type 0} → Reader Position → Reader A → ℕ → List A → List Position → Reader (Listed A)
more_by between item zero found commas ts = Some ((found, commas), ts)
more_by between item (suc n) found commas ts =
    maybe (between ts) (Some ((found, commas), ts)) (λ c. item c.1 >>= λ x. more_by between item n (found ++ x.0 ∷ []) (commas ++ c.0 ∷ []) x.1)

-- one or more
unfoldable pub some_by : {A : Type 0} → Reader Position → Reader A → Reader (Listed A)
some_by between item ts = item ts >>= λ x. more_by between item (length x.1) (x.0 ∷ []) [] x.1

-- ---- types

abbrev pub closes_by : Mark → Position → Tokens → Read (Bool × Position)
closes_by m.Greater at rest = Some ((false, at), rest)
closes_by m.GreaterJoined at rest = Some ((true, at), rest)
closes_by _ at rest = None

abbrev pub closes : Reader (Bool × Position)
closes (Token.Sign mark at ∷ rest) = closes_by mark at rest
closes _ = None

-- the dots and names that come first
unfoldable pub dotted : Tokens → List JDotted × Tokens
dotted (Token.Sign m.Dot d ∷ Token.Id n at ∷ rest) = (record { dot = d; name = n; at = at } ∷ (dotted rest).0, (dotted rest).1)
dotted rest = ([], rest)

-- a name and those behind it
abbrev pub qualified : List ℕ → Position → Tokens → JQualified × Tokens
qualified n at rest = (record { name = n; at = at; rest = (dotted rest).0 }, (dotted rest).1)

-- the pairs of brackets that come first
unfoldable pub brackets : Tokens → List JBrackets × Tokens
brackets (Token.Sign m.OpenSquare o ∷ Token.Sign m.CloseSquare c ∷ rest) = (record { opens = o; closes = c } ∷ (brackets rest).0, (brackets rest).1)
brackets rest = ([], rest)

unfoldable pub applied : Reader JType → JQualified → Position → Reader JType
applied sub q lp ts = do
  args ← some_by comma sub ts
  end ← closes args.1
  Some (ty.Applied q lp args.0.0 args.0.1 end.0.0 end.0.1, end.1)

abbrev pub class_by : Reader JType → JQualified → Reader JType
class_by sub q (Token.Sign m.Less lp ∷ rest) = applied sub q lp rest
class_by sub q rest = Some (ty.Class q, rest)

abbrev pub primitive_by : Keyword → Option Primitive
primitive_by w.Byte = Some primitive.Byte
primitive_by w.Short = Some primitive.Short
primitive_by w.Char = Some primitive.Char
primitive_by w.Int = Some primitive.Int
primitive_by w.Long = Some primitive.Long
primitive_by w.Boolean = Some primitive.Boolean
primitive_by _ = None

abbrev pub primitive_at : Option Primitive → Position → Reader JType
primitive_at (Some p) at rest = Some (ty.Primitive p at, rest)
primitive_at None at rest = None

-- a type without the brackets of an array
unfoldable pub base_step : Reader JType → Reader JType
base_step sub (Token.Id n at ∷ rest) = class_by sub (qualified n at rest).0 (qualified n at rest).1
base_step sub (Token.Word word at ∷ rest) = primitive_at (primitive_by word) at rest
base_step sub _ = None

-- the array of the elements, where brackets came, which is no deeper than suc d
abbrev pub array_by : ℕ → JType → List JBrackets × Tokens → Read JType
array_by d element ([], rest) = Some (element, rest)
array_by d element (x ∷ xs, rest) = if nat_le (type_depth element) d then Some (ty.Array element (x ∷ xs), rest) else None

-- a type with a depth of at most the number
unfoldable pub type_read : ℕ → Reader JType
type_read zero ts = None
type_read (suc d) ts = base_step (type_read d) ts >>= λ x. array_by d x.0 (brackets x.1)

-- one that is no array
unfoldable pub base_read : ℕ → Reader JType
base_read zero ts = None
base_read (suc d) ts = base_step (type_read d) ts

-- ---- parameters with types

unfoldable pub typed_by : Reader JType → Option Position → Reader JTypedParam
typed_by types is_final ts = do
  kind ← types ts
  n ← ident kind.1
  Some (record { is_final = is_final; kind = kind.0; name = n.0.name; at = n.0.at }, n.1)

abbrev pub typed_step : Reader JType → Reader JTypedParam
typed_step types (Token.Word w.Final at ∷ rest) = typed_by types (Some at) rest
typed_step types ts = typed_by types None ts

-- a parameter with a depth of at most the number
unfoldable pub typed_read : ℕ → Reader JTypedParam
typed_read zero ts = None
typed_read (suc d) ts = typed_step (type_read d) ts

-- ---- what goes on after an operand

-- behind two `>` that stand together
abbrev pub joined_thrice : Position → Position → Position → Reader Suffix
joined_thrice at second third (Token.Sign m.Assign fourth ∷ rest) = Some (sx.Assign (assign.ShiftUnsigned second third fourth) at, rest)
joined_thrice at second third _ = None

abbrev pub joined_twice : Position → Position → Reader Suffix
joined_twice at second (Token.Sign m.Assign third ∷ rest) = Some (sx.Assign (assign.ShiftRight second third) at, rest)
joined_twice at second (Token.Sign m.Greater third ∷ rest) = Some (sx.Binary (op.ShiftUnsigned second third) at, rest)
joined_twice at second (Token.Sign m.GreaterJoined third ∷ rest) = joined_thrice at second third rest
joined_twice at second _ = None

-- behind a `>` that stands before another or before a `=`
abbrev pub joined : Position → Reader Suffix
joined at (Token.Sign m.Greater second ∷ rest) = Some (sx.Binary (op.ShiftRight second) at, rest)
joined at (Token.Sign m.Assign second ∷ rest) = Some (sx.Binary (op.GreaterEqual second) at, rest)
joined at (Token.Sign m.GreaterJoined second ∷ rest) = joined_twice at second rest
joined at _ = None

abbrev pub suffix_by : Mark → Position → Reader Suffix
suffix_by m.OrOr at rest = Some (sx.Binary op.OrElse at, rest)
suffix_by m.AndAnd at rest = Some (sx.Binary op.AndAlso at, rest)
suffix_by m.Or at rest = Some (sx.Binary op.BitOr at, rest)
suffix_by m.Hat at rest = Some (sx.Binary op.BitXor at, rest)
suffix_by m.And at rest = Some (sx.Binary op.BitAnd at, rest)
suffix_by m.Equal at rest = Some (sx.Binary op.Equal at, rest)
suffix_by m.NotEqual at rest = Some (sx.Binary op.NotEqual at, rest)
suffix_by m.Less at rest = Some (sx.Binary op.Less at, rest)
suffix_by m.LessEqual at rest = Some (sx.Binary op.LessEqual at, rest)
suffix_by m.Greater at rest = Some (sx.Binary op.Greater at, rest)
suffix_by m.ShiftLeft at rest = Some (sx.Binary op.ShiftLeft at, rest)
suffix_by m.Plus at rest = Some (sx.Binary op.Add at, rest)
suffix_by m.Minus at rest = Some (sx.Binary op.Subtract at, rest)
suffix_by m.Star at rest = Some (sx.Binary op.Multiply at, rest)
suffix_by m.Slash at rest = Some (sx.Binary op.Divide at, rest)
suffix_by m.Percent at rest = Some (sx.Binary op.Remainder at, rest)
suffix_by m.Assign at rest = Some (sx.Assign assign.Plain at, rest)
suffix_by m.PlusAssign at rest = Some (sx.Assign assign.Add at, rest)
suffix_by m.MinusAssign at rest = Some (sx.Assign assign.Subtract at, rest)
suffix_by m.StarAssign at rest = Some (sx.Assign assign.Multiply at, rest)
suffix_by m.SlashAssign at rest = Some (sx.Assign assign.Divide at, rest)
suffix_by m.PercentAssign at rest = Some (sx.Assign assign.Remainder at, rest)
suffix_by m.ShiftLeftAssign at rest = Some (sx.Assign assign.ShiftLeft at, rest)
suffix_by m.AndAssign at rest = Some (sx.Assign assign.BitAnd at, rest)
suffix_by m.OrAssign at rest = Some (sx.Assign assign.BitOr at, rest)
suffix_by m.HatAssign at rest = Some (sx.Assign assign.BitXor at, rest)
suffix_by m.PlusPlus at rest = Some (sx.Postfix postfix.Increment at, rest)
suffix_by m.MinusMinus at rest = Some (sx.Postfix postfix.Decrement at, rest)
suffix_by m.GreaterJoined at rest = joined at rest
suffix_by m.Question at rest = Some (sx.Question at, rest)
suffix_by m.Dot at rest = Some (sx.Dot at, rest)
suffix_by m.OpenSquare at rest = Some (sx.Square at, rest)
suffix_by _ at rest = None

abbrev pub suffix_word : Keyword → Position → Reader Suffix
suffix_word w.Instanceof at rest = Some (sx.Instanceof at, rest)
suffix_word _ at rest = None

unfoldable pub suffix : Reader Suffix
suffix (Token.Sign mark at ∷ rest) = suffix_by mark at rest
suffix (Token.Word word at ∷ rest) = suffix_word word at rest
suffix _ = None

-- the level of the form that it makes
abbrev pub strength : Suffix → ℕ
strength (sx.Binary op at) = level op
strength (sx.Assign op at) = any_level
strength (sx.Question at) = cond_level
strength (sx.Dot at) = primary_level
strength (sx.Square at) = primary_level
strength (sx.Postfix op at) = postfix_level
strength (sx.Instanceof at) = relation_level

-- whether it may stand after the operand
abbrev pub takes : Suffix → JExpr → Bool
takes (sx.Binary op at) left = nat_le (level op) (top left) && may_compare op (is_test left)
takes (sx.Assign op at) left = is_left left
takes (sx.Question at) left = nat_le or_level (top left)
takes (sx.Dot at) left = nat_le primary_level (top left)
takes (sx.Square at) left = nat_le primary_level (top left) && not (is_sized left)
takes (sx.Postfix op at) left = nat_le postfix_level (top left)
takes (sx.Instanceof at) left = nat_le relation_level (top left)

abbrev pub prefix_by : Mark → Option PrefixOp
prefix_by m.Plus = Some prefix.Plus
prefix_by m.Minus = Some prefix.Minus
prefix_by m.PlusPlus = Some prefix.Increment
prefix_by m.MinusMinus = Some prefix.Decrement
prefix_by m.Tilde = Some prefix.Complement
prefix_by m.Not = Some prefix.Not
prefix_by _ = None

-- ---- what stands in parentheses

-- what follows the bracket that closes the n-th lp one
unfoldable pub after_close : ℕ → Tokens → Tokens
after_close n [] = []
after_close n (Token.Sign m.OpenRound at ∷ rest) = after_close (suc n) rest
after_close zero (Token.Sign m.CloseRound at ∷ rest) = rest
after_close (suc n) (Token.Sign m.CloseRound at ∷ rest) = after_close n rest
after_close zero (Token.CloseBody at body ∷ rest) = rest
after_close (suc n) (Token.CloseBody at body ∷ rest) = after_close n rest
after_close n (x ∷ rest) = after_close n rest

abbrev pub is_some : {A : Type 0} → Option A → Bool
is_some (Some x) = true
is_some None = false

abbrev pub begins_primitive : Tokens → Bool
begins_primitive (Token.Word word at ∷ rest) = is_some (primitive_by word)
begins_primitive _ = false

-- whether what a cast to a class may stand before comes first
abbrev pub operand_mark : Mark → Bool
operand_mark m.OpenRound = true
operand_mark m.Not = true
operand_mark m.Tilde = true
operand_mark _ = false

abbrev pub operand_word : Keyword → Bool
operand_word w.This = true
operand_word w.Super = true
operand_word w.New = true
operand_word _ = false

abbrev pub begins_operand : Tokens → Bool
begins_operand (Token.Id n at ∷ rest) = true
begins_operand (Token.Literal literal at ∷ rest) = true
begins_operand (Token.Sign mark at ∷ rest) = operand_mark mark
begins_operand (Token.Word word at ∷ rest) = operand_word word
begins_operand _ = false

abbrev pub begins_arrow : Tokens → Bool
begins_arrow (Token.Sign m.Arrow at ∷ rest) = true
begins_arrow (Token.ArrowBody at body ∷ rest) = true
begins_arrow _ = false

-- whether the tokens after a `(` begin a cast
abbrev pub is_cast : Tokens → Bool
is_cast ts = begins_primitive ts || begins_operand (after_close 0 ts)

-- whether a name with a comma or a `)` behind it comes first
abbrev pub ends_name : Mark → Bool
ends_name m.Comma = true
ends_name m.CloseRound = true
ends_name _ = false

abbrev pub begins_names : Tokens → Bool
begins_names (Token.Id n at ∷ Token.Sign mark p ∷ rest) = ends_name mark
begins_names _ = false

-- ---- what is created, and the values in braces

abbrev pub begins_inferred_by : Tokens → Bool
begins_inferred_by (Token.Sign m.Less lp ∷ rest) = is_some (closes rest)
begins_inferred_by _ = false

-- whether a name with `<` and `>` behind it comes first
abbrev pub begins_inferred : Tokens → Bool
begins_inferred (Token.Id n at ∷ rest) = begins_inferred_by (dotted rest).1
begins_inferred _ = false

abbrev pub inferred_by : JQualified → Reader JCreated
inferred_by q (Token.Sign m.Less lp ∷ rest) = closes rest >>= λ c. Some (created.Inferred q lp c.0.0 c.0.1, c.1)
inferred_by q _ = None

abbrev pub inferred : Reader JCreated
inferred (Token.Id n at ∷ rest) = inferred_by (qualified n at rest).0 (qualified n at rest).1
inferred _ = None

-- the `)` behind arguments, and the body of an anonymous class where one stands behind it
abbrev pub args_end : Reader (Position × Option Span)
args_end (Token.Sign m.CloseRound at ∷ rest) = Some ((at, None), rest)
args_end (Token.CloseBody at body ∷ rest) = Some ((at, Some body), rest)
args_end _ = None

-- a comma with no `}` behind it
abbrev pub inner_comma : Reader Position
inner_comma (Token.Sign m.Comma at ∷ Token.Sign m.CloseCurly rc ∷ rest) = None
inner_comma (Token.Sign m.Comma at ∷ rest) = Some (at, rest)
inner_comma _ = None

-- the `}` behind values, and the comma before it where one stands
abbrev pub braces_end : Reader (Option Position × Position)
braces_end (Token.Sign m.Comma at ∷ Token.Sign m.CloseCurly rc ∷ rest) = Some ((Some at, rc), rest)
braces_end (Token.Sign m.CloseCurly rc ∷ rest) = Some ((None, rc), rest)
braces_end _ = None

-- ---- expressions. `types` reads types, `base` those that are no arrays, `typed` parameters, and `sub` parts, at a level.

module _ (types base : Reader JType) (typed : Reader JTypedParam) (sub : ℕ → Reader JExpr) where
  unfoldable pub cast_of : Position → JType → Position → Reader JExpr
  cast_of lp to rp ts = sub unary_level ts >>= λ x. Some (e.Cast lp to rp x.0, x.1)

  unfoldable pub cast : Position → Reader JExpr
  cast lp ts = do
    to ← types ts
    rp ← close to.1
    if is_primitive to.0 || not (begins_sign rp.1) then cast_of lp to.0 rp.0 rp.1 else None

  unfoldable pub paren : Position → Reader JExpr
  paren lp ts = do
    inner ← sub any_level ts
    rp ← close inner.1
    Some (e.Paren lp inner.0 rp.0, rp.1)

  unfoldable pub lambda_body : JParams → Reader JExpr
  lambda_body params ts = do
    at ← arrow ts
    body ← sub any_level at.1
    Some (e.Lambda params at.0 body.0, body.1)

  -- behind the parameters
  unfoldable pub lambda : JParams → Reader JExpr
  lambda params (Token.ArrowBody at body ∷ rest) = Some (e.LambdaBlock params at body, rest)
  lambda params ts = lambda_body params ts

  unfoldable pub lambda_names : Position → Reader JExpr
  lambda_names lp ts = do
    ps ← some_by comma ident ts
    rp ← close ps.1
    lambda (params.Several lp ps.0.0 ps.0.1 rp.0) rp.1

  unfoldable pub typed_from : Reader (Listed JTypedParam)
  typed_from ts = maybe (close ts) (some_by comma typed ts) (λ c. Some (([], []), ts))

  unfoldable pub lambda_typed : Position → Reader JExpr
  lambda_typed lp ts = do
    ps ← typed_from ts
    rp ← close ps.1
    lambda (params.Typed lp ps.0.0 ps.0.1 rp.0) rp.1

  unfoldable pub lambda_of : Position → Reader JExpr
  lambda_of lp ts = if begins_names ts then lambda_names lp ts else lambda_typed lp ts

  -- behind a `(`
  unfoldable pub group : Position → Reader JExpr
  group lp ts = if begins_arrow (after_close 0 ts) then lambda_of lp ts else (if is_cast ts then cast lp ts else paren lp ts)

  unfoldable pub args_from : Reader (Listed JExpr)
  args_from ts = maybe (args_end ts) (some_by comma (sub any_level) ts) (λ c. Some (([], []), ts))

  unfoldable pub call : List ℕ → Position → Position → Reader JExpr
  call n at lp ts = do
    args ← args_from ts
    rp ← close args.1
    Some (e.Call n at lp args.0.0 args.0.1 rp.0, rp.1)

  unfoldable pub super_args : Position → Position → JParam → Position → Reader JExpr
  super_args above dot n lp ts = do
    args ← args_from ts
    rp ← close args.1
    Some (e.SuperCall above dot n.name n.at lp args.0.0 args.0.1 rp.0, rp.1)

  unfoldable pub super_call : Position → Reader JExpr
  super_call above ts = do
    d ← dot ts
    n ← ident d.1
    lp ← open_round n.1
    super_args above d.0 n.0 lp.0 lp.1

  unfoldable pub new_args : Position → JCreated → Position → Reader JExpr
  new_args at made lp ts = do
    args ← args_from ts
    end ← args_end args.1
    Some (e.New at made lp args.0.0 args.0.1 end.0.0 end.0.1, end.1)

  unfoldable pub new_inferred : Position → Reader JExpr
  new_inferred at ts = do
    made ← inferred ts
    lp ← open_round made.1
    new_args at made.0 lp.0 lp.1

  unfoldable pub new_sized : Position → JType → Position → Reader JExpr
  new_sized at of lb ts = do
    size ← sub any_level ts
    rb ← close_square size.1
    Some (e.NewArray at of lb size.0 rb.0 (brackets rb.1).0, (brackets rb.1).1)

  unfoldable pub inits : Reader (Listed JExpr)
  inits ts = maybe (braces_end ts) (some_by inner_comma (sub init_level) ts) (λ c. Some (([], []), ts))

  unfoldable pub new_filled : Position → JType → List JBrackets → Reader JExpr
  new_filled at of pairs ts = do
    lc ← open_curly ts
    values ← inits lc.1
    end ← braces_end values.1
    Some (e.NewFilled at of pairs lc.0 values.0.0 values.0.1 end.0.0 end.0.1, end.1)

  abbrev pub new_array : Position → JType → Position → Reader JExpr
  new_array at of lb (Token.Sign m.CloseSquare rb ∷ rest) = new_filled at of (record { opens = lb; closes = rb } ∷ (brackets rest).0) (brackets rest).1
  new_array at of lb rest = new_sized at of lb rest

  -- behind the type
  abbrev pub new_of : Position → JType → Reader JExpr
  new_of at of (Token.Sign m.OpenRound lp ∷ rest) = if is_class of then new_args at (created.Type of) lp rest else None
  new_of at of (Token.Sign m.OpenSquare lb ∷ rest) = new_array at of lb rest
  new_of at of _ = None

  unfoldable pub creation : Position → Reader JExpr
  creation at ts = if begins_inferred ts then new_inferred at ts else (base ts >>= λ x. new_of at x.0 x.1)

  unfoldable pub braces : Position → Reader JExpr
  braces lc ts = do
    values ← inits ts
    end ← braces_end values.1
    Some (e.Braces lc values.0.0 values.0.1 end.0.0 end.0.1, end.1)

  abbrev pub worded : Keyword → Position → Reader JExpr
  worded w.This at rest = Some (e.This at, rest)
  worded w.Super at rest = super_call at rest
  worded w.New at rest = creation at rest
  worded _ at rest = None

  unfoldable pub named : List ℕ → Position → Reader JExpr
  named n at (Token.Sign m.OpenRound lp ∷ rest) = call n at lp rest
  named n at (Token.Sign m.Arrow arrow ∷ rest) = lambda (params.One (record { name = n; at = at })) (Token.Sign m.Arrow arrow ∷ rest)
  named n at (Token.ArrowBody arrow body ∷ rest) = lambda (params.One (record { name = n; at = at })) (Token.ArrowBody arrow body ∷ rest)
  named n at rest = Some (e.Name n at, rest)

  unfoldable pub prefixed : Option PrefixOp → Position → Reader JExpr
  prefixed None at ts = None
  prefixed (Some op) at ts = sub unary_level ts >>= λ x. Some (e.Prefix op at x.0, x.1)

  abbrev pub minus : Position → Reader JExpr
  minus at (Token.Literal literal p ∷ rest) =
      if is_least literal then Some (e.MinusLeast at literal p, rest) else prefixed (Some prefix.Minus) at (Token.Literal literal p ∷ rest)
  minus at ts = prefixed (Some prefix.Minus) at ts

  abbrev pub marked : Mark → Position → Reader JExpr
  marked m.OpenRound at ts = group at ts
  marked m.OpenCurly at ts = braces at ts
  marked m.Minus at ts = minus at ts
  marked mark at ts = prefixed (prefix_by mark) at ts

  -- what no suffix makes
  unfoldable pub operand : Reader JExpr
  operand (Token.Id n at ∷ rest) = named n at rest
  operand (Token.Literal literal at ∷ rest) = if is_least literal then None else Some (e.Literal literal at, rest)
  operand (Token.Word word at ∷ rest) = worded word at rest
  operand (Token.Sign mark at ∷ rest) = marked mark at rest
  operand _ = None

  unfoldable pub choice : JExpr → Position → Reader JExpr
  choice left question ts = do
    then_ ← sub any_level ts
    at ← colon then_.1
    else_ ← sub else_level at.1
    Some (e.Conditional left question then_.0 at.0 else_.0, else_.1)

  unfoldable pub method : JExpr → Position → JParam → Position → Reader JExpr
  method left dot n lp ts = do
    args ← args_from ts
    rp ← close args.1
    Some (e.Method left dot n.name n.at lp args.0.0 args.0.1 rp.0, rp.1)

  -- behind a dot and a name
  unfoldable pub member : JExpr → Position → JParam → Reader JExpr
  member left dot n (Token.Sign m.OpenRound lp ∷ rest) = method left dot n lp rest
  member left dot n rest = Some (e.Field left dot n.name n.at, rest)

  unfoldable pub element : JExpr → Position → Reader JExpr
  element left lp ts = do
    index ← sub any_level ts
    rp ← close_square index.1
    Some (e.Element left lp index.0 rp.0, rp.1)

  -- the rest of the form that a suffix makes
  unfoldable pub finish : Suffix → JExpr → Reader JExpr
  finish (sx.Binary op at) left ts = sub ((level op + 1)) ts >>= λ x. Some (e.Binary left op at x.0, x.1)
  finish (sx.Assign op at) left ts = sub any_level ts >>= λ x. Some (e.Assign left op at x.0, x.1)
  finish (sx.Question at) left ts = choice left at ts
  finish (sx.Dot at) left ts = ident ts >>= λ x. member left at x.0 x.1
  finish (sx.Square at) left ts = element left at ts
  finish (sx.Postfix op at) left ts = Some (e.Postfix left op at, ts)
  finish (sx.Instanceof at) left ts = types ts >>= λ x. Some (e.Instanceof left at x.0, x.1)

  -- the suffix, where it makes a form of the level `least` or above that is no deeper than suc d, and what follows
  unfoldable pub grown : ℕ → ℕ → JExpr → Tokens → Suffix × Tokens → (JExpr × Tokens → Read JExpr) → Read JExpr
  grown d least left ts s go =
      if nat_lt (strength s.0) least then Some (left, ts)
      else (if takes s.0 left && nat_le (depth left) d then finish s.0 left s.1 >>= go else None)

  -- `left` and the suffixes after it of the level `least` and above, with a depth of at most suc d
  unfoldable pub climb : ℕ → ℕ → ℕ → JExpr → Reader JExpr
  climb d least zero left ts = Some (left, ts)
  climb d least (suc n) left ts = maybe (suffix ts) (Some (left, ts)) (λ s. grown d least left ts s (λ x. climb d least n x.0 x.1))

  unfoldable pub level_read : ℕ → ℕ → Reader JExpr
  level_read d least ts = operand ts >>= λ x. (if nat_le least (top x.0) && nat_le (depth x.0) (d + 1) then climb d least (d + 1) x.0 x.1 else None)

-- an expression that stands at the level, with a depth of at most the first number
unfoldable pub read : ℕ → ℕ → Reader JExpr
read zero least ts = None
read (suc d) least ts = level_read (type_read d) (base_read (suc d)) (typed_read d) (read d) d least ts

abbrev pub whole : {A : Type 0} → Read A → Option A
whole None = None
whole (Some (x, [])) = Some x
whole (Some (x, _)) = None
