-- What an expression's tree says at once: its first token and its type.
use Rattle.std.specs.Prelude.{◌≡◌, ℕ, true, false, [], Some, codes}
use Rattle.std.specs.Option.{option_map}
use Rattle.java_tree.specs.declared.tokens.Position.{Position}
use Rattle.j2k_base.specs.declared.constants.Kind.{Kind}
use Rattle.j2k_base.specs.declared.constants.Kind.TheVariants.{Byte, Short, Char, Int, Long}
use Rattle.j2k_base.specs.declared.constants.Const.{Const}
use Rattle.j2k_base.specs.declared.constants.Const.TheVariants as const
use Rattle.j2k_base.specs.declared.constants.Value.{Value}
use Rattle.j2k_base.specs.declared.constants.Value.TheVariants as value
use Rattle.j2k_base.specs.declared.constants.Op2.{Op2}
use Rattle.j2k_base.specs.declared.constants.Op2.TheVariants as op
use Rattle.java_lib.specs.Library.{classes}
use Rattle.java_lib.specs.Classes.{class_simple}
use Rattle.java_typed.specs.declared.types.ClassRef.TheVariants.{Library}
use Rattle.java_typed.specs.declared.types.TType.{TType}
use Rattle.java_typed.specs.declared.types.TType.TheVariants as t
use Rattle.java_typed.specs.declared.types.TResult.{TResult}
use Rattle.java_typed.specs.declared.types.TResult.TheVariants as result
use Rattle.java_typed.specs.declared.types.TypeView.{TypeView}
use Rattle.java_typed.specs.declared.types.TypeView.TheVariants as view
use Rattle.java_typed.specs.declared.types.ResultView.{ResultView}
use Rattle.java_typed.specs.declared.types.ResultView.TheVariants as seen
use Rattle.java_typed.specs.declared.exprs.UnaryOp.{UnaryOp}
use Rattle.java_typed.specs.declared.exprs.UnaryOp.TheVariants as unary
use Rattle.java_typed.specs.declared.exprs.Conversion.{Conversion}
use Rattle.java_typed.specs.declared.exprs.Conversion.TheVariants as to
use Rattle.java_typed.specs.declared.exprs.TExpr.{TExpr, fold-TExpr}
use Rattle.java_typed.specs.declared.exprs.TExpr.TheOpen.{TExpr-F}

-- ---- the first token

abbrev pub first_by : TExpr-F Position → Position
first_by (TExpr-F.Literal v at) = at
first_by (TExpr-F.Null at) = at
first_by (TExpr-F.Constant v first) = first
first_by (TExpr-F.This at is_written kind) = at
first_by (TExpr-F.Paren at inner) = at
first_by (TExpr-F.Local name at kind) = at
first_by (TExpr-F.Static first member at kind) = first
first_by (TExpr-F.Field first member at kind) = first
first_by (TExpr-F.Length first at) = first
first_by (TExpr-F.Element first index kind) = first
first_by (TExpr-F.StaticCall first member at arguments kind) = first
first_by (TExpr-F.VirtualCall first member at arguments kind) = first
first_by (TExpr-F.ExactCall first is_super member at arguments kind) = first
first_by (TExpr-F.Through first member) = first
first_by (TExpr-F.Step true o at target kind) = at
first_by (TExpr-F.Step false o at target kind) = target
first_by (TExpr-F.Unary o at inner) = at
first_by (TExpr-F.Binary first o at right) = first
first_by (TExpr-F.Concat first at right) = first
first_by (TExpr-F.Same first is_equal at right) = first
first_by (TExpr-F.Instanceof first at kind) = first
first_by (TExpr-F.Cast at kind inner) = at
first_by (TExpr-F.Convert c first) = first
first_by (TExpr-F.Conditional first one other kind) = first
first_by (TExpr-F.Assign first at v) = first
first_by (TExpr-F.Compound first o kind at v) = first
first_by (TExpr-F.Append first at v) = first
first_by (TExpr-F.Lambda lambda inner) = lambda.at
first_by (TExpr-F.LambdaBlock lambda number) = lambda.at
first_by (TExpr-F.New at kind member arguments body) = at
first_by (TExpr-F.NewArray at kind size) = at
first_by (TExpr-F.NewFilled at kind elements) = at

unfoldable pub first_at : TExpr → Position
first_at = fold-TExpr Position first_by

-- ---- the type

-- a class of the library without type parameters, by its number
abbrev pub library : ℕ → TType
library number = t.Class (Library number) []

-- String is a class of the library (JLS 4.3.3)
abbrev pub string_type : TType
string_type = library 1

-- the class of a box (JLS 5.1.7)
abbrev pub box_number : Kind → ℕ
box_number Int = 3
box_number Long = 4
box_number Short = 5
box_number Byte = 6
box_number Char = 7

abbrev pub boolean_box : ℕ
boolean_box = 8

-- these are the places of the classes of these names in the library
pub record AreNumbered : Type 0 where
  pub string : option_map (λ class. class.number) (class_simple (codes "String") classes) ≡ Some 1
  pub int : option_map (λ class. class.number) (class_simple (codes "Integer") classes) ≡ Some (box_number Int)
  pub long : option_map (λ class. class.number) (class_simple (codes "Long") classes) ≡ Some (box_number Long)
  pub short : option_map (λ class. class.number) (class_simple (codes "Short") classes) ≡ Some (box_number Short)
  pub byte : option_map (λ class. class.number) (class_simple (codes "Byte") classes) ≡ Some (box_number Byte)
  pub char : option_map (λ class. class.number) (class_simple (codes "Character") classes) ≡ Some (box_number Char)
  pub boolean : option_map (λ class. class.number) (class_simple (codes "Boolean") classes) ≡ Some boolean_box

-- the type of a literal (JLS 3.10)
abbrev pub const_type : Const → TType
const_type (const.Byte n) = t.Number Byte
const_type (const.Short n) = t.Number Short
const_type (const.Char n) = t.Number Char
const_type (const.Int n) = t.Number Int
const_type (const.Long n) = t.Number Long
const_type (const.Bool b) = t.Boolean

abbrev pub value_type : Value → TType
value_type (value.Number c) = const_type c
value_type (value.Text units) = string_type

-- what a conversion gives (JLS 5.1)
abbrev pub converted : Conversion → TType
converted (to.Number from kind) = t.Number kind
converted (to.Box kind) = library (box_number kind)
converted (to.Unbox kind) = t.Number kind
converted to.BoxBoolean = library boolean_box
converted to.UnboxBoolean = t.Boolean

-- `!` gives a truth value, the others what the operand is (JLS 15.15)
abbrev pub unary_type : UnaryOp → TResult → TResult
unary_type unary.Plus kind = kind
unary_type unary.Minus kind = kind
unary_type unary.Complement kind = kind
unary_type unary.Not kind = result.Value t.Boolean

-- a comparison, `&&` and `||` give a truth value, the others what the left operand is (JLS 15.17 to 15.24)
abbrev pub binary_type : Op2 → TResult → TResult
binary_type op.Lt kind = result.Value t.Boolean
binary_type op.Le kind = result.Value t.Boolean
binary_type op.Gt kind = result.Value t.Boolean
binary_type op.Ge kind = result.Value t.Boolean
binary_type op.Eq kind = result.Value t.Boolean
binary_type op.Ne kind = result.Value t.Boolean
binary_type op.AndAlso kind = result.Value t.Boolean
binary_type op.OrElse kind = result.Value t.Boolean
binary_type op.Add kind = kind
binary_type op.Sub kind = kind
binary_type op.Mul kind = kind
binary_type op.Div kind = kind
binary_type op.Rem kind = kind
binary_type op.Shl kind = kind
binary_type op.Shr kind = kind
binary_type op.Ushr kind = kind
binary_type op.And kind = kind
binary_type op.Or kind = kind
binary_type op.Xor kind = kind

abbrev pub type_by : TExpr-F TResult → TResult
type_by (TExpr-F.Literal v at) = result.Value (value_type v)
type_by (TExpr-F.Null at) = result.Value t.Null
type_by (TExpr-F.Constant v kind) = kind
type_by (TExpr-F.This at is_written kind) = result.Value kind
type_by (TExpr-F.Paren at kind) = kind
type_by (TExpr-F.Local name at kind) = result.Value kind
type_by (TExpr-F.Static first member at kind) = result.Value kind
type_by (TExpr-F.Field object member at kind) = result.Value kind
type_by (TExpr-F.Length array at) = result.Value (t.Number Int)
type_by (TExpr-F.Element array index kind) = result.Value kind
type_by (TExpr-F.StaticCall first member at arguments kind) = kind
type_by (TExpr-F.VirtualCall object member at arguments kind) = kind
type_by (TExpr-F.ExactCall object is_super member at arguments kind) = kind
type_by (TExpr-F.Through object kind) = kind
type_by (TExpr-F.Step is_prefix o at target kind) = target
type_by (TExpr-F.Unary o at kind) = unary_type o kind
type_by (TExpr-F.Binary left o at right) = binary_type o left
type_by (TExpr-F.Concat left at right) = result.Value string_type
type_by (TExpr-F.Same left is_equal at right) = result.Value t.Boolean
type_by (TExpr-F.Instanceof inner at kind) = result.Value t.Boolean
type_by (TExpr-F.Cast at kind inner) = result.Value kind.kind
type_by (TExpr-F.Convert c inner) = result.Value (converted c)
type_by (TExpr-F.Conditional test one other kind) = result.Value kind
type_by (TExpr-F.Assign target at v) = target
type_by (TExpr-F.Compound target o kind at v) = target
type_by (TExpr-F.Append target at v) = target
type_by (TExpr-F.Lambda lambda inner) = result.Value lambda.face
type_by (TExpr-F.LambdaBlock lambda number) = result.Value lambda.face
type_by (TExpr-F.New at kind member arguments body) = result.Value kind.kind
type_by (TExpr-F.NewArray at kind size) = result.Value kind.kind
type_by (TExpr-F.NewFilled at kind elements) = result.Value kind.kind

-- the type of an expression; a call of a void method has none (JLS 15.12.3)
unfoldable pub type_of : TExpr → TResult
type_of = fold-TExpr TResult type_by

-- ---- what a view shows

abbrev pub shown : TypeView → TType
shown (view.Number kind) = t.Number kind
shown view.Boolean = t.Boolean
shown view.Null = t.Null
shown (view.Class class arguments) = t.Class class arguments.now
shown (view.Variable class place) = t.Variable class place
shown (view.Array element) = t.Array element.now

abbrev pub result_shown : ResultView → TResult
result_shown seen.Void = result.Void
result_shown (seen.Value kind) = result.Value (shown kind)
