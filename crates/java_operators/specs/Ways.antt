-- How an operator works on operands of its types: none where it doesn't take them (JLS 15.15 to 15.24, 15.26.2).
use Rattle.std.specs.Prelude.{Bool, true, false, not, ◌&&◌, ◌||◌, if◌then◌else◌, Option, Some, None, is_some}
use Rattle.j2k_base.specs.declared.constants.Kind.{Kind}
use Rattle.j2k_base.specs.declared.constants.Op2.{Op2}
use Rattle.j2k_base.specs.declared.constants.Op2.TheVariants as op
use Rattle.java_typed.specs.declared.types.TType.{TType}
use Rattle.java_typed.specs.declared.types.TType.TheVariants as t
use Rattle.java_typed.specs.declared.exprs.UnaryOp.{UnaryOp}
use Rattle.java_typed.specs.declared.exprs.UnaryOp.TheVariants as unaries
use Rattle.java_typed.specs.Reading.{string_type}
use Rattle.java_type_relations.specs.declared.heads.Heads.{Heads}
use Rattle.java_type_relations.specs.declared.kinds.Simple.{Simple}
use Rattle.java_type_relations.specs.declared.kinds.Simple.TheVariants as simple
use Rattle.java_type_relations.specs.Kinds.{promoted, promoted_both, simple_in, simple_of}
use Rattle.java_type_relations.specs.Types.{same}
use Rattle.java_type_relations.specs.Casts.{is_castable}
use Rattle.java_operators.specs.declared.ways.Way.{Way}
use Rattle.java_operators.specs.declared.ways.Way.TheVariants as way

-- ---- what operands are

abbrev pub is_truth_by : Option Simple → Bool
is_truth_by (Some simple.Boolean) = true
is_truth_by p = false

-- a truth value, or the box of one
abbrev pub is_truth : TType → Bool
is_truth a = is_truth_by (simple_in a)

abbrev pub is_reference : TType → Bool
is_reference a = not (is_some (simple_of a))

abbrev pub is_string : TType → Bool
is_string a = same a string_type

-- ---- before an operand (JLS 15.15.3 to 15.15.6)

abbrev pub signed : Option Kind → Option Simple
signed None = None
signed (Some k) = Some (simple.Number k)

-- the type in which the operator works, and of its result: the promoted one (JLS 5.6.1), or that of truth values
abbrev pub unary : UnaryOp → TType → Option Simple
unary unaries.Plus a = signed (promoted a)
unary unaries.Minus a = signed (promoted a)
unary unaries.Complement a = signed (promoted a)
unary unaries.Not a = if is_truth a then Some simple.Boolean else None

-- ---- between two operands

abbrev pub worked_in : (Kind → Way) → Option Kind → Option Way
worked_in f None = None
worked_in f (Some k) = Some (f k)

-- numbers, promoted together (JLS 15.17, 15.18.2, 15.22.1)
abbrev pub arithmetic : TType → TType → Option Way
arithmetic a b = worked_in way.Arithmetic (promoted_both a b)

-- numbers, promoted together (JLS 15.20.1, 15.21.1)
abbrev pub comparison : TType → TType → Option Way
comparison a b = worked_in way.Comparison (promoted_both a b)

abbrev pub shift_by : Option Kind → Option Kind → Option Way
shift_by (Some k) (Some l) = Some (way.Shift k l)
shift_by k l = None

-- numbers, each promoted alone (JLS 15.19)
abbrev pub shift : TType → TType → Option Way
shift a b = shift_by (promoted a) (promoted b)

-- truth values (JLS 15.21.2, 15.22.2, 15.23, 15.24)
abbrev pub logical : TType → TType → Option Way
logical a b = if is_truth a && is_truth b then Some way.Logical else None

-- `+`: a String where one operand is one, else numbers (JLS 15.18)
abbrev pub sum : TType → TType → Option Way
sum a b = if is_string a || is_string b then Some way.Concat else arithmetic a b

abbrev pub or_way : Option Way → Option Way → Option Way
or_way (Some w) other = Some w
or_way None other = other

-- `&`, `^` and `|`: numbers or truth values (JLS 15.22)
abbrev pub bitwise : TType → TType → Option Way
bitwise a b = or_way (arithmetic a b) (logical a b)

-- `==` and `!=`: numbers or truth values (JLS 15.21.1, 15.21.2)
abbrev pub simple_equality : TType → TType → Option Way
simple_equality a b = or_way (comparison a b) (logical a b)

-- one could be cast to the type of the other (JLS 15.21.3)
abbrev pub are_comparable : Heads → TType → TType → Bool
are_comparable heads a b = is_castable heads a b || is_castable heads b a

abbrev pub same_way : Heads → TType → TType → Option Way
same_way heads a b = if are_comparable heads a b then Some way.Same else None

-- `==` and `!=`: two references are compared as such, and else one operand is of a primitive type (JLS 15.21)
abbrev pub equality : Heads → TType → TType → Option Way
equality heads a b = if is_reference a && is_reference b then same_way heads a b else simple_equality a b

abbrev pub binary : Heads → Op2 → TType → TType → Option Way
binary heads op.Add a b = sum a b
binary heads op.Sub a b = arithmetic a b
binary heads op.Mul a b = arithmetic a b
binary heads op.Div a b = arithmetic a b
binary heads op.Rem a b = arithmetic a b
binary heads op.Shl a b = shift a b
binary heads op.Shr a b = shift a b
binary heads op.Ushr a b = shift a b
binary heads op.And a b = bitwise a b
binary heads op.Or a b = bitwise a b
binary heads op.Xor a b = bitwise a b
binary heads op.Lt a b = comparison a b
binary heads op.Le a b = comparison a b
binary heads op.Gt a b = comparison a b
binary heads op.Ge a b = comparison a b
binary heads op.Eq a b = equality heads a b
binary heads op.Ne a b = equality heads a b
binary heads op.AndAlso a b = logical a b
binary heads op.OrElse a b = logical a b

-- the type of what an operator gives
abbrev pub way_type : Way → TType
way_type (way.Arithmetic k) = t.Number k
way_type (way.Shift k l) = t.Number k
way_type (way.Comparison k) = t.Boolean
way_type way.Logical = t.Boolean
way_type way.Concat = string_type
way_type way.Same = t.Boolean

-- ---- compound assignments (JLS 15.26.2)

-- the operators that have one
abbrev pub is_compounding : Op2 → Bool
is_compounding op.Lt = false
is_compounding op.Le = false
is_compounding op.Gt = false
is_compounding op.Ge = false
is_compounding op.Eq = false
is_compounding op.Ne = false
is_compounding op.AndAlso = false
is_compounding op.OrElse = false
is_compounding o = true

abbrev pub cast_back : Heads → Option Way → TType → Option Way
cast_back heads None a = None
cast_back heads (Some w) a = if is_castable heads (way_type w) a then Some w else None

-- `a op= b` is `a = (A) (a op b)`, A being the type of a
abbrev pub compound : Heads → Op2 → TType → TType → Option Way
compound heads o a b = if is_compounding o then cast_back heads (binary heads o a b) a else None

-- ---- `instanceof` (JLS 15.20.2)

abbrev pub is_instance_test : Heads → TType → TType → Bool
is_instance_test heads a b = if is_reference a && is_reference b then is_castable heads a b else false
