-- Types, values and members, as far as the facts ask.
use Rattle.std.specs.Prelude.{ℕ, ℤ, pos, negsuc, Bool, true, false, not, ◌&&◌, ◌||◌, ◌==◌, nat_lt, bytes_eq, List, Option, Some, None, slice_get, codes}
use Rattle.j2k_base.specs.declared.constants.Const.{Const}
use Rattle.j2k_base.specs.declared.constants.Const.TheVariants as const
use Rattle.j2k_base.specs.declared.constants.Value.{Value}
use Rattle.j2k_base.specs.declared.constants.Value.TheVariants as value
use Rattle.java_lib.specs.Library.{Member, members}
use Rattle.java_typed.specs.declared.types.ClassRef.{ClassRef}
use Rattle.java_typed.specs.declared.types.ClassRef.TheVariants as class
use Rattle.java_typed.specs.declared.types.TType.{TType, out-TType}
use Rattle.java_typed.specs.declared.types.TType.TheOpen.{TType-F}
use Rattle.java_typed.specs.declared.types.TResult.{TResult}
use Rattle.java_typed.specs.declared.types.TResult.TheVariants as result
use Rattle.java_typed.specs.declared.members.MemberRef.{MemberRef}
use Rattle.java_typed.specs.declared.exprs.Conversion.{Conversion}
use Rattle.java_typed.specs.declared.exprs.Conversion.TheVariants as to

-- ---- 0, false and '\0', what a variable of a primitive type has when nothing was stored (JLS 4.12.5)

abbrev pub int_is_zero : ℤ → Bool
int_is_zero (pos n) = n == 0
int_is_zero (negsuc n) = false

abbrev pub const_is_zero : Const → Bool
const_is_zero (const.Byte n) = int_is_zero n
const_is_zero (const.Short n) = int_is_zero n
const_is_zero (const.Char n) = n == 0
const_is_zero (const.Int n) = int_is_zero n
const_is_zero (const.Long n) = int_is_zero n
const_is_zero (const.Bool b) = not b

abbrev pub value_is_zero : Value → Bool
value_is_zero (value.Number c) = const_is_zero c
value_is_zero (value.Text units) = false

-- a conversion that leaves a constant one of the same value, and 0 what it is (JLS 5.1.2, 5.1.3, 5.1.7)
abbrev pub keeps_zero : Conversion → Bool
keeps_zero (to.Number from kind) = true
keeps_zero (to.Box kind) = true
keeps_zero (to.Unbox kind) = false
keeps_zero to.BoxBoolean = true
keeps_zero to.UnboxBoolean = false

-- ---- classes of the library

abbrev pub is_string_class : ClassRef → Bool
is_string_class (class.Library n) = n == 1
is_string_class (class.Project n) = false

-- Integer, Long, Short, Byte, Character, Boolean (JLS 5.1.7)
abbrev pub is_box_class : ClassRef → Bool
is_box_class (class.Library n) = nat_lt 2 n && nat_lt n 9
is_box_class (class.Project n) = false

abbrev pub is_project : ClassRef → Bool
is_project (class.Library n) = false
is_project (class.Project n) = true

-- ---- types

pub data Sort : Type 0 where
  Primitive : Sort
  Boxed : Sort
  Text : Sort
  NullType : Sort
  Other : Sort

abbrev pub class_sort : ClassRef → Sort
class_sort (class.Library n) = if_box (nat_lt 2 n && nat_lt n 9) (n == 1)
  where
    if_box : Bool → Bool → Sort
    if_box true is_string = Boxed
    if_box false true = Text
    if_box false false = Other
class_sort (class.Project n) = Other

abbrev pub sort_by : TType-F TType → Sort
sort_by (TType-F.Number kind) = Primitive
sort_by TType-F.Boolean = Primitive
sort_by TType-F.Null = NullType
sort_by (TType-F.Class c arguments) = class_sort c
sort_by (TType-F.Variable c place) = Other
sort_by (TType-F.Array element) = Other

abbrev pub sort_of : TType → Sort
sort_of t = sort_by (out-TType t)

abbrev pub result_sort : TResult → Sort
result_sort result.Void = Other
result_sort (result.Value t) = sort_of t

abbrev pub is_object : Sort → Bool
is_object Other = true
is_object _ = false

-- ---- members of the library

abbrev pub row_at : Option (List Member) → ℕ → Option Member
row_at None place = None
row_at (Some rows) place = slice_get rows place

-- a method of a box that gives its value or its text
abbrev pub is_value_name : List ℕ → Bool
is_value_name name = bytes_eq name (codes "intValue") || bytes_eq name (codes "longValue") || bytes_eq name (codes "shortValue") || bytes_eq name (codes "byteValue") || bytes_eq name (codes "charValue") || bytes_eq name (codes "booleanValue") || bytes_eq name (codes "toString")

abbrev pub is_value_row : Option Member → Bool
is_value_row None = false
is_value_row (Some row) = is_value_name row.java

-- it counts as a conversion (own rule)
abbrev pub is_box_conversion : MemberRef → Bool
is_box_conversion m = is_box_class m.class && by m.class
  where
    by : ClassRef → Bool
    by (class.Library n) = is_value_row (row_at (slice_get members n) m.place)
    by (class.Project n) = false
