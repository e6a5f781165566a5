-- Types as values: their parts, sameness, and type arguments in the place of type parameters.
use Rattle.std.specs.Prelude.{ℕ, Bool, true, false, ◌&&◌, ◌==◌, if◌then◌else◌, List, [], ◌∷◌, slice_get, unwrap_or}
use Rattle.j2k_base.specs.declared.constants.Kind.{Kind}
use Rattle.j2k_base.specs.declared.constants.Kind.TheVariants as kind
use Rattle.java_lib.specs.Library.{boolean_class, byte_class, character_class, integer_class, long_class, object_class, short_class, string_class}
use Rattle.kotlin_types.specs.declared.kinds.KClassRef.{KClassRef}
use Rattle.kotlin_types.specs.declared.kinds.KClassRef.TheVariants as class
use Rattle.kotlin_types.specs.declared.kinds.KHead.{KHead}
use Rattle.kotlin_types.specs.declared.kinds.KHead.TheVariants as head
use Rattle.kotlin_types.specs.declared.kinds.Nullability.{Nullability}
use Rattle.kotlin_types.specs.declared.kinds.Nullability.TheVariants as null
use Rattle.kotlin_types.specs.declared.kinds.KKind.{KKind, roll-KKind, out-KKind, fold-KKind}
use Rattle.kotlin_types.specs.declared.kinds.KKind.TheOpen.{KKind-F}

abbrev pub head_of : KKind → KHead
head_of x = (out-KKind x).head

abbrev pub arguments_of : KKind → List KKind
arguments_of x = (out-KKind x).arguments

abbrev pub nullability_of : KKind → Nullability
nullability_of x = (out-KKind x).nullability

abbrev pub type : KHead → List KKind → Nullability → KKind
type h args n = roll-KKind (record { head = h; arguments = args; nullability = n })

-- a type of these arguments, `Never` null
abbrev pub class_type : KClassRef → List KKind → KKind
class_type c args = type (head.Class c) args null.Never

abbrev pub library_type : ℕ → KKind
library_type n = class_type (class.Library n) []

abbrev pub any : KKind
any = library_type object_class

abbrev pub string : KKind
string = library_type string_class

abbrev pub boolean : KKind
boolean = library_type boolean_class

-- `Byte`, `Short`, `Char`, `Int` and `Long` are classes
abbrev pub number_class : Kind → ℕ
number_class kind.Byte = byte_class
number_class kind.Short = short_class
number_class kind.Char = character_class
number_class kind.Int = integer_class
number_class kind.Long = long_class

abbrev pub number : Kind → KKind
number k = library_type (number_class k)

abbrev pub unit : KKind
unit = type head.Unit [] null.Never

-- the type of `null` (Kotlin specification, "kotlin.Nothing", "Nullable types")
abbrev pub null_type : KKind
null_type = type head.Nothing [] null.Also

abbrev pub variable : KClassRef → ℕ → KKind
variable own place = type (head.Variable own place) [] null.Parameter

-- ---- what a type says of null

abbrev pub with_nullability : Nullability → KKind → KKind
with_nullability n x = type (head_of x) (arguments_of x) n

-- `T?`
abbrev pub nullable : KKind → KKind
nullable x = with_nullability null.Also x

-- the type of `e!!`: `T & Any` of a type parameter `T` (Kotlin specification, "Definitely non-nullable types")
abbrev pub not_null : KKind → KKind
not_null x = with_nullability null.Never x

abbrev pub is_within : Nullability → Nullability → Bool
is_within null.Never m = true
is_within null.Parameter null.Never = false
is_within null.Parameter m = true
is_within null.Also null.Also = true
is_within null.Also m = false

-- what takes as much as each of two
abbrev pub wider : Nullability → Nullability → Nullability
wider n m = if is_within n m then m else n

-- what a type says of null where it stands for a type parameter, or above a type, that says so much
abbrev pub lifted : Nullability → Nullability → Nullability
lifted null.Never m = null.Never
lifted null.Parameter m = m
lifted null.Also m = null.Also

abbrev pub lift : Nullability → KKind → KKind
lift n x = with_nullability (lifted n (nullability_of x)) x

abbrev pub is_never_null : Nullability → Bool
is_never_null null.Never = true
is_never_null n = false

-- whether a member of a value of the type may be named without `!!`
abbrev pub is_sure : KKind → Bool
is_sure x = is_never_null (nullability_of x)

-- ---- sameness

abbrev pub same_nullability : Nullability → Nullability → Bool
same_nullability n m = is_within n m && is_within m n

abbrev pub same_kind : Kind → Kind → Bool
same_kind kind.Byte kind.Byte = true
same_kind kind.Short kind.Short = true
same_kind kind.Char kind.Char = true
same_kind kind.Int kind.Int = true
same_kind kind.Long kind.Long = true
same_kind k l = false

abbrev pub same_class : KClassRef → KClassRef → Bool
same_class (class.Library a) (class.Library b) = a == b
same_class (class.Project a) (class.Project b) = a == b
same_class c d = false

abbrev pub same_head : KHead → KHead → Bool
same_head head.Nothing head.Nothing = true
same_head head.Unit head.Unit = true
same_head (head.Class c) (head.Class d) = same_class c d
same_head head.Array head.Array = true
same_head head.Booleans head.Booleans = true
same_head (head.Numbers k) (head.Numbers l) = same_kind k l
same_head (head.Variable c n) (head.Variable d m) = same_class c d && n == m
same_head g h = false

abbrev pub same_each : List (KKind → Bool) → List KKind → Bool
same_each [] [] = true
same_each [] (y ∷ ys) = false
same_each (f ∷ fs) [] = false
same_each (f ∷ fs) (y ∷ ys) = f y && same_each fs ys

abbrev pub same_by : KKind-F (KKind → Bool) → KKind-F KKind → Bool
same_by x y = same_head x.head y.head && (same_each x.arguments y.arguments && same_nullability x.nullability y.nullability)

-- whether two types are equal (Kotlin specification, "Subtyping", "Type equivalence")
unfoldable pub same : KKind → KKind → Bool
same = fold-KKind (KKind → Bool) (λ x y. same_by x (out-KKind y))

-- whether they are but for the `?` behind them
abbrev pub same_but_null : KKind → KKind → Bool
same_but_null x y = same (nullable x) (nullable y)

-- ---- type arguments in the place of type parameters

-- what stands in the place of a type parameter: its argument; the parameter of another class, or one without an argument, stays
abbrev pub argument : KClassRef → List KKind → KClassRef → ℕ → Nullability → KKind
argument own args c place n =
    if same_class own c then lift n (unwrap_or (slice_get args place) (variable c place)) else type (head.Variable c place) [] n

abbrev pub put_head : KClassRef → List KKind → KHead → List KKind → Nullability → KKind
put_head own args (head.Variable c place) inner n = argument own args c place n
put_head own args h inner n = type h inner n

-- the type with the arguments of a class in the place of its parameters (Kotlin specification, "Parameterized classifier types")
unfoldable pub put : KClassRef → List KKind → KKind → KKind
put own args = fold-KKind KKind (λ x. put_head own args x.head x.arguments x.nullability)
