-- The library of Java that a project may use: its classes, and the members of each.
use Rattle.std.specs.Prelude.{ℕ, List, [], ◌∷◌, Option, Some, None, codes}
use Prim.Native.String.{String}
use Rattle.j2k_base.specs.declared.constants.Kind.TheVariants.{Byte, Short, Char, Int, Long}
use Rattle.java_lib.specs.declared.rows.Form.{Form}
use Rattle.java_lib.specs.declared.rows.Form.TheVariants.{Create, Method, Property, Static, Constant, Receiver, Function, Input, Barred}
use Rattle.java_lib.specs.declared.rows.Mark.TheVariants.{Plain, MayBeNull, Checked, NotNull}
use Rattle.java_lib.specs.declared.rows.LibKind.{LibKind}
use Rattle.java_lib.specs.declared.rows.LibKind.TheVariants.{Void, Boolean, Number, Object, Variable, Chars}
use Rattle.java_lib.specs.declared.rows.LibType.{LibType}

-- a class: its number, which is its place in the table, its package, its name in Kotlin, how many type parameters it has,
-- and the number of what stands next above it
pub record Class : Type 0 where
  pub number : ℕ
  pub package_name : List ℕ
  pub kotlin : List ℕ
  pub params : ℕ
  pub above : Option ℕ

-- a member: its name in Java and in Kotlin, its form, its parameters and result, and the checked exception that it declares
pub record Member : Type 0 where
  pub java : List ℕ
  pub kotlin : List ℕ
  pub form : Form
  pub params : List LibType
  pub result : LibType
  pub throws : Option ℕ

-- a class beside its simple name
abbrev pub Named : Type 0
Named = List ℕ × Class

abbrev pub class : ℕ → String → String → String → ℕ → Option ℕ → Named
class number simple package_name kotlin params above =
    (codes simple, record { number = number; package_name = codes package_name; kotlin = codes kotlin; params = params; above = above })

abbrev pub plain : LibKind → LibType
plain kind = record { kind = kind; mark = Plain }

abbrev pub nullable : LibType → LibType
nullable base = record base { mark = MayBeNull }

abbrev pub checked : LibType → LibType
checked base = record base { mark = Checked }

abbrev pub not_null : LibType → LibType
not_null base = record base { mark = NotNull }

abbrev pub member : Form → String → List LibType → LibType → String → Member
member form java params result kotlin =
    record { java = codes java; kotlin = codes kotlin; form = form; params = params; result = result; throws = None }

-- a method of one name in both languages
abbrev pub same : String → List LibType → LibType → Member
same name params result = member Method name params result name

abbrev pub throwing : ℕ → Member → Member
throwing exception row = record row { throws = Some exception }

abbrev pub create : String → String → ℕ → List LibType → Member
create java kotlin number params = member Create java params (plain (Object number)) kotlin

-- the classes by their numbers
abbrev pub object_class : ℕ
object_class = 0

abbrev pub string_class : ℕ
string_class = 1

abbrev pub string_builder_class : ℕ
string_builder_class = 2

abbrev pub integer_class : ℕ
integer_class = 3

abbrev pub long_class : ℕ
long_class = 4

abbrev pub short_class : ℕ
short_class = 5

abbrev pub byte_class : ℕ
byte_class = 6

abbrev pub character_class : ℕ
character_class = 7

abbrev pub boolean_class : ℕ
boolean_class = 8

abbrev pub math_class : ℕ
math_class = 9

abbrev pub array_list_class : ℕ
array_list_class = 10

abbrev pub hash_map_class : ℕ
hash_map_class = 11

abbrev pub list_class : ℕ
list_class = 12

abbrev pub map_class : ℕ
map_class = 13

abbrev pub runnable_class : ℕ
runnable_class = 14

abbrev pub thread_class : ℕ
thread_class = 15

abbrev pub system_class : ℕ
system_class = 16

abbrev pub throwable_class : ℕ
throwable_class = 17

abbrev pub exception_class : ℕ
exception_class = 18

abbrev pub error_class : ℕ
error_class = 19

abbrev pub runtime_exception_class : ℕ
runtime_exception_class = 20

abbrev pub interrupted_exception_class : ℕ
interrupted_exception_class = 21

abbrev pub io_exception_class : ℕ
io_exception_class = 22

abbrev pub arithmetic_exception_class : ℕ
arithmetic_exception_class = 23

abbrev pub class_cast_exception_class : ℕ
class_cast_exception_class = 24

abbrev pub illegal_argument_exception_class : ℕ
illegal_argument_exception_class = 25

abbrev pub illegal_state_exception_class : ℕ
illegal_state_exception_class = 26

abbrev pub index_out_of_bounds_exception_class : ℕ
index_out_of_bounds_exception_class = 27

abbrev pub negative_array_size_exception_class : ℕ
negative_array_size_exception_class = 28

abbrev pub null_pointer_exception_class : ℕ
null_pointer_exception_class = 29

abbrev pub concurrent_modification_exception_class : ℕ
concurrent_modification_exception_class = 30

abbrev pub number_format_exception_class : ℕ
number_format_exception_class = 31

abbrev pub illegal_thread_state_exception_class : ℕ
illegal_thread_state_exception_class = 32

abbrev pub array_index_out_of_bounds_exception_class : ℕ
array_index_out_of_bounds_exception_class = 33

abbrev pub string_index_out_of_bounds_exception_class : ℕ
string_index_out_of_bounds_exception_class = 34

abbrev pub exception_in_initializer_error_class : ℕ
exception_in_initializer_error_class = 35

abbrev pub no_class_def_found_error_class : ℕ
no_class_def_found_error_class = 36

abbrev pub classes : List Named
classes =
    class object_class "Object" "java.lang" "Any" 0 None
    ∷ class string_class "String" "java.lang" "String" 0 (Some object_class)
    ∷ class string_builder_class "StringBuilder" "java.lang" "StringBuilder" 0 (Some object_class)
    ∷ class integer_class "Integer" "java.lang" "Int" 0 (Some object_class)
    ∷ class long_class "Long" "java.lang" "Long" 0 (Some object_class)
    ∷ class short_class "Short" "java.lang" "Short" 0 (Some object_class)
    ∷ class byte_class "Byte" "java.lang" "Byte" 0 (Some object_class)
    ∷ class character_class "Character" "java.lang" "Char" 0 (Some object_class)
    ∷ class boolean_class "Boolean" "java.lang" "Boolean" 0 (Some object_class)
    ∷ class math_class "Math" "java.lang" "Math" 0 (Some object_class)
    ∷ class array_list_class "ArrayList" "java.util" "ArrayList" 1 (Some list_class)
    ∷ class hash_map_class "HashMap" "java.util" "HashMap" 2 (Some map_class)
    ∷ class list_class "List" "java.util" "MutableList" 1 (Some object_class)
    ∷ class map_class "Map" "java.util" "MutableMap" 2 (Some object_class)
    ∷ class runnable_class "Runnable" "java.lang" "Runnable" 0 (Some object_class)
    ∷ class thread_class "Thread" "java.lang" "Thread" 0 (Some object_class)
    ∷ class system_class "System" "java.lang" "System" 0 (Some object_class)
    ∷ class throwable_class "Throwable" "java.lang" "Throwable" 0 (Some object_class)
    ∷ class exception_class "Exception" "java.lang" "Exception" 0 (Some throwable_class)
    ∷ class error_class "Error" "java.lang" "Error" 0 (Some throwable_class)
    ∷ class runtime_exception_class "RuntimeException" "java.lang" "RuntimeException" 0 (Some exception_class)
    ∷ class interrupted_exception_class "InterruptedException" "java.lang" "InterruptedException" 0 (Some exception_class)
    ∷ class io_exception_class "IOException" "java.io" "IOException" 0 (Some exception_class)
    ∷ class arithmetic_exception_class "ArithmeticException" "java.lang" "ArithmeticException" 0 (Some runtime_exception_class)
    ∷ class class_cast_exception_class "ClassCastException" "java.lang" "ClassCastException" 0 (Some runtime_exception_class)
    ∷ class illegal_argument_exception_class "IllegalArgumentException" "java.lang" "IllegalArgumentException" 0 (Some runtime_exception_class)
    ∷ class illegal_state_exception_class "IllegalStateException" "java.lang" "IllegalStateException" 0 (Some runtime_exception_class)
    ∷ class index_out_of_bounds_exception_class "IndexOutOfBoundsException" "java.lang" "IndexOutOfBoundsException" 0 (Some runtime_exception_class)
    ∷ class negative_array_size_exception_class "NegativeArraySizeException" "java.lang" "NegativeArraySizeException" 0 (Some runtime_exception_class)
    ∷ class null_pointer_exception_class "NullPointerException" "java.lang" "NullPointerException" 0 (Some runtime_exception_class)
    ∷ class concurrent_modification_exception_class "ConcurrentModificationException" "java.util" "ConcurrentModificationException" 0 (Some runtime_exception_class)
    ∷ class number_format_exception_class "NumberFormatException" "java.lang" "NumberFormatException" 0 (Some illegal_argument_exception_class)
    ∷ class illegal_thread_state_exception_class "IllegalThreadStateException" "java.lang" "IllegalThreadStateException" 0 (Some illegal_argument_exception_class)
    ∷ class array_index_out_of_bounds_exception_class "ArrayIndexOutOfBoundsException" "java.lang" "ArrayIndexOutOfBoundsException" 0 (Some index_out_of_bounds_exception_class)
    ∷ class string_index_out_of_bounds_exception_class "StringIndexOutOfBoundsException" "java.lang" "StringIndexOutOfBoundsException" 0 (Some index_out_of_bounds_exception_class)
    ∷ class exception_in_initializer_error_class "ExceptionInInitializerError" "java.lang" "ExceptionInInitializerError" 0 (Some error_class)
    ∷ class no_class_def_found_error_class "NoClassDefFoundError" "java.lang" "NoClassDefFoundError" 0 (Some error_class)
    ∷ []

-- types without a mark
abbrev pub void : LibType
void = plain Void

abbrev pub boolean : LibType
boolean = plain Boolean

abbrev pub byte : LibType
byte = plain (Number Byte)

abbrev pub short : LibType
short = plain (Number Short)

abbrev pub char : LibType
char = plain (Number Char)

abbrev pub int : LibType
int = plain (Number Int)

abbrev pub long : LibType
long = plain (Number Long)

abbrev pub chars : LibType
chars = plain Chars

abbrev pub object : LibType
object = plain (Object object_class)

abbrev pub string : LibType
string = plain (Object string_class)

abbrev pub string_builder : LibType
string_builder = plain (Object string_builder_class)

abbrev pub runnable : LibType
runnable = plain (Object runnable_class)

abbrev pub variable : ℕ → LibType
variable place = plain (Variable place)

-- the members of each class
abbrev pub object_members : List Member
object_members =
    create "Object" "Any" object_class []
    ∷ same "equals" (nullable object ∷ []) boolean
    ∷ same "hashCode" [] int
    ∷ same "toString" [] string
    ∷ []

abbrev pub string_members : List Member
string_members =
    member Property "length" [] int "length"
    ∷ member Method "charAt" (int ∷ []) char "get"
    ∷ same "toString" [] string
    ∷ same "hashCode" [] int
    ∷ same "isEmpty" [] boolean
    ∷ same "substring" (int ∷ []) string
    ∷ same "substring" (int ∷ int ∷ []) string
    ∷ same "indexOf" (checked string ∷ []) int
    ∷ same "startsWith" (checked string ∷ []) boolean
    ∷ same "endsWith" (checked string ∷ []) boolean
    ∷ same "contains" (checked string ∷ []) boolean
    ∷ same "compareTo" (checked string ∷ []) int
    ∷ same "equals" (nullable object ∷ []) boolean
    ∷ same "toCharArray" [] chars
    ∷ create "String" "String" string_class (checked chars ∷ [])
    ∷ []

abbrev pub string_builder_members : List Member
string_builder_members =
    create "StringBuilder" "StringBuilder" string_builder_class []
    ∷ create "StringBuilder" "StringBuilder" string_builder_class (checked string ∷ [])
    ∷ same "append" (boolean ∷ []) string_builder
    ∷ same "append" (char ∷ []) string_builder
    ∷ same "append" (int ∷ []) string_builder
    ∷ same "append" (long ∷ []) string_builder
    ∷ same "append" (nullable string ∷ []) string_builder
    ∷ same "append" (nullable object ∷ []) string_builder
    ∷ same "reverse" [] string_builder
    ∷ same "deleteCharAt" (int ∷ []) string_builder
    ∷ same "toString" [] string
    ∷ member Property "length" [] int "length"
    ∷ member Method "charAt" (int ∷ []) char "get"
    ∷ []

abbrev pub integer_members : List Member
integer_members =
    member Constant "MAX_VALUE" [] int "Int.MAX_VALUE"
    ∷ member Constant "MIN_VALUE" [] int "Int.MIN_VALUE"
    ∷ member Static "parseInt" (nullable string ∷ []) int "java.lang.Integer.parseInt"
    ∷ member Static "toString" (int ∷ []) string "java.lang.Integer.toString"
    ∷ member Static "compare" (int ∷ int ∷ []) int "java.lang.Integer.compare"
    ∷ member Method "intValue" [] int "toInt"
    ∷ member Method "longValue" [] long "toLong"
    ∷ same "equals" (nullable object ∷ []) boolean
    ∷ same "hashCode" [] int
    ∷ same "toString" [] string
    ∷ []

abbrev pub long_members : List Member
long_members =
    member Constant "MAX_VALUE" [] long "Long.MAX_VALUE"
    ∷ member Constant "MIN_VALUE" [] long "Long.MIN_VALUE"
    ∷ member Static "parseLong" (nullable string ∷ []) long "java.lang.Long.parseLong"
    ∷ member Static "toString" (long ∷ []) string "java.lang.Long.toString"
    ∷ member Static "compare" (long ∷ long ∷ []) int "java.lang.Long.compare"
    ∷ member Method "intValue" [] int "toInt"
    ∷ member Method "longValue" [] long "toLong"
    ∷ same "equals" (nullable object ∷ []) boolean
    ∷ same "hashCode" [] int
    ∷ same "toString" [] string
    ∷ []

abbrev pub short_members : List Member
short_members =
    member Constant "MAX_VALUE" [] short "Short.MAX_VALUE"
    ∷ member Constant "MIN_VALUE" [] short "Short.MIN_VALUE"
    ∷ member Receiver "shortValue" [] short ""
    ∷ same "equals" (nullable object ∷ []) boolean
    ∷ same "hashCode" [] int
    ∷ same "toString" [] string
    ∷ []

abbrev pub byte_members : List Member
byte_members =
    member Constant "MAX_VALUE" [] byte "Byte.MAX_VALUE"
    ∷ member Constant "MIN_VALUE" [] byte "Byte.MIN_VALUE"
    ∷ member Receiver "byteValue" [] byte ""
    ∷ same "equals" (nullable object ∷ []) boolean
    ∷ same "hashCode" [] int
    ∷ same "toString" [] string
    ∷ []

abbrev pub character_members : List Member
character_members =
    member Receiver "charValue" [] char ""
    ∷ same "equals" (nullable object ∷ []) boolean
    ∷ same "hashCode" [] int
    ∷ same "toString" [] string
    ∷ []

abbrev pub boolean_members : List Member
boolean_members =
    member Receiver "booleanValue" [] boolean ""
    ∷ same "equals" (nullable object ∷ []) boolean
    ∷ same "hashCode" [] int
    ∷ same "toString" [] string
    ∷ []

abbrev pub math_members : List Member
math_members =
    member Static "max" (int ∷ int ∷ []) int "Math.max"
    ∷ member Static "max" (long ∷ long ∷ []) long "Math.max"
    ∷ member Static "min" (int ∷ int ∷ []) int "Math.min"
    ∷ member Static "min" (long ∷ long ∷ []) long "Math.min"
    ∷ member Static "abs" (int ∷ []) int "Math.abs"
    ∷ member Static "abs" (long ∷ []) long "Math.abs"
    ∷ []

abbrev pub array_list_members : List Member
array_list_members =
    create "ArrayList" "ArrayList" array_list_class []
    ∷ create "ArrayList" "ArrayList" array_list_class (int ∷ [])
    ∷ same "add" (variable 0 ∷ []) boolean
    ∷ same "add" (int ∷ variable 0 ∷ []) void
    ∷ same "get" (int ∷ []) (variable 0)
    ∷ same "set" (int ∷ variable 0 ∷ []) (variable 0)
    ∷ same "isEmpty" [] boolean
    ∷ same "clear" [] void
    ∷ member Method "remove" (int ∷ []) (variable 0) "removeAt"
    ∷ member Property "size" [] int "size"
    ∷ member Barred "remove" (object ∷ []) boolean ""
    ∷ []

abbrev pub hash_map_members : List Member
hash_map_members =
    create "HashMap" "HashMap" hash_map_class []
    ∷ same "put" (variable 0 ∷ variable 1 ∷ []) (nullable (variable 1))
    ∷ same "get" (variable 0 ∷ []) (nullable (variable 1))
    ∷ same "remove" (variable 0 ∷ []) (nullable (variable 1))
    ∷ same "containsKey" (variable 0 ∷ []) boolean
    ∷ same "isEmpty" [] boolean
    ∷ same "clear" [] void
    ∷ member Property "size" [] int "size"
    ∷ []

abbrev pub list_members : List Member
list_members =
    same "add" (variable 0 ∷ []) boolean
    ∷ same "add" (int ∷ variable 0 ∷ []) void
    ∷ same "get" (int ∷ []) (variable 0)
    ∷ same "set" (int ∷ variable 0 ∷ []) (variable 0)
    ∷ same "isEmpty" [] boolean
    ∷ same "clear" [] void
    ∷ member Method "remove" (int ∷ []) (variable 0) "removeAt"
    ∷ member Property "size" [] int "size"
    ∷ member Barred "remove" (object ∷ []) boolean ""
    ∷ []

abbrev pub map_members : List Member
map_members =
    same "put" (variable 0 ∷ variable 1 ∷ []) (nullable (variable 1))
    ∷ same "get" (variable 0 ∷ []) (nullable (variable 1))
    ∷ same "remove" (variable 0 ∷ []) (nullable (variable 1))
    ∷ same "containsKey" (variable 0 ∷ []) boolean
    ∷ same "isEmpty" [] boolean
    ∷ same "clear" [] void
    ∷ member Property "size" [] int "size"
    ∷ []

abbrev pub runnable_members : List Member
runnable_members =
    same "run" [] void
    ∷ []

abbrev pub thread_members : List Member
thread_members =
    create "Thread" "Thread" thread_class (not_null runnable ∷ [])
    ∷ same "start" [] void
    ∷ throwing interrupted_exception_class (member Method "join" [] void "join")
    ∷ []

abbrev pub system_members : List Member
system_members =
    member Function "out.print" (boolean ∷ []) void "print"
    ∷ member Function "out.print" (char ∷ []) void "print"
    ∷ member Function "out.print" (int ∷ []) void "print"
    ∷ member Function "out.print" (long ∷ []) void "print"
    ∷ member Function "out.print" (nullable string ∷ []) void "print"
    ∷ member Function "out.print" (nullable object ∷ []) void "print"
    ∷ member Function "out.println" (boolean ∷ []) void "println"
    ∷ member Function "out.println" (char ∷ []) void "println"
    ∷ member Function "out.println" (int ∷ []) void "println"
    ∷ member Function "out.println" (long ∷ []) void "println"
    ∷ member Function "out.println" (nullable string ∷ []) void "println"
    ∷ member Function "out.println" (nullable object ∷ []) void "println"
    ∷ member Function "out.println" [] void "println"
    ∷ throwing io_exception_class (member Input "in.read" [] int "System.`in`.read")
    ∷ []

abbrev pub throwable_members : String → ℕ → List Member
throwable_members name number =
    create name name number []
    ∷ create name name number (nullable string ∷ [])
    ∷ member Property "getMessage" [] (nullable string) "message"
    ∷ []

abbrev pub members : List (List Member)
members =
    object_members
    ∷ string_members
    ∷ string_builder_members
    ∷ integer_members
    ∷ long_members
    ∷ short_members
    ∷ byte_members
    ∷ character_members
    ∷ boolean_members
    ∷ math_members
    ∷ array_list_members
    ∷ hash_map_members
    ∷ list_members
    ∷ map_members
    ∷ runnable_members
    ∷ thread_members
    ∷ system_members
    ∷ throwable_members "Throwable" throwable_class
    ∷ throwable_members "Exception" exception_class
    ∷ throwable_members "Error" error_class
    ∷ throwable_members "RuntimeException" runtime_exception_class
    ∷ throwable_members "InterruptedException" interrupted_exception_class
    ∷ throwable_members "IOException" io_exception_class
    ∷ throwable_members "ArithmeticException" arithmetic_exception_class
    ∷ throwable_members "ClassCastException" class_cast_exception_class
    ∷ throwable_members "IllegalArgumentException" illegal_argument_exception_class
    ∷ throwable_members "IllegalStateException" illegal_state_exception_class
    ∷ throwable_members "IndexOutOfBoundsException" index_out_of_bounds_exception_class
    ∷ throwable_members "NegativeArraySizeException" negative_array_size_exception_class
    ∷ throwable_members "NullPointerException" null_pointer_exception_class
    ∷ throwable_members "ConcurrentModificationException" concurrent_modification_exception_class
    ∷ throwable_members "NumberFormatException" number_format_exception_class
    ∷ throwable_members "IllegalThreadStateException" illegal_thread_state_exception_class
    ∷ throwable_members "ArrayIndexOutOfBoundsException" array_index_out_of_bounds_exception_class
    ∷ throwable_members "StringIndexOutOfBoundsException" string_index_out_of_bounds_exception_class
    ∷ throwable_members "ExceptionInInitializerError" exception_in_initializer_error_class
    ∷ throwable_members "NoClassDefFoundError" no_class_def_found_error_class
    ∷ []
