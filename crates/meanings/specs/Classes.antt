-- What is known of the classes of a project and of the library, and which values are of a type.
use Rattle.std.specs.Prelude.{ℕ, zero, suc, Bool, true, false, ◌==◌, length, Option, Some, None, if◌then◌else◌, slice_get, codes}
use Rattle.std.specs.Option.{option_map, option_map_or}
use Rattle.java_lib.specs.Library.{Named, classes}
use Rattle.java_lib.specs.Classes.{class_simple, above_of}
use Rattle.meanings.specs.Values.{Name, same_name, ClassName, Simple, Anonymous, Site, Kind, Byte, Short, Char, Int, Long, kind_number, Elements, Integers, Booleans, Objects, Arrays, Value, Null, Integer, Boolean, Units, Class, Companion, Object, Array, Lambda}

-- what a project says of its classes
pub record Classes : Type 0 where
  -- whether the first class or interface is the second or stands below it (JLS 4.10.2)
  pub is_below : ClassName → Name → Bool
  -- the interface of the lambda that stands there (JLS 15.27.3)
  pub face : Site → Name

-- ---- the library's classes

-- the class with this number bears the name
abbrev pub bears : ℕ → Name → Bool
bears class name = option_map_or (λ (found : Named). same_name found.0 name) (slice_get classes class) false

-- the class with this number, or one at most so many steps above it, bears the name
abbrev pub climbs : ℕ → Option ℕ → Name → Bool
climbs steps None name = false
climbs zero (Some class) name = bears class name
climbs (suc steps) (Some class) name = if bears class name then true else climbs steps (above_of class) name

-- a class of the library is the other or stands below it; no class has more above it than there are classes
abbrev pub library_below : Name → Name → Bool
library_below class name = climbs (length classes) (option_map (λ found. found.number) (class_simple class classes)) name

-- the class that everything stands below (JLS 4.3.2)
abbrev pub is_top : Name → Bool
is_top name = same_name name (codes "Object")

-- classes of which none stands below another of the project: each is itself and an Object, or one of the library's
abbrev pub plain_below : ClassName → Name → Bool
plain_below (Simple class) name = if same_name class name then true else (if is_top name then true else library_below class name)
plain_below (Anonymous class is_static ordinal) name = is_top name

-- what a project without lambdas and supertypes says
abbrev pub plain_classes : Classes
plain_classes = record { is_below = plain_below; face = λ site. codes "Object" }

-- ---- which values are of a type

-- the class of a box (JLS 5.1.7)
abbrev pub box_name : Kind → Name
box_name Byte = codes "Byte"
box_name Short = codes "Short"
box_name Char = codes "Character"
box_name Int = codes "Integer"
box_name Long = codes "Long"

-- an array of the first is an array of the second (JLS 4.10.3)
abbrev pub elements_below : Classes → Elements → Elements → Bool
elements_below c (Integers k) (Integers l) = kind_number k == kind_number l
elements_below c Booleans Booleans = true
elements_below c (Objects class) (Objects name) = c.is_below (Simple class) name
elements_below c (Arrays inner) (Objects name) = is_top name
elements_below c (Arrays inner) (Arrays other) = elements_below c inner other
elements_below c _ _ = false

-- A value that isn't null is of a class or interface, by its own class; no value of this sort is of an array's type (JLS 15.20.2).
abbrev pub is_of : Classes → ClassName → Elements → Bool
is_of c class (Objects name) = c.is_below class name
is_of c class (Integers kind) = false
is_of c class Booleans = false
is_of c class (Arrays inner) = false

-- Whether a value is of a type (JLS 15.20.2): null is of none, a box of its class, a lambda of its interface, an array of the types
-- of arrays that its elements allow. A companion is no value of Java, and of no type.
abbrev pub is_a : Classes → Elements → Value → Bool
is_a c type Null = false
is_a c type (Integer kind z) = is_of c (Simple (box_name kind)) type
is_a c type (Boolean b) = is_of c (Simple (codes "Boolean")) type
is_a c type (Units units) = is_of c (Simple (codes "String")) type
is_a c type (Class name) = is_of c (Simple (codes "Class")) type
is_a c type (Companion name) = false
is_a c type (Object class k captured) = is_of c class type
is_a c type (Array elements length k) = elements_below c (Arrays elements) type
is_a c type (Lambda site k captured) = is_of c (Simple (c.face site)) type

-- an Error or below it (JLS 11.1.1)
abbrev pub is_error : Classes → Value → Bool
is_error c = is_a c (Objects (codes "Error"))
