-- Classes by their names and numbers.
use Rattle.std.specs.Prelude.{◌≡◌, ◌≢◌, ◌⊎◌, ℕ, List, ◌∷◌, ◌++◌, Option, Bool, true, length, nat_lt, bytes_eq, find, slice_get, Some, None, zero, suc}
use Rattle.std.specs.Option.{option_map, option_map_or, option_or}
use Rattle.j2k_base.specs.declared.tables.Row.{Row}
use Rattle.java_lib.specs.declared.rows.ClassRow.{ClassRow}
use Rattle.java_lib.specs.Library.{Class, Named, classes}

-- what a row says
abbrev pub class_of : ClassRow → Class
class_of row =
    record { number = row.number; package_name = row.«package».now; kotlin = row.kotlin.now; params = row.params; above = row.above }

abbrev pub named : Row ClassRow → Named
named row = (row.key.now, class_of row.value)

-- the package, a dot and the simple name
abbrev pub qualified : Named → List ℕ
qualified class = class.1.package_name ++ 46 ∷ class.0

abbrev pub class_simple : List ℕ → List Named → Option Class
class_simple name named_classes = option_map (λ class. class.1) (find (λ class. bytes_eq class.0 name) named_classes)

abbrev pub class_qualified : List ℕ → List Named → Option Class
class_qualified name named_classes = option_map (λ class. class.1) (find (λ class. bytes_eq name (qualified class)) named_classes)

-- the class of a simple or a qualified name
abbrev pub class_named : List ℕ → List Named → Option Class
class_named name named_classes = option_or (class_simple name named_classes) (class_qualified name named_classes)

-- the value of the row whose class has the qualified name
abbrev pub value_qualified : List ℕ → List (Row ClassRow) → Option ClassRow
value_qualified name rows = option_map (λ row. row.value) (find (λ row. bytes_eq name (qualified (named row))) rows)

-- what stands above a class, if anything, is a class
abbrev pub above_stands : Class → Bool
above_stands class = option_map_or (λ above. nat_lt above (length classes)) class.above true

abbrev pub HasName : List ℕ → Named → Type 0
HasName name class = (class.0 ≡ name) ⊎ (qualified class ≡ name)

abbrev pub HasNoName : List ℕ → Named → Type 0
HasNoName name class = (class.0 ≢ name) × (qualified class ≢ name)

-- a class's number is its place
abbrev pub HasItsPlace : Class → Type 0
HasItsPlace class = option_map (λ found. found.1) (slice_get classes class.number) ≡ Some class

-- the number of what stands next above the class of a number, if anything does
abbrev pub above_of : ℕ → Option ℕ
above_of class = option_map_or (λ (found : Named). found.1.above) (slice_get classes class) None

-- the class that so many steps up lead to, or the topmost on the way
abbrev pub climbed : ℕ → ℕ → ℕ
climbed zero class = class
climbed (suc steps) class = option_map_or (climbed steps) (above_of class) class

-- how many type parameters the class of a number has
abbrev pub params_of : ℕ → ℕ
params_of class = option_map_or (λ (found : Named). found.1.params) (slice_get classes class) 0
