-- Classes of the project and those above them.
use Rattle.std.specs.Prelude.{ℕ, zero, suc, Bool, false, not, ◌&&◌, ◌||◌, ◌==◌, bytes_eq, List, length, Option, Some, None, slice_get}
use Rattle.std.specs.List.{list_any}
use Rattle.java_typed.specs.declared.types.ClassRef.{ClassRef}
use Rattle.java_typed.specs.declared.types.ClassRef.TheVariants as class
use Rattle.java_typed.specs.declared.units.TMethod.{TMethod}
use Rattle.java_typed.specs.declared.units.TClass.{TClass}
use Rattle.java_facts.specs.Project.{above_of, is_interface_sort}

abbrev pub class_at : List TClass → ClassRef → Option TClass
class_at classes (class.Library n) = None
class_at classes (class.Project n) = slice_get classes n

abbrev pub or_above : (TClass → Bool) → (Option ClassRef → Bool) → Option TClass → Bool
or_above says higher None = false
or_above says higher (Some x) = says x || higher (above_of x.above)

-- a class of the project says so, or one above it, of which there are fewer than n
abbrev pub anywhere : List TClass → (TClass → Bool) → ℕ → Option ClassRef → Bool
anywhere classes says zero c = false
anywhere classes says (suc n) None = false
anywhere classes says (suc n) (Some c) = or_above says (anywhere classes says n) (class_at classes c)

-- no class stands below more
abbrev pub most : List TClass → ℕ
most classes = suc (length classes)

-- it has a method of a name and a number of parameters
abbrev pub is_called : List ℕ → ℕ → TMethod → Bool
is_called name params m = bytes_eq name m.name && (length m.params == params)

abbrev pub declares : List ℕ → ℕ → TClass → Bool
declares name params c = list_any (is_called name params) c.methods

-- a class, and no interface
abbrev pub is_class_by : Option TClass → Bool
is_class_by None = false
is_class_by (Some x) = not (is_interface_sort x.sort)
