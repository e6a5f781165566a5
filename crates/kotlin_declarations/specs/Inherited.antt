-- What a class inherits, with the arguments of its supertypes, the superclass's first (Kotlin specification, "Inheritance").
use Rattle.std.specs.Prelude.{ℕ, Bool, true, false, not, ◌&&◌, List, [], ◌∷◌, ◌++◌, map, find, Option, Some, None, bytes_eq}
use Rattle.std.specs.List.{filter, flat_map}
use Rattle.kotlin_types.specs.declared.kinds.KClassRef.{KClassRef}
use Rattle.kotlin_types.specs.declared.kinds.KHead.{KHead}
use Rattle.kotlin_types.specs.declared.kinds.KHead.TheVariants as head
use Rattle.kotlin_types.specs.declared.kinds.KKind.{KKind}
use Rattle.kotlin_types.specs.Types.{arguments_of, head_of, put, same, same_class}
use Rattle.kotlin_types.specs.Supertypes.{above, direct}
use Rattle.kotlin_typing.specs.declared.tables.KCallable.{KCallable}
use Rattle.kotlin_typing.specs.declared.tables.KProperty.{KProperty}
use Rattle.kotlin_typing.specs.declared.tables.KTables.{KTables}
use Rattle.kotlin_typing.specs.Members.{callable_put, is_of_values, property_put}
use Rattle.kotlin_project.specs.Members.{Function}

abbrev pub function_put : KClassRef → List KKind → Function → Function
function_put c args f = record { callable = callable_put c args f.callable; openness = f.openness }

-- the functions of values of a type that its own class declares and that aren't private
abbrev pub functions_by : List Function → KHead → List KKind → List Function
functions_by all (head.Class c) args = map (function_put c args) (filter (λ (f : Function). is_of_values c f.callable.holder && not f.callable.is_private) all)
functions_by all h args = []

abbrev pub functions_at : List Function → KKind → List Function
functions_at all x = functions_by all (head_of x) (arguments_of x)

abbrev pub properties_by : List KProperty → KHead → List KKind → List KProperty
properties_by all (head.Class c) args = map (property_put c args) (filter (λ (p : KProperty). is_of_values c p.holder && not p.is_private) all)
properties_by all h args = []

abbrev pub properties_at : List KProperty → KKind → List KProperty
properties_at all x = properties_by all (head_of x) (arguments_of x)

-- all types above one
abbrev pub supertypes : KTables → KKind → List KKind
supertypes w x = flat_map (above w.classes) (direct w.classes x)

abbrev pub inherited : KTables → List Function → KKind → List Function
inherited w all x = flat_map (functions_at all) (supertypes w x)

abbrev pub inherited_properties : KTables → KKind → List KProperty
inherited_properties w x = flat_map (properties_at w.properties) (supertypes w x)

-- of one name, with the same types of parameters
abbrev pub all_same : List KKind → List KKind → Bool
all_same [] [] = true
all_same (x ∷ xs) (y ∷ ys) = same x y && all_same xs ys
all_same xs ys = false

abbrev pub overrides : KCallable → Function → Bool
overrides m f = bytes_eq f.callable.name m.name && all_same f.callable.params m.params
