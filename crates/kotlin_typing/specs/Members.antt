-- Which members a value or a class has, and which of several callables is meant (Kotlin specification, "Overload resolution",
-- for the profile: by number and types of arguments, the most specific first).
use Rattle.std.specs.Prelude.{ℕ, Bool, true, false, not, ◌&&◌, ◌||◌, List, [], ◌∷◌, Option, Some, None, map, find, bytes_eq, codes, if◌then◌else◌, is_some}
use Rattle.std.specs.List.{list_all, filter, flat_map}
use Rattle.j2k_base.specs.declared.constants.Kind.{Kind}
use Rattle.j2k_base.specs.declared.constants.Kind.TheVariants as kind
use Rattle.kotlin_types.specs.declared.kinds.KClassRef.{KClassRef}
use Rattle.kotlin_types.specs.declared.kinds.KHead.{KHead}
use Rattle.kotlin_types.specs.declared.kinds.KHead.TheVariants as head
use Rattle.kotlin_types.specs.declared.kinds.KKind.{KKind}
use Rattle.kotlin_types.specs.Types.{arguments_of, head_of, number, put, same, same_class}
use Rattle.kotlin_types.specs.Supertypes.{above, direct, is_subtype}
use Rattle.kotlin_typing.specs.declared.scope.KScope.{KScope}
use Rattle.kotlin_typing.specs.declared.tables.KHolder.{KHolder}
use Rattle.kotlin_typing.specs.declared.tables.KHolder.TheVariants as holder
use Rattle.kotlin_typing.specs.declared.tables.KCallable.{KCallable}
use Rattle.kotlin_typing.specs.declared.tables.KProperty.{KProperty}
use Rattle.kotlin_typing.specs.declared.tables.KTables.{KTables}
use Rattle.kotlin_typing.specs.Written.{Path, class_at, same_path}

-- ---- whose members

abbrev pub is_of_values : KClassRef → KHolder → Bool
is_of_values c (holder.Instance d) = same_class c d
is_of_values c (holder.Companion d) = false
is_of_values c (holder.Constructor d) = false
is_of_values c (holder.Path path) = false

abbrev pub is_class : KClassRef → Option KClassRef → Bool
is_class c None = false
is_class c (Some d) = same_class c d

-- named behind a class, or behind a name with dots of the library
abbrev pub is_of_path : KTables → Path → KHolder → Bool
is_of_path w path (holder.Instance d) = false
is_of_path w path (holder.Companion d) = is_class d (class_at w path)
is_of_path w path (holder.Constructor d) = false
is_of_path w path (holder.Path other) = same_path path other

abbrev pub constructs : KClassRef → KHolder → Bool
constructs c (holder.Instance d) = false
constructs c (holder.Companion d) = false
constructs c (holder.Constructor d) = same_class c d
constructs c (holder.Path path) = false

abbrev pub is_own : KClassRef → KHolder → Bool
is_own c (holder.Instance d) = same_class c d
is_own c (holder.Companion d) = same_class c d
is_own c (holder.Constructor d) = same_class c d
is_own c (holder.Path path) = false

-- what is private is named in its class alone
abbrev pub is_visible : KScope → Bool → KHolder → Bool
is_visible s is_private h = not is_private || is_own s.own h

-- ---- with the arguments of a class in the place of its parameters

abbrev pub callable_put : KClassRef → List KKind → KCallable → KCallable
callable_put c args m = record m { params = map (put c args) m.params; result = put c args m.result }

abbrev pub property_put : KClassRef → List KKind → KProperty → KProperty
property_put c args p = record p { kind = put c args p.kind }

abbrev pub callables_by : KTables → KScope → List ℕ → KHead → List KKind → List KCallable
callables_by w s name (head.Class c) args =
    map (callable_put c args) (filter (λ (m : KCallable). is_of_values c m.holder && (bytes_eq m.name name && is_visible s m.is_private m.holder)) w.callables)
callables_by w s name h args = []

abbrev pub properties_by : KTables → KScope → List ℕ → KHead → List KKind → List KProperty
properties_by w s name (head.Class c) args =
    map (property_put c args) (filter (λ (p : KProperty). is_of_values c p.holder && (bytes_eq p.name name && is_visible s p.is_private p.holder)) w.properties)
properties_by w s name h args = []

abbrev pub callables_at : KTables → KScope → List ℕ → KKind → List KCallable
callables_at w s name x = callables_by w s name (head_of x) (arguments_of x)

abbrev pub properties_at : KTables → KScope → List ℕ → KKind → List KProperty
properties_at w s name x = properties_by w s name (head_of x) (arguments_of x)

-- of a value, those of its class first, then what that class inherits
abbrev pub callables_of : KTables → KScope → List ℕ → KKind → List KCallable
callables_of w s name x = flat_map (callables_at w s name) (above w.classes x)

abbrev pub properties_of : KTables → KScope → List ℕ → KKind → List KProperty
properties_of w s name x = flat_map (properties_at w s name) (above w.classes x)

-- what `super.` names
abbrev pub callables_above : KTables → KScope → List ℕ → KKind → List KCallable
callables_above w s name x = flat_map (callables_of w s name) (direct w.classes x)

abbrev pub callables_behind : KTables → KScope → Path → List ℕ → List KCallable
callables_behind w s path name = filter (λ (m : KCallable). is_of_path w path m.holder && (bytes_eq m.name name && is_visible s m.is_private m.holder)) w.callables

abbrev pub properties_behind : KTables → KScope → Path → List ℕ → List KProperty
properties_behind w s path name = filter (λ (p : KProperty). is_of_path w path p.holder && (bytes_eq p.name name && is_visible s p.is_private p.holder)) w.properties

abbrev pub constructors_of : KTables → KScope → KClassRef → List KKind → List KCallable
constructors_of w s c args = map (callable_put c args) (filter (λ (m : KCallable). constructs c m.holder && is_visible s m.is_private m.holder) w.callables)

abbrev pub first_of : {A : Type 0} → List A → Option A
first_of [] = None
first_of (x ∷ xs) = Some x

-- ---- members that no class declares: the size of an array, the number of a character, conversions of numbers

abbrev pub is_number : KKind → Bool
is_number x = same x (number kind.Byte) || (same x (number kind.Short) || (same x (number kind.Int) || same x (number kind.Long)))

abbrev pub is_array : KHead → Bool
is_array head.Array = true
is_array head.Booleans = true
is_array (head.Numbers k) = true
is_array h = false

abbrev pub given_property : List ℕ → KKind → Option KKind
given_property name x =
    if is_array (head_of x) && bytes_eq name (codes "size") then Some (number kind.Int) else
    if same x (number kind.Char) && bytes_eq name (codes "code") then Some (number kind.Int) else None

abbrev pub conversion : List ℕ → Option Kind
conversion name =
    if bytes_eq name (codes "toByte") then Some kind.Byte else
    if bytes_eq name (codes "toShort") then Some kind.Short else
    if bytes_eq name (codes "toInt") then Some kind.Int else
    if bytes_eq name (codes "toLong") then Some kind.Long else None

abbrev pub given_method : List ℕ → KKind → Option KKind
given_method name x =
    if is_number x && is_some (conversion name) then option_number (conversion name) else
    if same x (number kind.Int) && bytes_eq name (codes "toChar") then Some (number kind.Char) else
    if (same x (number kind.Int) || same x (number kind.Long)) && bytes_eq name (codes "inv") then Some x else None
  where
    option_number : Option Kind → Option KKind
    option_number None = None
    option_number (Some k) = Some (number k)

-- ---- which callable is meant

abbrev pub all_below : KTables → List KKind → List KKind → Bool
all_below w [] [] = true
all_below w (a ∷ args) (b ∷ params) = is_subtype w.classes a b && all_below w args params
all_below w args params = false

abbrev pub is_applicable : KTables → List KKind → KCallable → Bool
is_applicable w args m = all_below w args m.params

-- its parameters are below those of each that is applicable
abbrev pub is_most_specific : KTables → List KKind → List KCallable → KCallable → Bool
is_most_specific w args found m = list_all (λ (other : KCallable). not (is_applicable w args other) || all_below w m.params other.params) found

abbrev pub is_chosen : KTables → List KKind → List KCallable → KCallable → Bool
is_chosen w args found m = is_applicable w args m && is_most_specific w args found m

abbrev pub chosen : KTables → List KKind → List KCallable → Option KCallable
chosen w args found = find (is_chosen w args found) found

abbrev pub none_applies : KTables → List KKind → List KCallable → Bool
none_applies w args found = list_all (λ (m : KCallable). not (is_applicable w args m)) found
