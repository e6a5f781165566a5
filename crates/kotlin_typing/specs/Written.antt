-- What written types mean (Kotlin specification, "Type contexts and scopes", "Parameterized classifier types").
use Rattle.std.specs.Prelude.{ℕ, Bool, true, false, ◌&&◌, if◌then◌else◌, List, [], ◌∷◌, Option, Some, None, map, find, bytes_eq, codes}
use Rattle.std.specs.Option.{option_map}
use Rattle.j2k_base.specs.declared.constants.Kind.TheVariants as kind
use Rattle.judged.specs.Judged.{each, good, ◌>>=◌}
use Rattle.kotlin_tree.specs.declared.places.Position.{Position}
use Rattle.kotlin_tree.specs.declared.types.KDotted.{KDotted}
use Rattle.kotlin_tree.specs.declared.types.KQualified.{KQualified}
use Rattle.kotlin_tree.specs.declared.types.KTypeArguments.{KTypeArguments}
use Rattle.kotlin_tree.specs.declared.types.KType.{KType, fold-KType}
use Rattle.kotlin_tree.specs.declared.types.KType.TheOpen.{KType-F}
use Rattle.kotlin_types.specs.declared.kinds.KClassRef.{KClassRef}
use Rattle.kotlin_types.specs.declared.kinds.KHead.{KHead}
use Rattle.kotlin_types.specs.declared.kinds.KHead.TheVariants as head
use Rattle.kotlin_types.specs.declared.kinds.Nullability.{Nullability}
use Rattle.kotlin_types.specs.declared.kinds.Nullability.TheVariants as null
use Rattle.kotlin_types.specs.declared.kinds.KKind.{KKind}
use Rattle.kotlin_types.specs.declared.classes.KClassHead.{KClassHead}
use Rattle.kotlin_types.specs.Types.{put, type}
use Rattle.kotlin_types.specs.Supertypes.{class_head, is_subtype}
use Rattle.kotlin_typing.specs.declared.tables.KClassName.{KClassName}
use Rattle.kotlin_typing.specs.declared.tables.KTypeVariable.{KTypeVariable}
use Rattle.kotlin_typing.specs.declared.tables.KTables.{KTables}
use Rattle.kotlin_typing.specs.Notes.{Typed, noted}

-- a name with dots
abbrev pub Path : Type 0
Path = List (List ℕ)

abbrev pub path_of : KQualified → Path
path_of x = x.first.name ∷ map (λ (d : KDotted). d.name.name) x.rest

abbrev pub same_path : Path → Path → Bool
same_path [] [] = true
same_path (x ∷ xs) (y ∷ ys) = bytes_eq x y && same_path xs ys
same_path xs ys = false

abbrev pub class_at : KTables → Path → Option KClassRef
class_at w path = option_map (λ (n : KClassName). n.class) (find (λ (n : KClassName). same_path n.path path) w.names)

abbrev pub variable_at : KTables → Path → Option KTypeVariable
variable_at w [] = None
variable_at w (name ∷ []) = find (λ (v : KTypeVariable). bytes_eq v.name name) w.variables
variable_at w (name ∷ more ∷ names) = None

abbrev pub bounds_by : Option KClassHead → List KKind
bounds_by None = []
bounds_by (Some x) = x.bounds

abbrev pub bounds_of : KTables → KClassRef → List KKind
bounds_of w c = bounds_by (class_head w.classes c)

-- the arrays that are no `Array<T>`
abbrev pub array_named : Path → Option KHead
array_named [] = None
array_named (name ∷ []) =
    if bytes_eq name (codes "BooleanArray") then Some head.Booleans else
    if bytes_eq name (codes "ByteArray") then Some (head.Numbers kind.Byte) else
    if bytes_eq name (codes "ShortArray") then Some (head.Numbers kind.Short) else
    if bytes_eq name (codes "CharArray") then Some (head.Numbers kind.Char) else
    if bytes_eq name (codes "IntArray") then Some (head.Numbers kind.Int) else
    if bytes_eq name (codes "LongArray") then Some (head.Numbers kind.Long) else None
array_named (name ∷ more ∷ names) = None

abbrev pub is_array_named : Path → Bool
is_array_named path = same_path path (codes "Array" ∷ [])

abbrev pub marked : Option Position → Nullability
marked None = null.Never
marked (Some at) = null.Also

abbrev pub marked_variable : Option Position → Nullability
marked_variable None = null.Parameter
marked_variable (Some at) = null.Also

-- as many arguments as parameters, each below the bound of its parameter
abbrev pub within_bounds : KTables → List KKind → List KKind → Bool
within_bounds w [] [] = true
within_bounds w (a ∷ args) (b ∷ bounds) = is_subtype w.classes a b && within_bounds w args bounds
within_bounds w args bounds = false

abbrev pub fits_class : KTables → KClassRef → List KKind → Bool
fits_class w c args = within_bounds w args (map (put c args) (bounds_of w c))

abbrev pub bad : List ℕ → ℕ → Position → Typed KKind
bad path number at = record { result = None; notes = noted path number at }

abbrev pub class_written : KTables → List ℕ → Position → Nullability → List KKind → Option KClassRef → Typed KKind
class_written w path at n args None = bad path 1 at
class_written w path at n args (Some c) = if fits_class w c args then good (type (head.Class c) args n) else bad path 3 at

abbrev pub head_written : KTables → List ℕ → Position → Nullability → Path → Option KHead → Typed KKind
head_written w path at n name None = class_written w path at n [] (class_at w name)
head_written w path at n name (Some h) = good (type h [] n)

abbrev pub plain_written : KTables → List ℕ → Position → Path → Option Position → Option KTypeVariable → Typed KKind
plain_written w path at name question None = head_written w path at (marked question) name (array_named name)
plain_written w path at name question (Some v) = good (type (head.Variable v.class v.place) [] (marked_variable question))

abbrev pub array_written : List ℕ → Position → Nullability → List KKind → Typed KKind
array_written path at n [] = bad path 3 at
array_written path at n (x ∷ []) = good (type head.Array (x ∷ []) n)
array_written path at n (x ∷ y ∷ xs) = bad path 3 at

abbrev pub applied_written : KTables → List ℕ → Position → Nullability → Path → List KKind → Typed KKind
applied_written w path at n name args = if is_array_named name then array_written path at n args else class_written w path at n args (class_at w name)

-- of a type in the file of a path
abbrev pub judged_type : List ℕ → (List ℕ → Typed KKind) → Typed KKind
judged_type path x = x path

abbrev pub written_by : KTables → KType-F (List ℕ → Typed KKind) → List ℕ → Typed KKind
written_by w (KType-F.Plain name question variable) path = plain_written w path name.first.at (path_of name) question (variable_at w (path_of name))
written_by w (KType-F.Applied name angles arguments commas question) path =
    each (map (judged_type path) arguments) >>= applied_written w path name.first.at (marked question) (path_of name)

-- what a written type means; K1 where a name is of no class, K3 where a class takes other arguments
unfoldable pub written : KTables → KType → List ℕ → Typed KKind
written w = fold-KType (List ℕ → Typed KKind) (written_by w)

abbrev pub written_in : KTables → List ℕ → KType → Typed KKind
written_in w path x = written w x path

abbrev pub meant : KTables → KType → Option KKind
meant w x = (written w x []).result

abbrev pub arguments_written : KTables → List ℕ → Option KTypeArguments → Typed (List KKind)
arguments_written w path None = good []
arguments_written w path (Some x) = each (map (written_in w path) x.items)
