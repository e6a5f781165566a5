-- What the types of declarations name. Whether arguments keep to bounds is judged where a type is written.
use Rattle.std.specs.Prelude.{if◌then◌else◌, List, [], ◌∷◌, Option, Some, None}
use Rattle.judged.specs.Judged.{begun}
use Rattle.kotlin_tree.specs.declared.places.Position.{Position}
use Rattle.kotlin_tree.specs.declared.types.KType.{KType, fold-KType}
use Rattle.kotlin_tree.specs.declared.types.KType.TheOpen.{KType-F}
use Rattle.kotlin_types.specs.declared.kinds.KClassRef.{KClassRef}
use Rattle.kotlin_types.specs.declared.kinds.KHead.{KHead}
use Rattle.kotlin_types.specs.declared.kinds.KHead.TheVariants as head
use Rattle.kotlin_types.specs.declared.kinds.Nullability.{Nullability}
use Rattle.kotlin_types.specs.declared.kinds.KKind.{KKind}
use Rattle.kotlin_types.specs.Types.{type}
use Rattle.kotlin_typing.specs.declared.tables.KTypeVariable.{KTypeVariable}
use Rattle.kotlin_typing.specs.declared.tables.KTables.{KTables}
use Rattle.kotlin_typing.specs.Written.{Path, array_named, class_at, is_array_named, marked, marked_variable, path_of, variable_at}

-- all of them, where there is each
abbrev pub all_of : {A : Type 0} → List (Option A) → Option (List A)
all_of [] = Some []
all_of (x ∷ xs) = begun x (all_of xs)

abbrev pub class_named : Nullability → List KKind → Option KClassRef → Option KKind
class_named n args None = None
class_named n args (Some c) = Some (type (head.Class c) args n)

abbrev pub head_named : KTables → Nullability → Path → Option KHead → Option KKind
head_named w n name None = class_named n [] (class_at w name)
head_named w n name (Some h) = Some (type h [] n)

abbrev pub plain_named : KTables → Path → Option Position → Option KTypeVariable → Option KKind
plain_named w name question None = head_named w (marked question) name (array_named name)
plain_named w name question (Some v) = Some (type (head.Variable v.class v.place) [] (marked_variable question))

abbrev pub array_of : Nullability → List KKind → Option KKind
array_of n [] = None
array_of n (x ∷ []) = Some (type head.Array (x ∷ []) n)
array_of n (x ∷ y ∷ xs) = None

abbrev pub applied_named : KTables → Nullability → Path → Option (List KKind) → Option KKind
applied_named w n name None = None
applied_named w n name (Some args) = if is_array_named name then array_of n args else class_named n args (class_at w name)

abbrev pub named_by : KTables → KType-F (Option KKind) → Option KKind
named_by w (KType-F.Plain name question variable) = plain_named w (path_of name) question (variable_at w (path_of name))
named_by w (KType-F.Applied name angles arguments commas question) = applied_named w (marked question) (path_of name) (all_of arguments)

unfoldable pub named : KTables → KType → Option KKind
named w = fold-KType (Option KKind) (named_by w)
