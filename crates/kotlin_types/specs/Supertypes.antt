-- Supertypes with their arguments (Kotlin specification, "Subtyping", "Subtyping rules").
use Rattle.std.specs.Prelude.{ℕ, zero, suc, Bool, ◌&&◌, ◌||◌, List, [], ◌∷◌, ◌++◌, Option, Some, None, map, find, slice_get}
use Rattle.std.specs.List.{list_any}
use Rattle.kotlin_types.specs.declared.kinds.KClassRef.{KClassRef}
use Rattle.kotlin_types.specs.declared.kinds.KClassRef.TheVariants as class
use Rattle.kotlin_types.specs.declared.kinds.KHead.{KHead}
use Rattle.kotlin_types.specs.declared.kinds.KHead.TheVariants as head
use Rattle.kotlin_types.specs.declared.kinds.Nullability.{Nullability}
use Rattle.kotlin_types.specs.declared.kinds.Nullability.TheVariants as null
use Rattle.kotlin_types.specs.declared.kinds.KKind.{KKind}
use Rattle.kotlin_types.specs.declared.classes.KClassHead.{KClassHead}
use Rattle.kotlin_types.specs.declared.classes.KClasses.{KClasses}
use Rattle.kotlin_types.specs.Types.{any, arguments_of, head_of, is_within, lift, nullability_of, put, same_but_null, same_head}

-- ---- what is declared

abbrev pub class_head : KClasses → KClassRef → Option KClassHead
class_head classes (class.Library n) = slice_get classes.library n
class_head classes (class.Project n) = slice_get classes.project n

abbrev pub supers_by : Option KClassHead → List KKind
supers_by None = []
supers_by (Some x) = x.supers

abbrev pub listed : Option KKind → List KKind
listed None = []
listed (Some x) = x ∷ []

abbrev pub bound_by : ℕ → Option KClassHead → Option KKind
bound_by place None = None
bound_by place (Some x) = slice_get x.bounds place

-- ---- direct supertypes

-- of a class the declared ones, with its arguments in the place of its parameters; of an array `Any`; of a type parameter its
-- bound. Of `Nothing` none is named, since it stands below all, and of `Unit` none, since no value of the profile has that type
abbrev pub supers_of : KClasses → KHead → List KKind → List KKind
supers_of classes (head.Class c) args = map (put c args) (supers_by (class_head classes c))
supers_of classes (head.Variable c place) args = listed (bound_by place (class_head classes c))
supers_of classes head.Nothing args = []
supers_of classes head.Unit args = []
supers_of classes head.Array args = any ∷ []
supers_of classes head.Booleans args = any ∷ []
supers_of classes (head.Numbers k) args = any ∷ []

-- a supertype of `T?` has a `?` too, and one of `T & Any` none
abbrev pub direct : KClasses → KKind → List KKind
direct classes x = map (lift (nullability_of x)) (supers_of classes (head_of x) (arguments_of x))

-- ---- all that stands above a type, itself included, in at most so many steps

abbrev pub joined : List (List KKind) → List KKind
joined [] = []
joined (xs ∷ xss) = xs ++ joined xss

abbrev pub climbed : KClasses → ℕ → KKind → List KKind
climbed classes zero x = x ∷ []
climbed classes (suc n) x = x ∷ joined (map (climbed classes n) (direct classes x))

unfoldable pub above : KClasses → KKind → List KKind
above classes x = climbed classes classes.steps x

abbrev pub is_of : KClassRef → KKind → Bool
is_of c x = same_head (head_of x) (head.Class c)

-- the supertype of a class, or the type itself
abbrev pub supertype : KClasses → KClassRef → KKind → Option KKind
supertype classes c x = find (is_of c) (above classes x)

-- ---- subtyping

abbrev pub is_nothing : KKind → Bool
is_nothing x = same_head (head_of x) head.Nothing

-- null is a value of the second where it is one of the first
abbrev pub takes_null : Nullability → Nullability → Bool
takes_null null.Also m = is_within null.Also m
takes_null n m = is_within null.Never m

-- `Nothing` below each type and `Nothing?` below each that takes null; a type below itself with more of null: arguments are
-- the same, since type parameters and components are invariant
abbrev pub meets : KKind → KKind → Bool
meets b s =
    (is_nothing s && takes_null (nullability_of s) (nullability_of b))
    || (same_but_null s b && is_within (nullability_of s) (nullability_of b))

-- what stands above a meets b
abbrev pub is_subtype : KClasses → KKind → KKind → Bool
is_subtype classes a b = list_any (meets b) (above classes a)
