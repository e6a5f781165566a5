-- What a class declares: its head, its functions, constructors and properties, as what a text may name (Kotlin specification,
-- "Declarations").
use Rattle.std.specs.Prelude.{ℕ, zero, Bool, true, false, not, ◌&&◌, ◌||◌, if◌then◌else◌, List, [], ◌∷◌, ◌++◌, map, Option, Some, None, is_some, length}
use Rattle.std.specs.List.{list_any, filter}
use Rattle.kotlin_tree.specs.declared.types.KName.{KName}
use Rattle.kotlin_tree.specs.declared.statements.KBlock.{KBlock}
use Rattle.kotlin_tree.specs.declared.statements.KDeclared.{KDeclared}
use Rattle.kotlin_tree.specs.declared.statements.KVariability.{KVariability}
use Rattle.kotlin_tree.specs.declared.statements.KVariability.TheVariants as word
use Rattle.kotlin_tree.specs.declared.members.KParam.{KParam}
use Rattle.kotlin_tree.specs.declared.members.KTyped.{KTyped}
use Rattle.kotlin_tree.specs.declared.members.KValue.{KValue}
use Rattle.kotlin_tree.specs.declared.members.KModifier.{KModifier}
use Rattle.kotlin_tree.specs.declared.members.KModifierKind.{KModifierKind}
use Rattle.kotlin_tree.specs.declared.members.KModifierKind.TheVariants as modifier
use Rattle.kotlin_tree.specs.declared.members.KMember.{KMember}
use Rattle.kotlin_tree.specs.declared.members.KMember.TheOpen.{KMember-F}
use Rattle.kotlin_tree.specs.declared.files.KClass.{KClass}
use Rattle.kotlin_tree.specs.declared.files.KClassWord.{KClassWord}
use Rattle.kotlin_tree.specs.declared.files.KClassWord.TheVariants as sort
use Rattle.kotlin_tree.specs.declared.files.KSuper.{KSuper}
use Rattle.kotlin_tree.specs.declared.files.KSupers.{KSupers}
use Rattle.kotlin_tree.specs.declared.files.KTypeParam.{KTypeParam}
use Rattle.kotlin_flow.specs.Members.{Bare, bare}
use Rattle.kotlin_types.specs.declared.kinds.KClassRef.{KClassRef}
use Rattle.kotlin_types.specs.declared.kinds.KHead.{KHead}
use Rattle.kotlin_types.specs.declared.kinds.KHead.TheVariants as head
use Rattle.kotlin_types.specs.declared.kinds.KKind.{KKind}
use Rattle.kotlin_types.specs.declared.classes.KClassHead.{KClassHead}
use Rattle.kotlin_types.specs.LibraryClasses.{places}
use Rattle.kotlin_types.specs.Types.{any, class_type, head_of, nullable, same_class, unit, variable}
use Rattle.kotlin_typing.specs.declared.scope.KStore.{KStore}
use Rattle.kotlin_typing.specs.declared.scope.KStore.TheVariants as store
use Rattle.kotlin_typing.specs.declared.tables.KHolder.{KHolder}
use Rattle.kotlin_typing.specs.declared.tables.KHolder.TheVariants as holder
use Rattle.kotlin_typing.specs.declared.tables.KCallable.{KCallable}
use Rattle.kotlin_typing.specs.declared.tables.KProperty.{KProperty}
use Rattle.kotlin_typing.specs.declared.tables.KFace.{KFace}
use Rattle.kotlin_typing.specs.declared.tables.KTables.{KTables}
use Rattle.kotlin_typing.specs.Bodies.{without_variables}
use Rattle.kotlin_project.specs.Named.{all_of, named}
use Rattle.kotlin_project.specs.Declared.{params_of}

-- ---- modifiers and words

pub data Modified : Type 0 where
  IsStatic : Modified
  IsField : Modified
  IsPrivate : Modified
  IsAbstract : Modified
  IsOpen : Modified
  IsOverride : Modified
  IsConst : Modified
  IsPlain : Modified

abbrev pub modified : KModifierKind → Modified
modified (modifier.JvmStatic at) = IsStatic
modified (modifier.JvmField at) = IsField
modified (modifier.Synchronized at) = IsPlain
modified (modifier.Volatile at) = IsPlain
modified modifier.Private = IsPrivate
modified modifier.Abstract = IsAbstract
modified modifier.Open = IsOpen
modified modifier.Override = IsOverride
modified modifier.Const = IsConst

abbrev pub same_modified : Modified → Modified → Bool
same_modified IsStatic IsStatic = true
same_modified IsField IsField = true
same_modified IsPrivate IsPrivate = true
same_modified IsAbstract IsAbstract = true
same_modified IsOpen IsOpen = true
same_modified IsOverride IsOverride = true
same_modified IsConst IsConst = true
same_modified IsPlain IsPlain = true
same_modified x y = false

abbrev pub has : Modified → List KModifier → Bool
has m xs = list_any (λ (x : KModifier). same_modified (modified x.kind) m) xs

abbrev pub is_interface_word : KClassWord → Bool
is_interface_word sort.Class = false
is_interface_word sort.Interface = true
is_interface_word (sort.FunClass at) = false
is_interface_word (sort.FunInterface at) = true

abbrev pub is_face_word : KClassWord → Bool
is_face_word sort.Class = false
is_face_word sort.Interface = false
is_face_word (sort.FunClass at) = false
is_face_word (sort.FunInterface at) = true

abbrev pub is_interface : KClass → Bool
is_interface x = is_interface_word x.word

-- no instance is made of it
abbrev pub is_abstract : KClass → Bool
is_abstract x = is_interface x || has IsAbstract x.modifiers

-- it may be a supertype
abbrev pub is_open : KClass → Bool
is_open x = is_interface x || (has IsAbstract x.modifiers || has IsOpen x.modifiers)

-- ---- functions

-- whether a function may be overridden, and whether it must be
pub data Openness : Type 0 where
  Final : Openness
  Open : Openness
  Abstract : Openness

pub record Function : Type 0 where
  pub callable : KCallable
  pub openness : Openness

-- in an interface what has no block is abstract and all else is open; in a class what is written; an override stays open
abbrev pub openness_in : Bool → Bool → List KModifier → Openness
openness_in true has_body xs = if has IsPrivate xs then Final else if has_body then Open else Abstract
openness_in false has_body xs = if has IsAbstract xs then Abstract else if has IsOpen xs || has IsOverride xs then Open else Final

abbrev pub kinds_of : KTables → List KParam → Option (List KKind)
kinds_of w xs = all_of (map (λ (x : KParam). named w x.kind) xs)

abbrev pub result_of : KTables → Option KTyped → Option KKind
result_of w None = Some unit
result_of w (Some x) = named w x.kind

abbrev pub callable_by : KHolder → List ℕ → Bool → Option (List KKind) → Option KKind → Option KCallable
callable_by h name is_private None result = None
callable_by h name is_private (Some params) None = None
callable_by h name is_private (Some params) (Some result) = Some (record { holder = h; name = name; params = params; result = result; is_private = is_private })

abbrev pub function_row : Openness → Option KCallable → List Function
function_row o None = []
function_row o (Some m) = record { callable = m; openness = o } ∷ []

-- the function that a member is, where its types are named
abbrev pub function_at : KTables → Bool → KHolder → Bare → List Function
function_at w in_interface h (KMember-F.Function modifiers at x params result body) =
    function_row (openness_in in_interface (is_some body) modifiers) (callable_by h x.name (has IsPrivate modifiers) (kinds_of w params.items) (result_of w result))
function_at w in_interface h x = []

abbrev pub functions_at : KTables → Bool → KHolder → List Bare → List Function
functions_at w in_interface h [] = []
functions_at w in_interface h (x ∷ xs) = function_at w in_interface h x ++ functions_at w in_interface h xs

-- ---- constructors

abbrev pub own_type : KClassRef → KClass → KKind
own_type c x = class_type c (map (variable c) (places (length (params_of x))))

abbrev pub callable_row : Option KCallable → List KCallable
callable_row None = []
callable_row (Some m) = m ∷ []

abbrev pub constructor_at : KTables → KClassRef → KClass → Bare → List KCallable
constructor_at w c x (KMember-F.Constructor modifiers at params first body) =
    callable_row (callable_by (holder.Constructor c) x.name.name (has IsPrivate modifiers) (kinds_of w params.items) (Some (own_type c x)))
constructor_at w c x m = []

abbrev pub is_constructor : Bare → Bool
is_constructor (KMember-F.Constructor modifiers at params first body) = true
is_constructor m = false

abbrev pub constructors_at : KTables → KClassRef → KClass → List Bare → List KCallable
constructors_at w c x [] = []
constructors_at w c x (m ∷ ms) = constructor_at w c x m ++ constructors_at w c x ms

-- a class in which none is written has one without parameters, and an interface none
abbrev pub default_constructor : KClassRef → KClass → List KCallable
default_constructor c x =
    if is_interface x || list_any is_constructor (map bare x.members) then []
    else record { holder = holder.Constructor c; name = x.name.name; params = []; result = own_type c x; is_private = false } ∷ []

-- ---- properties

abbrev pub store_of : KVariability → Option KValue → KStore
store_of word.Val None = store.Once
store_of word.Val (Some value) = store.Fixed
store_of word.Var value = store.Free

abbrev pub property_row : KHolder → List KModifier → KDeclared → Option KValue → Bool → Option KKind → List KProperty
property_row h modifiers x value is_privately_set None = []
property_row h modifiers x value is_privately_set (Some k) =
    record { holder = h; name = x.name.name; kind = k; store = store_of x.word value; is_private = has IsPrivate modifiers; is_privately_set = is_privately_set } ∷ []

abbrev pub property_at : KTables → KHolder → Bare → List KProperty
property_at w h (KMember-F.Property modifiers x value setter) = property_row h modifiers x value (is_some setter) (named w x.kind)
property_at w h m = []

abbrev pub properties_at : KTables → KHolder → List Bare → List KProperty
properties_at w h [] = []
properties_at w h (m ∷ ms) = property_at w h m ++ properties_at w h ms

-- ---- companions

abbrev pub companion_members : Bare → List Bare
companion_members (KMember-F.Companion at members) = map bare members
companion_members m = []

abbrev pub in_companions : List Bare → List Bare
in_companions [] = []
in_companions (m ∷ ms) = companion_members m ++ in_companions ms

-- ---- classes

abbrev pub members_of : KClass → List Bare
members_of x = map bare x.members

abbrev pub functions_of : KTables → KClassRef → KClass → List Function
functions_of w c x =
    functions_at w (is_interface x) (holder.Instance c) (members_of x)
    ++ functions_at (without_variables w) false (holder.Companion c) (in_companions (members_of x))

abbrev pub constructors_of : KTables → KClassRef → KClass → List KCallable
constructors_of w c x = constructors_at w c x (members_of x) ++ default_constructor c x

abbrev pub properties_of : KTables → KClassRef → KClass → List KProperty
properties_of w c x =
    properties_at w (holder.Instance c) (members_of x)
    ++ properties_at (without_variables w) (holder.Companion c) (in_companions (members_of x))

-- the parameters and the result of the one abstract method of a `fun interface`
abbrev pub face_by : KClassRef → List Function → List KFace
face_by c [] = []
face_by c (f ∷ []) = record { class = c; params = f.callable.params; result = f.callable.result } ∷ []
face_by c (f ∷ g ∷ fs) = []

abbrev pub is_abstract_function : Function → Bool
is_abstract_function f = by f.openness
  where
    by : Openness → Bool
    by Final = false
    by Open = false
    by Abstract = true

abbrev pub faces_of : KTables → KClassRef → KClass → List KFace
faces_of w c x = if is_face_word x.word then face_by c (filter is_abstract_function (functions_at w true (holder.Instance c) (members_of x))) else []

-- ---- heads

abbrev pub bound_by : Option KKind → KKind
bound_by None = nullable any
bound_by (Some k) = k

abbrev pub bound_of : KTables → KTypeParam → KKind
bound_of w x = by x.bound
  where
    by : Option KTyped → KKind
    by None = nullable any
    by (Some b) = bound_by (named w b.kind)

abbrev pub supers_by : Option KSupers → List KSuper
supers_by None = []
supers_by (Some x) = x.items

abbrev pub supers_of : KClass → List KSuper
supers_of x = supers_by x.supers

abbrev pub listed : Option KKind → List KKind
listed None = []
listed (Some k) = k ∷ []

abbrev pub named_supers : KTables → List KSuper → List KKind
named_supers w [] = []
named_supers w (x ∷ xs) = listed (named w x.kind) ++ named_supers w xs

abbrev pub is_one_of : List KClassRef → KHead → Bool
is_one_of interfaces (head.Class c) = list_any (same_class c) interfaces
is_one_of interfaces h = false

abbrev pub or_any : List KKind → List KKind
or_any [] = any ∷ []
or_any (x ∷ xs) = x ∷ xs

-- the superclass first
abbrev pub class_first : List KClassRef → List KKind → List KKind
class_first interfaces xs = filter (λ (x : KKind). not (is_one_of interfaces (head_of x))) xs ++ filter (λ (x : KKind). is_one_of interfaces (head_of x)) xs

abbrev pub head_row : KTables → List KClassRef → KClass → KClassHead
head_row w interfaces x = record { bounds = map (bound_of w) (params_of x); supers = or_any (class_first interfaces (named_supers w (supers_of x))) }
