-- The typing of the Kotlin profile: one case for each construct. A part has a fault of its own only where its parts have types.
use Rattle.std.specs.Prelude.{ℕ, Bool, true, false, not, ◌&&◌, ◌||◌, if◌then◌else◌, List, [], ◌∷◌, ◌++◌, map, find, Option, Some, None, bytes_eq, codes, is_some, length}
use Rattle.std.specs.List.{list_any}
use Rattle.std.specs.Option.{option_map, option_or}
use Rattle.j2k_base.specs.declared.constants.Kind.TheVariants as kind
use Rattle.java_lib.specs.Library.{list_class, throwable_class}
use Rattle.judged.specs.Judged.{each, good, pair, ◌>>=◌}
use Rattle.kotlin_tree.specs.declared.places.Position.{Position}
use Rattle.kotlin_tree.specs.declared.types.KName.{KName}
use Rattle.kotlin_tree.specs.declared.types.KType.{KType, fold-KType}
use Rattle.kotlin_tree.specs.declared.types.KType.TheOpen.{KType-F}
use Rattle.kotlin_tree.specs.declared.types.KTypeArguments.{KTypeArguments}
use Rattle.kotlin_tree.specs.declared.expressions.KLiteral.{KLiteral}
use Rattle.kotlin_tree.specs.declared.expressions.KLiteral.TheVariants as literal
use Rattle.kotlin_tree.specs.declared.expressions.KPrefix.{KPrefix}
use Rattle.kotlin_tree.specs.declared.expressions.KPrefix.TheVariants as prefix
use Rattle.kotlin_tree.specs.declared.expressions.KPostfix.{KPostfix}
use Rattle.kotlin_tree.specs.declared.expressions.KPostfix.TheVariants as postfix
use Rattle.kotlin_tree.specs.declared.expressions.KBinary.{KBinary}
use Rattle.kotlin_tree.specs.declared.expressions.KBinary.TheVariants as binary
use Rattle.kotlin_tree.specs.declared.expressions.KExpr.{KExpr, fold-KExpr}
use Rattle.kotlin_tree.specs.declared.expressions.KChoice.{KChoice, fold-KChoice}
use Rattle.kotlin_tree.specs.declared.statements.KBranch.{KBranch, fold-KBranch}
use Rattle.kotlin_tree.specs.declared.statements.KCatch.{KCatch, fold-KCatch}
use Rattle.kotlin_tree.specs.declared.expressions.KExpr.TheOpen.{KExpr-F, KStmt-F, KChoice-F, KBranch-F, KCatch-F}
use Rattle.kotlin_tree.specs.declared.statements.KVariability.{KVariability}
use Rattle.kotlin_tree.specs.declared.statements.KVariability.TheVariants as word
use Rattle.kotlin_tree.specs.declared.statements.KDeclared.{KDeclared}
use Rattle.kotlin_tree.specs.declared.statements.KLabel.{KLabel}
use Rattle.kotlin_tree.specs.declared.statements.KTarget.{KTarget}
use Rattle.kotlin_tree.specs.declared.statements.KStmt.{KStmt, fold-KStmt}
use Rattle.kotlin_types.specs.declared.kinds.KClassRef.{KClassRef}
use Rattle.kotlin_types.specs.declared.kinds.KClassRef.TheVariants as class
use Rattle.kotlin_types.specs.declared.kinds.KHead.{KHead}
use Rattle.kotlin_types.specs.declared.kinds.KHead.TheVariants as head
use Rattle.kotlin_types.specs.declared.kinds.Nullability.TheVariants as null
use Rattle.kotlin_types.specs.declared.kinds.KKind.{KKind}
use Rattle.kotlin_types.specs.LibraryClasses.{places}
use Rattle.kotlin_types.specs.Types.{any, arguments_of, boolean, class_type, head_of, is_sure, library_type, not_null, null_type, nullable, number, put, same_but_null, same_class, string, type, unit, variable}
use Rattle.kotlin_types.specs.Supertypes.{is_subtype, supertype}
use Rattle.kotlin_typing.specs.declared.scope.KStore.{KStore}
use Rattle.kotlin_typing.specs.declared.scope.KStore.TheVariants as store
use Rattle.kotlin_typing.specs.declared.scope.KLocal.{KLocal}
use Rattle.kotlin_typing.specs.declared.scope.KReturns.{KReturns}
use Rattle.kotlin_typing.specs.declared.scope.KReturns.TheVariants as returns
use Rattle.kotlin_typing.specs.declared.scope.KScope.{KScope}
use Rattle.kotlin_typing.specs.declared.tables.KHolder.{KHolder}
use Rattle.kotlin_typing.specs.declared.tables.KHolder.TheVariants as holder
use Rattle.kotlin_typing.specs.declared.tables.KCallable.{KCallable}
use Rattle.kotlin_typing.specs.declared.tables.KProperty.{KProperty}
use Rattle.kotlin_typing.specs.declared.tables.KFace.{KFace}
use Rattle.kotlin_typing.specs.declared.tables.KTables.{KTables}
use Rattle.kotlin_typing.specs.Notes.{Notes, Typed, fault, faulty}
use Rattle.kotlin_typing.specs.Scopes.{has_this, in_lambda, in_lock, in_loop, in_run, initializes, initializes_companion, is_locked, lambda_around, nearest, parameter, past, past_no, past_yes, reaches, with_parameter}
use Rattle.kotlin_typing.specs.Written.{Path, arguments_written, bounds_of, class_at, fits_class, meant, path_of, same_path, written}
use Rattle.kotlin_typing.specs.Members.{callables_above, callables_behind, callables_of, chosen, constructors_of, first_of, given_method, given_property, is_own, none_applies, properties_behind, properties_of}
use Rattle.kotlin_typing.specs.Operators.{binary_kind, either_kind, given_where, is_boolean, is_int, is_long, sign_kind}
use Rattle.kotlin_typing.specs.Forms.{Branch, Catch, Choice, Form, Line, Stored, all_wanted, as_placed, as_sure, as_wanted, behind, judged, kind_or, last_gives, lines_notes, twice_named}

-- ---- literals and names

abbrev pub literal_kind : KLiteral → KKind
literal_kind (literal.Integer n) = number kind.Int
literal_kind (literal.Long n) = number kind.Long
literal_kind (literal.Character n) = number kind.Char
literal_kind (literal.Text units) = string
literal_kind literal.True = boolean
literal_kind literal.False = boolean
literal_kind literal.Null = null_type

abbrev pub is_stored_to : KStore → Bool
is_stored_to store.Fixed = false
is_stored_to store.Once = true
is_stored_to store.Free = true

abbrev pub local_by : KScope → Position → Option KLocal → Typed KKind
local_by s at None = faulty s 1 at
local_by s at (Some row) = good row.kind

abbrev pub local_target : KScope → Position → Option KLocal → Typed Stored
local_target s at None = faulty s 1 at
local_target s at (Some row) = good (record { kind = row.kind; is_open = is_stored_to row.store })

-- `this`, with the type parameters of its class
abbrev pub this_type : KTables → KScope → KKind
this_type w s = class_type s.own (map (variable s.own) (places (length (bounds_of w s.own))))

abbrev pub this_by : KTables → KScope → Position → Typed KKind
this_by w s at = if has_this s.part then good (this_type w s) else faulty s 1 at

-- ---- properties

-- a `val` is stored to where its class or companion is initialized, and by `this` or the name of the class
abbrev pub opens : KScope → Bool → KHolder → Bool
opens s is_this (holder.Instance c) = is_this && (same_class c s.own && initializes s.part)
opens s is_this (holder.Companion c) = same_class c s.own && initializes_companion s.part
opens s is_this (holder.Constructor c) = false
opens s is_this (holder.Path path) = false

abbrev pub is_open : KScope → Bool → KProperty → KStore → Bool
is_open s is_this p store.Fixed = false
is_open s is_this p store.Once = opens s is_this p.holder
is_open s is_this p store.Free = not p.is_privately_set || is_own s.own p.holder

abbrev pub stored : KScope → Bool → KProperty → Stored
stored s is_this p = record { kind = p.kind; is_open = is_open s is_this p p.store }

abbrev pub closed : KKind → Stored
closed k = record { kind = k; is_open = false }

abbrev pub property_of : KTables → KScope → Bool → List ℕ → KKind → Option Stored
property_of w s is_this name k = option_or (option_map (stored s is_this) (first_of (properties_of w s name k))) (option_map closed (given_property name k))

-- a member of a value that may be null needs `!!`
abbrev pub property_in : KTables → KScope → Position → Bool → List ℕ → KKind → Typed Stored
property_in w s at is_this name k = if is_sure k then kind_or s 1 at (property_of w s is_this name k) else faulty s 4 at

-- ---- names with dots that name no value

abbrev pub has_path : Path → KHolder → Bool
has_path path (holder.Instance c) = false
has_path path (holder.Companion c) = false
has_path path (holder.Constructor c) = false
has_path path (holder.Path other) = same_path path other

abbrev pub is_path : KTables → Path → Bool
is_path w path =
    is_some (class_at w path)
    || (list_any (λ (m : KCallable). has_path path m.holder) w.callables || list_any (λ (p : KProperty). has_path path p.holder) w.properties)

abbrev pub static_by : KTables → KScope → Path → Option Path
static_by w s [] = None
static_by w s (x ∷ rest) = if is_some (nearest x s.locals) then None else if is_path w (x ∷ rest) then Some (x ∷ rest) else None

-- what names a class or a part of the library stands before its members, unless it is a variable
abbrev pub static : KTables → KScope → Option Path → Option Path
static w s None = None
static w s (Some path) = static_by w s path

abbrev pub longer : Option Path → List ℕ → Option Path
longer None name = None
longer (Some path) name = Some (path ++ name ∷ [])

abbrev pub field_by : KTables → KScope → Form → List ℕ → Option Path → Typed Stored
field_by w s x name (Some path) = kind_or s 1 x.first (option_map (stored s false) (first_of (properties_behind w s path name)))
field_by w s x name None = x.judge s >>= property_in w s x.first x.is_this name

abbrev pub field : KTables → KScope → Form → List ℕ → Typed Stored
field w s x name = field_by w s x name (static w s x.path)

abbrev pub kind_of : Stored → Typed KKind
kind_of x = good x.kind

-- ---- calls

abbrev pub picked : KScope → Position → Bool → Option KCallable → Typed KKind
picked s at none (Some m) = good m.result
picked s at true None = faulty s 5 at
picked s at false None = faulty s 6 at

-- one of these, by the arguments
abbrev pub one_of : KTables → KScope → Position → List KKind → List KCallable → Typed KKind
one_of w s at args found = picked s at (none_applies w args found) (chosen w args found)

-- what has no such name at all is K1
abbrev pub called : KTables → KScope → Position → List KKind → List KCallable → Typed KKind
called w s at args [] = faulty s 1 at
called w s at args (m ∷ more) = one_of w s at args (m ∷ more)

abbrev pub is_text : List ℕ → List KKind → Bool
is_text name [] = bytes_eq name (codes "toString")
is_text name (a ∷ args) = false

abbrev pub given_by : List ℕ → KKind → List KKind → Option KKind
given_by name k [] = given_method name k
given_by name k (a ∷ args) = None

abbrev pub method_by : KTables → KScope → Position → List ℕ → KKind → List KKind → Option KKind → Typed KKind
method_by w s at name k args (Some given) = good given
method_by w s at name k args None = called w s at args (callables_of w s name k)

-- `toString()` alone is a member of null too
abbrev pub method_in : KTables → KScope → Position → List ℕ → KKind × List KKind → Typed KKind
method_in w s at name ks =
    if is_sure ks.0 then method_by w s at name ks.0 ks.1 (given_by name ks.0 ks.1) else
    if is_text name ks.1 then good string else faulty s 4 at

abbrev pub arguments : KScope → List Form → Typed (List KKind)
arguments s xs = each (map (judged (past s)) xs)

abbrev pub method_at : KTables → KScope → Form → List ℕ → List Form → Option Path → Typed KKind
method_at w s x name xs (Some path) = arguments s xs >>= (λ args. called w s x.first args (callables_behind w s path name))
method_at w s x name xs None = pair (x.judge s) (arguments s xs) >>= method_in w s x.first name

-- no function of the profile has type parameters of its own
abbrev pub untyped : KScope → Position → Option KTypeArguments → Notes
untyped s at None = []
untyped s at (Some types) = fault s 5 at

abbrev pub super_by : KTables → KScope → Position → List ℕ → List KKind → Typed KKind
super_by w s at name args = if has_this s.part then called w s at args (callables_above w s name (this_type w s)) else faulty s 1 at

-- the type of the elements of what `arrayOf` and its like make, and its own type
abbrev pub elements_of : List ℕ → List KKind → Option (KKind × KKind)
elements_of name [] =
    if bytes_eq name (codes "booleanArrayOf") then Some (boolean, type head.Booleans [] null.Never) else
    if bytes_eq name (codes "byteArrayOf") then Some (number kind.Byte, type (head.Numbers kind.Byte) [] null.Never) else
    if bytes_eq name (codes "shortArrayOf") then Some (number kind.Short, type (head.Numbers kind.Short) [] null.Never) else
    if bytes_eq name (codes "charArrayOf") then Some (number kind.Char, type (head.Numbers kind.Char) [] null.Never) else
    if bytes_eq name (codes "intArrayOf") then Some (number kind.Int, type (head.Numbers kind.Int) [] null.Never) else
    if bytes_eq name (codes "longArrayOf") then Some (number kind.Long, type (head.Numbers kind.Long) [] null.Never) else None
elements_of name (x ∷ []) = if bytes_eq name (codes "arrayOf") then Some (x, type head.Array (x ∷ []) null.Never) else None
elements_of name (x ∷ y ∷ xs) = None

-- what is made of a number of elements
abbrev pub sized : List ℕ → List KKind → Option KKind
sized name [] =
    if bytes_eq name (codes "BooleanArray") then Some (type head.Booleans [] null.Never) else
    if bytes_eq name (codes "ByteArray") then Some (type (head.Numbers kind.Byte) [] null.Never) else
    if bytes_eq name (codes "ShortArray") then Some (type (head.Numbers kind.Short) [] null.Never) else
    if bytes_eq name (codes "CharArray") then Some (type (head.Numbers kind.Char) [] null.Never) else
    if bytes_eq name (codes "IntArray") then Some (type (head.Numbers kind.Int) [] null.Never) else
    if bytes_eq name (codes "LongArray") then Some (type (head.Numbers kind.Long) [] null.Never) else None
sized name (x ∷ []) = if bytes_eq name (codes "arrayOfNulls") then Some (type head.Array (nullable x ∷ []) null.Never) else None
sized name (x ∷ y ∷ xs) = None

abbrev pub sizing : List ℕ → KKind → KCallable
sizing name k = record { holder = holder.Path []; name = name; params = number kind.Int ∷ []; result = k; is_private = false }

-- no instance is made of an abstract class or an interface (Kotlin specification, "Classifier declaration", "Abstract classes")
abbrev pub is_abstract : KTables → KClassRef → Bool
is_abstract w c = list_any (same_class c) w.abstracts

abbrev pub constructed : KTables → KScope → Position → KClassRef → List KKind → List KKind → Typed KKind
constructed w s at c types args =
    if is_abstract w c then faulty s 8 at else
    if fits_class w c types then one_of w s at args (constructors_of w s c types) else faulty s 3 at

abbrev pub plain_call : KTables → KScope → Position → List ℕ → List KKind → List KKind → Option KClassRef → Typed KKind
plain_call w s at name types args (Some c) = constructed w s at c types args
plain_call w s at name [] args None = called w s at args (callables_behind w s [] name)
plain_call w s at name (x ∷ types) args None = faulty s 5 at

abbrev pub sized_call : KTables → KScope → Position → List ℕ → List KKind → List KKind → Option KKind → Typed KKind
sized_call w s at name types args (Some k) = one_of w s at args (sizing name k ∷ [])
sized_call w s at name types args None = plain_call w s at name types args (class_at w (name ∷ []))

abbrev pub call_with : KTables → KScope → Position → List ℕ → List Form → List KKind → Option (KKind × KKind) → Typed KKind
call_with w s at name xs types (Some made) = record { result = Some made.1; notes = all_wanted w xs (past s) made.0 }
call_with w s at name xs types None = arguments s xs >>= (λ args. sized_call w s at name types args (sized name types))

abbrev pub call : KTables → KScope → Position → List ℕ → List Form → List KKind → Typed KKind
call w s at name xs types = call_with w s at name xs types (elements_of name types)

-- ---- elements

abbrev pub head_element : KHead → List KKind → Option KKind
head_element head.Array args = first_of args
head_element head.Booleans args = Some boolean
head_element (head.Numbers k) args = Some (number k)
head_element h args = None

abbrev pub element_in : KScope → Position → KKind → Typed Stored
element_in s at k =
    if is_sure k then kind_or s 5 at (option_map (λ e. record { kind = e; is_open = true }) (head_element (head_of k) (arguments_of k))) else faulty s 4 at

abbrev pub element : KTables → KScope → Form → Form → Typed Stored
element w s x i = behind (as_wanted w i (past s) (number kind.Int)) (x.judge s >>= element_in s x.first)

abbrev pub list_element : Option KKind → Option KKind
list_element None = None
list_element (Some k) = first_of (arguments_of k)

-- what a loop walks through: an array or a list
abbrev pub walked : KTables → KKind → Option KKind
walked w k = option_or (head_element (head_of k) (arguments_of k)) (list_element (supertype w.classes (class.Library list_class) k))

-- ---- operators

abbrev pub steps_by : KScope → Position → Stored → Typed KKind
steps_by s at x =
    if not x.is_open then faulty s 10 at else
    kind_or s 3 at (given_where (is_int x.kind || is_long x.kind) x.kind)

-- `++` and `--`
abbrev pub stepped : KScope → Form → Typed KKind
stepped s x = x.target s >>= steps_by s x.first

abbrev pub postfixed : KScope → Form → KPostfix → Typed KKind
postfixed s x postfix.NotNull = x.judge s >>= (λ k. good (not_null k))
postfixed s x postfix.Increment = stepped s x
postfixed s x postfix.Decrement = stepped s x

abbrev pub prefixed : KScope → Position → Form → KPrefix → Typed KKind
prefixed s at x prefix.Plus = x.judge s >>= (λ k. kind_or s 3 at (sign_kind k))
prefixed s at x prefix.Minus = x.judge s >>= (λ k. kind_or s 3 at (sign_kind k))
prefixed s at x prefix.Not = x.judge s >>= (λ k. kind_or s 3 at (given_where (is_boolean k) k))
prefixed s at x prefix.Increment = stepped s x
prefixed s at x prefix.Decrement = stepped s x

-- where the right operand of `&&` and of `||` stands
abbrev pub past_left : KBinary → KScope → KScope
past_left binary.AndAlso s = past_yes s
past_left binary.OrElse s = past_no s
past_left o s = past s

abbrev pub is_null_taken : KKind × KKind → Bool
is_null_taken ks = is_sure ks.0 || is_subtype_of_null ks.1
  where
    is_subtype_of_null : KKind → Bool
    is_subtype_of_null k = not (is_sure k)

-- a value that may be null is cast to a type that takes null
abbrev pub cast : KScope → Position → KKind × KKind → Typed KKind
cast s at ks = kind_or s 3 at (given_where (is_null_taken ks) ks.1)

abbrev pub either_from : KTables → KKind → List KKind → Option KKind
either_from w a [] = Some a
either_from w a (b ∷ bs) = either_next w bs (either_kind w.classes a b)
  where
    either_next : KTables → List KKind → Option KKind → Option KKind
    either_next w bs None = None
    either_next w [] (Some k) = Some k
    either_next w (c ∷ cs) (Some k) = either_next w cs (either_kind w.classes k c)

abbrev pub all_either : KTables → List KKind → Option KKind
all_either w [] = None
all_either w (a ∷ more) = either_from w a more

-- the labels of a `when` have the type of its subject
abbrev pub label_by : KScope → Position → KKind → Option KKind → Notes
label_by s at subject None = []
label_by s at subject (Some k) = if same_but_null k subject then [] else fault s 3 at

abbrev pub labels_notes : KScope → List Form → KKind → Notes
labels_notes s [] subject = []
labels_notes s (x ∷ xs) subject = ((x.judge s).notes ++ label_by s x.first subject (x.judge s).result) ++ labels_notes s xs subject

abbrev pub choices_notes : KScope → List Choice → KKind → Notes
choices_notes s [] subject = []
choices_notes s (x ∷ xs) subject = labels_notes s x.labels subject ++ choices_notes s xs subject

abbrev pub choice_values : List Choice → List Form
choice_values xs = map (λ (x : Choice). x.value) xs

abbrev pub when_value : KTables → KScope → Position → List Choice → Form → KKind → Typed KKind
when_value w s at xs other subject =
    behind (choices_notes s xs subject) (each (map (judged (past s)) (choice_values xs ++ other ∷ [])) >>= (λ ks. kind_or s 3 at (all_either w ks)))

-- ---- lambdas

abbrev pub face_by : KTables → KHead → List KKind → Option KFace
face_by w (head.Class c) args = option_map (λ (f : KFace). record f { params = map (put c args) f.params; result = put c args f.result }) (find (λ (f : KFace). same_class f.class c) w.faces)
face_by w h args = None

abbrev pub face_of : KTables → KKind → Option KFace
face_of w k = face_by w (head_of k) (arguments_of k)

abbrev pub is_unit : KHead → Bool
is_unit head.Unit = true
is_unit h = false

abbrev pub returned : KKind → KReturns
returned k = if is_unit (head_of k) then returns.NoValue else returns.Value k

-- as many names as parameters
abbrev pub lambda_rows : List KName → List KKind → Option (List KLocal)
lambda_rows [] [] = Some []
lambda_rows (x ∷ xs) (k ∷ ks) = option_map (λ rows. parameter x.name k ∷ rows) (lambda_rows xs ks)
lambda_rows xs ks = None

abbrev pub names_notes : KScope → List KName → Notes
names_notes s [] = []
names_notes s (x ∷ xs) = twice_named s x.at x.name ++ names_notes s xs

abbrev pub lambda_with : KScope → Position → List ℕ → List KName → List Line → KKind → KKind → Option (List KLocal) → Typed KKind
lambda_with s at name names xs k result None = faulty s 3 at
lambda_with s at name names xs k result (Some rows) = record { result = Some (not_null k); notes = names_notes s names ++ lines_notes xs (in_lambda name rows (returned result) s) }

abbrev pub lambda_by : KScope → Position → List ℕ → List KName → List Line → KKind → Option KFace → Typed KKind
lambda_by s at name names xs k None = faulty s 1 at
lambda_by s at name names xs k (Some f) = lambda_with s at name names xs k f.result (lambda_rows names f.params)

abbrev pub last_of : List ℕ → Path → List ℕ
last_of name [] = name
last_of name (x ∷ xs) = last_of x xs

abbrev pub type_place_by : KType-F (Position × List ℕ) → Position × List ℕ
type_place_by (KType-F.Plain name question is_variable) = (name.first.at, last_of [] (path_of name))
type_place_by (KType-F.Applied name angles args commas question) = (name.first.at, last_of [] (path_of name))

-- the first token of a type, and its simple name
unfoldable pub type_place : KType → Position × List ℕ
type_place = fold-KType (Position × List ℕ) type_place_by

-- ---- expressions

abbrev pub class_value : KScope → Position → Option KClassRef → Typed KKind
class_value s at None = faulty s 1 at
class_value s at (Some c) = good any

abbrev pub judge_by : KTables → KExpr-F Form Line Choice Branch Catch → KScope → Typed KKind
judge_by w (KExpr-F.Literal x at) s = good (literal_kind x)
judge_by w (KExpr-F.Name x) s = local_by s x.at (nearest x.name s.locals)
judge_by w (KExpr-F.This at) s = this_by w s at
judge_by w (KExpr-F.Paren round inner) s = inner.judge s
judge_by w (KExpr-F.Call x types round xs commas) s = arguments_written w s.path types >>= call w s x.at x.name xs
judge_by w (KExpr-F.SuperCall at x round xs commas) s = arguments s xs >>= super_by w s at.word x.name
judge_by w (KExpr-F.Field object dot x) s = field w s object x.name >>= kind_of
judge_by w (KExpr-F.Method object dot x types round xs commas) s = behind (untyped s object.first types) (method_at w s object x.name xs (static w s object.path))
judge_by w (KExpr-F.Element array square index) s = element w s array index >>= kind_of
judge_by w (KExpr-F.Postfix operand o at) s = postfixed s operand o
judge_by w (KExpr-F.Prefix o at operand) s = prefixed s at operand o
judge_by w (KExpr-F.As value at kind) s = pair (value.judge s) (written w kind s.path) >>= cast s value.first
judge_by w (KExpr-F.Is value at kind) s = pair (value.judge s) (written w kind s.path) >>= (λ ks. good boolean)
judge_by w (KExpr-F.Binary left o at right) s = pair (left.judge s) (right.judge (past_left o s)) >>= (λ ks. kind_or s 3 left.first (binary_kind o ks.0 ks.1))
judge_by w (KExpr-F.IfValue at condition value else_at other) s =
    behind (as_wanted w condition s boolean) (pair (value.judge (past_yes s)) (other.judge (past_no s)) >>= (λ ks. kind_or s 3 at.word (either_kind w.classes ks.0 ks.1)))
judge_by w (KExpr-F.WhenValue at subject curly choices else_at other) s = subject.judge s >>= when_value w s at.word choices other
judge_by w (KExpr-F.Lambda face curly names xs) s = written w face s.path >>= (λ k. lambda_by s (type_place face).0 (type_place face).1 names.items xs k (face_of w k))
judge_by w (KExpr-F.Run at curly xs) s = record { result = last_gives xs (in_run s); notes = lines_notes xs (in_run s) }
judge_by w (KExpr-F.Class x at) s = class_value s x.first.at (class_at w (path_of x))

abbrev pub target_by : KTables → Position → KExpr-F Form Line Choice Branch Catch → KScope → Typed Stored
target_by w at (KExpr-F.Name x) s = local_target s x.at (nearest x.name s.locals)
target_by w at (KExpr-F.Field object dot x) s = field w s object x.name
target_by w at (KExpr-F.Element array square index) s = element w s array index
target_by w at x s = faulty s 10 at

abbrev pub first_by : KExpr-F Form Line Choice Branch Catch → Position
first_by (KExpr-F.Literal x at) = at
first_by (KExpr-F.Name x) = x.at
first_by (KExpr-F.This at) = at
first_by (KExpr-F.Paren round inner) = round.opens
first_by (KExpr-F.Call x types round xs commas) = x.at
first_by (KExpr-F.SuperCall at x round xs commas) = at.word
first_by (KExpr-F.Field object dot x) = object.first
first_by (KExpr-F.Method object dot x types round xs commas) = object.first
first_by (KExpr-F.Element array square index) = array.first
first_by (KExpr-F.Postfix operand o at) = operand.first
first_by (KExpr-F.Prefix o at operand) = at
first_by (KExpr-F.As value at kind) = value.first
first_by (KExpr-F.Is value at kind) = value.first
first_by (KExpr-F.Binary left o at right) = left.first
first_by (KExpr-F.IfValue at condition value else_at other) = at.word
first_by (KExpr-F.WhenValue at subject curly choices else_at other) = at.word
first_by (KExpr-F.Lambda face curly names xs) = (type_place face).0
first_by (KExpr-F.Run at curly xs) = at
first_by (KExpr-F.Class x at) = x.first.at

abbrev pub path_by : KExpr-F Form Line Choice Branch Catch → Option Path
path_by (KExpr-F.Name x) = Some (x.name ∷ [])
path_by (KExpr-F.Field object dot x) = longer object.path x.name
path_by x = None

abbrev pub is_this_by : KExpr-F Form Line Choice Branch Catch → Bool
is_this_by (KExpr-F.This at) = true
is_this_by x = false

abbrev pub form_by : KTables → KExpr-F Form Line Choice Branch Catch → Form
form_by w x = record { first = first_by x; path = path_by x; is_this = is_this_by x; judge = judge_by w x; target = target_by w (first_by x) x }

-- ---- statements

abbrev pub row_of : KDeclared → KStore → KKind → KLocal
row_of x store kind = record { name = x.name.name; kind = kind; store = store; is_parameter = false }

abbrev pub store_of : KVariability → KStore → KStore
store_of word.Val of_val = of_val
store_of word.Var of_val = store.Free

abbrev pub declares_by : KTables → KStmt-F Form Line Choice Branch Catch → Option KLocal
declares_by w (KStmt-F.Commented comments x) = x.declares
declares_by w (KStmt-F.Declared x) = option_map (row_of x (store_of x.word store.Once)) (meant w x.kind)
declares_by w (KStmt-F.Local x at value) = option_map (row_of x (store_of x.word store.Fixed)) (meant w x.kind)
declares_by w x = None

abbrev pub nowhere : Position
nowhere = record { offset = 0; line = 1; column = 1 }

abbrev pub at_by : KStmt-F Form Line Choice Branch Catch → Position
at_by (KStmt-F.Commented comments x) = x.at
at_by (KStmt-F.Declared x) = x.name.at
at_by (KStmt-F.Local x at value) = x.name.at
at_by x = nowhere

abbrev pub gives_by : KStmt-F Form Line Choice Branch Catch → KScope → Option KKind
gives_by (KStmt-F.Commented comments x) s = x.gives s
gives_by (KStmt-F.Expression x) s = (x.judge s).result
gives_by x s = Some unit

abbrev pub label_of : Option KLabel → Option (List ℕ)
label_of x = option_map (λ (l : KLabel). l.name.name) x

abbrev pub target_of : Option KTarget → Option (List ℕ)
target_of x = option_map (λ (t : KTarget). t.name.name) x

abbrev pub jump_notes : KScope → Position → Option (List ℕ) → Notes
jump_notes s at label = if reaches label s then [] else fault s 13 at

-- whether `return` may give here what is around gives: out of a lambda with the name of its interface alone
abbrev pub returns_from : Option (List ℕ) → Option (List ℕ) → Bool
returns_from None None = true
returns_from None (Some name) = false
returns_from (Some face) None = false
returns_from (Some face) (Some name) = bytes_eq face name

abbrev pub leaves_lock : KScope → Option (List ℕ) → Bool
leaves_lock s None = false
leaves_lock s (Some name) = bytes_eq name (codes "synchronized") && is_locked s

abbrev pub return_by : KScope → Position → KReturns → Notes
return_by s at returns.Nowhere = fault s 13 at
return_by s at returns.NoValue = []
return_by s at (returns.Value k) = fault s 3 at

abbrev pub return_notes : KScope → Position → Option (List ℕ) → Notes
return_notes s at target =
    if leaves_lock s target then [] else
    if returns_from (lambda_around s) target then return_by s at s.returns else fault s 13 at

abbrev pub give_by : KTables → KScope → Position → Form → KReturns → Notes
give_by w s at x returns.Nowhere = (x.judge s).notes ++ fault s 13 at
give_by w s at x returns.NoValue = (x.judge s).notes ++ fault s 3 at
give_by w s at x (returns.Value k) = as_wanted w x s k

abbrev pub give_notes : KTables → KScope → Position → Form → Option (List ℕ) → Notes
give_notes w s at x target = if returns_from (lambda_around s) target then give_by w s at x s.returns else ((x.judge s).notes ++ fault s 13 at)

abbrev pub assign_by : KTables → KScope → Position → Form → Option Stored → Notes
assign_by w s at x None = (x.judge s).notes
assign_by w s at x (Some t) = (if t.is_open then [] else fault s 10 at) ++ as_wanted w x (past s) t.kind

abbrev pub walk_by : KTables → KScope → Position → KKind → Typed KKind
walk_by w s at k = if is_sure k then kind_or s 3 at (walked w k) else faulty s 4 at

abbrev pub walk : KTables → KScope → Form → Typed KKind
walk w s x = x.judge s >>= walk_by w s x.first

abbrev pub branches_notes : KScope → List Branch → Option KKind → Notes
branches_notes s [] subject = []
branches_notes s (x ∷ xs) None = lines_notes x.lines (past s) ++ branches_notes s xs None
branches_notes s (x ∷ xs) (Some k) = (labels_notes s x.labels k ++ lines_notes x.lines (past s)) ++ branches_notes s xs (Some k)

abbrev pub catches_notes : KScope → List Catch → Notes
catches_notes s [] = []
catches_notes s (x ∷ xs) = x.notes s ++ catches_notes s xs

abbrev pub throwable : KKind
throwable = library_type throwable_class

abbrev pub thrown_by : KTables → KScope → Position → Option KKind → Notes
thrown_by w s at None = []
thrown_by w s at (Some k) = if is_subtype w.classes k throwable then [] else fault s 3 at

abbrev pub notes_by : KTables → KStmt-F Form Line Choice Branch Catch → KScope → Notes
notes_by w (KStmt-F.Commented comments x) s = x.notes s
notes_by w (KStmt-F.Declared x) s = (written w x.kind s.path).notes
notes_by w (KStmt-F.Local x at value) s = (written w x.kind s.path).notes ++ as_placed w value s (meant w x.kind)
notes_by w (KStmt-F.Expression x) s = (x.judge s).notes
notes_by w (KStmt-F.Assign target at value) s = (target.target s).notes ++ assign_by w s target.first value (target.target s).result
notes_by w (KStmt-F.While label at condition curly xs) s = as_wanted w condition s boolean ++ lines_notes xs (in_loop (label_of label) (past_yes s))
notes_by w (KStmt-F.DoWhile label do_at curly xs at condition) s = lines_notes xs (in_loop (label_of label) s) ++ as_wanted w condition (past s) boolean
notes_by w (KStmt-F.For label at x in_at values curly xs) s =
    (walk w s values).notes ++ (twice_named s x.at x.name ++ lines_notes xs (with_parameter x.name (walk w s values).result (in_loop (label_of label) (past s))))
notes_by w (KStmt-F.ForRange label at x in_at first until_at end curly xs) s =
    as_wanted w first s (number kind.Int) ++ (as_wanted w end (past s) (number kind.Int)
    ++ (twice_named s x.at x.name ++ lines_notes xs (with_parameter x.name (Some (number kind.Int)) (in_loop (label_of label) (past s)))))
notes_by w (KStmt-F.If at condition curly xs) s = as_wanted w condition s boolean ++ lines_notes xs (past_yes s)
notes_by w (KStmt-F.IfElse at condition curly xs else_at other_curly others) s = as_wanted w condition s boolean ++ (lines_notes xs (past_yes s) ++ lines_notes others (past_no s))
notes_by w (KStmt-F.IfElseIf at condition curly xs else_at other) s = as_wanted w condition s boolean ++ (lines_notes xs (past_yes s) ++ other.notes (past_no s))
notes_by w (KStmt-F.When at subject curly branches else_at other_curly others) s =
    (subject.judge s).notes ++ (branches_notes s branches (subject.judge s).result ++ lines_notes others (past s))
notes_by w (KStmt-F.Break at target) s = jump_notes s at (target_of target)
notes_by w (KStmt-F.Continue at target) s = jump_notes s at (target_of target)
notes_by w (KStmt-F.Return at target) s = return_notes s at (target_of target)
notes_by w (KStmt-F.Give at target x) s = give_notes w s at x (target_of target)
notes_by w (KStmt-F.Throw at x) s = as_wanted w x s throwable
notes_by w (KStmt-F.Try at curly xs catches) s = lines_notes xs s ++ catches_notes s catches
notes_by w (KStmt-F.TryFinally at curly xs catches last_at last) s = lines_notes xs s ++ (catches_notes s catches ++ lines_notes last s)
notes_by w (KStmt-F.Synchronized at lock curly xs) s = as_sure lock s ++ lines_notes xs (in_lock (past s))

abbrev pub line_by : KTables → KStmt-F Form Line Choice Branch Catch → Line
line_by w x = record { declares = declares_by w x; at = at_by x; gives = gives_by x; notes = notes_by w x }

abbrev pub choice_by : KChoice-F Form Line Choice Branch Catch → Choice
choice_by x = record { labels = x.labels; value = x.value }

abbrev pub branch_by : KBranch-F Form Line Choice Branch Catch → Branch
branch_by x = record { labels = x.labels; lines = x.statements }

abbrev pub catch_notes : KTables → KCatch-F Form Line Choice Branch Catch → KScope → Notes
catch_notes w x s =
    (written w x.kind s.path).notes ++ (thrown_by w s (type_place x.kind).0 (meant w x.kind)
    ++ (twice_named s x.name.at x.name.name ++ lines_notes x.statements (with_parameter x.name.name (meant w x.kind) s)))

abbrev pub catch_by : KTables → KCatch-F Form Line Choice Branch Catch → Catch
catch_by w x = record { notes = catch_notes w x }

-- ---- the fold

unfoldable pub form : KTables → KExpr → Form
form w = fold-KExpr Form Line Choice Branch Catch (form_by w) (line_by w) choice_by branch_by (catch_by w)

unfoldable pub line : KTables → KStmt → Line
line w = fold-KStmt Form Line Choice Branch Catch (form_by w) (line_by w) choice_by branch_by (catch_by w)

unfoldable pub choice_form : KTables → KChoice → Choice
choice_form w = fold-KChoice Form Line Choice Branch Catch (form_by w) (line_by w) choice_by branch_by (catch_by w)

unfoldable pub branch_form : KTables → KBranch → Branch
branch_form w = fold-KBranch Form Line Choice Branch Catch (form_by w) (line_by w) choice_by branch_by (catch_by w)

unfoldable pub catch_form : KTables → KCatch → Catch
catch_form w = fold-KCatch Form Line Choice Branch Catch (form_by w) (line_by w) choice_by branch_by (catch_by w)
