-- What is noted of the members of a class.
use Rattle.std.specs.Prelude.{◌≡◌, ℕ, Bool, true, false, if◌then◌else◌, List, [], ◌∷◌, ◌++◌, map, Option, Some, None, bytes_eq}
use Rattle.std.specs.List.{list_any}
use Rattle.judged.specs.Judged.{◌>>=◌}
use Rattle.kotlin_tree.specs.declared.types.KType.{KType}
use Rattle.kotlin_tree.specs.declared.statements.KBlock.{KBlock}
use Rattle.kotlin_tree.specs.declared.members.KParam.{KParam}
use Rattle.kotlin_tree.specs.declared.members.KTyped.{KTyped}
use Rattle.kotlin_tree.specs.declared.members.KValue.{KValue}
use Rattle.kotlin_tree.specs.declared.members.KCalled.{KCalled}
use Rattle.kotlin_tree.specs.declared.members.KCalled.TheVariants as called
use Rattle.kotlin_tree.specs.declared.members.KDelegation.{KDelegation}
use Rattle.kotlin_tree.specs.declared.members.KMember.{KMember, fold-KMember}
use Rattle.kotlin_tree.specs.declared.members.KMember.TheOpen.{KMember-F}
use Rattle.kotlin_types.specs.declared.kinds.KClassRef.{KClassRef}
use Rattle.kotlin_types.specs.declared.kinds.KHead.{KHead}
use Rattle.kotlin_types.specs.declared.kinds.KHead.TheVariants as head
use Rattle.kotlin_types.specs.declared.kinds.KKind.{KKind}
use Rattle.kotlin_types.specs.Types.{arguments_of, head_of}
use Rattle.kotlin_types.specs.Supertypes.{direct}
use Rattle.kotlin_typing.specs.declared.scope.KLocal.{KLocal}
use Rattle.kotlin_typing.specs.declared.scope.KReturns.{KReturns}
use Rattle.kotlin_typing.specs.declared.scope.KReturns.TheVariants as returns
use Rattle.kotlin_typing.specs.declared.scope.KPart.{KPart}
use Rattle.kotlin_typing.specs.declared.scope.KPart.TheVariants as part
use Rattle.kotlin_typing.specs.declared.scope.KScope.{KScope}
use Rattle.kotlin_typing.specs.declared.tables.KCallable.{KCallable}
use Rattle.kotlin_typing.specs.declared.tables.KTables.{KTables}
use Rattle.kotlin_typing.specs.Notes.{Notes, fault}
use Rattle.kotlin_typing.specs.Scopes.{parameter}
use Rattle.kotlin_typing.specs.Written.{meant, written}
use Rattle.kotlin_typing.specs.Members.{constructors_of}
use Rattle.kotlin_typing.specs.Forms.{as_placed, lines_notes}
use Rattle.kotlin_typing.specs.Typing.{arguments, form, line, one_of, returned, this_type}

-- ---- places of members

abbrev pub place : List ℕ → KClassRef → KPart → KReturns → List KLocal → KScope
place path own part returns rows = record { path = path; locals = rows; around = []; returns = returns; own = own; part = part }

-- parameters whose types have a meaning
abbrev pub parameter_by : List ℕ → Option KKind → List KLocal
parameter_by name None = []
parameter_by name (Some k) = parameter name k ∷ []

abbrev pub parameters : KTables → List KParam → List KLocal
parameters w [] = []
parameters w (x ∷ xs) = parameter_by x.name.name (meant w x.kind) ++ parameters w xs

-- the types of parameters, and K2 at the second of one name
abbrev pub again : KScope → List KParam → KParam → Notes
again s before x = if list_any (λ (y : KParam). bytes_eq y.name.name x.name.name) before then fault s 2 x.name.at else []

abbrev pub parameters_notes : KTables → KScope → List KParam → List KParam → Notes
parameters_notes w s before [] = []
parameters_notes w s before (x ∷ xs) = ((written w x.kind s.path).notes ++ again s before x) ++ parameters_notes w s (before ++ x ∷ []) xs

abbrev pub block_notes : KTables → KScope → Option KBlock → Notes
block_notes w s None = []
block_notes w s (Some body) = lines_notes (map (line w) body.statements) s

abbrev pub result_notes : KTables → KScope → Option KTyped → Notes
result_notes w s None = []
result_notes w s (Some x) = (written w x.kind s.path).notes

-- what a function gives: nothing where no result is written
abbrev pub gives_by : Option KKind → KReturns
gives_by None = returns.NoValue
gives_by (Some k) = returned k

abbrev pub result_of : KTables → Option KTyped → KReturns
result_of w None = returns.NoValue
result_of w (Some x) = gives_by (meant w x.kind)

abbrev pub value_notes : KTables → KScope → KType → Option KValue → Notes
value_notes w s kind None = []
value_notes w s kind (Some value) = as_placed w (form w value.tree) s (meant w kind)

-- ---- the constructor that another one calls first

abbrev pub superclass_constructors : KTables → KScope → KHead → List KKind → List KCallable
superclass_constructors w s (head.Class c) args = constructors_of w s c args
superclass_constructors w s h args = []

abbrev pub above_constructors : KTables → KScope → List KKind → List KCallable
above_constructors w s [] = []
above_constructors w s (x ∷ xs) = superclass_constructors w s (head_of x) (arguments_of x)

abbrev pub called_constructors : KTables → KScope → KCalled → List KCallable
called_constructors w s called.This = constructors_of w s s.own (arguments_of (this_type w s))
called_constructors w s called.Super = above_constructors w s (direct w.classes (this_type w s))

-- its arguments stand where nothing of the object may be named
abbrev pub delegation_notes : KTables → KScope → Option KDelegation → Notes
delegation_notes w s None = []
delegation_notes w s (Some x) = (arguments (record s { part = part.Companion }) (map (form w) x.arguments) >>= (λ args. one_of w s x.at args (called_constructors w s x.called))).notes

-- ---- members: of a class, or of its companion

abbrev pub function_part : Bool → KPart
function_part true = part.Companion
function_part false = part.Function

abbrev pub initializer_part : Bool → KPart
initializer_part true = part.CompanionInitializer
initializer_part false = part.Initializer

-- under tables, in a companion or not, in the file of a path, in a class
abbrev pub MemberNotes : Type 0
MemberNotes = KTables → Bool → List ℕ → KClassRef → Notes

abbrev pub companion_notes : List MemberNotes → KTables → List ℕ → KClassRef → Notes
companion_notes [] w path own = []
companion_notes (x ∷ xs) w path own = x w true path own ++ companion_notes xs w path own

-- a companion is no part of an object: no type parameter of the class is named in it
abbrev pub without_variables : KTables → KTables
without_variables w = record w { variables = [] }

abbrev pub function_notes : KTables → KScope → List KParam → Option KTyped → Option KBlock → Notes
function_notes w s params result body = parameters_notes w s [] params ++ (result_notes w s result ++ block_notes w s body)

abbrev pub constructor_notes : KTables → KScope → List KParam → Option KDelegation → KBlock → Notes
constructor_notes w s params first body = parameters_notes w s [] params ++ (delegation_notes w s first ++ block_notes w s (Some body))

abbrev pub member_by : KMember-F MemberNotes → MemberNotes
member_by (KMember-F.Commented comments x) w in_companion path own = x w in_companion path own
member_by (KMember-F.Property modifiers x value setter) w in_companion path own =
    (written w x.kind path).notes ++ value_notes w (place path own (initializer_part in_companion) returns.Nowhere []) x.kind value
member_by (KMember-F.Init at body) w in_companion path own = block_notes w (place path own (initializer_part in_companion) returns.Nowhere []) (Some body)
member_by (KMember-F.Function modifiers at x params result body) w in_companion path own =
    function_notes w (place path own (function_part in_companion) (result_of w result) (parameters w params.items)) params.items result body
member_by (KMember-F.Constructor modifiers at params first body) w in_companion path own =
    constructor_notes w (place path own part.Constructor returns.NoValue (parameters w params.items)) params.items first body
member_by (KMember-F.Companion at members) w in_companion path own = companion_notes members (without_variables w) path own

unfoldable pub member_notes : KMember → MemberNotes
member_notes = fold-KMember MemberNotes member_by

abbrev pub members_notes : KTables → List KMember → List ℕ → KClassRef → Notes
members_notes w [] path own = []
members_notes w (x ∷ xs) path own = member_notes x w false path own ++ members_notes w xs path own
