-- The faults of assignment and ends of bodies in a file: K10 of a `val` without a value, K11 of a local, K12.
use Rattle.std.specs.Prelude.{ℕ, Bool, true, false, not, List, [], ◌∷◌, ◌++◌, map, Option, Some, None, if◌then◌else◌}
use Rattle.kotlin_tree.specs.declared.statements.KBlock.{KBlock}
use Rattle.kotlin_tree.specs.declared.members.KTyped.{KTyped}
use Rattle.kotlin_tree.specs.declared.members.KParams.{KParams}
use Rattle.kotlin_tree.specs.declared.members.KMember.{KMember}
use Rattle.kotlin_tree.specs.declared.members.KMember.TheOpen.{KMember-F}
use Rattle.kotlin_tree.specs.declared.files.KClass.{KClass}
use Rattle.kotlin_tree.specs.declared.files.KFile.{KFile}
use Rattle.flow.specs.Acts.{Skip}
use Rattle.kotlin_flow.specs.Variables.{Variable, OfThis, OfClass, same_variable, KotlinAct, Declaration, Blank, entered}
use Rattle.kotlin_flow.specs.Texts.{said, body_blanks, values_blanks}
use Rattle.kotlin_flow.specs.Faults.{assigned_again, can_end, assigned_at_end, FlowFault, AssignedAgain, Missing, told, blanks_faults}
use Rattle.kotlin_flow.specs.Members.{Bare, bare, names_of, no_names, initializers, Constructor, constructors, calls_this, arguments, constructor_does, blank_properties, function_does, functions, companions}

-- ---- the locals of members

abbrev pub member_blanks : Bare → List Blank
member_blanks (KMember-F.Property modifiers declared (Some value) setter) = (said value.tree).blanks no_names
member_blanks (KMember-F.Init at body) = body_blanks [] body.statements no_names
member_blanks (KMember-F.Function modifiers at x params result (Some body)) = body_blanks (names_of params) body.statements no_names
member_blanks (KMember-F.Constructor modifiers at params first body) =
    values_blanks (arguments first) (entered (names_of params) no_names) ++ body_blanks (names_of params) body.statements no_names
member_blanks _ = []

-- ---- a body with a result can't end without one: at its `}`

abbrev pub ends : Option KTyped → KParams → KBlock → List FlowFault
ends None params body = []
ends (Some kind) params body = if can_end (function_does params body) then record { code = Missing; at = body.curly.closes } ∷ [] else []

abbrev pub member_ends : Bare → List FlowFault
member_ends (KMember-F.Function modifiers at x params result (Some body)) = ends result params body
member_ends _ = []

abbrev pub member_faults : Bare → List FlowFault
member_faults x = blanks_faults (member_blanks x) ++ member_ends x

abbrev pub members_faults : List Bare → List FlowFault
members_faults [] = []
members_faults (x ∷ more) = member_faults x ++ members_faults more

-- ---- a property without a value

-- it isn't assigned at the end: at its name
abbrev pub missing : (Variable → Bool) → Declaration → KotlinAct → List FlowFault
missing is d x = if assigned_at_end is x then [] else record { code = Missing; at = d.at } ∷ []

-- behind a constructor that another one of the class calls first, all are assigned
abbrev pub missing_behind : (Variable → Bool) → Declaration → KotlinAct → List Constructor → List FlowFault
missing_behind is d parts [] = []
missing_behind is d parts (k ∷ more) = (if calls_this k.first then [] else missing is d (constructor_does parts k)) ++ missing_behind is d parts more

-- where no constructor is written, the end is that of the initializers
abbrev pub missing_in : (Variable → Bool) → Declaration → KotlinAct → List Constructor → List FlowFault
missing_in is d parts [] = missing is d parts
missing_in is d parts (k ∷ more) = missing_behind is d parts (k ∷ more)

-- a `val` is unassigned before the initializers and before no other text
abbrev pub again_behind : (Variable → Bool) → KotlinAct → List Constructor → List FlowFault
again_behind is parts [] = []
again_behind is parts (k ∷ more) = told AssignedAgain (assigned_again is (not (calls_this k.first)) (constructor_does parts k)) ++ again_behind is parts more

abbrev pub again_in : (Variable → Bool) → KotlinAct → List Constructor → List FlowFault
again_in is parts [] = told AssignedAgain (assigned_again is true parts)
again_in is parts (k ∷ more) = again_behind is parts (k ∷ more)

abbrev pub again_in_functions : (Variable → Bool) → List KotlinAct → List FlowFault
again_in_functions is [] = []
again_in_functions is (x ∷ more) = told AssignedAgain (assigned_again is false x) ++ again_in_functions is more

-- a property of an object or a companion, by what it is called in the text of its class, where the code in which it is assigned is
-- that of `members`; `others` are texts beside them
module _ (own : List ℕ → Variable) (members : List Bare) (others : List KotlinAct) where
  abbrev pub property_faults : Declaration → List FlowFault
  property_faults d =
      missing_in (same_variable (own d.name)) d (initializers own members) (constructors members)
      ++ (if d.is_val then again_in (same_variable (own d.name)) (initializers own members) (constructors members) ++ again_in_functions (same_variable (own d.name)) (functions members ++ others) else [])

  abbrev pub properties_faults : List Declaration → List FlowFault
  properties_faults [] = []
  properties_faults (d ∷ more) = property_faults d ++ properties_faults more

-- ---- classes and files

-- what the members of a class do that are in no companion
abbrev pub object_texts : List Bare → List KotlinAct
object_texts members = initializers OfThis members ∷ (constructor_texts (constructors members) ++ functions members)
  where
    constructor_texts : List Constructor → List KotlinAct
    constructor_texts [] = []
    constructor_texts (k ∷ more) = constructor_does Skip k ∷ constructor_texts more

-- the properties of a companion are called by the name of the class
abbrev pub companion_faults : List ℕ → List KotlinAct → List Bare → List FlowFault
companion_faults class others members =
    properties_faults (OfClass class) members others (blank_properties members) ++ members_faults members

abbrev pub companions_faults : List ℕ → List KotlinAct → List (List KMember) → List FlowFault
companions_faults class others [] = []
companions_faults class others (x ∷ more) = companion_faults class others (map bare x) ++ companions_faults class others more

abbrev pub class_faults_by : List ℕ → List Bare → List FlowFault
class_faults_by class members =
    properties_faults OfThis members [] (blank_properties members)
    ++ (members_faults members ++ companions_faults class (object_texts members) (companions members))

unfoldable pub class_faults : KClass → List FlowFault
class_faults x = class_faults_by x.name.name (map bare x.members)

abbrev pub classes_faults : List KClass → List FlowFault
classes_faults [] = []
classes_faults (x ∷ more) = class_faults x ++ classes_faults more

unfoldable pub file_faults : KFile → List FlowFault
file_faults x = classes_faults x.classes
