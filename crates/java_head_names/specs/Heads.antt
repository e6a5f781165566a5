-- The faults of the names in the heads of classes and members: of a type, nothing that may be seen bears the name (1), or several
-- classes do (4); a name is declared twice (2), reserved (5), or a type parameter that depends on itself (3); a form isn't built
-- yet (0).
use Rattle.std.specs.Prelude.{ℕ, ◌+◌, Bool, true, false, ◌||◌, if◌then◌else◌, List, [], ◌∷◌, ◌++◌, map, Option, Some, None, slice_get}
use Rattle.std.specs.List.{list_any}
use Rattle.java_tree.specs.declared.tokens.Position.{Position}
use Rattle.java_tree.specs.declared.types.JDotted.{JDotted}
use Rattle.java_tree.specs.declared.types.JQualified.{JQualified}
use Rattle.java_tree.specs.declared.types.JType.{JType, out-JType, map-JType, fold-JType}
use Rattle.java_tree.specs.declared.types.JType.TheOpen.{JType-F}
use Rattle.java_tree.specs.declared.exprs.JTypedParam.{JTypedParam}
use Rattle.java_member_grammar.specs.declared.modifiers.JModifier.{JModifier}
use Rattle.java_member_grammar.specs.declared.modifiers.ModifierKind.{ModifierKind}
use Rattle.java_member_grammar.specs.declared.modifiers.ModifierKind.TheVariants as modifier
use Rattle.java_member_grammar.specs.declared.parts.JBound.{JBound}
use Rattle.java_member_grammar.specs.declared.parts.JTypeList.{JTypeList}
use Rattle.java_member_grammar.specs.declared.parts.JTypeParam.{JTypeParam}
use Rattle.java_member_grammar.specs.declared.parts.JTypeParams.{JTypeParams}
use Rattle.java_member_grammar.specs.declared.heads.JResult.{JResult}
use Rattle.java_member_grammar.specs.declared.heads.JResult.TheVariants as result
use Rattle.java_member_grammar.specs.declared.heads.JMemberHead.{JMemberHead}
use Rattle.java_member_grammar.specs.declared.heads.JMemberHead.TheVariants as member
use Rattle.java_member_grammar.specs.declared.heads.JTypeHead.{JTypeHead}
use Rattle.java_member_grammar.specs.declared.heads.JTypeHead.TheVariants as head
use Rattle.java_unit_grammar.specs.declared.statements.JBody.{JBody}
use Rattle.java_unit_grammar.specs.declared.statements.JCase.{JCase}
use Rattle.java_unit_grammar.specs.declared.statements.JCaseGroup.{JCaseGroup}
use Rattle.java_unit_grammar.specs.declared.statements.JCatch.{JCatch}
use Rattle.java_unit_grammar.specs.declared.statements.JMember.{JMember, out-JMember}
use Rattle.java_unit_grammar.specs.declared.statements.JStatement.{JStatement}
use Rattle.java_unit_grammar.specs.declared.statements.JBody.TheOpen.{JMember-F}
use Rattle.java_unit_grammar.specs.declared.units.JUnit.{JUnit}
use Rattle.java_classes.specs.declared.faults.NameFault.{NameFault}
use Rattle.java_declared_names.specs.Declared as names
use Rattle.java_type_names.specs.declared.classes.World.{World}
use Rattle.java_type_names.specs.declared.scopes.FileScope.{FileScope}
use Rattle.java_type_names.specs.declared.places.Place.{Place}
use Rattle.java_type_names.specs.declared.places.Place.TheVariants as p
use Rattle.java_supertypes.specs.Supertypes.{is_parameter, place_of}
use Rattle.java_head_names.specs.Bounds.{bound_cycles}

-- several lists of faults, one after the other
abbrev pub all : List (List NameFault) → List NameFault
all [] = []
all (x ∷ xs) = x ++ all xs

-- ---- the first token of a form

abbrev pub first_of : Position → List JModifier → Position
first_of at [] = at
first_of at (x ∷ xs) = x.at

abbrev pub head_at : JTypeHead → Position
head_at (head.Class mods class name at params bound list) = first_of class mods
head_at (head.Interface mods interface name at params list) = first_of interface mods
head_at (head.Enum mods enum name at list) = first_of enum mods

abbrev pub is_static_by : ModifierKind → Bool
is_static_by modifier.Static = true
is_static_by _ = false

abbrev pub has_static : List JModifier → Bool
has_static mods = list_any (λ x. is_static_by x.kind) mods

-- the last identifier of a name
abbrev pub last_at : Position → List JDotted → Position
last_at at [] = at
last_at at (x ∷ xs) = last_at x.at xs

module _ (unit : ℕ) where
  abbrev pub fault : Position → ℕ → List NameFault
  fault at number = record { unit = unit; at = at; number = number } ∷ []

  -- ---- names of types (JLS 6.5.5)

  -- a package is no type
  abbrev pub place_faults : JQualified → Place → List NameFault
  place_faults x (p.Class class) = []
  place_faults x p.Package = fault (last_at x.at x.rest) 1
  place_faults x (p.Lost lost) = fault lost 1
  place_faults x (p.Ambiguous lost) = fault lost 4

  -- a type parameter has no member types
  abbrev pub behind : List JDotted → List NameFault
  behind [] = []
  behind (x ∷ xs) = fault x.at 1

  -- what is static doesn't see the type parameters of its class (JLS 8.1.2)
  abbrev pub parameter_faults : Bool → JQualified → List NameFault
  parameter_faults is_static x = if is_static then fault x.at 1 else behind x.rest

module _ (world : World) (unit : ℕ) (scope : FileScope) (params : Option JTypeParams) (is_static : Bool) where
  abbrev pub name_faults : JQualified → List NameFault
  name_faults x = if is_parameter x.name params then parameter_faults unit is_static x else place_faults unit x (place_of world scope x)

  abbrev pub type_by : JType-F (List NameFault) → List NameFault
  type_by (JType-F.Primitive primitive at) = []
  type_by (JType-F.Class name) = name_faults name
  type_by (JType-F.Applied name lt args commas joined gt) = name_faults name ++ all args
  type_by (JType-F.Array element brackets) = element

  -- the names in a type (JLS 4)
  unfoldable pub type_faults : JType → List NameFault
  type_faults = fold-JType (List NameFault) type_by

  -- the same, by its parts
  abbrev pub type_form : JType → List NameFault
  type_form x = type_by (map-JType JType (List NameFault) type_faults (out-JType x))

  abbrev pub types_faults : List JType → List NameFault
  types_faults xs = all (map type_faults xs)

  abbrev pub bound_faults : Option JBound → List NameFault
  bound_faults None = []
  bound_faults (Some bound) = type_faults bound.kind

  abbrev pub list_faults : Option JTypeList → List NameFault
  list_faults None = []
  list_faults (Some list) = types_faults list.items

  -- the bounds of type parameters (JLS 4.4)
  abbrev pub bounds_faults : List JTypeParam → List NameFault
  bounds_faults [] = []
  bounds_faults (x ∷ xs) = bound_faults x.bound ++ bounds_faults xs

  -- ---- members (JLS 8.3, 8.4, 8.8)

  abbrev pub result_faults : JResult → List NameFault
  result_faults (result.Void at) = []
  result_faults (result.Type kind) = type_faults kind

  abbrev pub formals_faults : List JTypedParam → List NameFault
  formals_faults [] = []
  formals_faults (x ∷ xs) = type_faults x.kind ++ formals_faults xs

module _ (world : World) (unit : ℕ) (scope : FileScope) (params : Option JTypeParams) (is_interface : Bool) where
  -- a generic method isn't built yet; a field of an interface is static (JLS 9.3)
  abbrev pub member_faults : JMemberHead → List NameFault
  member_faults (member.Field mods x) = type_faults world unit scope params (is_interface || has_static mods) x.kind
  member_faults (member.Method mods (Some own) result name at formals throws) = fault unit (first_of own.opens mods) 0
  member_faults (member.Method mods None result name at formals throws) =
      result_faults world unit scope params (has_static mods) result
      ++ (formals_faults world unit scope params (has_static mods) formals.items ++ list_faults world unit scope params (has_static mods) throws)
  member_faults (member.Constructor mods name at formals throws) =
      formals_faults world unit scope params false formals.items ++ list_faults world unit scope params false throws
  member_faults (member.Initializer static) = []
  member_faults member.Empty = []

  -- a class in a class isn't built yet
  abbrev pub faults_by : JMember-F JBody JMember JStatement JCase JCaseGroup JCatch → List NameFault
  faults_by (JMember-F.Declared head bodies end) = member_faults head
  faults_by (JMember-F.Bodied head left xs right) = member_faults head
  faults_by (JMember-F.Type head left constants bodies members right) = fault unit (head_at head) 0

  unfoldable pub faults_in : JMember → List NameFault
  faults_in x = faults_by (out-JMember x)

  abbrev pub members_faults : List JMember → List NameFault
  members_faults [] = []
  members_faults (x ∷ xs) = faults_in x ++ members_faults xs

-- ---- classes (JLS 8.1, 9.1)

abbrev pub declared : Option JTypeParams → List JTypeParam
declared None = []
declared (Some params) = params.items

module _ (world : World) (unit : ℕ) (scope : FileScope) where
  abbrev pub parameters_faults : Option JTypeParams → List NameFault
  parameters_faults params =
      names.parameter_faults world.rows unit (declared params)
      ++ (bound_cycles unit (declared params) ++ bounds_faults world unit scope params false (declared params))

  abbrev pub body_faults : Option JTypeParams → Bool → List JMember → List NameFault
  body_faults params is_interface members = names.member_faults world.rows unit members ++ members_faults world unit scope params is_interface members

  -- the type parameters of a class are in scope in its head and its members (JLS 6.3, 8.1.2); an enum isn't built yet
  abbrev pub class_faults : JTypeHead → List JMember → List NameFault
  class_faults (head.Class mods class name at params bound list) members =
      parameters_faults params
      ++ (bound_faults world unit scope params false bound
      ++ (list_faults world unit scope params false list ++ body_faults params false members))
  class_faults (head.Interface mods interface name at params list) members =
      parameters_faults params ++ (list_faults world unit scope params false list ++ body_faults params true members)
  class_faults (head.Enum mods enum name at list) members = fault unit (head_at (head.Enum mods enum name at list)) 0

  abbrev pub top_by : JMember-F JBody JMember JStatement JCase JCaseGroup JCatch → List NameFault
  top_by (JMember-F.Type head left constants bodies members right) = class_faults head members
  top_by _ = []

  unfoldable pub top_faults : JMember → List NameFault
  top_faults x = top_by (out-JMember x)

  abbrev pub tops_faults : List JMember → List NameFault
  tops_faults [] = []
  tops_faults (x ∷ xs) = top_faults x ++ tops_faults xs

abbrev pub unit_faults : World → ℕ → Option FileScope → JUnit → List NameFault
unit_faults world unit None x = []
unit_faults world unit (Some scope) x = tops_faults world unit scope x.types

module _ (world : World) (scopes : List FileScope) where
  -- of files from a number on
  abbrev pub faults_from : ℕ → List JUnit → List NameFault
  faults_from unit [] = []
  faults_from unit (x ∷ xs) = unit_faults world unit (slice_get scopes unit) x ++ faults_from (unit + 1) xs

  -- the scopes are those of the files
  abbrev pub head_faults : List JUnit → List NameFault
  head_faults units = faults_from 0 units
