-- The faults of the names in the bodies of classes, and of methods and constructors of one signature.
use Rattle.std.specs.Prelude.{ℕ, ◌+◌, true, false, List, [], ◌∷◌, ◌++◌, Option, Some, None, slice_get}
use Rattle.java_member_grammar.specs.declared.homes.JHome.{JHome}
use Rattle.java_member_grammar.specs.declared.homes.JHome.TheVariants as home
use Rattle.java_member_grammar.specs.declared.parts.JTypeParams.{JTypeParams}
use Rattle.java_member_grammar.specs.declared.heads.JTypeHead.{JTypeHead}
use Rattle.java_member_grammar.specs.declared.heads.JTypeHead.TheVariants as head
use Rattle.java_unit_grammar.specs.declared.statements.JBody.{JBody}
use Rattle.java_unit_grammar.specs.declared.statements.JCase.{JCase}
use Rattle.java_unit_grammar.specs.declared.statements.JCaseGroup.{JCaseGroup}
use Rattle.java_unit_grammar.specs.declared.statements.JCatch.{JCatch}
use Rattle.java_unit_grammar.specs.declared.statements.JMember.{JMember, out-JMember}
use Rattle.java_unit_grammar.specs.declared.statements.JStatement.{JStatement}
use Rattle.java_unit_grammar.specs.declared.statements.JBody.TheOpen.{JMember-F}
use Rattle.java_unit_grammar.specs.declared.units.JUnit.{JUnit}
use Rattle.java_classes.specs.declared.faults.NameFault.{NameFault}
use Rattle.java_classes.specs.Faults.{fault_if}
use Rattle.java_type_names.specs.declared.classes.World.{World}
use Rattle.java_type_names.specs.declared.scopes.FileScope.{FileScope}
use Rattle.java_supertypes.specs.declared.heads.Heading.{Heading}
use Rattle.java_members.specs.declared.classes.Class.{Class}
use Rattle.java_body_uses.specs.Bodies.{member_uses}
use Rattle.java_body_uses.specs.declared.members.Member.{Member}
use Rattle.java_body_uses.specs.declared.members.Member.TheVariants as m
use Rattle.java_scopes.specs.Scopes.{faults_of}
use Rattle.java_signatures.specs.Signatures.{signature_faults}
use Rattle.java_surroundings.specs.Surroundings.{setting_of}
use Rattle.java_class_names.specs.declared.places.ClassPlace.{ClassPlace}

module _ (world : World) (headings : List Heading) (table : List Class) (unit class : ℕ) (scope : FileScope) (params : Option JTypeParams) where
  -- what a member says: no `return` stands in an initializer (JLS 14.17); a form that isn't built yet is a fault
  abbrev pub said_faults : Option Member → List NameFault
  said_faults None = []
  said_faults (Some (m.Initial is_static uses)) = faults_of (setting_of world scope headings table params unit class is_static false) uses
  said_faults (Some (m.Called is_static uses)) = faults_of (setting_of world scope headings table params unit class is_static true) uses
  said_faults (Some (m.Later at)) = fault_if true unit at 0

  abbrev pub bodies_faults : JHome → List JMember → List NameFault
  bodies_faults place [] = []
  bodies_faults place (x ∷ xs) = said_faults (member_uses place x) ++ bodies_faults place xs

  abbrev pub members_faults : JHome → List JMember → List NameFault
  members_faults place xs = signature_faults world unit scope params xs ++ bodies_faults place xs

module _ (world : World) (headings : List Heading) (table : List Class) where
  -- an enum isn't built yet
  abbrev pub head_faults : ℕ → ℕ → FileScope → JTypeHead → List JMember → List NameFault
  head_faults unit class scope (head.Class mods at name name_at params bound list) xs = members_faults world headings table unit class scope params home.Class xs
  head_faults unit class scope (head.Interface mods at name name_at params list) xs = members_faults world headings table unit class scope params home.Interface xs
  head_faults unit class scope (head.Enum mods at name name_at list) xs = []

  abbrev pub type_by : ℕ → ℕ → FileScope → JMember-F JBody JMember JStatement JCase JCaseGroup JCatch → List NameFault
  type_by unit class scope (JMember-F.Type head left constants bodies members right) = head_faults unit class scope head members
  type_by unit class scope _ = []

  unfoldable pub type_faults : ℕ → ℕ → FileScope → JMember → List NameFault
  type_faults unit class scope x = type_by unit class scope (out-JMember x)

  abbrev pub scoped_faults : ℕ → ℕ → Option FileScope → Option JMember → List NameFault
  scoped_faults unit class None x = []
  scoped_faults unit class (Some scope) None = []
  scoped_faults unit class (Some scope) (Some x) = type_faults unit class scope x

abbrev pub types_of : Option JUnit → List JMember
types_of None = []
types_of (Some x) = x.types

module _ (world : World) (scopes : List FileScope) (headings : List Heading) (table : List Class) (units : List JUnit) where
  abbrev pub place_faults : ℕ → ClassPlace → List NameFault
  place_faults class x = scoped_faults world headings table x.unit class (slice_get scopes x.unit) (slice_get (types_of (slice_get units x.unit)) x.top)

  -- of classes from a number on
  abbrev pub faults_from : ℕ → List ClassPlace → List NameFault
  faults_from class [] = []
  faults_from class (x ∷ xs) = place_faults class x ++ faults_from (class + 1) xs

  -- the places are those of the project's classes
  abbrev pub class_faults : List ClassPlace → List NameFault
  class_faults places = faults_from 0 places
