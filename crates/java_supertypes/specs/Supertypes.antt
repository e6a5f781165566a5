-- What the heads of classes name above these (JLS 8.1.4, 8.1.5, 9.1.3), and the classes that depend on themselves.
use Rattle.std.specs.Prelude.{ℕ, ◌+◌, Bool, false, if◌then◌else◌, List, [], ◌∷◌, ◌++◌, Option, Some, None, slice_get}
use Rattle.std.specs.Str.{bytes_eq}
use Rattle.std.specs.List.{list_any}
use Rattle.java_tree.specs.declared.types.JQualified.{JQualified}
use Rattle.java_tree.specs.declared.types.JType.{JType, out-JType}
use Rattle.java_tree.specs.declared.types.JType.TheOpen.{JType-F}
use Rattle.java_member_grammar.specs.declared.parts.JBound.{JBound}
use Rattle.java_member_grammar.specs.declared.parts.JTypeList.{JTypeList}
use Rattle.java_member_grammar.specs.declared.parts.JTypeParam.{JTypeParam}
use Rattle.java_member_grammar.specs.declared.parts.JTypeParams.{JTypeParams}
use Rattle.java_member_grammar.specs.declared.heads.JTypeHead.{JTypeHead}
use Rattle.java_member_grammar.specs.declared.heads.JTypeHead.TheVariants as head
use Rattle.java_unit_grammar.specs.declared.statements.JBody.{JBody}
use Rattle.java_unit_grammar.specs.declared.statements.JCase.{JCase}
use Rattle.java_unit_grammar.specs.declared.statements.JCaseGroup.{JCaseGroup}
use Rattle.java_unit_grammar.specs.declared.statements.JCatch.{JCatch}
use Rattle.java_unit_grammar.specs.declared.statements.JMember.{JMember, out-JMember}
use Rattle.java_unit_grammar.specs.declared.statements.JStatement.{JStatement}
use Rattle.java_unit_grammar.specs.declared.statements.JBody.TheOpen.{JMember-F}
use Rattle.java_unit_grammar.specs.declared.units.JUnit.{JUnit}
use Rattle.java_classes.specs.declared.rows.ClassRow.{ClassRow}
use Rattle.java_classes.specs.declared.faults.NameFault.{NameFault}
use Rattle.java_classes.specs.Faults.{fault_if}
use Rattle.java_cycles.specs.declared.edges.Edge.{Edge}
use Rattle.java_cycles.specs.Cycles.{is_cyclic}
use Rattle.java_lib.specs.Library.{object_class}
use Rattle.java_type_names.specs.declared.classes.Meant.{Meant}
use Rattle.java_type_names.specs.declared.classes.Meant.TheVariants as m
use Rattle.java_type_names.specs.declared.classes.World.{World}
use Rattle.java_type_names.specs.declared.scopes.FileScope.{FileScope}
use Rattle.java_type_names.specs.declared.places.Place.{Place}
use Rattle.java_type_names.specs.declared.places.Place.TheVariants as p
use Rattle.java_type_names.specs.Places.{first_type}
use Rattle.java_type_names.specs.Imports.{walked}
use Rattle.java_supertypes.specs.declared.heads.ClassKind.{ClassKind}
use Rattle.java_supertypes.specs.declared.heads.ClassKind.TheVariants as kind
use Rattle.java_supertypes.specs.declared.heads.Heading.{Heading}

-- ---- the class that a supertype names

abbrev pub has_parameter : List ℕ → List JTypeParam → Bool
has_parameter name xs = list_any (λ x. bytes_eq x.name name) xs

-- the type parameters of a class are in scope in its head (JLS 6.3, 8.1.2)
abbrev pub is_parameter : List ℕ → Option JTypeParams → Bool
is_parameter name None = false
is_parameter name (Some params) = has_parameter name params.items

abbrev pub class_at : Place → Option Meant
class_at (p.Class class) = Some class
class_at _ = None

-- what the name of a type means, of which no part is a type parameter (JLS 6.5.5)
abbrev pub place_of : World → FileScope → JQualified → Place
place_of world scope x = walked world scope.home x.name (first_type world scope x.name x.at) x.rest

abbrev pub class_named : World → FileScope → Option JTypeParams → JQualified → Option Meant
class_named world scope params x = if is_parameter x.name params then None else class_at (place_of world scope x)

abbrev pub super_by : World → FileScope → Option JTypeParams → JType-F JType → Option Meant
super_by world scope params (JType-F.Class name) = class_named world scope params name
super_by world scope params (JType-F.Applied name lt args commas joined gt) = class_named world scope params name
super_by world scope params _ = None

unfoldable pub super_class : World → FileScope → Option JTypeParams → JType → Option Meant
super_class world scope params x = super_by world scope params (out-JType x)

-- ---- what stands directly above a class

abbrev pub object : Meant
object = m.Library object_class

-- an unknown supertype gives nothing to inherit (own rule)
abbrev pub if_known : Option Meant → List Meant
if_known None = []
if_known (Some class) = class ∷ []

module _ (world : World) (scope : FileScope) (params : Option JTypeParams) where
  abbrev pub each : List JType → List Meant
  each [] = []
  each (x ∷ xs) = if_known (super_class world scope params x) ++ each xs

  -- the interfaces that a class implements (JLS 8.1.5)
  abbrev pub listed : Option JTypeList → List Meant
  listed None = []
  listed (Some list) = each list.items

  -- the class that a class extends, which is Object where none is written (JLS 8.1.4)
  abbrev pub extended : Option JBound → List Meant
  extended None = object ∷ []
  extended (Some bound) = if_known (super_class world scope params bound.kind)

  -- an interface that extends none has the members of Object (JLS 9.2)
  abbrev pub joined : Option JTypeList → List Meant
  joined None = object ∷ []
  joined (Some list) = each list.items

module _ (world : World) (scope : FileScope) where
  abbrev pub heading : JTypeHead → Heading
  heading (head.Class mods class name at params bound list) =
      record { kind = kind.Class; above = extended world scope params bound ++ listed world scope params list }
  heading (head.Interface mods interface name at params list) = record { kind = kind.Interface; above = joined world scope params list }
  heading (head.Enum mods enum name at list) = record { kind = kind.Enum; above = listed world scope None list }

  abbrev pub heading_by : JMember-F JBody JMember JStatement JCase JCaseGroup JCatch → List Heading
  heading_by (JMember-F.Type head left constants bodies members right) = heading head ∷ []
  heading_by _ = []

  unfoldable pub type_heading : JMember → List Heading
  type_heading x = heading_by (out-JMember x)

  abbrev pub types_headings : List JMember → List Heading
  types_headings [] = []
  types_headings (x ∷ xs) = type_heading x ++ types_headings xs

module _ (world : World) (scopes : List FileScope) where
  abbrev pub unit_headings : Option FileScope → JUnit → List Heading
  unit_headings None x = []
  unit_headings (Some scope) x = types_headings world scope x.types

  -- of files from a number on
  abbrev pub headings_from : ℕ → List JUnit → List Heading
  headings_from unit [] = []
  headings_from unit (x ∷ xs) = unit_headings (slice_get scopes unit) x ++ headings_from (unit + 1) xs

  -- of each class of the project, by its number
  abbrev pub headings : List JUnit → List Heading
  headings units = headings_from 0 units

-- ---- which class of the project names which

abbrev pub edge_to : ℕ → Meant → List Edge
edge_to number (m.Project to) = record { from = number; to = to } ∷ []
edge_to number (m.Library row) = []

abbrev pub edges_to : ℕ → List Meant → List Edge
edges_to number [] = []
edges_to number (x ∷ xs) = edge_to number x ++ edges_to number xs

-- of classes from a number on
abbrev pub edges_from : ℕ → List Heading → List Edge
edges_from number [] = []
edges_from number (x ∷ xs) = edges_to number x.above ++ edges_from (number + 1) xs

abbrev pub class_edges : List Heading → List Edge
class_edges xs = edges_from 0 xs

-- ---- cycles (JLS 8.1.4, 9.1.3)

abbrev pub cycles_from : List Edge → ℕ → List ClassRow → List NameFault
cycles_from edges number [] = []
cycles_from edges number (row ∷ rows) = fault_if (is_cyclic edges number) row.unit row.at 3 ++ cycles_from edges (number + 1) rows

-- at the name of each class that depends on itself
abbrev pub cycle_faults : List Edge → List ClassRow → List NameFault
cycle_faults edges rows = cycles_from edges 0 rows
