-- The faults of the names that a class declares: declared twice (2), reserved (5).
use Rattle.std.specs.Prelude.{ℕ, Bool, ◌||◌, not, if◌then◌else◌, is_some, List, [], ◌∷◌, ◌++◌, codes}
use Rattle.std.specs.Str.{bytes_eq}
use Rattle.std.specs.List.{list_any}
use Rattle.java_tree.specs.declared.tokens.Position.{Position}
use Rattle.java_statement_grammar.specs.declared.declarations.JDeclarator.{JDeclarator}
use Rattle.java_member_grammar.specs.declared.parts.JTypeParam.{JTypeParam}
use Rattle.java_member_grammar.specs.declared.heads.JMemberHead.{JMemberHead}
use Rattle.java_member_grammar.specs.declared.heads.JMemberHead.TheVariants as head
use Rattle.java_unit_grammar.specs.declared.statements.JBody.{JBody}
use Rattle.java_unit_grammar.specs.declared.statements.JCase.{JCase}
use Rattle.java_unit_grammar.specs.declared.statements.JCaseGroup.{JCaseGroup}
use Rattle.java_unit_grammar.specs.declared.statements.JCatch.{JCatch}
use Rattle.java_unit_grammar.specs.declared.statements.JMember.{JMember, out-JMember}
use Rattle.java_unit_grammar.specs.declared.statements.JStatement.{JStatement}
use Rattle.java_unit_grammar.specs.declared.statements.JBody.TheOpen.{JMember-F}
use Rattle.java_lib.specs.Library.{classes}
use Rattle.java_lib.specs.Classes.{class_simple}
use Rattle.java_classes.specs.declared.rows.ClassRow.{ClassRow}
use Rattle.java_classes.specs.declared.faults.NameFault.{NameFault}
use Rattle.java_classes.specs.Faults.{fault_if, is_reserved, is_first}

abbrev pub is_class : List ClassRow → List ℕ → Bool
is_class rows name = list_any (λ row. bytes_eq row.name name) rows

-- a name that no variable may have (own rule): the root of Java's packages, Kotlin's `Int`, a class of the project or the library
abbrev pub is_reserved_variable : List ClassRow → List ℕ → Bool
is_reserved_variable rows name =
    bytes_eq name (codes "java") || bytes_eq name (codes "Int") || is_class rows name || is_some (class_simple name classes)

-- the names that were seen, and one more
abbrev pub and_name : List (List ℕ) → List ℕ → List (List ℕ)
and_name seen name = if is_first seen name then seen ++ name ∷ [] else seen

-- ---- type parameters (JLS 8.1.2)

abbrev pub parameter_of : List ClassRow → ℕ → Bool → JTypeParam → List NameFault
parameter_of rows unit first x = fault_if (not first) unit x.at 2 ++ fault_if (is_reserved x.name || is_class rows x.name) unit x.at 5

abbrev pub parameters_from : List ClassRow → ℕ → List (List ℕ) → List JTypeParam → List NameFault
parameters_from rows unit seen [] = []
parameters_from rows unit seen (x ∷ xs) = parameter_of rows unit (is_first seen x.name) x ++ parameters_from rows unit (and_name seen x.name) xs

abbrev pub parameter_faults : List ClassRow → ℕ → List JTypeParam → List NameFault
parameter_faults rows unit xs = parameters_from rows unit [] xs

-- ---- fields (JLS 8.3)

abbrev pub field_of : List ClassRow → ℕ → Bool → JDeclarator → List NameFault
field_of rows unit first x = fault_if (not first) unit x.at 2 ++ fault_if (is_reserved_variable rows x.name) unit x.at 5

abbrev pub fields_from : List ClassRow → ℕ → List (List ℕ) → List JDeclarator → List NameFault
fields_from rows unit seen [] = []
fields_from rows unit seen (x ∷ xs) = field_of rows unit (is_first seen x.name) x ++ fields_from rows unit (and_name seen x.name) xs

abbrev pub after_fields : List (List ℕ) → List JDeclarator → List (List ℕ)
after_fields seen [] = seen
after_fields seen (x ∷ xs) = after_fields (and_name seen x.name) xs

-- ---- members

-- a method may not have the name of a class of the project (own rule)
abbrev pub head_faults : List ClassRow → ℕ → List (List ℕ) → JMemberHead → List NameFault
head_faults rows unit seen (head.Field mods x) = fields_from rows unit seen x.names
head_faults rows unit seen (head.Method mods params result name at formals throws) = fault_if (is_class rows name) unit at 5
head_faults rows unit seen _ = []

abbrev pub after_head : List (List ℕ) → JMemberHead → List (List ℕ)
after_head seen (head.Field mods x) = after_fields seen x.names
after_head seen _ = seen

abbrev pub faults_by : List ClassRow → ℕ → List (List ℕ) → JMember-F JBody JMember JStatement JCase JCaseGroup JCatch → List NameFault
faults_by rows unit seen (JMember-F.Declared head bodies end) = head_faults rows unit seen head
faults_by rows unit seen (JMember-F.Bodied head left xs right) = head_faults rows unit seen head
faults_by rows unit seen (JMember-F.Type head left constants bodies members right) = []

unfoldable pub faults_in : List ClassRow → ℕ → List (List ℕ) → JMember → List NameFault
faults_in rows unit seen x = faults_by rows unit seen (out-JMember x)

abbrev pub after_by : List (List ℕ) → JMember-F JBody JMember JStatement JCase JCaseGroup JCatch → List (List ℕ)
after_by seen (JMember-F.Declared head bodies end) = after_head seen head
after_by seen (JMember-F.Bodied head left xs right) = after_head seen head
after_by seen (JMember-F.Type head left constants bodies members right) = seen

unfoldable pub after : List (List ℕ) → JMember → List (List ℕ)
after seen x = after_by seen (out-JMember x)

abbrev pub members_from : List ClassRow → ℕ → List (List ℕ) → List JMember → List NameFault
members_from rows unit seen [] = []
members_from rows unit seen (x ∷ xs) = faults_in rows unit seen x ++ members_from rows unit (after seen x) xs

abbrev pub member_faults : List ClassRow → ℕ → List JMember → List NameFault
member_faults rows unit xs = members_from rows unit [] xs
