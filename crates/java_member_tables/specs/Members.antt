-- The fields and methods that a class or interface of a project declares, with what their modifiers say.
use Rattle.std.specs.Prelude.{ℕ, Bool, true, false, ◌||◌, if◌then◌else◌, List, [], ◌∷◌, ◌++◌, map, Option, Some, None}
use Rattle.std.specs.List.{list_any}
use Rattle.java_statement_grammar.specs.declared.declarations.JDeclarator.{JDeclarator}
use Rattle.java_member_grammar.specs.declared.modifiers.JModifier.{JModifier}
use Rattle.java_member_grammar.specs.declared.modifiers.ModifierKind.{ModifierKind}
use Rattle.java_member_grammar.specs.declared.modifiers.ModifierKind.TheVariants as modifier
use Rattle.java_member_grammar.specs.declared.heads.JMemberHead.{JMemberHead}
use Rattle.java_member_grammar.specs.declared.heads.JMemberHead.TheVariants as head
use Rattle.java_unit_grammar.specs.declared.statements.JBody.{JBody}
use Rattle.java_unit_grammar.specs.declared.statements.JCase.{JCase}
use Rattle.java_unit_grammar.specs.declared.statements.JCaseGroup.{JCaseGroup}
use Rattle.java_unit_grammar.specs.declared.statements.JCatch.{JCatch}
use Rattle.java_unit_grammar.specs.declared.statements.JMember.{JMember, out-JMember}
use Rattle.java_unit_grammar.specs.declared.statements.JStatement.{JStatement}
use Rattle.java_unit_grammar.specs.declared.statements.JBody.TheOpen.{JMember-F}
use Rattle.java_members.specs.declared.classes.Access.{Access}
use Rattle.java_members.specs.declared.classes.Access.TheVariants as access
use Rattle.java_members.specs.declared.classes.Member.{Member}

-- ---- modifiers (JLS 6.6, 8.3.1, 8.4.3)

abbrev pub access_by : ModifierKind → Option Access
access_by modifier.Public = Some access.Public
access_by modifier.Protected = Some access.Protected
access_by modifier.Private = Some access.Private
access_by _ = None

abbrev pub access_or : Option Access → Access → Access
access_or (Some x) rest = x
access_or None rest = rest

abbrev pub access_in : List JModifier → Access
access_in [] = access.Package
access_in (x ∷ xs) = access_or (access_by x.kind) (access_in xs)

-- the members of an interface are public (JLS 9.3, 9.4)
abbrev pub access_of : Bool → List JModifier → Access
access_of is_interface mods = if is_interface then access.Public else access_in mods

abbrev pub is_static_by : ModifierKind → Bool
is_static_by modifier.Static = true
is_static_by _ = false

abbrev pub has_static : List JModifier → Bool
has_static mods = list_any (λ x. is_static_by x.kind) mods

-- ---- members

abbrev pub head_by : JMember-F JBody JMember JStatement JCase JCaseGroup JCatch → Option JMemberHead
head_by (JMember-F.Declared head bodies end) = Some head
head_by (JMember-F.Bodied head left xs right) = Some head
head_by (JMember-F.Type head left constants bodies members right) = None

-- what stands of a member before its `;` or its block
unfoldable pub head_in : JMember → Option JMemberHead
head_in x = head_by (out-JMember x)

module _ (is_interface : Bool) where
  -- the fields of an interface are static (JLS 9.3)
  abbrev pub field : List JModifier → JDeclarator → Member
  field mods x = record { name = x.name; access = access_of is_interface mods; is_static = is_interface || has_static mods }

  abbrev pub method : List JModifier → List ℕ → Member
  method mods name = record { name = name; access = access_of is_interface mods; is_static = has_static mods }

  abbrev pub head_fields : Option JMemberHead → List Member
  head_fields (Some (head.Field mods x)) = map (field mods) x.names
  head_fields _ = []

  abbrev pub head_methods : Option JMemberHead → List Member
  head_methods (Some (head.Method mods params result name at formals throws)) = method mods name ∷ []
  head_methods _ = []

  -- in the order of the text (JLS 8.3, 8.4)
  abbrev pub fields : List JMember → List Member
  fields [] = []
  fields (x ∷ xs) = head_fields (head_in x) ++ fields xs

  abbrev pub methods : List JMember → List Member
  methods [] = []
  methods (x ∷ xs) = head_methods (head_in x) ++ methods xs
