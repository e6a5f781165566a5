-- The methods that entries name, each a qualified class name, a dot and a method name (own rule).
use Rattle.std.specs.Prelude.{ℕ, ◌+◌, Bool, true, false, ◌&&◌, ◌||◌, ◌==◌, not, if◌then◌else◌, List, [], ◌∷◌, ◌++◌, Option, Some, None, slice_get, codes}
use Rattle.std.specs.List.{list_all, list_any}
use Rattle.std.specs.Str.{bytes_eq}
use Rattle.j2k_base.specs.declared.places.Fault.{Fault}
use Rattle.j2k_base.specs.declared.places.Phase.TheVariants.{N}
use Rattle.judged.specs.declared.notes.Note.{Note}
use Rattle.judged.specs.declared.notes.Note.TheVariants as note
use Rattle.judged.specs.Notes.{fault_at}
use Rattle.java_name_faults.specs.declared.notes.Later.{Later}
use Rattle.java_tree.specs.declared.types.JType.{JType, out-JType}
use Rattle.java_tree.specs.declared.types.JType.TheOpen.{JType-F}
use Rattle.java_tree.specs.declared.exprs.JTypedParam.{JTypedParam}
use Rattle.java_member_grammar.specs.declared.modifiers.JModifier.{JModifier}
use Rattle.java_member_grammar.specs.declared.modifiers.ModifierKind.{ModifierKind}
use Rattle.java_member_grammar.specs.declared.modifiers.ModifierKind.TheVariants as modifier
use Rattle.java_member_grammar.specs.declared.parts.JTypeParams.{JTypeParams}
use Rattle.java_member_grammar.specs.declared.heads.JMemberHead.{JMemberHead}
use Rattle.java_member_grammar.specs.declared.heads.JMemberHead.TheVariants as head
use Rattle.java_member_grammar.specs.declared.heads.JTypeHead.{JTypeHead}
use Rattle.java_member_grammar.specs.declared.heads.JTypeHead.TheVariants as kind
use Rattle.java_unit_grammar.specs.declared.statements.JBody.{JBody}
use Rattle.java_unit_grammar.specs.declared.statements.JCase.{JCase}
use Rattle.java_unit_grammar.specs.declared.statements.JCaseGroup.{JCaseGroup}
use Rattle.java_unit_grammar.specs.declared.statements.JCatch.{JCatch}
use Rattle.java_unit_grammar.specs.declared.statements.JMember.{JMember, out-JMember}
use Rattle.java_unit_grammar.specs.declared.statements.JStatement.{JStatement}
use Rattle.java_unit_grammar.specs.declared.statements.JBody.TheOpen.{JMember-F}
use Rattle.java_unit_grammar.specs.declared.units.JUnit.{JUnit}
use Rattle.java_lib.specs.Library.{string_class}
use Rattle.java_type_names.specs.declared.classes.Meant.{Meant}
use Rattle.java_type_names.specs.declared.classes.Meant.TheVariants as m
use Rattle.java_type_names.specs.declared.classes.World.{World}
use Rattle.java_type_names.specs.declared.scopes.FileScope.{FileScope}
use Rattle.java_supertypes.specs.Supertypes.{super_class}
use Rattle.java_entries.specs.declared.entries.Count.{Count}
use Rattle.java_entries.specs.declared.entries.Count.TheVariants as c

abbrev pub one_more : Count → Count
one_more c.None = c.One
one_more c.One = c.Several
one_more c.Several = c.Several

abbrev pub count_if : Bool → Count → Count
count_if is count = if is then one_more count else count

abbrev pub is_one : Count → Bool
is_one c.One = true
is_one _ = false

abbrev pub qualified : List ℕ → List ℕ → List ℕ
qualified [] name = name
qualified (x ∷ xs) name = ((x ∷ xs) ++ codes ".") ++ name

abbrev pub head_name : JTypeHead → List ℕ
head_name (kind.Class mods at name name_at params bound list) = name
head_name (kind.Interface mods at name name_at params list) = name
head_name (kind.Enum mods at name name_at list) = name

abbrev pub head_params : JTypeHead → Option JTypeParams
head_params (kind.Class mods at name name_at params bound list) = params
head_params (kind.Interface mods at name name_at params list) = params
head_params (kind.Enum mods at name name_at list) = None

-- ---- what an entry may name: a method that is static, isn't private, and has parameters of primitive types and String alone

abbrev pub is_static_by : ModifierKind → Bool
is_static_by modifier.Static = true
is_static_by _ = false

abbrev pub is_private_by : ModifierKind → Bool
is_private_by modifier.Private = true
is_private_by _ = false

abbrev pub has_static : List JModifier → Bool
has_static mods = list_any (λ x. is_static_by x.kind) mods

abbrev pub has_private : List JModifier → Bool
has_private mods = list_any (λ x. is_private_by x.kind) mods

abbrev pub is_open : List JModifier → Bool
is_open mods = has_static mods && not (has_private mods)

abbrev pub is_primitive_by : JType-F JType → Bool
is_primitive_by (JType-F.Primitive primitive at) = true
is_primitive_by _ = false

unfoldable pub is_primitive : JType → Bool
is_primitive x = is_primitive_by (out-JType x)

abbrev pub is_string : Option Meant → Bool
is_string (Some (m.Library number)) = number == string_class
is_string _ = false

module _ (world : World) (scope : FileScope) (params : Option JTypeParams) where
  abbrev pub is_simple : JTypedParam → Bool
  is_simple x = is_primitive x.kind || is_string (super_class world scope params x.kind)

  -- the text before the method's name
  abbrev pub names : List ℕ → List ℕ → JMemberHead → Bool
  names entry front (head.Method mods own result name at formals throws) =
      bytes_eq entry (front ++ name) && (is_open mods && list_all is_simple formals.items)
  names entry front _ = false

  abbrev pub member_names : List ℕ → List ℕ → JMember-F JBody JMember JStatement JCase JCaseGroup JCatch → Bool
  member_names entry front (JMember-F.Declared head bodies end) = names entry front head
  member_names entry front (JMember-F.Bodied head left xs right) = names entry front head
  member_names entry front (JMember-F.Type head left constants bodies members right) = false

  unfoldable pub is_named : List ℕ → List ℕ → JMember → Bool
  is_named entry front x = member_names entry front (out-JMember x)

  abbrev pub count_members : List ℕ → List ℕ → Count → List JMember → Count
  count_members entry front count [] = count
  count_members entry front count (x ∷ xs) = count_members entry front (count_if (is_named entry front x) count) xs

module _ (world : World) (scope : FileScope) (entry : List ℕ) where
  abbrev pub count_by : Count → JMember-F JBody JMember JStatement JCase JCaseGroup JCatch → Count
  count_by count (JMember-F.Type head left constants bodies members right) =
      count_members world scope (head_params head) entry (qualified scope.home (head_name head) ++ codes ".") count members
  count_by count _ = count

  unfoldable pub count_type : Count → JMember → Count
  count_type count x = count_by count (out-JMember x)

  abbrev pub count_types : Count → List JMember → Count
  count_types count [] = count
  count_types count (x ∷ xs) = count_types (count_type count x) xs

abbrev pub count_unit : World → List ℕ → Count → Option FileScope → JUnit → Count
count_unit world entry count None x = count
count_unit world entry count (Some scope) x = count_types world scope entry count x.types

module _ (world : World) (scopes : List FileScope) (entry : List ℕ) where
  -- of files from a number on
  abbrev pub count_from : ℕ → Count → List JUnit → Count
  count_from unit count [] = count
  count_from unit count (x ∷ xs) = count_from (unit + 1) (count_unit world entry count (slice_get scopes unit) x) xs

  -- it names exactly one
  abbrev pub is_entry : List JUnit → Bool
  is_entry units = is_one (count_from 0 c.None units)

-- at the start of the settings, by their path
abbrev pub entry_fault : List ℕ → Fault
entry_fault path = fault_at N 1 path 0 1 1

abbrev pub note_unless : Bool → List (Note Later)
note_unless is = if is then [] else note.Fault (entry_fault (codes "j2k.toml")) ∷ []

abbrev pub entry_notes : World → List FileScope → List JUnit → List (List ℕ) → List (Note Later)
entry_notes world scopes units [] = []
entry_notes world scopes units (entry ∷ entries) = note_unless (is_entry world scopes entry units) ++ entry_notes world scopes units entries
