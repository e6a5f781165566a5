-- What statements and members say of names, in the order in which they bind them. A body stands where its head has a place
-- for it.
use Rattle.std.specs.Prelude.{ℕ, Bool, true, false, ◌||◌, if◌then◌else◌, List, [], ◌∷◌, ◌++◌, map, Option, Some, None}
use Rattle.std.specs.List.{list_any}
use Rattle.java_tree.specs.declared.tokens.Position.{Position}
use Rattle.java_tree.specs.declared.types.JType.{JType}
use Rattle.java_statement_grammar.specs.declared.declarations.JDeclarator.{JDeclarator}
use Rattle.java_statement_grammar.specs.declared.declarations.JDeclaration.{JDeclaration}
use Rattle.java_member_grammar.specs.declared.homes.JHome.{JHome}
use Rattle.java_member_grammar.specs.declared.homes.JHome.TheVariants as home
use Rattle.java_member_grammar.specs.declared.modifiers.JModifier.{JModifier}
use Rattle.java_member_grammar.specs.declared.modifiers.ModifierKind.{ModifierKind}
use Rattle.java_member_grammar.specs.declared.modifiers.ModifierKind.TheVariants as modifier
use Rattle.java_member_grammar.specs.declared.parts.JFormals.{JFormals}
use Rattle.java_member_grammar.specs.declared.parts.JTypeList.{JTypeList}
use Rattle.java_member_grammar.specs.declared.parts.JTypeParams.{JTypeParams}
use Rattle.java_member_grammar.specs.declared.heads.JResult.{JResult}
use Rattle.java_member_grammar.specs.declared.heads.JResult.TheVariants as gives
use Rattle.java_member_grammar.specs.declared.heads.JMemberHead.{JMemberHead}
use Rattle.java_member_grammar.specs.declared.heads.JMemberHead.TheVariants as head
use Rattle.java_member_grammar.specs.declared.heads.JTypeHead.{JTypeHead}
use Rattle.java_member_grammar.specs.declared.heads.JTypeHead.TheVariants as kind
use Rattle.java_unit_grammar.specs.declared.statements.JBody.{JBody}
use Rattle.java_unit_grammar.specs.declared.statements.JCase.{JCase, fold-JCase}
use Rattle.java_unit_grammar.specs.declared.statements.JCaseGroup.{JCaseGroup, fold-JCaseGroup}
use Rattle.java_unit_grammar.specs.declared.statements.JCatch.{JCatch, fold-JCatch}
use Rattle.java_unit_grammar.specs.declared.statements.JMember.{JMember, out-JMember}
use Rattle.java_unit_grammar.specs.declared.statements.JStatement.{JStatement, fold-JStatement}
use Rattle.java_unit_grammar.specs.declared.statements.JBody.{fold-JBody}
use Rattle.java_unit_grammar.specs.declared.statements.JBody.TheOpen.{JBody-F, JCase-F, JCaseGroup-F, JCatch-F, JMember-F, JStatement-F}
use Rattle.java_name_uses.specs.declared.uses.Sign.{Sign}
use Rattle.java_name_uses.specs.declared.uses.Sign.TheVariants as sign
use Rattle.java_name_uses.specs.declared.uses.Word.TheVariants as w
use Rattle.java_name_uses.specs.declared.uses.Naming.TheVariants as naming
use Rattle.java_name_uses.specs.declared.uses.Use.{Use}
use Rattle.java_name_uses.specs.declared.uses.Use.TheVariants as use_
use Rattle.java_name_uses.specs.Uses as u
use Rattle.java_name_uses.specs.Uses.{Uses, all}
use Rattle.java_name_uses.specs.Heads as h
use Rattle.java_body_uses.specs.declared.members.Member.{Member}
use Rattle.java_body_uses.specs.declared.members.Member.TheVariants.{Initial, Called, Later}

-- ---- bodies in their heads

-- the block of a lambda
abbrev pub is_block : Use → Bool
is_block (use_.Sign sign.Block) = true
is_block _ = false

-- the place of a body: the block of a lambda, or an anonymous class
abbrev pub is_place : Use → Bool
is_place (use_.Sign sign.Block) = true
is_place (use_.Sign sign.Skipped) = true
is_place _ = false

-- what a head says at one place, where these bodies are left: the block of a lambda stands in its place, nothing of an
-- anonymous class
abbrev pub said_at : Use → List Uses → Uses
said_at x [] = x ∷ []
said_at x (body ∷ bodies) = if is_place x then (if is_block x then body else []) else x ∷ []

-- the bodies that are left behind it
abbrev pub left_behind : Use → List Uses → List Uses
left_behind x [] = []
left_behind x (body ∷ bodies) = if is_place x then bodies else body ∷ bodies

-- what a head says, with its bodies in the order of their `{`
abbrev pub filled : Uses → List Uses → Uses
filled [] bodies = []
filled (x ∷ more) bodies = said_at x bodies ++ filled more (left_behind x bodies)

abbrev pub scoped : Sign → Uses → Uses
scoped opens x = u.signed opens ++ (x ++ u.signed sign.Close)

-- ---- statements (JLS 14), by cases over what the parts say

abbrev pub body_by : JBody-F Uses Uses Uses Uses Uses Uses → Uses
body_by (JBody-F.Statements xs) = all xs
body_by (JBody-F.Members xs) = []

abbrev pub case_by : JCase-F Uses Uses Uses Uses Uses Uses → Uses
case_by x = filled (h.label x.label) x.bodies

-- the locals of a group are in scope in those behind it too (JLS 6.3)
abbrev pub group_by : JCaseGroup-F Uses Uses Uses Uses Uses Uses → Uses
group_by x = all x.labels ++ all x.statements

abbrev pub catch_by : JCatch-F Uses Uses Uses Uses Uses Uses → Uses
catch_by x = scoped sign.Open (u.parameter x.caught ++ all x.statements)

abbrev pub statement_by : JStatement-F Uses Uses Uses Uses Uses Uses → Uses
statement_by (JStatement-F.Simple x bodies end) = filled (h.simple x) bodies
statement_by (JStatement-F.Block left xs right) = scoped sign.Open (all xs)
statement_by (JStatement-F.Labeled name at colon body) = u.named naming.Label name at ++ (body ++ u.signed sign.Close)
statement_by (JStatement-F.If at lp test bodies rp then_) = filled (u.value (u.uses test)) bodies ++ then_
statement_by (JStatement-F.IfElse at lp test bodies rp then_ else_at else_) = filled (u.value (u.uses test)) bodies ++ (then_ ++ else_)
statement_by (JStatement-F.While at lp test bodies rp body) = scoped sign.OpenLoop (filled (u.value (u.uses test)) bodies ++ body)
statement_by (JStatement-F.Do at body while_at lp test bodies rp end) = scoped sign.OpenLoop (body ++ filled (u.value (u.uses test)) bodies)
statement_by (JStatement-F.For at lp head bodies rp body) = scoped sign.OpenLoop (filled (h.for_head head) bodies ++ body)
statement_by (JStatement-F.Switch at lp subject bodies rp left groups right) = filled (u.value (u.uses subject)) bodies ++ scoped sign.OpenSwitch (all groups)
statement_by (JStatement-F.Synchronized at lp lock bodies rp left xs right) = filled (h.lock lock) bodies ++ scoped sign.Open (all xs)
statement_by (JStatement-F.Try at left xs right catches) = scoped sign.Open (all xs) ++ all catches
statement_by (JStatement-F.TryFinally at left xs right catches finally_at last_left lasts last_right) =
    scoped sign.Open (all xs) ++ (all catches ++ scoped sign.Open (all lasts))

-- An anonymous class isn't gone into.
abbrev pub member_by : JMember-F Uses Uses Uses Uses Uses Uses → Uses
member_by x = []

unfoldable pub body_uses : JBody → Uses
body_uses = fold-JBody Uses Uses Uses Uses Uses Uses body_by member_by statement_by case_by group_by catch_by

unfoldable pub statement_uses : JStatement → Uses
statement_uses = fold-JStatement Uses Uses Uses Uses Uses Uses body_by member_by statement_by case_by group_by catch_by

abbrev pub statements : List JStatement → Uses
statements xs = all (map statement_uses xs)

unfoldable pub case_uses : JCase → Uses
case_uses = fold-JCase Uses Uses Uses Uses Uses Uses body_by member_by statement_by case_by group_by catch_by

unfoldable pub group_uses : JCaseGroup → Uses
group_uses = fold-JCaseGroup Uses Uses Uses Uses Uses Uses body_by member_by statement_by case_by group_by catch_by

unfoldable pub catch_uses : JCatch → Uses
catch_uses = fold-JCatch Uses Uses Uses Uses Uses Uses body_by member_by statement_by case_by group_by catch_by

-- ---- members

abbrev pub is_static_by : ModifierKind → Bool
is_static_by modifier.Static = true
is_static_by _ = false

abbrev pub has_static : List JModifier → Bool
has_static mods = list_any (λ x. is_static_by x.kind) mods

abbrev pub in_interface : JHome → Bool
in_interface home.Interface = true
in_interface _ = false

abbrev pub first_at : List JModifier → Position → Position
first_at [] at = at
first_at (x ∷ xs) at = x.at

abbrev pub result_uses : JResult → Uses
result_uses (gives.Void at) = []
result_uses (gives.Type kind) = u.type_uses kind

abbrev pub throws_uses : Option JTypeList → Uses
throws_uses None = []
throws_uses (Some list) = all (map u.type_uses list.items)

-- the parameters are in scope in the body (JLS 6.3)
abbrev pub head_uses : JFormals → Option JTypeList → Uses → Uses
head_uses formals throws body = all (map u.parameter formals.items) ++ (throws_uses throws ++ body)

-- what a method or constructor says, of which the statements say the body; a generic method isn't built yet
abbrev pub method : List JModifier → Option JTypeParams → JResult → JFormals → Option JTypeList → Uses → Member
method mods None result formals throws body = Called (has_static mods) (result_uses result ++ head_uses formals throws body)
method mods (Some params) result formals throws body = Later (first_at mods params.opens)

-- the types and the values of fields, whose names are no locals
abbrev pub field_value : JDeclarator → Uses
field_value x = h.initial x.value

abbrev pub field_uses : JDeclaration → Uses
field_uses x = u.type_uses x.kind ++ all (map field_value x.names)

-- The fields of an interface are static (JLS 9.3).
abbrev pub head_member : JHome → JMemberHead → List Uses → Uses → Option Member
head_member place head.Empty bodies body = None
head_member place (head.Field mods declaration) bodies body = Some (Initial (has_static mods || in_interface place) (filled (field_uses declaration) bodies))
head_member place (head.Method mods params result name at formals throws) bodies body = Some (method mods params result formals throws body)
head_member place (head.Constructor mods name at formals throws) bodies body = Some (Called false (head_uses formals throws body))
head_member place (head.Initializer None) bodies body = Some (Initial false body)
head_member place (head.Initializer (Some at)) bodies body = Some (Initial true body)

abbrev pub type_at : JTypeHead → Position
type_at (kind.Class mods at name name_at params bound list) = first_at mods at
type_at (kind.Interface mods at name name_at params list) = first_at mods at
type_at (kind.Enum mods at name name_at list) = first_at mods at

-- A member type isn't built yet.
abbrev pub member_of : JHome → JMember-F JBody JMember JStatement JCase JCaseGroup JCatch → Option Member
member_of place (JMember-F.Declared head bodies end) = head_member place head (map body_uses bodies) []
member_of place (JMember-F.Bodied head left xs right) = head_member place head [] (statements xs)
member_of place (JMember-F.Type head left constants bodies members right) = Some (Later (type_at head))

-- what a member of a class or an interface says
unfoldable pub member_uses : JHome → JMember → Option Member
member_uses place x = member_of place (out-JMember x)
