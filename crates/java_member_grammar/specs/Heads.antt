-- Which tokens the heads of members and types spell, and which stand.
use Rattle.std.specs.Prelude.{◌≡◌, ◌≤◌, ℕ, zero, suc, Bool, true, not, List, [], ◌∷◌, ◌++◌, length, map, Option, Some, None, codes}
use Rattle.std.specs.List.{AllByRecursion}
use Rattle.java_tree.specs.declared.tokens.Position.{Position}
use Rattle.java_tree.specs.declared.tokens.Mark.TheVariants as m
use Rattle.java_tree.specs.declared.tokens.Keyword.{Keyword}
use Rattle.java_tree.specs.declared.tokens.Keyword.TheVariants as w
use Rattle.java_tree.specs.Seen.{Token, Tokens}
use Rattle.java_tree.specs.Trees.{listed, AreBetween, closing, trailing, typed_tokens, type_tokens, qualified_tokens, tokens, any_level, TypeStands, TypedStands, Stands}
use Rattle.java_statement_grammar.specs.declared.declarations.JDeclaration.{JDeclaration}
use Rattle.java_statement_grammar.specs.Heads.{declaration_tokens, DeclaratorStands}
use Rattle.java_member_grammar.specs.declared.modifiers.ModifierKind.{ModifierKind}
use Rattle.java_member_grammar.specs.declared.modifiers.ModifierKind.TheVariants as modifier
use Rattle.java_member_grammar.specs.declared.modifiers.JModifier.{JModifier}
use Rattle.java_member_grammar.specs.declared.parts.JBound.{JBound}
use Rattle.java_member_grammar.specs.declared.parts.JTypeParam.{JTypeParam}
use Rattle.java_member_grammar.specs.declared.parts.JTypeParams.{JTypeParams}
use Rattle.java_member_grammar.specs.declared.parts.JFormals.{JFormals}
use Rattle.java_member_grammar.specs.declared.parts.JTypeList.{JTypeList}
use Rattle.java_member_grammar.specs.declared.heads.JResult.{JResult}
use Rattle.java_member_grammar.specs.declared.heads.JResult.TheVariants as result
use Rattle.java_member_grammar.specs.declared.heads.JMemberHead.{JMemberHead}
use Rattle.java_member_grammar.specs.declared.heads.JMemberHead.TheVariants as head
use Rattle.java_member_grammar.specs.declared.heads.JTypeHead.{JTypeHead}
use Rattle.java_member_grammar.specs.declared.heads.JTypeHead.TheVariants as kind
use Rattle.java_member_grammar.specs.declared.lines.JArguments.{JArguments}
use Rattle.java_member_grammar.specs.declared.lines.JConstant.{JConstant}
use Rattle.java_member_grammar.specs.declared.lines.JConstants.{JConstants}
use Rattle.java_member_grammar.specs.declared.lines.JPackage.{JPackage}
use Rattle.java_member_grammar.specs.declared.lines.JStar.{JStar}
use Rattle.java_member_grammar.specs.declared.lines.JImport.{JImport}

-- ---- modifiers

abbrev pub modifier_tokens : JModifier → Tokens
modifier_tokens x = by x.kind where
  by : ModifierKind → Tokens
  by modifier.Public = Token.Word w.Public x.at ∷ []
  by modifier.Protected = Token.Word w.Protected x.at ∷ []
  by modifier.Private = Token.Word w.Private x.at ∷ []
  by modifier.Abstract = Token.Word w.Abstract x.at ∷ []
  by modifier.Static = Token.Word w.Static x.at ∷ []
  by modifier.Final = Token.Word w.Final x.at ∷ []
  by modifier.Synchronized = Token.Word w.Synchronized x.at ∷ []
  by modifier.Volatile = Token.Word w.Volatile x.at ∷ []
  by modifier.Default = Token.Word w.Default x.at ∷ []
  by (modifier.Override name) = Token.Sign m.At x.at ∷ Token.Id (codes "Override") name ∷ []

abbrev pub modifiers_tokens : List JModifier → Tokens
modifiers_tokens [] = []
modifiers_tokens (x ∷ xs) = modifier_tokens x ++ modifiers_tokens xs

-- ---- parts

abbrev pub bound_tokens : Option JBound → Tokens
bound_tokens None = []
bound_tokens (Some x) = Token.Word w.Extends x.at ∷ type_tokens x.kind

abbrev pub type_param_tokens : JTypeParam → Tokens
type_param_tokens x = Token.Id x.name x.at ∷ bound_tokens x.bound

abbrev pub type_params_tokens : Option JTypeParams → Tokens
type_params_tokens None = []
type_params_tokens (Some x) = Token.Sign m.Less x.opens ∷ (listed x.commas (map type_param_tokens x.items) ++ Token.Sign (closing x.is_joined) x.closes ∷ [])

abbrev pub formals_tokens : JFormals → Tokens
formals_tokens x = Token.Sign m.OpenRound x.opens ∷ (listed x.commas (map typed_tokens x.items) ++ Token.Sign m.CloseRound x.closes ∷ [])

-- a word with types behind it, where they stand
abbrev pub list_tokens : Keyword → Option JTypeList → Tokens
list_tokens word None = []
list_tokens word (Some x) = Token.Word word x.at ∷ listed x.commas (map type_tokens x.items)

abbrev pub result_tokens : JResult → Tokens
result_tokens (result.Void at) = Token.Word w.Void at ∷ []
result_tokens (result.Type x) = type_tokens x

abbrev pub static_tokens : Option Position → Tokens
static_tokens None = []
static_tokens (Some at) = Token.Word w.Static at ∷ []

-- ---- heads

abbrev pub member_tokens : JMemberHead → Tokens
member_tokens head.Empty = []
member_tokens (head.Field mods x) = modifiers_tokens mods ++ declaration_tokens x
member_tokens (head.Method mods params result n at formals throws) =
    modifiers_tokens mods ++ (type_params_tokens params ++ (result_tokens result ++ Token.Id n at ∷ (formals_tokens formals ++ list_tokens w.Throws throws)))
member_tokens (head.Constructor mods n at formals throws) =
    modifiers_tokens mods ++ Token.Id n at ∷ (formals_tokens formals ++ list_tokens w.Throws throws)
member_tokens (head.Initializer static) = static_tokens static

abbrev pub type_head_tokens : JTypeHead → Tokens
type_head_tokens (kind.Class mods at n nat params above faces) =
    modifiers_tokens mods ++ Token.Word w.Class at ∷ Token.Id n nat ∷ (type_params_tokens params ++ (bound_tokens above ++ list_tokens w.Implements faces))
type_head_tokens (kind.Interface mods at n nat params above) =
    modifiers_tokens mods ++ Token.Word w.Interface at ∷ Token.Id n nat ∷ (type_params_tokens params ++ list_tokens w.Extends above)
type_head_tokens (kind.Enum mods at n nat faces) = modifiers_tokens mods ++ Token.Word w.Enum at ∷ Token.Id n nat ∷ list_tokens w.Implements faces

-- ---- lines, and the constants of an enum

abbrev pub star_tokens : Option JStar → Tokens
star_tokens None = []
star_tokens (Some x) = Token.Sign m.Dot x.dot ∷ Token.Sign m.Star x.at ∷ []

abbrev pub package_tokens : JPackage → Tokens
package_tokens x = Token.Word w.Package x.at ∷ (qualified_tokens x.name ++ Token.Sign m.Semicolon x.end ∷ [])

abbrev pub import_tokens : JImport → Tokens
import_tokens x = Token.Word w.Import x.at ∷ (qualified_tokens x.name ++ (star_tokens x.star ++ Token.Sign m.Semicolon x.end ∷ []))

abbrev pub arguments_tokens : Option JArguments → Tokens
arguments_tokens None = []
arguments_tokens (Some x) = Token.Sign m.OpenRound x.opens ∷ (listed x.commas (map tokens x.items) ++ Token.Sign m.CloseRound x.closes ∷ [])

abbrev pub constant_tokens : JConstant → Tokens
constant_tokens x = Token.Id x.name x.at ∷ arguments_tokens x.arguments

abbrev pub end_tokens : Option Position → Tokens
end_tokens None = []
end_tokens (Some at) = Token.Sign m.Semicolon at ∷ []

abbrev pub constants_tokens : JConstants → Tokens
constants_tokens x = listed x.commas (map constant_tokens x.items) ++ (trailing x.more ++ end_tokens x.end)

-- ---- which stand: their parts at a depth of at most the number

abbrev pub bound_stands : ℕ → Option JBound → Type 0
bound_stands d None = Unit {0}
bound_stands d (Some x) = TypeStands d x.kind

-- A type parameter is one deeper than its bound.
unfoldable pub TypeParamStands : ℕ → JTypeParam → Type 0
TypeParamStands zero x = ⊥
TypeParamStands (suc d) x = bound_stands d x.bound

abbrev pub type_params_stand : ℕ → Option JTypeParams → Type 0
type_params_stand d None = Unit {0}
type_params_stand d (Some x) = (1 ≤ length x.items) × AreBetween x.commas x.items × AllByRecursion (TypeParamStands d) x.items

abbrev pub formals_stand : ℕ → JFormals → Type 0
formals_stand d x = AreBetween x.commas x.items × AllByRecursion (TypedStands d) x.items

abbrev pub list_stands : ℕ → Option JTypeList → Type 0
list_stands d None = Unit {0}
list_stands d (Some x) = (1 ≤ length x.items) × AreBetween x.commas x.items × AllByRecursion (TypeStands d) x.items

abbrev pub result_stands : ℕ → JResult → Type 0
result_stands d (result.Void at) = Unit {0}
result_stands d (result.Type x) = TypeStands d x

-- The `final` of a field is a modifier. Its values are at a depth of less than e.
pub record FieldStands (d e : ℕ) (x : JDeclaration) : Type 0 where
  pub no_final : x.is_final ≡ None
  pub kind : TypeStands d x.kind
  pub some_name : 1 ≤ length x.names
  pub between : AreBetween x.commas x.names
  pub all : AllByRecursion (DeclaratorStands e) x.names

abbrev pub MemberStands : ℕ → ℕ → JMemberHead → Type 0
MemberStands d e head.Empty = Unit {0}
MemberStands d e (head.Field mods x) = FieldStands d e x
MemberStands d e (head.Method mods params result n at formals throws) = type_params_stand d params × result_stands d result × formals_stand d formals × list_stands d throws
MemberStands d e (head.Constructor mods n at formals throws) = formals_stand d formals × list_stands d throws
MemberStands d e (head.Initializer static) = Unit {0}

-- whether it may stand before a block, or before a `;` (JLS 8.1.6)
abbrev pub may_precede : Bool → JMemberHead → Bool
may_precede has_body head.Empty = not has_body
may_precede has_body (head.Field mods x) = not has_body
may_precede has_body (head.Method mods params result n at formals throws) = true
may_precede has_body (head.Constructor mods n at formals throws) = has_body
may_precede has_body (head.Initializer static) = has_body

-- The head spells the tokens before a block, or before a `;`, with its parts at a depth of at most d and the values of a
-- field at a depth of less than e.
pub record MemberSpells (d e : ℕ) (has_body : Bool) (x : JMemberHead) (text : Tokens) : Type 0 where
  pub precedes : may_precede has_body x ≡ true
  pub stands : MemberStands d e x
  pub same : member_tokens x ≡ text

abbrev pub TypeHeadStands : ℕ → JTypeHead → Type 0
TypeHeadStands d (kind.Class mods at n nat params above faces) = type_params_stand d params × bound_stands d above × list_stands d faces
TypeHeadStands d (kind.Interface mods at n nat params above) = type_params_stand d params × list_stands d above
TypeHeadStands d (kind.Enum mods at n nat faces) = list_stands d faces

-- The head spells the tokens, with its parts at a depth of at most the number.
pub record TypeHeadSpells (d : ℕ) (x : JTypeHead) (text : Tokens) : Type 0 where
  pub stands : TypeHeadStands d x
  pub same : type_head_tokens x ≡ text

abbrev pub arguments_stand : ℕ → Option JArguments → Type 0
arguments_stand d None = Unit {0}
arguments_stand d (Some x) = AreBetween x.commas x.items × AllByRecursion (Stands d any_level) x.items

abbrev pub ConstantStands : ℕ → JConstant → Type 0
ConstantStands d x = arguments_stand d x.arguments

abbrev pub ConstantsStand : ℕ → JConstants → Type 0
ConstantsStand d x = AreBetween x.commas x.items × AllByRecursion (ConstantStands d) x.items

-- The constants spell the tokens, with their arguments at a depth of at most the number.
pub record ConstantsSpell (d : ℕ) (x : JConstants) (text : Tokens) : Type 0 where
  pub stands : ConstantsStand d x
  pub same : constants_tokens x ≡ text

-- The line spells the tokens.
pub record PackageSpells (x : JPackage) (text : Tokens) : Type 0 where
  pub same : package_tokens x ≡ text

pub record ImportSpells (x : JImport) (text : Tokens) : Type 0 where
  pub same : import_tokens x ≡ text
