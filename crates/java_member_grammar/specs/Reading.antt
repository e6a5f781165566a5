-- Reading the heads of members and types from whole lists of tokens.
use Rattle.std.specs.Prelude.{ℕ, zero, suc, Bool, true, false, if◌then◌else◌, List, [], ◌∷◌, Option, Some, None}
use Rattle.std.specs.Str.{bytes_eq}
use Rattle.std.specs.Prelude.{codes}
use Rattle.java_tree.specs.declared.tokens.Position.{Position}
use Rattle.java_tree.specs.declared.tokens.Mark.TheVariants as m
use Rattle.java_tree.specs.declared.tokens.Keyword.{Keyword}
use Rattle.java_tree.specs.declared.tokens.Keyword.TheVariants as w
use Rattle.java_tree.specs.Seen.{Token, Tokens}
use Rattle.java_tree.specs.declared.types.JType.{JType}
use Rattle.java_tree.specs.declared.types.JQualified.{JQualified}
use Rattle.java_tree.specs.declared.exprs.JParam.{JParam}
use Rattle.java_expr_grammar.specs.Reading.{Read, Reader, Listed, ◌>>=◌, maybe, whole, comma, close, open_round, ident, closes, qualified, type_read, base_read, typed_read, typed_from, some_by, args_from, read}
use Rattle.java_statement_grammar.specs.Reading.{semicolon, declaration_of}
use Rattle.java_member_grammar.specs.declared.modifiers.ModifierKind.{ModifierKind}
use Rattle.java_member_grammar.specs.declared.modifiers.ModifierKind.TheVariants as modifier
use Rattle.java_member_grammar.specs.declared.modifiers.JModifier.{JModifier}
use Rattle.java_member_grammar.specs.declared.parts.JBound.{JBound}
use Rattle.java_member_grammar.specs.declared.parts.JTypeParam.{JTypeParam}
use Rattle.java_member_grammar.specs.declared.parts.JTypeParams.{JTypeParams}
use Rattle.java_member_grammar.specs.declared.parts.JFormals.{JFormals}
use Rattle.java_member_grammar.specs.declared.parts.JTypeList.{JTypeList}
use Rattle.java_member_grammar.specs.declared.heads.JResult.{JResult}
use Rattle.java_member_grammar.specs.declared.heads.JResult.TheVariants as result
use Rattle.java_member_grammar.specs.declared.heads.JMemberHead.{JMemberHead}
use Rattle.java_member_grammar.specs.declared.heads.JMemberHead.TheVariants as head
use Rattle.java_member_grammar.specs.declared.heads.JTypeHead.{JTypeHead}
use Rattle.java_member_grammar.specs.declared.heads.JTypeHead.TheVariants as kind
use Rattle.java_member_grammar.specs.declared.lines.JArguments.{JArguments}
use Rattle.java_member_grammar.specs.declared.lines.JConstant.{JConstant}
use Rattle.java_member_grammar.specs.declared.lines.JConstants.{JConstants}
use Rattle.java_member_grammar.specs.declared.lines.JPackage.{JPackage}
use Rattle.java_member_grammar.specs.declared.lines.JStar.{JStar}
use Rattle.java_member_grammar.specs.declared.lines.JImport.{JImport}

-- ---- modifiers

abbrev pub modifier_by : Keyword → Option ModifierKind
modifier_by w.Public = Some modifier.Public
modifier_by w.Protected = Some modifier.Protected
modifier_by w.Private = Some modifier.Private
modifier_by w.Abstract = Some modifier.Abstract
modifier_by w.Static = Some modifier.Static
modifier_by w.Final = Some modifier.Final
modifier_by w.Synchronized = Some modifier.Synchronized
modifier_by w.Volatile = Some modifier.Volatile
modifier_by w.Default = Some modifier.Default
modifier_by _ = None

-- the modifiers that come first
unfoldable pub modifiers : Tokens → List JModifier × Tokens
modifiers (Token.Word word at ∷ rest) =
    maybe (modifier_by word) ([], Token.Word word at ∷ rest) (λ k. (record { kind = k; at = at } ∷ (modifiers rest).0, (modifiers rest).1))
modifiers (Token.Sign m.At at ∷ Token.Id n p ∷ rest) =
    if bytes_eq n (codes "Override") then (record { kind = modifier.Override p; at = at } ∷ (modifiers rest).0, (modifiers rest).1)
    else ([], Token.Sign m.At at ∷ Token.Id n p ∷ rest)
modifiers ts = ([], ts)

-- ---- parts, at a depth

-- `extends` and a type, where they come first
abbrev pub bound : ℕ → Reader (Option JBound)
bound d (Token.Word w.Extends at ∷ rest) = type_read d rest >>= λ x. Some (Some (record { at = at; kind = x.0 }), x.1)
bound d ts = Some (None, ts)

unfoldable pub type_param : ℕ → Reader JTypeParam
type_param zero ts = None
type_param (suc d) ts = do
  n ← ident ts
  above ← bound d n.1
  Some (record { name = n.0.name; at = n.0.at; bound = above.0 }, above.1)

unfoldable pub type_params_of : ℕ → Position → Reader JTypeParams
type_params_of d lt ts = do
  items ← some_by comma (type_param d) ts
  end ← closes items.1
  Some (record { opens = lt; items = items.0.0; commas = items.0.1; is_joined = end.0.0; closes = end.0.1 }, end.1)

abbrev pub type_params : ℕ → Reader (Option JTypeParams)
type_params d (Token.Sign m.Less lt ∷ rest) = type_params_of d lt rest >>= λ x. Some (Some x.0, x.1)
type_params d ts = Some (None, ts)

unfoldable pub formals : ℕ → Reader JFormals
formals d ts = do
  lp ← open_round ts
  items ← typed_from (type_read d) (base_read (suc d)) (typed_read d) (read d) lp.1
  rp ← close items.1
  Some (record { opens = lp.0; items = items.0.0; commas = items.0.1; closes = rp.0 }, rp.1)

unfoldable pub types_behind : ℕ → Position → Reader JTypeList
types_behind d at ts = some_by comma (type_read d) ts >>= λ x. Some (record { at = at; items = x.0.0; commas = x.0.1 }, x.1)

abbrev pub throws : ℕ → Reader (Option JTypeList)
throws d (Token.Word w.Throws at ∷ rest) = types_behind d at rest >>= λ x. Some (Some x.0, x.1)
throws d ts = Some (None, ts)

abbrev pub implements : ℕ → Reader (Option JTypeList)
implements d (Token.Word w.Implements at ∷ rest) = types_behind d at rest >>= λ x. Some (Some x.0, x.1)
implements d ts = Some (None, ts)

abbrev pub extends_list : ℕ → Reader (Option JTypeList)
extends_list d (Token.Word w.Extends at ∷ rest) = types_behind d at rest >>= λ x. Some (Some x.0, x.1)
extends_list d ts = Some (None, ts)

-- ---- heads of members, whose values are at a depth of less than e

unfoldable pub constructor : ℕ → List JModifier → List ℕ → Position → Reader JMemberHead
constructor d mods n at ts = do
  params ← formals d ts
  faults ← throws d params.1
  Some (head.Constructor mods n at params.0 faults.0, faults.1)

unfoldable pub method : ℕ → List JModifier → Option JTypeParams → JResult → JParam → Reader JMemberHead
method d mods params result n ts = do
  parameters ← formals d ts
  faults ← throws d parameters.1
  Some (head.Method mods params result n.name n.at parameters.0 faults.0, faults.1)

-- whether a name with a `(` behind it comes first
abbrev pub begins_call : Tokens → Bool
begins_call (Token.Id n at ∷ Token.Sign m.OpenRound lp ∷ rest) = true
begins_call _ = false

unfoldable pub field : ℕ → List JModifier → JType → Reader JMemberHead
field e mods kind ts = declaration_of e None kind ts >>= λ x. Some (head.Field mods x.0, x.1)

-- behind the modifiers, the type parameters and the type
unfoldable pub typed_member : ℕ → ℕ → List JModifier → Option JTypeParams → JType → Reader JMemberHead
typed_member d e mods params kind ts =
    if begins_call ts then (ident ts >>= λ n. method d mods params (result.Type kind) n.0 n.1)
    else maybe params (field e mods kind ts) (λ x. None)

abbrev pub result_member : ℕ → ℕ → List JModifier → Option JTypeParams → Reader JMemberHead
result_member d e mods params (Token.Word w.Void at ∷ rest) = ident rest >>= λ n. method d mods params (result.Void at) n.0 n.1
result_member d e mods params ts = type_read d ts >>= λ x. typed_member d e mods params x.0 x.1

unfoldable pub declared_member : ℕ → ℕ → List JModifier → Reader JMemberHead
declared_member d e mods ts = type_params d ts >>= λ x. result_member d e mods x.0 x.1

unfoldable pub member_of : ℕ → ℕ → List JModifier → Reader JMemberHead
member_of d e mods ts =
    if begins_call ts then (ident ts >>= λ n. constructor d mods n.0.name n.0.at n.1) else declared_member d e mods ts

-- before a `;`
unfoldable pub before_semicolon : ℕ → ℕ → Tokens → Option JMemberHead
before_semicolon d e [] = Some head.Empty
before_semicolon d e ts = whole (member_of d e (modifiers ts).0 (modifiers ts).1)

-- before a block
unfoldable pub before_block : ℕ → ℕ → Tokens → Option JMemberHead
before_block d e [] = Some (head.Initializer None)
before_block d e (Token.Word w.Static at ∷ []) = Some (head.Initializer (Some at))
before_block d e ts = whole (member_of d e (modifiers ts).0 (modifiers ts).1)

-- ---- heads of types

unfoldable pub class_head : ℕ → List JModifier → Position → JParam → Reader JTypeHead
class_head d mods at n ts = do
  params ← type_params d ts
  above ← bound d params.1
  faces ← implements d above.1
  Some (kind.Class mods at n.name n.at params.0 above.0 faces.0, faces.1)

unfoldable pub interface_head : ℕ → List JModifier → Position → JParam → Reader JTypeHead
interface_head d mods at n ts = do
  params ← type_params d ts
  above ← extends_list d params.1
  Some (kind.Interface mods at n.name n.at params.0 above.0, above.1)

unfoldable pub enum_head : ℕ → List JModifier → Position → JParam → Reader JTypeHead
enum_head d mods at n ts = implements d ts >>= λ faces. Some (kind.Enum mods at n.name n.at faces.0, faces.1)

abbrev pub type_of : ℕ → List JModifier → Reader JTypeHead
type_of d mods (Token.Word w.Class at ∷ rest) = ident rest >>= λ n. class_head d mods at n.0 n.1
type_of d mods (Token.Word w.Interface at ∷ rest) = ident rest >>= λ n. interface_head d mods at n.0 n.1
type_of d mods (Token.Word w.Enum at ∷ rest) = ident rest >>= λ n. enum_head d mods at n.0 n.1
type_of d mods _ = None

unfoldable pub type_head : ℕ → Tokens → Option JTypeHead
type_head d ts = whole (type_of d (modifiers ts).0 (modifiers ts).1)

-- ---- lines, and the constants of an enum

abbrev pub star_by : Tokens → Option JStar × Tokens
star_by (Token.Sign m.Dot dot ∷ Token.Sign m.Star at ∷ rest) = (Some (record { dot = dot; at = at }), rest)
star_by ts = (None, ts)

abbrev pub package_by : Position → JQualified × Tokens → Read JPackage
package_by at q = semicolon q.1 >>= λ end. Some (record { at = at; name = q.0; end = end.0 }, end.1)

abbrev pub package_line : Tokens → Option JPackage
package_line (Token.Word w.Package at ∷ Token.Id n p ∷ rest) = whole (package_by at (qualified n p rest))
package_line _ = None

abbrev pub import_by : Position → JQualified × Tokens → Read JImport
import_by at q = semicolon (star_by q.1).1 >>= λ end. Some (record { at = at; name = q.0; star = (star_by q.1).0; end = end.0 }, end.1)

abbrev pub import_line : Tokens → Option JImport
import_line (Token.Word w.Import at ∷ Token.Id n p ∷ rest) = whole (import_by at (qualified n p rest))
import_line _ = None

unfoldable pub arguments_of : ℕ → Position → Reader JArguments
arguments_of d lp ts = do
  args ← args_from (type_read d) (base_read (suc d)) (typed_read d) (read d) ts
  rp ← close args.1
  Some (record { opens = lp; items = args.0.0; commas = args.0.1; closes = rp.0 }, rp.1)

abbrev pub arguments : ℕ → Reader (Option JArguments)
arguments d (Token.Sign m.OpenRound lp ∷ rest) = arguments_of d lp rest >>= λ x. Some (Some x.0, x.1)
arguments d ts = Some (None, ts)

unfoldable pub constant : ℕ → Reader JConstant
constant d ts = do
  n ← ident ts
  args ← arguments d n.1
  Some (record { name = n.0.name; at = n.0.at; arguments = args.0 }, args.1)

-- a comma with a name behind it
abbrev pub comma_name : Reader Position
comma_name (Token.Sign m.Comma at ∷ Token.Id n p ∷ rest) = Some (at, Token.Id n p ∷ rest)
comma_name _ = None

abbrev pub begins_id : Tokens → Bool
begins_id (Token.Id n at ∷ rest) = true
begins_id _ = false

abbrev pub constants_end : Tokens → Option (Option Position × Option Position)
constants_end [] = Some (None, None)
constants_end (Token.Sign m.Semicolon end ∷ []) = Some (None, Some end)
constants_end (Token.Sign m.Comma at ∷ []) = Some (Some at, None)
constants_end (Token.Sign m.Comma at ∷ Token.Sign m.Semicolon end ∷ []) = Some (Some at, Some end)
constants_end _ = None

unfoldable pub constant_list : ℕ → Reader (Listed JConstant)
constant_list d ts = if begins_id ts then some_by comma_name (constant d) ts else Some (([], []), ts)

unfoldable pub constants : ℕ → Tokens → Option JConstants
constants d ts = do
  list ← constant_list d ts
  end ← constants_end list.1
  Some (record { items = list.0.0; commas = list.0.1; more = end.0; end = end.1 })
