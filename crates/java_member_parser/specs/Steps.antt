-- Heads, a step at a time.
use Rattle.std.specs.Prelude.{ℕ, Bool, if◌then◌else◌, List, [], ◌∷◌, Option, Some, None, codes}
use Rattle.std.specs.Str.{bytes_eq}
use Rattle.java_tree.specs.declared.tokens.Position.{Position}
use Rattle.java_tree.specs.declared.tokens.Mark.TheVariants as mark
use Rattle.java_tree.specs.declared.tokens.Keyword.TheVariants as w
use Rattle.java_tree.specs.declared.types.JType.{JType}
use Rattle.java_tree.specs.Seen.{Token, Tokens}
use Rattle.java_expr_grammar.specs.Reading.{Reader, ◌>>=◌, whole, dot, ident, qualified, type_read}
use Rattle.java_member_grammar.specs.declared.modifiers.ModifierKind.TheVariants as modifier
use Rattle.java_member_grammar.specs.declared.modifiers.JModifier.{JModifier}
use Rattle.java_member_grammar.specs.declared.parts.JTypeParams.{JTypeParams}
use Rattle.java_member_grammar.specs.declared.heads.JResult.TheVariants as result
use Rattle.java_member_grammar.specs.declared.heads.JMemberHead.{JMemberHead}
use Rattle.java_member_grammar.specs.declared.heads.JTypeHead.{JTypeHead}
use Rattle.java_member_grammar.specs.declared.lines.JPackage.{JPackage}
use Rattle.java_member_grammar.specs.declared.lines.JImport.{JImport}
use Rattle.java_member_grammar.specs.declared.lines.JStar.{JStar}
use Rattle.java_member_grammar.specs.Reading as m

-- ---- modifiers

abbrev pub is_override : List ℕ → Bool
is_override n = bytes_eq n (codes "Override")

-- behind an `@`
abbrev pub override_by : Position → Reader JModifier
override_by at (Token.Id n p ∷ rest) = if is_override n then Some (record { kind = modifier.Override p; at = at }, rest) else None
override_by at _ = None

abbrev pub modifier_at : Reader JModifier
modifier_at (Token.Word word at ∷ rest) = m.modifier_by word >>= λ k. Some (record { kind = k; at = at }, rest)
modifier_at (Token.Sign mark.At at ∷ rest) = override_by at rest
modifier_at _ = None

-- ---- members

abbrev pub called_constructor : ℕ → List JModifier → Reader JMemberHead
called_constructor d mods ts = ident ts >>= λ n. m.constructor d mods n.0.name n.0.at n.1

abbrev pub called_method : ℕ → List JModifier → Option JTypeParams → JType → Reader JMemberHead
called_method d mods params kind ts = ident ts >>= λ n. m.method d mods params (result.Type kind) n.0 n.1

abbrev pub void_method : ℕ → List JModifier → Option JTypeParams → Position → Reader JMemberHead
void_method d mods params at ts = ident ts >>= λ n. m.method d mods params (result.Void at) n.0 n.1

abbrev pub type_member : ℕ → ℕ → List JModifier → Option JTypeParams → Reader JMemberHead
type_member d e mods params ts = type_read d ts >>= λ x. m.typed_member d e mods params x.0 x.1

abbrev pub whole_member : ℕ → ℕ → Tokens → Option JMemberHead
whole_member d e ts = whole (m.member_of d e (m.modifiers ts).0 (m.modifiers ts).1)

-- `static`, where it is all
abbrev pub only_static : Tokens → Option Position
only_static (Token.Word w.Static at ∷ []) = Some at
only_static _ = None

-- ---- types

abbrev pub class_read : ℕ → List JModifier → Position → Reader JTypeHead
class_read d mods at ts = ident ts >>= λ n. m.class_head d mods at n.0 n.1

abbrev pub interface_read : ℕ → List JModifier → Position → Reader JTypeHead
interface_read d mods at ts = ident ts >>= λ n. m.interface_head d mods at n.0 n.1

abbrev pub enum_read : ℕ → List JModifier → Position → Reader JTypeHead
enum_read d mods at ts = ident ts >>= λ n. m.enum_head d mods at n.0 n.1

-- ---- lines, and what stands behind constants

abbrev pub starred : Position → Reader JStar
starred d (Token.Sign mark.Star at ∷ rest) = Some (record { dot = d; at = at }, rest)
starred d _ = None

abbrev pub star_at : Reader JStar
star_at ts = dot ts >>= λ d. starred d.0 d.1

-- behind `package`
abbrev pub package_at : Position → Tokens → Option JPackage
package_at at (Token.Id n p ∷ rest) = whole (m.package_by at (qualified n p rest))
package_at at _ = None

-- behind `import`
abbrev pub import_at : Position → Tokens → Option JImport
import_at at (Token.Id n p ∷ rest) = whole (m.import_by at (qualified n p rest))
import_at at _ = None

-- behind the last comma
abbrev pub end_of : Option Position → Tokens → Option (Option Position × Option Position)
end_of more [] = Some (more, None)
end_of more (Token.Sign mark.Semicolon end ∷ []) = Some (more, Some end)
end_of more _ = None
