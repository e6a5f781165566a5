-- Tokens spell at most one of each.
use Rattle.std.proofs.Common.{◌≡◌, ℕ, Bool, true, false, sym, ◌∙◌}
use Rattle.java_tree.specs.Seen.{Tokens}
use Rattle.java_expr_grammar.proofs.LawsToCite.{some_same}
use Rattle.java_member_grammar.specs.declared.heads.JMemberHead.{JMemberHead}
use Rattle.java_member_grammar.specs.declared.heads.JTypeHead.{JTypeHead}
use Rattle.java_member_grammar.specs.declared.lines.JConstants.{JConstants}
use Rattle.java_member_grammar.specs.declared.lines.JPackage.{JPackage}
use Rattle.java_member_grammar.specs.declared.lines.JImport.{JImport}
use Rattle.java_member_grammar.specs.Heads.{MemberSpells, TypeHeadSpells, ConstantsSpell, PackageSpells, ImportSpells}
use Rattle.java_member_grammar.proofs.Members.{semicolon_is_read, block_is_read}
use Rattle.java_member_grammar.proofs.Types.{type_is_read}
use Rattle.java_member_grammar.proofs.Enums.{constants_are_read}
use Rattle.java_member_grammar.proofs.Files.{package_is_read, import_is_read}

pub member_one : (d e : ℕ) (has_body : Bool) (x y : JMemberHead) (ts : Tokens) → MemberSpells d e has_body x ts → MemberSpells d e has_body y ts → x ≡ y
member_one d e false x y ts s t = some_same (sym (semicolon_is_read d e ts x s.precedes s.stands s.same) ∙ semicolon_is_read d e ts y t.precedes t.stands t.same)
member_one d e true x y ts s t = some_same (sym (block_is_read d e ts x s.precedes s.stands s.same) ∙ block_is_read d e ts y t.precedes t.stands t.same)

pub type_head_one : (d : ℕ) (x y : JTypeHead) (ts : Tokens) → TypeHeadSpells d x ts → TypeHeadSpells d y ts → x ≡ y
type_head_one d x y ts s t = some_same (sym (type_is_read d ts x s.stands s.same) ∙ type_is_read d ts y t.stands t.same)

pub constants_one : (d : ℕ) (x y : JConstants) (ts : Tokens) → ConstantsSpell d x ts → ConstantsSpell d y ts → x ≡ y
constants_one d x y ts s t = some_same (sym (constants_are_read d ts x s.stands s.same) ∙ constants_are_read d ts y t.stands t.same)

pub package_one : (x y : JPackage) (ts : Tokens) → PackageSpells x ts → PackageSpells y ts → x ≡ y
package_one x y ts s t = some_same (sym (package_is_read ts x s.same) ∙ package_is_read ts y t.same)

pub import_one : (x y : JImport) (ts : Tokens) → ImportSpells x ts → ImportSpells y ts → x ≡ y
import_one x y ts s t = some_same (sym (import_is_read ts x s.same) ∙ import_is_read ts y t.same)
