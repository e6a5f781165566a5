-- What is read is the one that is spelled.
use Rattle.std.proofs.Common.{◌≡◌, ℕ, true, false, IfOk, Option, Some, None, Result, Ok, Err, sym, ◌∙◌}
use Rattle.j2k_base.specs.declared.errors.NoMemory.{NoMemory}
use Rattle.java_tree.specs.Seen.{Tokens}
use Rattle.java_expr_grammar.proofs.LawsToCite.{some_same}
use Rattle.java_member_grammar.specs.declared.heads.JMemberHead.{JMemberHead}
use Rattle.java_member_grammar.specs.declared.heads.JTypeHead.{JTypeHead}
use Rattle.java_member_grammar.specs.declared.lines.JConstants.{JConstants}
use Rattle.java_member_grammar.specs.declared.lines.JPackage.{JPackage}
use Rattle.java_member_grammar.specs.declared.lines.JImport.{JImport}
use Rattle.java_member_grammar.specs.Heads.{TypeHeadSpells, ConstantsSpell, PackageSpells, ImportSpells}
use Rattle.java_member_grammar.specs.Reading.{before_semicolon, before_block, type_head, constants, package_line, import_line}
use Rattle.java_member_grammar.proofs.LawsToCite.{semicolon_is_spelled, semicolon_is_read, block_is_spelled, block_is_read, type_is_spelled, type_is_read, constants_are_spelled, constants_are_read, package_is_spelled, package_is_read, import_is_spelled, import_is_read}
use Rattle.java_type_parser.specs.Gives.{Gives, Always}
use Rattle.java_declaration_parser.specs.Found.{TheOne, same}
use Rattle.java_member_parser.specs.Found.{TheMember}

other : {A : Type 0} (x : A) (o : Option A) → None ≡ o → o ≡ Some x → ⊥
other x None e f = cc f
other x (Some y) e f = cc e

-- ---- members

pub semicolon_given : (d e : ℕ) (ts : Tokens) (x : Result (Option JMemberHead) NoMemory) → Gives same Always (before_semicolon d e ts) x → IfOk x (TheMember d e false ts)
semicolon_given d e ts (Err _) g = tt
semicolon_given d e ts (Ok None) g = λ x s. other x (before_semicolon d e ts) (sym g) (semicolon_is_read d e ts x s.precedes s.stands s.same)
semicolon_given d e ts (Ok (Some x)) g =
    let i = semicolon_is_spelled d e ts x g.0 in
    (i.0, i.1, λ y s. some_same (sym (semicolon_is_read d e ts y s.precedes s.stands s.same) ∙ g.0))

pub block_given : (d e : ℕ) (ts : Tokens) (x : Result (Option JMemberHead) NoMemory) → Gives same Always (before_block d e ts) x → IfOk x (TheMember d e true ts)
block_given d e ts (Err _) g = tt
block_given d e ts (Ok None) g = λ x s. other x (before_block d e ts) (sym g) (block_is_read d e ts x s.precedes s.stands s.same)
block_given d e ts (Ok (Some x)) g =
    let i = block_is_spelled d e ts x g.0 in
    (i.0, i.1, λ y s. some_same (sym (block_is_read d e ts y s.precedes s.stands s.same) ∙ g.0))

-- ---- types

the_type : (d : ℕ) (ts : Tokens) (o : Option JTypeHead) → o ≡ type_head d ts → TheOne (λ x. TypeHeadSpells d x ts) o
the_type d ts None e = λ x s. other x (type_head d ts) e (type_is_read d ts x s.stands s.same)
the_type d ts (Some x) e = let i = type_is_spelled d ts x (sym e) in record { stands = i.1; same = i.0 }

pub type_given : (d : ℕ) (ts : Tokens) (x : Result (Option JTypeHead) NoMemory) → Gives same Always (type_head d ts) x → IfOk x (TheOne (λ y. TypeHeadSpells d y ts))
type_given d ts (Err e) g = tt
type_given d ts (Ok None) g = the_type d ts None (sym g)
type_given d ts (Ok (Some x)) g = the_type d ts (Some x) (sym g.0)

-- ---- constants

the_constants : (d : ℕ) (ts : Tokens) (o : Option JConstants) → o ≡ constants d ts → TheOne (λ x. ConstantsSpell d x ts) o
the_constants d ts None e = λ x s. other x (constants d ts) e (constants_are_read d ts x s.stands s.same)
the_constants d ts (Some x) e = let i = constants_are_spelled d ts x (sym e) in record { stands = i.1; same = i.0 }

pub constants_given : (d : ℕ) (ts : Tokens) (x : Result (Option JConstants) NoMemory) → Gives same Always (constants d ts) x → IfOk x (TheOne (λ y. ConstantsSpell d y ts))
constants_given d ts (Err e) g = tt
constants_given d ts (Ok None) g = the_constants d ts None (sym g)
constants_given d ts (Ok (Some x)) g = the_constants d ts (Some x) (sym g.0)

-- ---- lines

the_package : (ts : Tokens) (o : Option JPackage) → o ≡ package_line ts → TheOne (λ x. PackageSpells x ts) o
the_package ts None e = λ x s. other x (package_line ts) e (package_is_read ts x s.same)
the_package ts (Some x) e = record { same = package_is_spelled ts x (sym e) }

pub package_given : (ts : Tokens) (x : Result (Option JPackage) NoMemory) → Gives same Always (package_line ts) x → IfOk x (TheOne (λ y. PackageSpells y ts))
package_given ts (Err e) g = tt
package_given ts (Ok None) g = the_package ts None (sym g)
package_given ts (Ok (Some x)) g = the_package ts (Some x) (sym g.0)

the_import : (ts : Tokens) (o : Option JImport) → o ≡ import_line ts → TheOne (λ x. ImportSpells x ts) o
the_import ts None e = λ x s. other x (import_line ts) e (import_is_read ts x s.same)
the_import ts (Some x) e = record { same = import_is_spelled ts x (sym e) }

pub import_given : (ts : Tokens) (x : Result (Option JImport) NoMemory) → Gives same Always (import_line ts) x → IfOk x (TheOne (λ y. ImportSpells y ts))
import_given ts (Err e) g = tt
import_given ts (Ok None) g = the_import ts None (sym g)
import_given ts (Ok (Some x)) g = the_import ts (Some x) (sym g.0)
