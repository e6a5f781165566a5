-- Members of types, a step at a time.
use Rattle.std.specs.Prelude.{true, false, if◌then◌else◌, List, [], Some, None}
use Rattle.std.specs.Borrow.{Bor}
use Rattle.java_tree.specs.Seen.{Tokens}
use Rattle.java_token_cursor.specs.declared.piece.Piece.{Piece}
use Rattle.java_token_cursor.specs.Shown.{shown}
use Rattle.java_tree.specs.declared.tokens.Position.{Position}
use Rattle.java_expr_grammar.specs.Reading.{Reader, ◌>>=◌, open_curly}
use Rattle.java_statement_grammar.specs.Reading.{semicolon}
use Rattle.java_member_grammar.specs.declared.homes.JHome.{JHome}
use Rattle.java_member_grammar.specs.declared.heads.JMemberHead.{JMemberHead}
use Rattle.java_member_grammar.specs.declared.heads.JTypeHead.{JTypeHead}
use Rattle.java_member_grammar.specs.Modifiers.{type_fits}
use Rattle.java_unit_grammar.specs.declared.statements.JBody.{JBody}
use Rattle.java_unit_grammar.specs.declared.statements.JMember.{JMember}
use Rattle.java_unit_grammar.specs.declared.statements.JMember.TheVariants as member
use Rattle.java_unit_grammar.specs.declared.statements.JStatement.{JStatement}
use Rattle.java_block_parser.specs.declared.types.ConstantsFound.{ConstantsFound}
use Rattle.java_unit_grammar.specs.Standing.{Owner, member_fits, owner_of}
use Rattle.java_unit_grammar.specs.Reading.{close_curly}
use Rattle.java_unit_grammar.specs.Reading as r
use Rattle.java_block_parser.specs.declared.types.Inside.{Inside}

-- what a member declares, with a `;` behind it
abbrev pub declared_end : Owner → JMemberHead → List JBody → Reader JMember
declared_end owner x xs ts = semicolon ts >>= λ end. if member_fits owner false x then Some (member.Declared x xs end.0, end.1) else None

-- a member with its block
abbrev pub bodied_end : Owner → JMemberHead → r.Braced JStatement → Reader JMember
bodied_end owner x ys ts = if member_fits owner true x then Some (member.Bodied x ys.opens ys.items ys.closes, ts) else None

-- ---- types

abbrev pub inside_seen : Inside → r.Inside
inside_seen x = record { constants = x.constants; bodies = x.bodies; members = x.members }

abbrev pub inside_found : Inside × Bor (List Piece) → r.Inside × Tokens
inside_found x = (inside_seen x.0, shown x.1.now)

abbrev pub enum_seen : ConstantsFound → List JMember → r.Inside
enum_seen x ys = record { constants = Some x.head; bodies = x.bodies; members = ys }

abbrev pub plain_seen : List JMember → r.Inside
plain_seen ys = record { constants = None; bodies = []; members = ys }

-- the end of a type
abbrev pub type_end : JHome → JTypeHead → Position → r.Inside → Reader JMember
type_end place x left y ts =
    close_curly ts >>= λ rc. if type_fits place x then Some (member.Type x left y.constants y.bodies y.members rc.0, rc.1) else None

-- a type behind its head
abbrev pub type_behind : r.Readers → (Owner → Reader JMember) → JHome → JTypeHead → Reader JMember
type_behind R nested place x ts = do
  lc ← open_curly ts
  y ← r.inside R x (r.until r.begins_close (nested (owner_of x))) lc.1
  type_end place x lc.0 y.0 y.1
