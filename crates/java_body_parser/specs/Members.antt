-- Members of types, a step at a time.
use Rattle.std.specs.Prelude.{◌≡◌, ◌≤◌, ℕ, Bool, true, false, List, ◌++◌, length, Some}
use Rattle.java_tree.specs.Seen.{Tokens}
use Rattle.java_token_cursor.specs.declared.piece.Piece.{Piece}
use Rattle.java_token_cursor.specs.Shown.{shown}
use Rattle.java_tree.specs.Trees.{max_depth}
use Rattle.java_expr_grammar.specs.Reading.{Read, Reader, ◌>>=◌}
use Rattle.java_member_grammar.specs.declared.heads.JMemberHead.{JMemberHead}
use Rattle.java_member_grammar.specs.declared.lines.JConstants.{JConstants}
use Rattle.java_member_grammar.specs.Reading.{constants}
use Rattle.java_unit_grammar.specs.Levels.{Levels, constants_levels}
use Rattle.java_unit_grammar.specs.Standing.{Owner, member_levels, spans, top_levels}
use Rattle.java_unit_grammar.specs.Cutting.{Cut}
use Rattle.java_unit_grammar.specs.Reading.{constants_end}
use Rattle.java_unit_grammar.specs.declared.statements.JMember.{JMember}
use Rattle.java_unit_grammar.specs.Reading as r
use Rattle.java_block_parser.specs.Members.{bodied_end}

abbrev pub levels_of : Bool → JMemberHead → Levels
levels_of true x = top_levels x
levels_of false x = member_levels x

-- behind the head of a member with a block
abbrev pub bodied_behind : r.Readers → ℕ → Owner → JMemberHead → Reader JMember
bodied_behind R h owner x ts = r.member_block R h x ts >>= λ ys. bodied_end owner x ys.0 ys.1

-- the text with a `;` that comes first, and what follows
abbrev pub IsEnd : List Piece → List Piece → List Piece → List Piece → Type 0
IsEnd text ts longer rest = (shown longer ≡ shown text ++ (constants_end (shown ts)).0) × (shown rest ≡ (constants_end (shown ts)).1) × (length rest ≤ length ts)

-- ---- types

-- constants with the kinds and the texts of their bodies, and what follows
abbrev pub constants_bodied : r.Readers → JConstants → List Bool → List Tokens → Reader (r.Headed JConstants)
constants_bodied R x ks us ts = r.bodies_by R.body 199 (constants_levels x) ks us >>= λ xs. Some (record { head = x; bodies = xs }, ts)

abbrev pub constants_in : r.Readers → List Bool → List Tokens → Tokens → Reader (r.Headed JConstants)
constants_in R ks us text ts = constants max_depth text >>= λ x. constants_bodied R x ks us ts

-- constants that were cut off
abbrev pub constants_of : r.Readers → Cut → Read (r.Headed JConstants)
constants_of R c = constants_in R (spans c.text) c.bodies (c.text ++ (constants_end c.rest).0) (constants_end c.rest).1
