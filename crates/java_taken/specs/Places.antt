-- Where a form stands: at its first token.
use Rattle.std.specs.Prelude.{[], ◌∷◌}
use Rattle.java_tree.specs.declared.tokens.Position.{Position}
use Rattle.java_tree.specs.declared.types.JType.{JType}
use Rattle.java_tree.specs.declared.exprs.JExpr.{JExpr}
use Rattle.java_tree.specs.declared.exprs.JParams.{JParams}
use Rattle.java_tree.specs.declared.exprs.JParams.TheVariants as params
use Rattle.java_tree.specs.Seen.{Token, Tokens}
use Rattle.java_tree.specs.Trees.{tokens, type_tokens}
use Rattle.java_statement_grammar.specs.declared.declarations.JDeclaration.{JDeclaration}
use Rattle.java_statement_grammar.specs.Heads.{declaration_tokens}
use Rattle.java_unit_grammar.specs.declared.statements.JMember.{JMember}
use Rattle.java_unit_grammar.specs.declared.statements.JStatement.{JStatement}
use Rattle.java_unit_grammar.specs.Tokens.{statement_tokens, whole_member_tokens}

abbrev pub token_at : Token → Position
token_at (Token.Sign mark at) = at
token_at (Token.Word word at) = at
token_at (Token.Id name at) = at
token_at (Token.Literal literal at) = at
token_at (Token.ArrowBody at body) = at
token_at (Token.CloseBody at body) = at

-- the position of the first token, or another where there is none
abbrev pub first_or : Tokens → Position → Position
first_or [] other = other
first_or (token ∷ rest) other = token_at token

-- no place in a file: each form has a token
abbrev pub nowhere : Position
nowhere = record { offset = 0; line = 0; column = 0 }

abbrev pub first_of : Tokens → Position
first_of ts = first_or ts nowhere

unfoldable pub first_at : JExpr → Position
first_at x = first_of (tokens x)

unfoldable pub type_at : JType → Position
type_at x = first_of (type_tokens x)

-- of the parameters of a lambda
abbrev pub params_at : JParams → Position
params_at (params.One p) = p.at
params_at (params.Several lp ps commas rp) = lp
params_at (params.Typed lp ps commas rp) = lp

unfoldable pub declaration_at : JDeclaration → Position
declaration_at x = first_of (declaration_tokens x)

unfoldable pub statement_at : JStatement → Position
statement_at x = first_of (statement_tokens x)

-- of a member, or of a type or a `;` at the top of a file
unfoldable pub member_at : JMember → Position
member_at x = first_of (whole_member_tokens x)
