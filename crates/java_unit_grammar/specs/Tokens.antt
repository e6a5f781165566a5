-- Which tokens statements, members and units spell.
use Rattle.std.specs.Prelude.{List, [], ◌∷◌, ◌++◌, map, Option, Some, None}
use Rattle.java_tree.specs.declared.tokens.Position.{Position}
use Rattle.java_tree.specs.declared.tokens.Mark.TheVariants as m
use Rattle.java_tree.specs.declared.tokens.Keyword.TheVariants as w
use Rattle.java_tree.specs.Seen.{Token, Tokens}
use Rattle.java_tree.specs.Trees.{tokens, typed_tokens}
use Rattle.java_statement_grammar.specs.Heads.{simple_tokens, for_tokens, lock_tokens, switch_tokens}
use Rattle.java_member_grammar.specs.declared.lines.JConstants.{JConstants}
use Rattle.java_member_grammar.specs.declared.lines.JPackage.{JPackage}
use Rattle.java_member_grammar.specs.Heads.{member_tokens, type_head_tokens, constants_tokens, package_tokens, import_tokens}
use Rattle.java_unit_grammar.specs.declared.statements.JBody.{JBody, fold-JBody}
use Rattle.java_unit_grammar.specs.declared.statements.JMember.{JMember, fold-JMember}
use Rattle.java_unit_grammar.specs.declared.statements.JStatement.{JStatement, fold-JStatement}
use Rattle.java_unit_grammar.specs.declared.statements.JBody.TheOpen.{JBody-F, JCase-F, JCaseGroup-F, JCatch-F, JMember-F, JStatement-F}
use Rattle.java_unit_grammar.specs.declared.units.JUnit.{JUnit}

abbrev pub joined : List Tokens → Tokens
joined [] = []
joined (text ∷ texts) = text ++ joined texts

-- the tokens of a head with those of its bodies, which stand in the order of their `{`
abbrev pub filled : Tokens → List Tokens → Tokens
filled [] bodies = []
filled (Token.ArrowBody at span ∷ ts) (body ∷ bodies) = Token.Sign m.Arrow at ∷ Token.Sign m.OpenCurly span.opens ∷ (body ++ Token.Sign m.CloseCurly span.closes ∷ filled ts bodies)
filled (Token.CloseBody at span ∷ ts) (body ∷ bodies) = Token.Sign m.CloseRound at ∷ Token.Sign m.OpenCurly span.opens ∷ (body ++ Token.Sign m.CloseCurly span.closes ∷ filled ts bodies)
filled (t ∷ ts) bodies = t ∷ filled ts bodies

abbrev pub braced : Position → List Tokens → Position → Tokens
braced left texts right = Token.Sign m.OpenCurly left ∷ (joined texts ++ Token.Sign m.CloseCurly right ∷ [])

-- ---- by cases, over the tokens of the parts

abbrev pub body_by : JBody-F Tokens Tokens Tokens Tokens Tokens Tokens → Tokens
body_by (JBody-F.Statements texts) = joined texts
body_by (JBody-F.Members texts) = joined texts

abbrev pub case_by : JCase-F Tokens Tokens Tokens Tokens Tokens Tokens → Tokens
case_by x = filled (switch_tokens x.label) x.bodies

abbrev pub group_by : JCaseGroup-F Tokens Tokens Tokens Tokens Tokens Tokens → Tokens
group_by x = joined x.labels ++ joined x.statements

abbrev pub catch_by : JCatch-F Tokens Tokens Tokens Tokens Tokens Tokens → Tokens
catch_by x = Token.Word w.Catch x.at ∷ Token.Sign m.OpenRound x.opens ∷ (typed_tokens x.caught ++ Token.Sign m.CloseRound x.closes ∷ braced x.left x.statements x.right)

-- a word and what stands in parentheses behind it
abbrev pub headed : Token → Position → Tokens → Position → Tokens → Tokens
headed word lp head rp rest = word ∷ Token.Sign m.OpenRound lp ∷ (head ++ Token.Sign m.CloseRound rp ∷ rest)

abbrev pub statement_by : JStatement-F Tokens Tokens Tokens Tokens Tokens Tokens → Tokens
statement_by (JStatement-F.Simple x bodies end) = filled (simple_tokens x) bodies ++ Token.Sign m.Semicolon end ∷ []
statement_by (JStatement-F.Block left texts right) = braced left texts right
statement_by (JStatement-F.Labeled n at colon body) = Token.Id n at ∷ Token.Sign m.Colon colon ∷ body
statement_by (JStatement-F.If at lp test bodies rp then_) = headed (Token.Word w.If at) lp (filled (tokens test) bodies) rp then_
statement_by (JStatement-F.IfElse at lp test bodies rp then_ else_at else_) =
    headed (Token.Word w.If at) lp (filled (tokens test) bodies) rp (then_ ++ Token.Word w.Else else_at ∷ else_)
statement_by (JStatement-F.While at lp test bodies rp body) = headed (Token.Word w.While at) lp (filled (tokens test) bodies) rp body
statement_by (JStatement-F.Do at body while_at lp test bodies rp end) =
    Token.Word w.Do at ∷ (body ++ headed (Token.Word w.While while_at) lp (filled (tokens test) bodies) rp (Token.Sign m.Semicolon end ∷ []))
statement_by (JStatement-F.For at lp head bodies rp body) = headed (Token.Word w.For at) lp (filled (for_tokens head) bodies) rp body
statement_by (JStatement-F.Switch at lp subject bodies rp left groups right) =
    headed (Token.Word w.Switch at) lp (filled (tokens subject) bodies) rp (braced left groups right)
statement_by (JStatement-F.Synchronized at lp lock bodies rp left texts right) =
    headed (Token.Word w.Synchronized at) lp (filled (lock_tokens lock) bodies) rp (braced left texts right)
statement_by (JStatement-F.Try at left texts right catches) = Token.Word w.Try at ∷ (braced left texts right ++ joined catches)
statement_by (JStatement-F.TryFinally at left texts right catches finally_at last_left lasts last_right) =
    Token.Word w.Try at ∷ (braced left texts right ++ (joined catches ++ Token.Word w.Finally finally_at ∷ braced last_left lasts last_right))

abbrev pub constants_by : Option JConstants → List Tokens → Tokens
constants_by None bodies = []
constants_by (Some x) bodies = filled (constants_tokens x) bodies

abbrev pub member_by : JMember-F Tokens Tokens Tokens Tokens Tokens Tokens → Tokens
member_by (JMember-F.Declared head bodies end) = filled (member_tokens head) bodies ++ Token.Sign m.Semicolon end ∷ []
member_by (JMember-F.Bodied head left texts right) = member_tokens head ++ braced left texts right
member_by (JMember-F.Type head left constants bodies members right) =
    type_head_tokens head ++ Token.Sign m.OpenCurly left ∷ (constants_by constants bodies ++ (joined members ++ Token.Sign m.CloseCurly right ∷ []))

unfoldable pub body_tokens : JBody → Tokens
body_tokens = fold-JBody Tokens Tokens Tokens Tokens Tokens Tokens body_by member_by statement_by case_by group_by catch_by

unfoldable pub statement_tokens : JStatement → Tokens
statement_tokens = fold-JStatement Tokens Tokens Tokens Tokens Tokens Tokens body_by member_by statement_by case_by group_by catch_by

unfoldable pub whole_member_tokens : JMember → Tokens
whole_member_tokens = fold-JMember Tokens Tokens Tokens Tokens Tokens Tokens body_by member_by statement_by case_by group_by catch_by

abbrev pub package_part : Option JPackage → Tokens
package_part None = []
package_part (Some x) = package_tokens x

unfoldable pub unit_tokens : JUnit → Tokens
unit_tokens unit = package_part unit.package ++ (joined (map import_tokens unit.imports) ++ joined (map whole_member_tokens unit.types))
