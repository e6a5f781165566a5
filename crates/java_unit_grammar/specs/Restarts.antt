-- The arguments of an enum's constants stand at depth 1, also where the enum stands in an expression: how often depth begins
-- anew so on the way to a leaf.
use Rattle.std.specs.Prelude.{ℕ, suc, max, map}
use Rattle.java_tree.specs.Trees.{deepest}
use Rattle.java_unit_grammar.specs.declared.statements.JBody.{JBody, fold-JBody}
use Rattle.java_unit_grammar.specs.declared.statements.JCase.{JCase, fold-JCase}
use Rattle.java_unit_grammar.specs.declared.statements.JMember.{JMember, fold-JMember}
use Rattle.java_unit_grammar.specs.declared.statements.JStatement.{JStatement, fold-JStatement}
use Rattle.java_unit_grammar.specs.declared.statements.JBody.TheOpen.{JBody-F, JCase-F, JCaseGroup-F, JCatch-F, JMember-F, JStatement-F}
use Rattle.java_unit_grammar.specs.Standing.{Node}

-- ---- by cases, over the numbers of the parts

abbrev pub body_by : JBody-F ℕ ℕ ℕ ℕ ℕ ℕ → ℕ
body_by (JBody-F.Statements ns) = deepest ns
body_by (JBody-F.Members ns) = deepest ns

abbrev pub case_by : JCase-F ℕ ℕ ℕ ℕ ℕ ℕ → ℕ
case_by x = deepest x.bodies

abbrev pub group_by : JCaseGroup-F ℕ ℕ ℕ ℕ ℕ ℕ → ℕ
group_by x = max (deepest x.labels) (deepest x.statements)

abbrev pub catch_by : JCatch-F ℕ ℕ ℕ ℕ ℕ ℕ → ℕ
catch_by x = deepest x.statements

abbrev pub statement_by : JStatement-F ℕ ℕ ℕ ℕ ℕ ℕ → ℕ
statement_by (JStatement-F.Simple x bodies end) = deepest bodies
statement_by (JStatement-F.Block left ns right) = deepest ns
statement_by (JStatement-F.Labeled n at colon body) = body
statement_by (JStatement-F.If at lp test bodies rp then_) = max (deepest bodies) then_
statement_by (JStatement-F.IfElse at lp test bodies rp then_ else_at else_) = max (deepest bodies) (max then_ else_)
statement_by (JStatement-F.While at lp test bodies rp body) = max (deepest bodies) body
statement_by (JStatement-F.Do at body while_at lp test bodies rp end) = max body (deepest bodies)
statement_by (JStatement-F.For at lp head bodies rp body) = max (deepest bodies) body
statement_by (JStatement-F.Switch at lp subject bodies rp left groups right) = max (deepest bodies) (deepest groups)
statement_by (JStatement-F.Synchronized at lp lock bodies rp left ns right) = max (deepest bodies) (deepest ns)
statement_by (JStatement-F.Try at left ns right catches) = max (deepest ns) (deepest catches)
statement_by (JStatement-F.TryFinally at left ns right catches finally_at last_left lasts last_right) = max (deepest ns) (max (deepest catches) (deepest lasts))

-- The bodies of a type are those of the arguments of its constants.
abbrev pub member_by : JMember-F ℕ ℕ ℕ ℕ ℕ ℕ → ℕ
member_by (JMember-F.Declared head bodies end) = deepest bodies
member_by (JMember-F.Bodied head left ns right) = deepest ns
member_by (JMember-F.Type head left constants bodies members right) = max (deepest (map suc bodies)) (deepest members)

unfoldable pub body_restarts : JBody → ℕ
body_restarts = fold-JBody ℕ ℕ ℕ ℕ ℕ ℕ body_by member_by statement_by case_by group_by catch_by

unfoldable pub case_restarts : JCase → ℕ
case_restarts = fold-JCase ℕ ℕ ℕ ℕ ℕ ℕ body_by member_by statement_by case_by group_by catch_by

unfoldable pub statement_restarts : JStatement → ℕ
statement_restarts = fold-JStatement ℕ ℕ ℕ ℕ ℕ ℕ body_by member_by statement_by case_by group_by catch_by

unfoldable pub member_restarts : JMember → ℕ
member_restarts = fold-JMember ℕ ℕ ℕ ℕ ℕ ℕ body_by member_by statement_by case_by group_by catch_by

abbrev pub restarts : Node → ℕ
restarts (Node.Body x) = body_restarts x
restarts (Node.Case x) = case_restarts x
restarts (Node.Statement place x) = statement_restarts x
restarts (Node.Member owner x) = member_restarts x
