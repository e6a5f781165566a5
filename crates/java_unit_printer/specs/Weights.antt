-- How many steps it takes at most to write a part: more than those of what it is made of.
use Rattle.std.specs.Prelude.{ℕ, suc, ◌+◌, ◌*◌, List, [], ◌∷◌, length, Option, Some, None}
use Rattle.java_tree.specs.Seen.{Tokens}
use Rattle.java_tree.specs.Trees.{tokens, typed_tokens}
use Rattle.java_statement_grammar.specs.Heads.{simple_tokens, for_tokens, lock_tokens, switch_tokens}
use Rattle.java_member_grammar.specs.declared.lines.JConstants.{JConstants}
use Rattle.java_member_grammar.specs.Heads.{member_tokens, type_head_tokens, constants_tokens}
use Rattle.java_unit_grammar.specs.declared.statements.JBody.{JBody, fold-JBody}
use Rattle.java_unit_grammar.specs.declared.statements.JCase.{JCase, fold-JCase}
use Rattle.java_unit_grammar.specs.declared.statements.JCaseGroup.{JCaseGroup, fold-JCaseGroup}
use Rattle.java_unit_grammar.specs.declared.statements.JCatch.{JCatch, fold-JCatch}
use Rattle.java_unit_grammar.specs.declared.statements.JMember.{JMember, fold-JMember}
use Rattle.java_unit_grammar.specs.declared.statements.JStatement.{JStatement, fold-JStatement}
use Rattle.java_unit_grammar.specs.declared.statements.JBody.TheOpen.{JBody-F, JCase-F, JCaseGroup-F, JCatch-F, JMember-F, JStatement-F}

-- of a list of parts
abbrev pub total : List ℕ → ℕ
total [] = 1
total (n ∷ ns) = suc (n + total ns)

-- of the tokens of a head with bodies of these weights
abbrev pub text_weight : Tokens → List ℕ → ℕ
text_weight ts bodies = 2 * length ts + total bodies

abbrev pub body_weight_by : JBody-F ℕ ℕ ℕ ℕ ℕ ℕ → ℕ
body_weight_by (JBody-F.Statements ns) = suc (total ns)
body_weight_by (JBody-F.Members ns) = suc (total ns)

abbrev pub case_weight_by : JCase-F ℕ ℕ ℕ ℕ ℕ ℕ → ℕ
case_weight_by x = text_weight (switch_tokens x.label) x.bodies

abbrev pub group_weight_by : JCaseGroup-F ℕ ℕ ℕ ℕ ℕ ℕ → ℕ
group_weight_by x = total x.labels + total x.statements

abbrev pub catch_weight_by : JCatch-F ℕ ℕ ℕ ℕ ℕ ℕ → ℕ
catch_weight_by x = 5 + (text_weight (typed_tokens x.caught) [] + total x.statements)

abbrev pub statement_weight_by : JStatement-F ℕ ℕ ℕ ℕ ℕ ℕ → ℕ
statement_weight_by (JStatement-F.Simple x bodies end) = 2 + text_weight (simple_tokens x) bodies
statement_weight_by (JStatement-F.Block left ns right) = 3 + total ns
statement_weight_by (JStatement-F.Labeled n at colon body) = 3 + body
statement_weight_by (JStatement-F.If at lp test bodies rp then_) = 4 + (text_weight (tokens test) bodies + then_)
statement_weight_by (JStatement-F.IfElse at lp test bodies rp then_ else_at else_) = 5 + (text_weight (tokens test) bodies + (then_ + else_))
statement_weight_by (JStatement-F.While at lp test bodies rp body) = 4 + (text_weight (tokens test) bodies + body)
statement_weight_by (JStatement-F.Do at body while_at lp test bodies rp end) = 6 + (text_weight (tokens test) bodies + body)
statement_weight_by (JStatement-F.For at lp head bodies rp body) = 4 + (text_weight (for_tokens head) bodies + body)
statement_weight_by (JStatement-F.Switch at lp subject bodies rp left groups right) = 6 + (text_weight (tokens subject) bodies + total groups)
statement_weight_by (JStatement-F.Synchronized at lp lock bodies rp left ns right) = 6 + (text_weight (lock_tokens lock) bodies + total ns)
statement_weight_by (JStatement-F.Try at left ns right catches) = 4 + (total ns + total catches)
statement_weight_by (JStatement-F.TryFinally at left ns right catches finally_at last_left lasts last_right) = 7 + (total ns + (total catches + total lasts))

abbrev pub constants_weight : Option JConstants → List ℕ → ℕ
constants_weight None bodies = 0
constants_weight (Some x) bodies = text_weight (constants_tokens x) bodies

abbrev pub member_weight_by : JMember-F ℕ ℕ ℕ ℕ ℕ ℕ → ℕ
member_weight_by (JMember-F.Declared head bodies end) = 2 + text_weight (member_tokens head) bodies
member_weight_by (JMember-F.Bodied head left ns right) = 3 + (text_weight (member_tokens head) [] + total ns)
member_weight_by (JMember-F.Type head left constants bodies ns right) =
    3 + (text_weight (type_head_tokens head) [] + (constants_weight constants bodies + total ns))

unfoldable pub body_weight : JBody → ℕ
body_weight = fold-JBody ℕ ℕ ℕ ℕ ℕ ℕ body_weight_by member_weight_by statement_weight_by case_weight_by group_weight_by catch_weight_by

unfoldable pub case_weight : JCase → ℕ
case_weight = fold-JCase ℕ ℕ ℕ ℕ ℕ ℕ body_weight_by member_weight_by statement_weight_by case_weight_by group_weight_by catch_weight_by

unfoldable pub group_weight : JCaseGroup → ℕ
group_weight = fold-JCaseGroup ℕ ℕ ℕ ℕ ℕ ℕ body_weight_by member_weight_by statement_weight_by case_weight_by group_weight_by catch_weight_by

unfoldable pub catch_weight : JCatch → ℕ
catch_weight = fold-JCatch ℕ ℕ ℕ ℕ ℕ ℕ body_weight_by member_weight_by statement_weight_by case_weight_by group_weight_by catch_weight_by

unfoldable pub statement_weight : JStatement → ℕ
statement_weight = fold-JStatement ℕ ℕ ℕ ℕ ℕ ℕ body_weight_by member_weight_by statement_weight_by case_weight_by group_weight_by catch_weight_by

unfoldable pub member_weight : JMember → ℕ
member_weight = fold-JMember ℕ ℕ ℕ ℕ ℕ ℕ body_weight_by member_weight_by statement_weight_by case_weight_by group_weight_by catch_weight_by
