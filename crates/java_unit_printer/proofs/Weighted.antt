-- The weight of each form.
use Rattle.std.proofs.Common.{◌≡◌, ℕ, suc, ◌+◌, List, [], map, Option, ap, sym, ◌∙◌}
use Rattle.java_tree.specs.declared.tokens.Position.{Position}
use Rattle.java_tree.specs.declared.exprs.JExpr.{JExpr}
use Rattle.java_tree.specs.Trees.{tokens, typed_tokens}
use Rattle.java_statement_grammar.specs.declared.statements.JSimple.{JSimple}
use Rattle.java_statement_grammar.specs.declared.statements.JForHead.{JForHead}
use Rattle.java_statement_grammar.specs.declared.statements.JLock.{JLock}
use Rattle.java_statement_grammar.specs.Heads.{simple_tokens, for_tokens, lock_tokens, switch_tokens}
use Rattle.java_member_grammar.specs.declared.heads.JMemberHead.{JMemberHead}
use Rattle.java_member_grammar.specs.declared.heads.JTypeHead.{JTypeHead}
use Rattle.java_member_grammar.specs.declared.lines.JConstants.{JConstants}
use Rattle.java_member_grammar.specs.Heads.{member_tokens, type_head_tokens}
use Rattle.java_unit_grammar.specs.declared.statements.JBody.{JBody, fold-roll-JBody}
use Rattle.java_unit_grammar.specs.declared.statements.JBody.TheVariants as body
use Rattle.java_unit_grammar.specs.declared.statements.JCase.{JCase, roll-JCase, out-JCase, roll-out-JCase, fold-roll-JCase}
use Rattle.java_unit_grammar.specs.declared.statements.JCaseGroup.{JCaseGroup, roll-JCaseGroup, out-JCaseGroup, roll-out-JCaseGroup, fold-roll-JCaseGroup}
use Rattle.java_unit_grammar.specs.declared.statements.JCatch.{JCatch, roll-JCatch, out-JCatch, roll-out-JCatch, fold-roll-JCatch}
use Rattle.java_unit_grammar.specs.declared.statements.JMember.{JMember, fold-roll-JMember}
use Rattle.java_unit_grammar.specs.declared.statements.JMember.TheVariants as member
use Rattle.java_unit_grammar.specs.declared.statements.JStatement.{JStatement, fold-roll-JStatement}
use Rattle.java_unit_grammar.specs.declared.statements.JStatement.TheVariants as st
use Rattle.java_unit_grammar.specs.declared.statements.JBody.TheOpen.{JBody-F, JCase-F, JCaseGroup-F, JCatch-F, JMember-F, JStatement-F}
use Rattle.java_unit_printer.specs.Weights.{total, text_weight, constants_weight, body_weight, case_weight, group_weight, catch_weight, statement_weight, member_weight, body_weight_by, member_weight_by, statement_weight_by, case_weight_by, group_weight_by, catch_weight_by}

pub weight_Simple : (x : JSimple) (bodies : List JBody) (end : Position) → statement_weight (st.Simple x bodies end) ≡ 2 + text_weight (simple_tokens x) (map body_weight bodies)
unfolding body_weight statement_weight member_weight case_weight group_weight catch_weight
weight_Simple x bodies end = ap statement_weight (sym (st.rolls-Simple x bodies end)) ∙ fold-roll-JStatement ℕ ℕ ℕ ℕ ℕ ℕ body_weight_by member_weight_by statement_weight_by case_weight_by group_weight_by catch_weight_by (JStatement-F.Simple x bodies end)

pub weight_Block : (left : Position) (xs : List JStatement) (right : Position) → statement_weight (st.Block left xs right) ≡ 3 + total (map statement_weight xs)
unfolding body_weight statement_weight member_weight case_weight group_weight catch_weight
weight_Block left xs right = ap statement_weight (sym (st.rolls-Block left xs right)) ∙ fold-roll-JStatement ℕ ℕ ℕ ℕ ℕ ℕ body_weight_by member_weight_by statement_weight_by case_weight_by group_weight_by catch_weight_by (JStatement-F.Block left xs right)

pub weight_Labeled : (n : List ℕ) (at : Position) (colon : Position) (x : JStatement) → statement_weight (st.Labeled n at colon x) ≡ 3 + statement_weight x
unfolding body_weight statement_weight member_weight case_weight group_weight catch_weight
weight_Labeled n at colon x = ap statement_weight (sym (st.rolls-Labeled n at colon x)) ∙ fold-roll-JStatement ℕ ℕ ℕ ℕ ℕ ℕ body_weight_by member_weight_by statement_weight_by case_weight_by group_weight_by catch_weight_by (JStatement-F.Labeled n at colon x)

pub weight_If : (at : Position) (lp : Position) (x : JExpr) (bodies : List JBody) (rp : Position) (y : JStatement) → statement_weight (st.If at lp x bodies rp y) ≡ 4 + (text_weight (tokens x) (map body_weight bodies) + statement_weight y)
unfolding body_weight statement_weight member_weight case_weight group_weight catch_weight
weight_If at lp x bodies rp y = ap statement_weight (sym (st.rolls-If at lp x bodies rp y)) ∙ fold-roll-JStatement ℕ ℕ ℕ ℕ ℕ ℕ body_weight_by member_weight_by statement_weight_by case_weight_by group_weight_by catch_weight_by (JStatement-F.If at lp x bodies rp y)

pub weight_IfElse : (at : Position) (lp : Position) (x : JExpr) (bodies : List JBody) (rp : Position) (y : JStatement) (else_at : Position) (z : JStatement) → statement_weight (st.IfElse at lp x bodies rp y else_at z) ≡ 5 + (text_weight (tokens x) (map body_weight bodies) + (statement_weight y + statement_weight z))
unfolding body_weight statement_weight member_weight case_weight group_weight catch_weight
weight_IfElse at lp x bodies rp y else_at z = ap statement_weight (sym (st.rolls-IfElse at lp x bodies rp y else_at z)) ∙ fold-roll-JStatement ℕ ℕ ℕ ℕ ℕ ℕ body_weight_by member_weight_by statement_weight_by case_weight_by group_weight_by catch_weight_by (JStatement-F.IfElse at lp x bodies rp y else_at z)

pub weight_While : (at : Position) (lp : Position) (x : JExpr) (bodies : List JBody) (rp : Position) (y : JStatement) → statement_weight (st.While at lp x bodies rp y) ≡ 4 + (text_weight (tokens x) (map body_weight bodies) + statement_weight y)
unfolding body_weight statement_weight member_weight case_weight group_weight catch_weight
weight_While at lp x bodies rp y = ap statement_weight (sym (st.rolls-While at lp x bodies rp y)) ∙ fold-roll-JStatement ℕ ℕ ℕ ℕ ℕ ℕ body_weight_by member_weight_by statement_weight_by case_weight_by group_weight_by catch_weight_by (JStatement-F.While at lp x bodies rp y)

pub weight_Do : (at : Position) (y : JStatement) (while_at : Position) (lp : Position) (x : JExpr) (bodies : List JBody) (rp : Position) (end : Position) → statement_weight (st.Do at y while_at lp x bodies rp end) ≡ 6 + (text_weight (tokens x) (map body_weight bodies) + statement_weight y)
unfolding body_weight statement_weight member_weight case_weight group_weight catch_weight
weight_Do at y while_at lp x bodies rp end = ap statement_weight (sym (st.rolls-Do at y while_at lp x bodies rp end)) ∙ fold-roll-JStatement ℕ ℕ ℕ ℕ ℕ ℕ body_weight_by member_weight_by statement_weight_by case_weight_by group_weight_by catch_weight_by (JStatement-F.Do at y while_at lp x bodies rp end)

pub weight_For : (at : Position) (lp : Position) (x : JForHead) (bodies : List JBody) (rp : Position) (y : JStatement) → statement_weight (st.For at lp x bodies rp y) ≡ 4 + (text_weight (for_tokens x) (map body_weight bodies) + statement_weight y)
unfolding body_weight statement_weight member_weight case_weight group_weight catch_weight
weight_For at lp x bodies rp y = ap statement_weight (sym (st.rolls-For at lp x bodies rp y)) ∙ fold-roll-JStatement ℕ ℕ ℕ ℕ ℕ ℕ body_weight_by member_weight_by statement_weight_by case_weight_by group_weight_by catch_weight_by (JStatement-F.For at lp x bodies rp y)

pub weight_Switch : (at : Position) (lp : Position) (x : JExpr) (bodies : List JBody) (rp : Position) (left : Position) (groups : List JCaseGroup) (right : Position) → statement_weight (st.Switch at lp x bodies rp left groups right) ≡ 6 + (text_weight (tokens x) (map body_weight bodies) + total (map group_weight groups))
unfolding body_weight statement_weight member_weight case_weight group_weight catch_weight
weight_Switch at lp x bodies rp left groups right = ap statement_weight (sym (st.rolls-Switch at lp x bodies rp left groups right)) ∙ fold-roll-JStatement ℕ ℕ ℕ ℕ ℕ ℕ body_weight_by member_weight_by statement_weight_by case_weight_by group_weight_by catch_weight_by (JStatement-F.Switch at lp x bodies rp left groups right)

pub weight_Synchronized : (at : Position) (lp : Position) (x : JLock) (bodies : List JBody) (rp : Position) (left : Position) (ys : List JStatement) (right : Position) → statement_weight (st.Synchronized at lp x bodies rp left ys right) ≡ 6 + (text_weight (lock_tokens x) (map body_weight bodies) + total (map statement_weight ys))
unfolding body_weight statement_weight member_weight case_weight group_weight catch_weight
weight_Synchronized at lp x bodies rp left ys right = ap statement_weight (sym (st.rolls-Synchronized at lp x bodies rp left ys right)) ∙ fold-roll-JStatement ℕ ℕ ℕ ℕ ℕ ℕ body_weight_by member_weight_by statement_weight_by case_weight_by group_weight_by catch_weight_by (JStatement-F.Synchronized at lp x bodies rp left ys right)

pub weight_Try : (at : Position) (left : Position) (xs : List JStatement) (right : Position) (catches : List JCatch) → statement_weight (st.Try at left xs right catches) ≡ 4 + (total (map statement_weight xs) + total (map catch_weight catches))
unfolding body_weight statement_weight member_weight case_weight group_weight catch_weight
weight_Try at left xs right catches = ap statement_weight (sym (st.rolls-Try at left xs right catches)) ∙ fold-roll-JStatement ℕ ℕ ℕ ℕ ℕ ℕ body_weight_by member_weight_by statement_weight_by case_weight_by group_weight_by catch_weight_by (JStatement-F.Try at left xs right catches)

pub weight_TryFinally : (at : Position) (left : Position) (xs : List JStatement) (right : Position) (catches : List JCatch) (last : Position) (lc : Position) (ys : List JStatement) (rc : Position) → statement_weight (st.TryFinally at left xs right catches last lc ys rc) ≡ 7 + (total (map statement_weight xs) + (total (map catch_weight catches) + total (map statement_weight ys)))
unfolding body_weight statement_weight member_weight case_weight group_weight catch_weight
weight_TryFinally at left xs right catches last lc ys rc = ap statement_weight (sym (st.rolls-TryFinally at left xs right catches last lc ys rc)) ∙ fold-roll-JStatement ℕ ℕ ℕ ℕ ℕ ℕ body_weight_by member_weight_by statement_weight_by case_weight_by group_weight_by catch_weight_by (JStatement-F.TryFinally at left xs right catches last lc ys rc)

pub weight_Declared : (x : JMemberHead) (bodies : List JBody) (end : Position) → member_weight (member.Declared x bodies end) ≡ 2 + text_weight (member_tokens x) (map body_weight bodies)
unfolding body_weight statement_weight member_weight case_weight group_weight catch_weight
weight_Declared x bodies end = ap member_weight (sym (member.rolls-Declared x bodies end)) ∙ fold-roll-JMember ℕ ℕ ℕ ℕ ℕ ℕ body_weight_by member_weight_by statement_weight_by case_weight_by group_weight_by catch_weight_by (JMember-F.Declared x bodies end)

pub weight_Bodied : (x : JMemberHead) (left : Position) (xs : List JStatement) (right : Position) → member_weight (member.Bodied x left xs right) ≡ 3 + (text_weight (member_tokens x) [] + total (map statement_weight xs))
unfolding body_weight statement_weight member_weight case_weight group_weight catch_weight
weight_Bodied x left xs right = ap member_weight (sym (member.rolls-Bodied x left xs right)) ∙ fold-roll-JMember ℕ ℕ ℕ ℕ ℕ ℕ body_weight_by member_weight_by statement_weight_by case_weight_by group_weight_by catch_weight_by (JMember-F.Bodied x left xs right)

pub weight_Type : (x : JTypeHead) (left : Position) (cs : Option JConstants) (bodies : List JBody) (xs : List JMember) (right : Position) → member_weight (member.Type x left cs bodies xs right) ≡ 3 + (text_weight (type_head_tokens x) [] + (constants_weight cs (map body_weight bodies) + total (map member_weight xs)))
unfolding body_weight statement_weight member_weight case_weight group_weight catch_weight
weight_Type x left cs bodies xs right = ap member_weight (sym (member.rolls-Type x left cs bodies xs right)) ∙ fold-roll-JMember ℕ ℕ ℕ ℕ ℕ ℕ body_weight_by member_weight_by statement_weight_by case_weight_by group_weight_by catch_weight_by (JMember-F.Type x left cs bodies xs right)

pub weight_Statements : (xs : List JStatement) → body_weight (body.Statements xs) ≡ suc (total (map statement_weight xs))
unfolding body_weight statement_weight member_weight case_weight group_weight catch_weight
weight_Statements xs = ap body_weight (sym (body.rolls-Statements xs)) ∙ fold-roll-JBody ℕ ℕ ℕ ℕ ℕ ℕ body_weight_by member_weight_by statement_weight_by case_weight_by group_weight_by catch_weight_by (JBody-F.Statements xs)

pub weight_Members : (xs : List JMember) → body_weight (body.Members xs) ≡ suc (total (map member_weight xs))
unfolding body_weight statement_weight member_weight case_weight group_weight catch_weight
weight_Members xs = ap body_weight (sym (body.rolls-Members xs)) ∙ fold-roll-JBody ℕ ℕ ℕ ℕ ℕ ℕ body_weight_by member_weight_by statement_weight_by case_weight_by group_weight_by catch_weight_by (JBody-F.Members xs)

pub weight_Case : (x : JCase-F JBody JMember JStatement JCase JCaseGroup JCatch) → case_weight (roll-JCase x) ≡ text_weight (switch_tokens x.label) (map body_weight x.bodies)
unfolding body_weight statement_weight member_weight case_weight group_weight catch_weight
weight_Case x = fold-roll-JCase ℕ ℕ ℕ ℕ ℕ ℕ body_weight_by member_weight_by statement_weight_by case_weight_by group_weight_by catch_weight_by x

pub weight_CaseGroup : (x : JCaseGroup-F JBody JMember JStatement JCase JCaseGroup JCatch) → group_weight (roll-JCaseGroup x) ≡ total (map case_weight x.labels) + total (map statement_weight x.statements)
unfolding body_weight statement_weight member_weight case_weight group_weight catch_weight
weight_CaseGroup x = fold-roll-JCaseGroup ℕ ℕ ℕ ℕ ℕ ℕ body_weight_by member_weight_by statement_weight_by case_weight_by group_weight_by catch_weight_by x

pub weight_Catch : (x : JCatch-F JBody JMember JStatement JCase JCaseGroup JCatch) → catch_weight (roll-JCatch x) ≡ 5 + (text_weight (typed_tokens x.caught) [] + total (map statement_weight x.statements))
unfolding body_weight statement_weight member_weight case_weight group_weight catch_weight
weight_Catch x = fold-roll-JCatch ℕ ℕ ℕ ℕ ℕ ℕ body_weight_by member_weight_by statement_weight_by case_weight_by group_weight_by catch_weight_by x

pub weight_case : (x : JCase) → case_weight x ≡ text_weight (switch_tokens (out-JCase x).label) (map body_weight (out-JCase x).bodies)
weight_case x = ap case_weight (sym (roll-out-JCase x)) ∙ weight_Case (out-JCase x)

pub weight_group : (x : JCaseGroup) → group_weight x ≡ total (map case_weight (out-JCaseGroup x).labels) + total (map statement_weight (out-JCaseGroup x).statements)
weight_group x = ap group_weight (sym (roll-out-JCaseGroup x)) ∙ weight_CaseGroup (out-JCaseGroup x)

pub weight_catch : (x : JCatch) → catch_weight x ≡ 5 + (text_weight (typed_tokens (out-JCatch x).caught) [] + total (map statement_weight (out-JCatch x).statements))
weight_catch x = ap catch_weight (sym (roll-out-JCatch x)) ∙ weight_Catch (out-JCatch x)

pub ruleset record_weights = (weight_case, weight_group, weight_catch)

pub ruleset weights = (weight_Simple, weight_Block, weight_Labeled, weight_If, weight_IfElse, weight_While, weight_Do, weight_For, weight_Switch, weight_Synchronized, weight_Try, weight_TryFinally, weight_Declared, weight_Bodied, weight_Type, weight_Statements, weight_Members)
