-- The tokens of the forms that hold labels, groups or catches.
use Rattle.std.proofs.Common.{◌≡◌, List, ◌∷◌, ◌++◌, map, ap, sym, ◌∙◌}
use Rattle.java_tree.specs.declared.tokens.Position.{Position}
use Rattle.java_tree.specs.declared.exprs.JExpr.{JExpr}
use Rattle.java_tree.specs.Trees.{tokens, typed_tokens}
use Rattle.java_statement_grammar.specs.Heads.{switch_tokens}
use Rattle.java_unit_grammar.specs.declared.statements.JBody.{JBody}
use Rattle.java_unit_grammar.specs.declared.statements.JCase.{JCase, roll-JCase, out-JCase, roll-out-JCase, fold-roll-JCase}
use Rattle.java_unit_grammar.specs.declared.statements.JCaseGroup.{JCaseGroup, roll-JCaseGroup, out-JCaseGroup, roll-out-JCaseGroup, fold-roll-JCaseGroup}
use Rattle.java_unit_grammar.specs.declared.statements.JCatch.{JCatch, roll-JCatch, out-JCatch, roll-out-JCatch, fold-roll-JCatch}
use Rattle.java_unit_grammar.specs.declared.statements.JMember.{JMember}
use Rattle.java_unit_grammar.specs.declared.statements.JStatement.{JStatement, fold-roll-JStatement}
use Rattle.java_unit_grammar.specs.declared.statements.JStatement.TheVariants as st
use Rattle.java_unit_grammar.specs.declared.statements.JBody.TheOpen.{JCase-F, JCaseGroup-F, JCatch-F, JStatement-F}
use Rattle.java_tree.specs.declared.tokens.Mark.TheVariants as m
use Rattle.java_tree.specs.declared.tokens.Keyword.TheVariants as w
use Rattle.java_tree.specs.Seen.{Token, Tokens}
use Rattle.java_unit_grammar.specs.Tokens.{joined, filled, braced, headed, statement_tokens, body_tokens, whole_member_tokens, body_by, member_by, statement_by, case_by, group_by, catch_by}
use Rattle.java_unit_grammar.proofs.LawsToCite.{tokens_Simple, tokens_Block, tokens_Labeled, tokens_If, tokens_IfElse, tokens_While, tokens_Do, tokens_For, tokens_Synchronized, tokens_Declared, tokens_Bodied, tokens_Type, tokens_Statements, tokens_Members}
use Rattle.java_unit_printer.specs.Work.{case_tokens, group_tokens, catch_tokens}

pub tokens_Switch : (at : Position) (lp : Position) (x : JExpr) (bodies : List JBody) (rp : Position) (left : Position) (groups : List JCaseGroup) (right : Position)
    → statement_tokens (st.Switch at lp x bodies rp left groups right) ≡ headed (Token.Word w.Switch at) lp (filled (tokens x) (map body_tokens bodies)) rp (braced left (map group_tokens groups) right)
unfolding body_tokens statement_tokens whole_member_tokens case_tokens group_tokens catch_tokens
tokens_Switch at lp x bodies rp left groups right = ap statement_tokens (sym (st.rolls-Switch at lp x bodies rp left groups right)) ∙ fold-roll-JStatement Tokens Tokens Tokens Tokens Tokens Tokens body_by member_by statement_by case_by group_by catch_by (JStatement-F.Switch at lp x bodies rp left groups right)

pub tokens_Try : (at : Position) (left : Position) (xs : List JStatement) (right : Position) (catches : List JCatch)
    → statement_tokens (st.Try at left xs right catches) ≡ Token.Word w.Try at ∷ (braced left (map statement_tokens xs) right ++ joined (map catch_tokens catches))
unfolding body_tokens statement_tokens whole_member_tokens case_tokens group_tokens catch_tokens
tokens_Try at left xs right catches = ap statement_tokens (sym (st.rolls-Try at left xs right catches)) ∙ fold-roll-JStatement Tokens Tokens Tokens Tokens Tokens Tokens body_by member_by statement_by case_by group_by catch_by (JStatement-F.Try at left xs right catches)

pub tokens_TryFinally : (at : Position) (left : Position) (xs : List JStatement) (right : Position) (catches : List JCatch) (last : Position) (lc : Position) (ys : List JStatement) (rc : Position)
    → statement_tokens (st.TryFinally at left xs right catches last lc ys rc) ≡ Token.Word w.Try at ∷ (braced left (map statement_tokens xs) right ++ (joined (map catch_tokens catches) ++ Token.Word w.Finally last ∷ braced lc (map statement_tokens ys) rc))
unfolding body_tokens statement_tokens whole_member_tokens case_tokens group_tokens catch_tokens
tokens_TryFinally at left xs right catches last lc ys rc = ap statement_tokens (sym (st.rolls-TryFinally at left xs right catches last lc ys rc)) ∙ fold-roll-JStatement Tokens Tokens Tokens Tokens Tokens Tokens body_by member_by statement_by case_by group_by catch_by (JStatement-F.TryFinally at left xs right catches last lc ys rc)

pub tokens_Case : (x : JCase-F JBody JMember JStatement JCase JCaseGroup JCatch) → case_tokens (roll-JCase x) ≡ filled (switch_tokens x.label) (map body_tokens x.bodies)
unfolding body_tokens statement_tokens whole_member_tokens case_tokens group_tokens catch_tokens
tokens_Case x = fold-roll-JCase Tokens Tokens Tokens Tokens Tokens Tokens body_by member_by statement_by case_by group_by catch_by x

pub tokens_CaseGroup : (x : JCaseGroup-F JBody JMember JStatement JCase JCaseGroup JCatch) → group_tokens (roll-JCaseGroup x) ≡ joined (map case_tokens x.labels) ++ joined (map statement_tokens x.statements)
unfolding body_tokens statement_tokens whole_member_tokens case_tokens group_tokens catch_tokens
tokens_CaseGroup x = fold-roll-JCaseGroup Tokens Tokens Tokens Tokens Tokens Tokens body_by member_by statement_by case_by group_by catch_by x

pub tokens_Catch : (x : JCatch-F JBody JMember JStatement JCase JCaseGroup JCatch) → catch_tokens (roll-JCatch x) ≡ Token.Word w.Catch x.at ∷ Token.Sign m.OpenRound x.opens ∷ (typed_tokens x.caught ++ Token.Sign m.CloseRound x.closes ∷ braced x.left (map statement_tokens x.statements) x.right)
unfolding body_tokens statement_tokens whole_member_tokens case_tokens group_tokens catch_tokens
tokens_Catch x = fold-roll-JCatch Tokens Tokens Tokens Tokens Tokens Tokens body_by member_by statement_by case_by group_by catch_by x

pub tokens_case : (x : JCase) → case_tokens x ≡ filled (switch_tokens (out-JCase x).label) (map body_tokens (out-JCase x).bodies)
tokens_case x = ap case_tokens (sym (roll-out-JCase x)) ∙ tokens_Case (out-JCase x)

pub tokens_group : (x : JCaseGroup) → group_tokens x ≡ joined (map case_tokens (out-JCaseGroup x).labels) ++ joined (map statement_tokens (out-JCaseGroup x).statements)
tokens_group x = ap group_tokens (sym (roll-out-JCaseGroup x)) ∙ tokens_CaseGroup (out-JCaseGroup x)

pub tokens_catch : (x : JCatch)
    → catch_tokens x ≡ Token.Word w.Catch (out-JCatch x).at ∷ Token.Sign m.OpenRound (out-JCatch x).opens ∷ (typed_tokens (out-JCatch x).caught ++ Token.Sign m.CloseRound (out-JCatch x).closes ∷ braced (out-JCatch x).left (map statement_tokens (out-JCatch x).statements) (out-JCatch x).right)
tokens_catch x = ap catch_tokens (sym (roll-out-JCatch x)) ∙ tokens_Catch (out-JCatch x)

pub ruleset record_texts = (tokens_case, tokens_group, tokens_catch)

pub ruleset unit_texts = (tokens_Simple, tokens_Block, tokens_Labeled, tokens_If, tokens_IfElse, tokens_While, tokens_Do, tokens_For, tokens_Synchronized, tokens_Declared, tokens_Bodied, tokens_Type, tokens_Statements, tokens_Members, tokens_Switch, tokens_Try, tokens_TryFinally)
