-- The tokens of each form, and that each stands by its layer.
use Rattle.std.proofs.Common.{◌≡◌, ℕ, Bool, true, false, List, [], ◌∷◌, ◌++◌, map, Option, ap, sym, ◌∙◌}
use Rattle.java_tree.specs.declared.tokens.Position.{Position}
use Rattle.java_tree.specs.declared.tokens.Mark.TheVariants as m
use Rattle.java_tree.specs.declared.tokens.Keyword.TheVariants as w
use Rattle.java_tree.specs.Seen.{Token, Tokens}
use Rattle.java_tree.specs.declared.exprs.JExpr.{JExpr}
use Rattle.java_tree.specs.Trees.{tokens, typed_tokens}
use Rattle.java_statement_grammar.specs.declared.statements.JSimple.{JSimple}
use Rattle.java_statement_grammar.specs.declared.statements.JForHead.{JForHead}
use Rattle.java_statement_grammar.specs.declared.statements.JLock.{JLock}
use Rattle.java_statement_grammar.specs.Heads.{simple_tokens, for_tokens, lock_tokens, switch_tokens}
use Rattle.java_member_grammar.specs.declared.heads.JMemberHead.{JMemberHead}
use Rattle.java_member_grammar.specs.declared.heads.JTypeHead.{JTypeHead}
use Rattle.java_member_grammar.specs.declared.lines.JConstants.{JConstants}
use Rattle.java_member_grammar.specs.Heads.{member_tokens, type_head_tokens}
use Rattle.java_unit_grammar.specs.declared.statements.JBody.{JBody, roll-JBody, out-JBody, out-roll-JBody, fold-roll-JBody}
use Rattle.java_unit_grammar.specs.declared.statements.JBody.TheVariants as body
use Rattle.java_unit_grammar.specs.declared.statements.JCase.{JCase, roll-JCase, fold-JCase, fold-roll-JCase}
use Rattle.java_unit_grammar.specs.declared.statements.JCaseGroup.{JCaseGroup, roll-JCaseGroup, fold-JCaseGroup, fold-roll-JCaseGroup}
use Rattle.java_unit_grammar.specs.declared.statements.JCatch.{JCatch, roll-JCatch, fold-JCatch, fold-roll-JCatch}
use Rattle.java_unit_grammar.specs.declared.statements.JMember.{JMember, roll-JMember, out-JMember, out-roll-JMember, fold-roll-JMember}
use Rattle.java_unit_grammar.specs.declared.statements.JMember.TheVariants as member
use Rattle.java_unit_grammar.specs.declared.statements.JStatement.{JStatement, roll-JStatement, out-JStatement, out-roll-JStatement, fold-roll-JStatement}
use Rattle.java_unit_grammar.specs.declared.statements.JStatement.TheVariants as st
use Rattle.java_unit_grammar.specs.declared.statements.JBody.TheOpen.{JBody-F, JCase-F, JCaseGroup-F, JCatch-F, JMember-F, JStatement-F}
use Rattle.java_unit_grammar.specs.Tokens.{joined, filled, braced, headed, constants_by, statement_tokens, body_tokens, whole_member_tokens, body_by, member_by, statement_by, case_by, group_by, catch_by}
use Rattle.java_unit_grammar.specs.Standing.{ends_open, ends_open_by}

unfoldable pub case_tokens : JCase → Tokens
case_tokens = fold-JCase Tokens Tokens Tokens Tokens Tokens Tokens body_by member_by statement_by case_by group_by catch_by

unfoldable pub group_tokens : JCaseGroup → Tokens
group_tokens = fold-JCaseGroup Tokens Tokens Tokens Tokens Tokens Tokens body_by member_by statement_by case_by group_by catch_by

unfoldable pub catch_tokens : JCatch → Tokens
catch_tokens = fold-JCatch Tokens Tokens Tokens Tokens Tokens Tokens body_by member_by statement_by case_by group_by catch_by

pub tokens_Simple : (x : JSimple) (bodies : List JBody) (end : Position)
    → statement_tokens (st.Simple x bodies end) ≡ filled (simple_tokens x) (map body_tokens bodies) ++ Token.Sign m.Semicolon end ∷ []
unfolding body_tokens statement_tokens whole_member_tokens case_tokens group_tokens catch_tokens
tokens_Simple x bodies end = ap statement_tokens (sym (st.rolls-Simple x bodies end)) ∙ fold-roll-JStatement Tokens Tokens Tokens Tokens Tokens Tokens body_by member_by statement_by case_by group_by catch_by (JStatement-F.Simple x bodies end)

pub tokens_Block : (left : Position) (xs : List JStatement) (right : Position)
    → statement_tokens (st.Block left xs right) ≡ braced left (map statement_tokens xs) right
unfolding body_tokens statement_tokens whole_member_tokens case_tokens group_tokens catch_tokens
tokens_Block left xs right = ap statement_tokens (sym (st.rolls-Block left xs right)) ∙ fold-roll-JStatement Tokens Tokens Tokens Tokens Tokens Tokens body_by member_by statement_by case_by group_by catch_by (JStatement-F.Block left xs right)

pub tokens_Labeled : (n : List ℕ) (at : Position) (colon : Position) (x : JStatement)
    → statement_tokens (st.Labeled n at colon x) ≡ Token.Id n at ∷ Token.Sign m.Colon colon ∷ statement_tokens x
unfolding body_tokens statement_tokens whole_member_tokens case_tokens group_tokens catch_tokens
tokens_Labeled n at colon x = ap statement_tokens (sym (st.rolls-Labeled n at colon x)) ∙ fold-roll-JStatement Tokens Tokens Tokens Tokens Tokens Tokens body_by member_by statement_by case_by group_by catch_by (JStatement-F.Labeled n at colon x)

pub tokens_If : (at : Position) (lp : Position) (x : JExpr) (bodies : List JBody) (rp : Position) (y : JStatement)
    → statement_tokens (st.If at lp x bodies rp y) ≡ headed (Token.Word w.If at) lp (filled (tokens x) (map body_tokens bodies)) rp (statement_tokens y)
unfolding body_tokens statement_tokens whole_member_tokens case_tokens group_tokens catch_tokens
tokens_If at lp x bodies rp y = ap statement_tokens (sym (st.rolls-If at lp x bodies rp y)) ∙ fold-roll-JStatement Tokens Tokens Tokens Tokens Tokens Tokens body_by member_by statement_by case_by group_by catch_by (JStatement-F.If at lp x bodies rp y)

pub tokens_IfElse : (at : Position) (lp : Position) (x : JExpr) (bodies : List JBody) (rp : Position) (y : JStatement) (else_at : Position) (z : JStatement)
    → statement_tokens (st.IfElse at lp x bodies rp y else_at z) ≡ headed (Token.Word w.If at) lp (filled (tokens x) (map body_tokens bodies)) rp (statement_tokens y ++ Token.Word w.Else else_at ∷ statement_tokens z)
unfolding body_tokens statement_tokens whole_member_tokens case_tokens group_tokens catch_tokens
tokens_IfElse at lp x bodies rp y else_at z = ap statement_tokens (sym (st.rolls-IfElse at lp x bodies rp y else_at z)) ∙ fold-roll-JStatement Tokens Tokens Tokens Tokens Tokens Tokens body_by member_by statement_by case_by group_by catch_by (JStatement-F.IfElse at lp x bodies rp y else_at z)

pub tokens_While : (at : Position) (lp : Position) (x : JExpr) (bodies : List JBody) (rp : Position) (y : JStatement)
    → statement_tokens (st.While at lp x bodies rp y) ≡ headed (Token.Word w.While at) lp (filled (tokens x) (map body_tokens bodies)) rp (statement_tokens y)
unfolding body_tokens statement_tokens whole_member_tokens case_tokens group_tokens catch_tokens
tokens_While at lp x bodies rp y = ap statement_tokens (sym (st.rolls-While at lp x bodies rp y)) ∙ fold-roll-JStatement Tokens Tokens Tokens Tokens Tokens Tokens body_by member_by statement_by case_by group_by catch_by (JStatement-F.While at lp x bodies rp y)

pub tokens_Do : (at : Position) (y : JStatement) (while_at : Position) (lp : Position) (x : JExpr) (bodies : List JBody) (rp : Position) (end : Position)
    → statement_tokens (st.Do at y while_at lp x bodies rp end) ≡ Token.Word w.Do at ∷ (statement_tokens y ++ headed (Token.Word w.While while_at) lp (filled (tokens x) (map body_tokens bodies)) rp (Token.Sign m.Semicolon end ∷ []))
unfolding body_tokens statement_tokens whole_member_tokens case_tokens group_tokens catch_tokens
tokens_Do at y while_at lp x bodies rp end = ap statement_tokens (sym (st.rolls-Do at y while_at lp x bodies rp end)) ∙ fold-roll-JStatement Tokens Tokens Tokens Tokens Tokens Tokens body_by member_by statement_by case_by group_by catch_by (JStatement-F.Do at y while_at lp x bodies rp end)

pub tokens_For : (at : Position) (lp : Position) (x : JForHead) (bodies : List JBody) (rp : Position) (y : JStatement)
    → statement_tokens (st.For at lp x bodies rp y) ≡ headed (Token.Word w.For at) lp (filled (for_tokens x) (map body_tokens bodies)) rp (statement_tokens y)
unfolding body_tokens statement_tokens whole_member_tokens case_tokens group_tokens catch_tokens
tokens_For at lp x bodies rp y = ap statement_tokens (sym (st.rolls-For at lp x bodies rp y)) ∙ fold-roll-JStatement Tokens Tokens Tokens Tokens Tokens Tokens body_by member_by statement_by case_by group_by catch_by (JStatement-F.For at lp x bodies rp y)

pub tokens_Switch : (at : Position) (lp : Position) (x : JExpr) (bodies : List JBody) (rp : Position) (left : Position) (groups : List JCaseGroup) (right : Position)
    → statement_tokens (st.Switch at lp x bodies rp left groups right) ≡ headed (Token.Word w.Switch at) lp (filled (tokens x) (map body_tokens bodies)) rp (braced left (map group_tokens groups) right)
unfolding body_tokens statement_tokens whole_member_tokens case_tokens group_tokens catch_tokens
tokens_Switch at lp x bodies rp left groups right = ap statement_tokens (sym (st.rolls-Switch at lp x bodies rp left groups right)) ∙ fold-roll-JStatement Tokens Tokens Tokens Tokens Tokens Tokens body_by member_by statement_by case_by group_by catch_by (JStatement-F.Switch at lp x bodies rp left groups right)

pub tokens_Synchronized : (at : Position) (lp : Position) (x : JLock) (bodies : List JBody) (rp : Position) (left : Position) (ys : List JStatement) (right : Position)
    → statement_tokens (st.Synchronized at lp x bodies rp left ys right) ≡ headed (Token.Word w.Synchronized at) lp (filled (lock_tokens x) (map body_tokens bodies)) rp (braced left (map statement_tokens ys) right)
unfolding body_tokens statement_tokens whole_member_tokens case_tokens group_tokens catch_tokens
tokens_Synchronized at lp x bodies rp left ys right = ap statement_tokens (sym (st.rolls-Synchronized at lp x bodies rp left ys right)) ∙ fold-roll-JStatement Tokens Tokens Tokens Tokens Tokens Tokens body_by member_by statement_by case_by group_by catch_by (JStatement-F.Synchronized at lp x bodies rp left ys right)

pub tokens_Try : (at : Position) (left : Position) (xs : List JStatement) (right : Position) (catches : List JCatch)
    → statement_tokens (st.Try at left xs right catches) ≡ Token.Word w.Try at ∷ (braced left (map statement_tokens xs) right ++ joined (map catch_tokens catches))
unfolding body_tokens statement_tokens whole_member_tokens case_tokens group_tokens catch_tokens
tokens_Try at left xs right catches = ap statement_tokens (sym (st.rolls-Try at left xs right catches)) ∙ fold-roll-JStatement Tokens Tokens Tokens Tokens Tokens Tokens body_by member_by statement_by case_by group_by catch_by (JStatement-F.Try at left xs right catches)

pub tokens_TryFinally : (at : Position) (left : Position) (xs : List JStatement) (right : Position) (catches : List JCatch) (last : Position) (lc : Position) (ys : List JStatement) (rc : Position)
    → statement_tokens (st.TryFinally at left xs right catches last lc ys rc) ≡ Token.Word w.Try at ∷ (braced left (map statement_tokens xs) right ++ (joined (map catch_tokens catches) ++ Token.Word w.Finally last ∷ braced lc (map statement_tokens ys) rc))
unfolding body_tokens statement_tokens whole_member_tokens case_tokens group_tokens catch_tokens
tokens_TryFinally at left xs right catches last lc ys rc = ap statement_tokens (sym (st.rolls-TryFinally at left xs right catches last lc ys rc)) ∙ fold-roll-JStatement Tokens Tokens Tokens Tokens Tokens Tokens body_by member_by statement_by case_by group_by catch_by (JStatement-F.TryFinally at left xs right catches last lc ys rc)

pub tokens_Declared : (x : JMemberHead) (bodies : List JBody) (end : Position)
    → whole_member_tokens (member.Declared x bodies end) ≡ filled (member_tokens x) (map body_tokens bodies) ++ Token.Sign m.Semicolon end ∷ []
unfolding body_tokens statement_tokens whole_member_tokens case_tokens group_tokens catch_tokens
tokens_Declared x bodies end = ap whole_member_tokens (sym (member.rolls-Declared x bodies end)) ∙ fold-roll-JMember Tokens Tokens Tokens Tokens Tokens Tokens body_by member_by statement_by case_by group_by catch_by (JMember-F.Declared x bodies end)

pub tokens_Bodied : (x : JMemberHead) (left : Position) (xs : List JStatement) (right : Position)
    → whole_member_tokens (member.Bodied x left xs right) ≡ member_tokens x ++ braced left (map statement_tokens xs) right
unfolding body_tokens statement_tokens whole_member_tokens case_tokens group_tokens catch_tokens
tokens_Bodied x left xs right = ap whole_member_tokens (sym (member.rolls-Bodied x left xs right)) ∙ fold-roll-JMember Tokens Tokens Tokens Tokens Tokens Tokens body_by member_by statement_by case_by group_by catch_by (JMember-F.Bodied x left xs right)

pub tokens_Type : (x : JTypeHead) (left : Position) (cs : Option JConstants) (bodies : List JBody) (xs : List JMember) (right : Position)
    → whole_member_tokens (member.Type x left cs bodies xs right) ≡ type_head_tokens x ++ Token.Sign m.OpenCurly left ∷ (constants_by cs (map body_tokens bodies) ++ (joined (map whole_member_tokens xs) ++ Token.Sign m.CloseCurly right ∷ []))
unfolding body_tokens statement_tokens whole_member_tokens case_tokens group_tokens catch_tokens
tokens_Type x left cs bodies xs right = ap whole_member_tokens (sym (member.rolls-Type x left cs bodies xs right)) ∙ fold-roll-JMember Tokens Tokens Tokens Tokens Tokens Tokens body_by member_by statement_by case_by group_by catch_by (JMember-F.Type x left cs bodies xs right)

pub tokens_Statements : (xs : List JStatement) → body_tokens (body.Statements xs) ≡ joined (map statement_tokens xs)
unfolding body_tokens statement_tokens whole_member_tokens case_tokens group_tokens catch_tokens
tokens_Statements xs = ap body_tokens (sym (body.rolls-Statements xs)) ∙ fold-roll-JBody Tokens Tokens Tokens Tokens Tokens Tokens body_by member_by statement_by case_by group_by catch_by (JBody-F.Statements xs)

pub tokens_Members : (xs : List JMember) → body_tokens (body.Members xs) ≡ joined (map whole_member_tokens xs)
unfolding body_tokens statement_tokens whole_member_tokens case_tokens group_tokens catch_tokens
tokens_Members xs = ap body_tokens (sym (body.rolls-Members xs)) ∙ fold-roll-JBody Tokens Tokens Tokens Tokens Tokens Tokens body_by member_by statement_by case_by group_by catch_by (JBody-F.Members xs)

pub tokens_Case : (x : JCase-F JBody JMember JStatement JCase JCaseGroup JCatch) → case_tokens (roll-JCase x) ≡ filled (switch_tokens x.label) (map body_tokens x.bodies)
unfolding body_tokens statement_tokens whole_member_tokens case_tokens group_tokens catch_tokens
tokens_Case x = fold-roll-JCase Tokens Tokens Tokens Tokens Tokens Tokens body_by member_by statement_by case_by group_by catch_by x

pub tokens_CaseGroup : (x : JCaseGroup-F JBody JMember JStatement JCase JCaseGroup JCatch) → group_tokens (roll-JCaseGroup x) ≡ joined (map case_tokens x.labels) ++ joined (map statement_tokens x.statements)
unfolding body_tokens statement_tokens whole_member_tokens case_tokens group_tokens catch_tokens
tokens_CaseGroup x = fold-roll-JCaseGroup Tokens Tokens Tokens Tokens Tokens Tokens body_by member_by statement_by case_by group_by catch_by x

pub tokens_Catch : (x : JCatch-F JBody JMember JStatement JCase JCaseGroup JCatch)
    → catch_tokens (roll-JCatch x) ≡ Token.Word w.Catch x.at ∷ Token.Sign m.OpenRound x.opens ∷ (typed_tokens x.caught ++ Token.Sign m.CloseRound x.closes ∷ braced x.left (map statement_tokens x.statements) x.right)
unfolding body_tokens statement_tokens whole_member_tokens case_tokens group_tokens catch_tokens
tokens_Catch x = fold-roll-JCatch Tokens Tokens Tokens Tokens Tokens Tokens body_by member_by statement_by case_by group_by catch_by x

-- ---- layers

pub out_statement : (x : JStatement-F JBody JMember JStatement JCase JCaseGroup JCatch) (y : JStatement) → roll-JStatement x ≡ y → out-JStatement y ≡ x
out_statement x y h = ap out-JStatement (sym h) ∙ out-roll-JStatement x

pub out_member : (x : JMember-F JBody JMember JStatement JCase JCaseGroup JCatch) (y : JMember) → roll-JMember x ≡ y → out-JMember y ≡ x
out_member x y h = ap out-JMember (sym h) ∙ out-roll-JMember x

pub out_body : (x : JBody-F JBody JMember JStatement JCase JCaseGroup JCatch) (y : JBody) → roll-JBody x ≡ y → out-JBody y ≡ x
out_body x y h = ap out-JBody (sym h) ∙ out-roll-JBody x

pub open_Simple : (x : JSimple) (bodies : List JBody) (end : Position) → ends_open (st.Simple x bodies end) ≡ false
unfolding ends_open
open_Simple x bodies end = ap ends_open (sym (st.rolls-Simple x bodies end)) ∙ fold-roll-JStatement Bool Bool Bool Bool Bool Bool (λ x. false) (λ x. false) ends_open_by (λ x. false) (λ x. false) (λ x. false) (JStatement-F.Simple x bodies end)

pub open_Block : (left : Position) (xs : List JStatement) (right : Position) → ends_open (st.Block left xs right) ≡ false
unfolding ends_open
open_Block left xs right = ap ends_open (sym (st.rolls-Block left xs right)) ∙ fold-roll-JStatement Bool Bool Bool Bool Bool Bool (λ x. false) (λ x. false) ends_open_by (λ x. false) (λ x. false) (λ x. false) (JStatement-F.Block left xs right)

pub open_Labeled : (n : List ℕ) (at : Position) (colon : Position) (x : JStatement) → ends_open (st.Labeled n at colon x) ≡ ends_open x
unfolding ends_open
open_Labeled n at colon x = ap ends_open (sym (st.rolls-Labeled n at colon x)) ∙ fold-roll-JStatement Bool Bool Bool Bool Bool Bool (λ x. false) (λ x. false) ends_open_by (λ x. false) (λ x. false) (λ x. false) (JStatement-F.Labeled n at colon x)

pub open_If : (at : Position) (lp : Position) (x : JExpr) (bodies : List JBody) (rp : Position) (y : JStatement) → ends_open (st.If at lp x bodies rp y) ≡ true
unfolding ends_open
open_If at lp x bodies rp y = ap ends_open (sym (st.rolls-If at lp x bodies rp y)) ∙ fold-roll-JStatement Bool Bool Bool Bool Bool Bool (λ x. false) (λ x. false) ends_open_by (λ x. false) (λ x. false) (λ x. false) (JStatement-F.If at lp x bodies rp y)

pub open_IfElse : (at : Position) (lp : Position) (x : JExpr) (bodies : List JBody) (rp : Position) (y : JStatement) (else_at : Position) (z : JStatement) → ends_open (st.IfElse at lp x bodies rp y else_at z) ≡ ends_open z
unfolding ends_open
open_IfElse at lp x bodies rp y else_at z = ap ends_open (sym (st.rolls-IfElse at lp x bodies rp y else_at z)) ∙ fold-roll-JStatement Bool Bool Bool Bool Bool Bool (λ x. false) (λ x. false) ends_open_by (λ x. false) (λ x. false) (λ x. false) (JStatement-F.IfElse at lp x bodies rp y else_at z)

pub open_While : (at : Position) (lp : Position) (x : JExpr) (bodies : List JBody) (rp : Position) (y : JStatement) → ends_open (st.While at lp x bodies rp y) ≡ ends_open y
unfolding ends_open
open_While at lp x bodies rp y = ap ends_open (sym (st.rolls-While at lp x bodies rp y)) ∙ fold-roll-JStatement Bool Bool Bool Bool Bool Bool (λ x. false) (λ x. false) ends_open_by (λ x. false) (λ x. false) (λ x. false) (JStatement-F.While at lp x bodies rp y)

pub open_Do : (at : Position) (y : JStatement) (while_at : Position) (lp : Position) (x : JExpr) (bodies : List JBody) (rp : Position) (end : Position) → ends_open (st.Do at y while_at lp x bodies rp end) ≡ false
unfolding ends_open
open_Do at y while_at lp x bodies rp end = ap ends_open (sym (st.rolls-Do at y while_at lp x bodies rp end)) ∙ fold-roll-JStatement Bool Bool Bool Bool Bool Bool (λ x. false) (λ x. false) ends_open_by (λ x. false) (λ x. false) (λ x. false) (JStatement-F.Do at y while_at lp x bodies rp end)

pub open_For : (at : Position) (lp : Position) (x : JForHead) (bodies : List JBody) (rp : Position) (y : JStatement) → ends_open (st.For at lp x bodies rp y) ≡ ends_open y
unfolding ends_open
open_For at lp x bodies rp y = ap ends_open (sym (st.rolls-For at lp x bodies rp y)) ∙ fold-roll-JStatement Bool Bool Bool Bool Bool Bool (λ x. false) (λ x. false) ends_open_by (λ x. false) (λ x. false) (λ x. false) (JStatement-F.For at lp x bodies rp y)

pub open_Switch : (at : Position) (lp : Position) (x : JExpr) (bodies : List JBody) (rp : Position) (left : Position) (groups : List JCaseGroup) (right : Position) → ends_open (st.Switch at lp x bodies rp left groups right) ≡ false
unfolding ends_open
open_Switch at lp x bodies rp left groups right = ap ends_open (sym (st.rolls-Switch at lp x bodies rp left groups right)) ∙ fold-roll-JStatement Bool Bool Bool Bool Bool Bool (λ x. false) (λ x. false) ends_open_by (λ x. false) (λ x. false) (λ x. false) (JStatement-F.Switch at lp x bodies rp left groups right)

pub open_Synchronized : (at : Position) (lp : Position) (x : JLock) (bodies : List JBody) (rp : Position) (left : Position) (ys : List JStatement) (right : Position) → ends_open (st.Synchronized at lp x bodies rp left ys right) ≡ false
unfolding ends_open
open_Synchronized at lp x bodies rp left ys right = ap ends_open (sym (st.rolls-Synchronized at lp x bodies rp left ys right)) ∙ fold-roll-JStatement Bool Bool Bool Bool Bool Bool (λ x. false) (λ x. false) ends_open_by (λ x. false) (λ x. false) (λ x. false) (JStatement-F.Synchronized at lp x bodies rp left ys right)

pub open_Try : (at : Position) (left : Position) (xs : List JStatement) (right : Position) (catches : List JCatch) → ends_open (st.Try at left xs right catches) ≡ false
unfolding ends_open
open_Try at left xs right catches = ap ends_open (sym (st.rolls-Try at left xs right catches)) ∙ fold-roll-JStatement Bool Bool Bool Bool Bool Bool (λ x. false) (λ x. false) ends_open_by (λ x. false) (λ x. false) (λ x. false) (JStatement-F.Try at left xs right catches)

pub open_TryFinally : (at : Position) (left : Position) (xs : List JStatement) (right : Position) (catches : List JCatch) (last : Position) (lc : Position) (ys : List JStatement) (rc : Position) → ends_open (st.TryFinally at left xs right catches last lc ys rc) ≡ false
unfolding ends_open
open_TryFinally at left xs right catches last lc ys rc = ap ends_open (sym (st.rolls-TryFinally at left xs right catches last lc ys rc)) ∙ fold-roll-JStatement Bool Bool Bool Bool Bool Bool (λ x. false) (λ x. false) ends_open_by (λ x. false) (λ x. false) (λ x. false) (JStatement-F.TryFinally at left xs right catches last lc ys rc)
