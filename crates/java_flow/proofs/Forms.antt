-- What each form of an expression and of a statement does, by what its parts do.
use Rattle.std.proofs.Common.{◌≡◌, ℕ, List, map, Option, ap, sym, ◌∙◌}
use Rattle.java_tree.specs.declared.tokens.Position.{Position}
use Rattle.j2k_base.specs.declared.constants.Value.{Value}
use Rattle.java_typed.specs.declared.types.TType.{TType}
use Rattle.java_typed.specs.declared.types.TResult.{TResult}
use Rattle.java_typed.specs.declared.members.MemberRef.{MemberRef}
use Rattle.java_typed.specs.declared.exprs.TExpr.{TExpr, roll-TExpr, map-TExpr, fold-roll-TExpr}
use Rattle.java_typed.specs.declared.exprs.TExpr.TheOpen.{TExpr-F}
use Rattle.java_typed.specs.declared.exprs.TExpr.TheVariants as e
use Rattle.java_typed.specs.declared.statements.TSimple.{TSimple}
use Rattle.java_typed.specs.declared.statements.TBody.{TBody}
use Rattle.java_typed.specs.declared.statements.TBody.TheOpen.{TStatement-F, TCaseGroup-F}
use Rattle.java_typed.specs.declared.statements.TBody.TheFolds.{map-TStatement, map-TCaseGroup}
use Rattle.java_typed.specs.declared.statements.TCaseGroup.{TCaseGroup, roll-TCaseGroup, fold-TCaseGroup, fold-roll-TCaseGroup}
use Rattle.java_typed.specs.declared.statements.TCatch.{TCatch, fold-TCatch}
use Rattle.java_typed.specs.declared.statements.TStatement.{TStatement, roll-TStatement, fold-roll-TStatement}
use Rattle.java_typed.specs.declared.statements.TStatement.TheVariants as made
use Rattle.java_flow.specs.Variables.{JavaAct, Local}
use Rattle.java_flow.specs.Expressions.{Said, said, said_by, all, just, constant_by, named_by, assign_by}
use Rattle.java_flow.specs.Statements.{Statement, CaseGroup, statement, body, body_by, statement_by, group_by, catch_by}

module _ (bodies : ℕ → JavaAct) where
  said_form : (x : TExpr-F TExpr) (y : TExpr) → roll-TExpr x ≡ y → said bodies y ≡ said_by bodies (map-TExpr TExpr Said (said bodies) x)
  unfolding said
  said_form x y rolls = ap (said bodies) (sym rolls) ∙ fold-roll-TExpr Said (said_by bodies) x

  pub said_Literal : (v : Value) (at : Position) → said bodies (e.Literal v at) ≡ constant_by v
  said_Literal v at = said_form (TExpr-F.Literal v at) _ (e.rolls-Literal v at)

  pub said_Local : (name : List ℕ) (at : Position) (kind : TType) → said bodies (e.Local name at kind) ≡ named_by (Local name) at
  said_Local name at kind = said_form (TExpr-F.Local name at kind) _ (e.rolls-Local name at kind)

  pub said_Assign : (x : TExpr) (at : Position) (y : TExpr) → said bodies (e.Assign x at y) ≡ assign_by (said bodies x) (said bodies y)
  said_Assign x at y = said_form (TExpr-F.Assign x at y) _ (e.rolls-Assign x at y)

  pub said_StaticCall : (first : Position) (member : MemberRef) (at : Position) (xs : List TExpr) (r : TResult) → said bodies (e.StaticCall first member at xs r) ≡ just (all (map (said bodies) xs))
  said_StaticCall first member at xs r = said_form (TExpr-F.StaticCall first member at xs r) _ (e.rolls-StaticCall first member at xs r)

module _ (inner : ℕ → JavaAct) where
  unfoldable pub group : TCaseGroup → CaseGroup
  group = fold-TCaseGroup JavaAct Statement CaseGroup JavaAct (body_by inner) (statement_by inner) (group_by inner) (catch_by inner)

  unfoldable pub catch : TCatch → JavaAct
  catch = fold-TCatch JavaAct Statement CaseGroup JavaAct (body_by inner) (statement_by inner) (group_by inner) (catch_by inner)

  form : (x : TStatement-F TBody TStatement TCaseGroup TCatch) (y : TStatement) → roll-TStatement x ≡ y →
      statement inner y ≡ statement_by inner (map-TStatement TBody TStatement TCaseGroup TCatch JavaAct Statement CaseGroup JavaAct (body inner) (statement inner) group catch x)
  unfolding statement body group catch
  form x y rolls = ap (statement inner) (sym rolls) ∙ fold-roll-TStatement JavaAct Statement CaseGroup JavaAct (body_by inner) (statement_by inner) (group_by inner) (catch_by inner) x

  pub statement_Simple : (at : Position) (x : TSimple) (bs : List TBody) → statement inner (made.Simple at x bs) ≡ statement_by inner (TStatement-F.Simple at x (map (body inner) bs))
  statement_Simple at x bs = form (TStatement-F.Simple at x bs) _ (made.rolls-Simple at x bs)

  pub statement_Block : (at : Position) (xs : List TStatement) (right : Position) → statement inner (made.Block at xs right) ≡ statement_by inner (TStatement-F.Block at (map (statement inner) xs) right)
  statement_Block at xs right = form (TStatement-F.Block at xs right) _ (made.rolls-Block at xs right)

  pub statement_If : (at : Position) (c : TExpr) (bs : List TBody) (x : TStatement) → statement inner (made.If at c bs x) ≡ statement_by inner (TStatement-F.If at c (map (body inner) bs) (statement inner x))
  statement_If at c bs x = form (TStatement-F.If at c bs x) _ (made.rolls-If at c bs x)

  pub statement_IfElse : (at : Position) (c : TExpr) (bs : List TBody) (x y : TStatement) → statement inner (made.IfElse at c bs x y) ≡ statement_by inner (TStatement-F.IfElse at c (map (body inner) bs) (statement inner x) (statement inner y))
  statement_IfElse at c bs x y = form (TStatement-F.IfElse at c bs x y) _ (made.rolls-IfElse at c bs x y)

  pub statement_While : (at : Position) (c : TExpr) (bs : List TBody) (x : TStatement) → statement inner (made.While at c bs x) ≡ statement_by inner (TStatement-F.While at c (map (body inner) bs) (statement inner x))
  statement_While at c bs x = form (TStatement-F.While at c bs x) _ (made.rolls-While at c bs x)

  pub statement_Try : (at : Position) (xs : List TStatement) (cs : List TCatch) (last : Option Position) (ys : List TStatement) →
      statement inner (made.Try at xs cs last ys) ≡ statement_by inner (TStatement-F.Try at (map (statement inner) xs) (map catch cs) last (map (statement inner) ys))
  statement_Try at xs cs last ys = form (TStatement-F.Try at xs cs last ys) _ (made.rolls-Try at xs cs last ys)

  pub statement_Do : (at : Position) (x : TStatement) (c : TExpr) (bs : List TBody) → statement inner (made.Do at x c bs) ≡ statement_by inner (TStatement-F.Do at (statement inner x) c (map (body inner) bs))
  statement_Do at x c bs = form (TStatement-F.Do at x c bs) _ (made.rolls-Do at x c bs)

  pub statement_Switch : (at : Position) (x : TExpr) (bs : List TBody) (gs : List TCaseGroup) → statement inner (made.Switch at x bs gs) ≡ statement_by inner (TStatement-F.Switch at x (map (body inner) bs) (map group gs))
  statement_Switch at x bs gs = form (TStatement-F.Switch at x bs gs) _ (made.rolls-Switch at x bs gs)

  pub group_form : (x : TCaseGroup-F TBody TStatement TCaseGroup TCatch) → group (roll-TCaseGroup x) ≡ group_by inner (map-TCaseGroup TBody TStatement TCaseGroup TCatch JavaAct Statement CaseGroup JavaAct (body inner) (statement inner) group catch x)
  unfolding statement body group catch
  group_form x = fold-roll-TCaseGroup JavaAct Statement CaseGroup JavaAct (body_by inner) (statement_by inner) (group_by inner) (catch_by inner) x
