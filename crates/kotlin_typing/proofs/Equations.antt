-- What is known of each form, by its parts.
use Rattle.std.proofs.Common.{◌≡◌, ℕ, List, map, Option, sym, ap, ◌∙◌}
use Rattle.kotlin_tree.specs.declared.places.Position.{Position}
use Rattle.kotlin_tree.specs.declared.places.Brackets.{Brackets}
use Rattle.kotlin_tree.specs.declared.types.KName.{KName}
use Rattle.kotlin_tree.specs.declared.types.KType.{KType}
use Rattle.kotlin_tree.specs.declared.types.KQualified.{KQualified}
use Rattle.kotlin_tree.specs.declared.types.KTypeArguments.{KTypeArguments}
use Rattle.kotlin_tree.specs.declared.expressions.KLiteral.{KLiteral}
use Rattle.kotlin_tree.specs.declared.expressions.KPrefix.{KPrefix}
use Rattle.kotlin_tree.specs.declared.expressions.KPostfix.{KPostfix}
use Rattle.kotlin_tree.specs.declared.expressions.KBinary.{KBinary}
use Rattle.kotlin_tree.specs.declared.expressions.KHeadAt.{KHeadAt}
use Rattle.kotlin_tree.specs.declared.expressions.KElseAt.{KElseAt}
use Rattle.kotlin_tree.specs.declared.expressions.KClassAt.{KClassAt}
use Rattle.kotlin_tree.specs.declared.expressions.KSuperAt.{KSuperAt}
use Rattle.kotlin_tree.specs.declared.expressions.KLambdaNames.{KLambdaNames}
use Rattle.kotlin_tree.specs.declared.expressions.KChoice.{KChoice, roll-KChoice, map-KChoice, fold-roll-KChoice}
use Rattle.kotlin_tree.specs.declared.expressions.KExpr.{KExpr, roll-KExpr, map-KExpr, fold-roll-KExpr}
use Rattle.kotlin_tree.specs.declared.expressions.KExpr.TheOpen.{KExpr-F, KStmt-F, KChoice-F, KBranch-F, KCatch-F}
use Rattle.kotlin_tree.specs.declared.expressions.KExpr.TheVariants as e
use Rattle.kotlin_tree.specs.declared.expressions.KExpr.TheViews.{roll-KStmt}
use Rattle.kotlin_tree.specs.declared.statements.KDeclared.{KDeclared}
use Rattle.kotlin_tree.specs.declared.statements.KLabel.{KLabel}
use Rattle.kotlin_tree.specs.declared.statements.KTarget.{KTarget}
use Rattle.kotlin_tree.specs.declared.statements.KFinallyAt.{KFinallyAt}
use Rattle.kotlin_tree.specs.declared.statements.KBranch.{KBranch, roll-KBranch, map-KBranch, fold-roll-KBranch}
use Rattle.kotlin_tree.specs.declared.statements.KCatch.{KCatch, roll-KCatch, map-KCatch, fold-roll-KCatch}
use Rattle.kotlin_tree.specs.declared.statements.KStmt.{KStmt, map-KStmt, fold-roll-KStmt}
use Rattle.kotlin_tree.specs.declared.statements.KStmt.TheVariants as s
use Rattle.kotlin_typing.specs.declared.tables.KTables.{KTables}
use Rattle.kotlin_typing.specs.Forms.{Branch, Catch, Choice, Form, Line}
use Rattle.kotlin_typing.specs.Typing.{branch_by, branch_form, catch_by, catch_form, choice_by, choice_form, form, form_by, line, line_by}

module _ (w : KTables) where
  pub form_at : (x : KExpr-F KExpr KStmt KChoice KBranch KCatch) →
      form w (roll-KExpr x) ≡ form_by w (map-KExpr KExpr KStmt KChoice KBranch KCatch Form Line Choice Branch Catch (form w) (line w) (choice_form w) (branch_form w) (catch_form w) x)
  unfolding form line choice_form branch_form catch_form
  form_at x = fold-roll-KExpr Form Line Choice Branch Catch (form_by w) (line_by w) choice_by branch_by (catch_by w) x

  pub line_at : (x : KStmt-F KExpr KStmt KChoice KBranch KCatch) →
      line w (roll-KStmt x) ≡ line_by w (map-KStmt KExpr KStmt KChoice KBranch KCatch Form Line Choice Branch Catch (form w) (line w) (choice_form w) (branch_form w) (catch_form w) x)
  unfolding form line choice_form branch_form catch_form
  line_at x = fold-roll-KStmt Form Line Choice Branch Catch (form_by w) (line_by w) choice_by branch_by (catch_by w) x

  pub choice_at : (x : KChoice-F KExpr KStmt KChoice KBranch KCatch) →
      choice_form w (roll-KChoice x) ≡ choice_by (map-KChoice KExpr KStmt KChoice KBranch KCatch Form Line Choice Branch Catch (form w) (line w) (choice_form w) (branch_form w) (catch_form w) x)
  unfolding form line choice_form branch_form catch_form
  choice_at x = fold-roll-KChoice Form Line Choice Branch Catch (form_by w) (line_by w) choice_by branch_by (catch_by w) x

  pub branch_at : (x : KBranch-F KExpr KStmt KChoice KBranch KCatch) →
      branch_form w (roll-KBranch x) ≡ branch_by (map-KBranch KExpr KStmt KChoice KBranch KCatch Form Line Choice Branch Catch (form w) (line w) (choice_form w) (branch_form w) (catch_form w) x)
  unfolding form line choice_form branch_form catch_form
  branch_at x = fold-roll-KBranch Form Line Choice Branch Catch (form_by w) (line_by w) choice_by branch_by (catch_by w) x

  pub catch_at : (x : KCatch-F KExpr KStmt KChoice KBranch KCatch) →
      catch_form w (roll-KCatch x) ≡ catch_by w (map-KCatch KExpr KStmt KChoice KBranch KCatch Form Line Choice Branch Catch (form w) (line w) (choice_form w) (branch_form w) (catch_form w) x)
  unfolding form line choice_form branch_form catch_form
  catch_at x = fold-roll-KCatch Form Line Choice Branch Catch (form_by w) (line_by w) choice_by branch_by (catch_by w) x

  pub on_Literal : (x : KLiteral) (at : Position) → form w (e.Literal x at) ≡ form_by w (KExpr-F.Literal x at)
  on_Literal x at = ap (form w) (sym (e.rolls-Literal x at)) ∙ form_at (KExpr-F.Literal x at)

  pub on_Name : (x : KName) → form w (e.Name x) ≡ form_by w (KExpr-F.Name x)
  on_Name x = ap (form w) (sym (e.rolls-Name x)) ∙ form_at (KExpr-F.Name x)

  pub on_This : (at : Position) → form w (e.This at) ≡ form_by w (KExpr-F.This at)
  on_This at = ap (form w) (sym (e.rolls-This at)) ∙ form_at (KExpr-F.This at)

  pub on_Paren : (round : Brackets) (inner : KExpr) → form w (e.Paren round inner) ≡ form_by w (KExpr-F.Paren round (form w inner))
  on_Paren round inner = ap (form w) (sym (e.rolls-Paren round inner)) ∙ form_at (KExpr-F.Paren round inner)

  pub on_Call : (x : KName) (types : Option KTypeArguments) (round : Brackets) (xs : List KExpr) (commas : List Position) → form w (e.Call x types round xs commas) ≡ form_by w (KExpr-F.Call x types round (map (form w) xs) commas)
  on_Call x types round xs commas = ap (form w) (sym (e.rolls-Call x types round xs commas)) ∙ form_at (KExpr-F.Call x types round xs commas)

  pub on_SuperCall : (at : KSuperAt) (x : KName) (round : Brackets) (xs : List KExpr) (commas : List Position) → form w (e.SuperCall at x round xs commas) ≡ form_by w (KExpr-F.SuperCall at x round (map (form w) xs) commas)
  on_SuperCall at x round xs commas = ap (form w) (sym (e.rolls-SuperCall at x round xs commas)) ∙ form_at (KExpr-F.SuperCall at x round xs commas)

  pub on_Field : (object : KExpr) (dot : Position) (x : KName) → form w (e.Field object dot x) ≡ form_by w (KExpr-F.Field (form w object) dot x)
  on_Field object dot x = ap (form w) (sym (e.rolls-Field object dot x)) ∙ form_at (KExpr-F.Field object dot x)

  pub on_Method : (object : KExpr) (dot : Position) (x : KName) (types : Option KTypeArguments) (round : Brackets) (xs : List KExpr) (commas : List Position) → form w (e.Method object dot x types round xs commas) ≡ form_by w (KExpr-F.Method (form w object) dot x types round (map (form w) xs) commas)
  on_Method object dot x types round xs commas = ap (form w) (sym (e.rolls-Method object dot x types round xs commas)) ∙ form_at (KExpr-F.Method object dot x types round xs commas)

  pub on_Element : (array : KExpr) (square : Brackets) (index : KExpr) → form w (e.Element array square index) ≡ form_by w (KExpr-F.Element (form w array) square (form w index))
  on_Element array square index = ap (form w) (sym (e.rolls-Element array square index)) ∙ form_at (KExpr-F.Element array square index)

  pub on_Postfix : (operand : KExpr) (o : KPostfix) (at : Position) → form w (e.Postfix operand o at) ≡ form_by w (KExpr-F.Postfix (form w operand) o at)
  on_Postfix operand o at = ap (form w) (sym (e.rolls-Postfix operand o at)) ∙ form_at (KExpr-F.Postfix operand o at)

  pub on_Prefix : (o : KPrefix) (at : Position) (operand : KExpr) → form w (e.Prefix o at operand) ≡ form_by w (KExpr-F.Prefix o at (form w operand))
  on_Prefix o at operand = ap (form w) (sym (e.rolls-Prefix o at operand)) ∙ form_at (KExpr-F.Prefix o at operand)

  pub on_As : (value : KExpr) (at : Position) (kind : KType) → form w (e.As value at kind) ≡ form_by w (KExpr-F.As (form w value) at kind)
  on_As value at kind = ap (form w) (sym (e.rolls-As value at kind)) ∙ form_at (KExpr-F.As value at kind)

  pub on_Is : (value : KExpr) (at : Position) (kind : KType) → form w (e.Is value at kind) ≡ form_by w (KExpr-F.Is (form w value) at kind)
  on_Is value at kind = ap (form w) (sym (e.rolls-Is value at kind)) ∙ form_at (KExpr-F.Is value at kind)

  pub on_Binary : (left : KExpr) (o : KBinary) (at : Position) (right : KExpr) → form w (e.Binary left o at right) ≡ form_by w (KExpr-F.Binary (form w left) o at (form w right))
  on_Binary left o at right = ap (form w) (sym (e.rolls-Binary left o at right)) ∙ form_at (KExpr-F.Binary left o at right)

  pub on_IfValue : (at : KHeadAt) (condition : KExpr) (value : KExpr) (else_at : Position) (other : KExpr) → form w (e.IfValue at condition value else_at other) ≡ form_by w (KExpr-F.IfValue at (form w condition) (form w value) else_at (form w other))
  on_IfValue at condition value else_at other = ap (form w) (sym (e.rolls-IfValue at condition value else_at other)) ∙ form_at (KExpr-F.IfValue at condition value else_at other)

  pub on_WhenValue : (at : KHeadAt) (subject : KExpr) (curly : Brackets) (choices : List KChoice) (else_at : KElseAt) (other : KExpr) → form w (e.WhenValue at subject curly choices else_at other) ≡ form_by w (KExpr-F.WhenValue at (form w subject) curly (map (choice_form w) choices) else_at (form w other))
  on_WhenValue at subject curly choices else_at other = ap (form w) (sym (e.rolls-WhenValue at subject curly choices else_at other)) ∙ form_at (KExpr-F.WhenValue at subject curly choices else_at other)

  pub on_Lambda : (face : KType) (curly : Brackets) (names : KLambdaNames) (xs : List KStmt) → form w (e.Lambda face curly names xs) ≡ form_by w (KExpr-F.Lambda face curly names (map (line w) xs))
  on_Lambda face curly names xs = ap (form w) (sym (e.rolls-Lambda face curly names xs)) ∙ form_at (KExpr-F.Lambda face curly names xs)

  pub on_Run : (at : Position) (curly : Brackets) (xs : List KStmt) → form w (e.Run at curly xs) ≡ form_by w (KExpr-F.Run at curly (map (line w) xs))
  on_Run at curly xs = ap (form w) (sym (e.rolls-Run at curly xs)) ∙ form_at (KExpr-F.Run at curly xs)

  pub on_Class : (x : KQualified) (at : KClassAt) → form w (e.Class x at) ≡ form_by w (KExpr-F.Class x at)
  on_Class x at = ap (form w) (sym (e.rolls-Class x at)) ∙ form_at (KExpr-F.Class x at)

  pub on_Commented : (comments : List (List ℕ)) (x : KStmt) → line w (s.Commented comments x) ≡ line_by w (KStmt-F.Commented comments (line w x))
  on_Commented comments x = ap (line w) (sym (s.rolls-Commented comments x)) ∙ line_at (KStmt-F.Commented comments x)

  pub on_Declared : (x : KDeclared) → line w (s.Declared x) ≡ line_by w (KStmt-F.Declared x)
  on_Declared x = ap (line w) (sym (s.rolls-Declared x)) ∙ line_at (KStmt-F.Declared x)

  pub on_Local : (x : KDeclared) (at : Position) (value : KExpr) → line w (s.Local x at value) ≡ line_by w (KStmt-F.Local x at (form w value))
  on_Local x at value = ap (line w) (sym (s.rolls-Local x at value)) ∙ line_at (KStmt-F.Local x at value)

  pub on_Expression : (x : KExpr) → line w (s.Expression x) ≡ line_by w (KStmt-F.Expression (form w x))
  on_Expression x = ap (line w) (sym (s.rolls-Expression x)) ∙ line_at (KStmt-F.Expression x)

  pub on_Assign : (target : KExpr) (at : Position) (value : KExpr) → line w (s.Assign target at value) ≡ line_by w (KStmt-F.Assign (form w target) at (form w value))
  on_Assign target at value = ap (line w) (sym (s.rolls-Assign target at value)) ∙ line_at (KStmt-F.Assign target at value)

  pub on_While : (label : Option KLabel) (at : KHeadAt) (condition : KExpr) (curly : Brackets) (xs : List KStmt) → line w (s.While label at condition curly xs) ≡ line_by w (KStmt-F.While label at (form w condition) curly (map (line w) xs))
  on_While label at condition curly xs = ap (line w) (sym (s.rolls-While label at condition curly xs)) ∙ line_at (KStmt-F.While label at condition curly xs)

  pub on_DoWhile : (label : Option KLabel) (do_at : Position) (curly : Brackets) (xs : List KStmt) (at : KHeadAt) (condition : KExpr) → line w (s.DoWhile label do_at curly xs at condition) ≡ line_by w (KStmt-F.DoWhile label do_at curly (map (line w) xs) at (form w condition))
  on_DoWhile label do_at curly xs at condition = ap (line w) (sym (s.rolls-DoWhile label do_at curly xs at condition)) ∙ line_at (KStmt-F.DoWhile label do_at curly xs at condition)

  pub on_For : (label : Option KLabel) (at : KHeadAt) (x : KName) (in_at : Position) (values : KExpr) (curly : Brackets) (xs : List KStmt) → line w (s.For label at x in_at values curly xs) ≡ line_by w (KStmt-F.For label at x in_at (form w values) curly (map (line w) xs))
  on_For label at x in_at values curly xs = ap (line w) (sym (s.rolls-For label at x in_at values curly xs)) ∙ line_at (KStmt-F.For label at x in_at values curly xs)

  pub on_ForRange : (label : Option KLabel) (at : KHeadAt) (x : KName) (in_at : Position) (first : KExpr) (until_at : Position) (end : KExpr) (curly : Brackets) (xs : List KStmt) → line w (s.ForRange label at x in_at first until_at end curly xs) ≡ line_by w (KStmt-F.ForRange label at x in_at (form w first) until_at (form w end) curly (map (line w) xs))
  on_ForRange label at x in_at first until_at end curly xs = ap (line w) (sym (s.rolls-ForRange label at x in_at first until_at end curly xs)) ∙ line_at (KStmt-F.ForRange label at x in_at first until_at end curly xs)

  pub on_If : (at : KHeadAt) (condition : KExpr) (curly : Brackets) (xs : List KStmt) → line w (s.If at condition curly xs) ≡ line_by w (KStmt-F.If at (form w condition) curly (map (line w) xs))
  on_If at condition curly xs = ap (line w) (sym (s.rolls-If at condition curly xs)) ∙ line_at (KStmt-F.If at condition curly xs)

  pub on_IfElse : (at : KHeadAt) (condition : KExpr) (curly : Brackets) (xs : List KStmt) (else_at : Position) (other_curly : Brackets) (others : List KStmt) → line w (s.IfElse at condition curly xs else_at other_curly others) ≡ line_by w (KStmt-F.IfElse at (form w condition) curly (map (line w) xs) else_at other_curly (map (line w) others))
  on_IfElse at condition curly xs else_at other_curly others = ap (line w) (sym (s.rolls-IfElse at condition curly xs else_at other_curly others)) ∙ line_at (KStmt-F.IfElse at condition curly xs else_at other_curly others)

  pub on_IfElseIf : (at : KHeadAt) (condition : KExpr) (curly : Brackets) (xs : List KStmt) (else_at : Position) (other : KStmt) → line w (s.IfElseIf at condition curly xs else_at other) ≡ line_by w (KStmt-F.IfElseIf at (form w condition) curly (map (line w) xs) else_at (line w other))
  on_IfElseIf at condition curly xs else_at other = ap (line w) (sym (s.rolls-IfElseIf at condition curly xs else_at other)) ∙ line_at (KStmt-F.IfElseIf at condition curly xs else_at other)

  pub on_When : (at : KHeadAt) (subject : KExpr) (curly : Brackets) (branches : List KBranch) (else_at : KElseAt) (other_curly : Brackets) (others : List KStmt) → line w (s.When at subject curly branches else_at other_curly others) ≡ line_by w (KStmt-F.When at (form w subject) curly (map (branch_form w) branches) else_at other_curly (map (line w) others))
  on_When at subject curly branches else_at other_curly others = ap (line w) (sym (s.rolls-When at subject curly branches else_at other_curly others)) ∙ line_at (KStmt-F.When at subject curly branches else_at other_curly others)

  pub on_Break : (at : Position) (target : Option KTarget) → line w (s.Break at target) ≡ line_by w (KStmt-F.Break at target)
  on_Break at target = ap (line w) (sym (s.rolls-Break at target)) ∙ line_at (KStmt-F.Break at target)

  pub on_Continue : (at : Position) (target : Option KTarget) → line w (s.Continue at target) ≡ line_by w (KStmt-F.Continue at target)
  on_Continue at target = ap (line w) (sym (s.rolls-Continue at target)) ∙ line_at (KStmt-F.Continue at target)

  pub on_Return : (at : Position) (target : Option KTarget) → line w (s.Return at target) ≡ line_by w (KStmt-F.Return at target)
  on_Return at target = ap (line w) (sym (s.rolls-Return at target)) ∙ line_at (KStmt-F.Return at target)

  pub on_Give : (at : Position) (target : Option KTarget) (x : KExpr) → line w (s.Give at target x) ≡ line_by w (KStmt-F.Give at target (form w x))
  on_Give at target x = ap (line w) (sym (s.rolls-Give at target x)) ∙ line_at (KStmt-F.Give at target x)

  pub on_Throw : (at : Position) (x : KExpr) → line w (s.Throw at x) ≡ line_by w (KStmt-F.Throw at (form w x))
  on_Throw at x = ap (line w) (sym (s.rolls-Throw at x)) ∙ line_at (KStmt-F.Throw at x)

  pub on_Try : (at : Position) (curly : Brackets) (xs : List KStmt) (catches : List KCatch) → line w (s.Try at curly xs catches) ≡ line_by w (KStmt-F.Try at curly (map (line w) xs) (map (catch_form w) catches))
  on_Try at curly xs catches = ap (line w) (sym (s.rolls-Try at curly xs catches)) ∙ line_at (KStmt-F.Try at curly xs catches)

  pub on_TryFinally : (at : Position) (curly : Brackets) (xs : List KStmt) (catches : List KCatch) (last_at : KFinallyAt) (last : List KStmt) → line w (s.TryFinally at curly xs catches last_at last) ≡ line_by w (KStmt-F.TryFinally at curly (map (line w) xs) (map (catch_form w) catches) last_at (map (line w) last))
  on_TryFinally at curly xs catches last_at last = ap (line w) (sym (s.rolls-TryFinally at curly xs catches last_at last)) ∙ line_at (KStmt-F.TryFinally at curly xs catches last_at last)

  pub on_Synchronized : (at : KHeadAt) (lock : KExpr) (curly : Brackets) (xs : List KStmt) → line w (s.Synchronized at lock curly xs) ≡ line_by w (KStmt-F.Synchronized at (form w lock) curly (map (line w) xs))
  on_Synchronized at lock curly xs = ap (line w) (sym (s.rolls-Synchronized at lock curly xs)) ∙ line_at (KStmt-F.Synchronized at lock curly xs)
