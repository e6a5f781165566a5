-- What each form of an expression and of a statement does, by what its parts do.
use Rattle.std.proofs.Common.{◌≡◌, List, [], ◌∷◌, map, Option, refl, ap, sym, ◌∙◌}
use Rattle.kotlin_tree.specs.declared.places.Position.{Position}
use Rattle.kotlin_tree.specs.declared.places.Brackets.{Brackets}
use Rattle.kotlin_tree.specs.declared.types.KName.{KName}
use Rattle.kotlin_tree.specs.declared.types.KType.{KType}
use Rattle.kotlin_tree.specs.declared.types.KTypeArguments.{KTypeArguments}
use Rattle.kotlin_tree.specs.declared.expressions.KLiteral.{KLiteral}
use Rattle.kotlin_tree.specs.declared.expressions.KBinary.{KBinary}
use Rattle.kotlin_tree.specs.declared.expressions.KPostfix.{KPostfix}
use Rattle.kotlin_tree.specs.declared.expressions.KHeadAt.{KHeadAt}
use Rattle.kotlin_tree.specs.declared.expressions.KElseAt.{KElseAt}
use Rattle.kotlin_tree.specs.declared.expressions.KLambdaNames.{KLambdaNames}
use Rattle.kotlin_tree.specs.declared.expressions.KExpr.{KExpr, roll-KExpr, map-KExpr, fold-roll-KExpr}
use Rattle.kotlin_tree.specs.declared.expressions.KExpr.TheOpen.{KExpr-F, KStmt-F}
use Rattle.kotlin_tree.specs.declared.expressions.KExpr.TheVariants as e
use Rattle.kotlin_tree.specs.declared.expressions.KChoice.{KChoice}
use Rattle.kotlin_tree.specs.declared.statements.KStmt.{KStmt, roll-KStmt, map-KStmt, fold-roll-KStmt}
use Rattle.kotlin_tree.specs.declared.statements.KStmt.TheVariants as s
use Rattle.kotlin_tree.specs.declared.statements.KBranch.{KBranch}
use Rattle.kotlin_tree.specs.declared.statements.KCatch.{KCatch}
use Rattle.kotlin_tree.specs.declared.statements.KDeclared.{KDeclared}
use Rattle.kotlin_tree.specs.declared.statements.KLabel.{KLabel}
use Rattle.kotlin_tree.specs.declared.statements.KTarget.{KTarget}
use Rattle.kotlin_tree.specs.declared.statements.KFinallyAt.{KFinallyAt}
use Rattle.kotlin_flow.specs.Expressions.{Said, Choice}
use Rattle.kotlin_flow.specs.Statements.{Line, Branch, Catch, said_by, line_by, choice_by, branch_by, catch_by}
use Rattle.kotlin_flow.specs.Texts.{said, line, choice, branch, catch}

said_form : (x : KExpr-F KExpr KStmt KChoice KBranch KCatch) (y : KExpr) → roll-KExpr x ≡ y → said y ≡ said_by (map-KExpr KExpr KStmt KChoice KBranch KCatch Said Line Choice Branch Catch said line choice branch catch x)
unfolding said line choice branch catch
said_form x y rolls = ap said (sym rolls) ∙ fold-roll-KExpr Said Line Choice Branch Catch said_by line_by choice_by branch_by catch_by x

line_form : (x : KStmt-F KExpr KStmt KChoice KBranch KCatch) (y : KStmt) → roll-KStmt x ≡ y → line y ≡ line_by (map-KStmt KExpr KStmt KChoice KBranch KCatch Said Line Choice Branch Catch said line choice branch catch x)
unfolding said line choice branch catch
line_form x y rolls = ap line (sym rolls) ∙ fold-roll-KStmt Said Line Choice Branch Catch said_by line_by choice_by branch_by catch_by x

-- ---- what a text is shown to do

pub record Says (x : KExpr) (does : Said) : Type 0 where
  pub is : said x ≡ does

pub record Shows (x : KStmt) (does : Line) : Type 0 where
  pub is : line x ≡ does

pub record AllSay (xs : List KExpr) (does : List Said) : Type 0 where
  pub is : map said xs ≡ does

pub record AllShow (xs : List KStmt) (does : List Line) : Type 0 where
  pub is : map line xs ≡ does

pub record AllBranch (xs : List KBranch) (does : List Branch) : Type 0 where
  pub is : map branch xs ≡ does

pub record AllCatch (xs : List KCatch) (does : List Catch) : Type 0 where
  pub is : map catch xs ≡ does

pub none_says : AllSay [] []
none_says = record { is = refl }

pub says : {x : KExpr} {xs : List KExpr} {x_does : Said} {xs_does : List Said} → Says x x_does → AllSay xs xs_does → AllSay (x ∷ xs) (x_does ∷ xs_does)
says {x} {xs} {x_does} {xs_does} h hs = record { is = ap (λ (z : Said). z ∷ map said xs) h.is ∙ ap (λ (z : List Said). x_does ∷ z) hs.is }

pub none_shows : AllShow [] []
none_shows = record { is = refl }

pub shows : {x : KStmt} {xs : List KStmt} {x_does : Line} {xs_does : List Line} → Shows x x_does → AllShow xs xs_does → AllShow (x ∷ xs) (x_does ∷ xs_does)
shows {x} {xs} {x_does} {xs_does} h hs = record { is = ap (λ (z : Line). z ∷ map line xs) h.is ∙ ap (λ (z : List Line). x_does ∷ z) hs.is }

pub no_branch : AllBranch [] []
no_branch = record { is = refl }

pub no_catch : AllCatch [] []
no_catch = record { is = refl }

-- ---- each form

pub said_Literal : (x : KLiteral) (at : Position) → said (e.Literal x at) ≡ said_by (KExpr-F.Literal x at)
said_Literal x at = said_form (KExpr-F.Literal x at) _ (e.rolls-Literal x at)

pub shown_Literal : (x : KLiteral) (at : Position) → Says (e.Literal x at) (said_by (KExpr-F.Literal x at))
shown_Literal x at = record { is = said_Literal x at }

pub said_Name : (x : KName) → said (e.Name x) ≡ said_by (KExpr-F.Name x)
said_Name x = said_form (KExpr-F.Name x) _ (e.rolls-Name x)

pub shown_Name : (x : KName) → Says (e.Name x) (said_by (KExpr-F.Name x))
shown_Name x = record { is = said_Name x }

pub said_This : (at : Position) → said (e.This at) ≡ said_by (KExpr-F.This at)
said_This at = said_form (KExpr-F.This at) _ (e.rolls-This at)

pub shown_This : (at : Position) → Says (e.This at) (said_by (KExpr-F.This at))
shown_This at = record { is = said_This at }

pub said_Paren : (round : Brackets) (inner : KExpr) → said (e.Paren round inner) ≡ said_by (KExpr-F.Paren round (said inner))
said_Paren round inner = said_form (KExpr-F.Paren round inner) _ (e.rolls-Paren round inner)

pub shown_Paren : (round : Brackets) {inner : KExpr} {inner_does : Said} → Says inner inner_does → Says (e.Paren round inner) (said_by (KExpr-F.Paren round inner_does))
shown_Paren round {inner} {inner_does} inner_shows = record { is = said_Paren round inner ∙ ap (λ (z : Said). said_by (KExpr-F.Paren round z)) inner_shows.is }

pub said_Call : (x : KName) (types : Option KTypeArguments) (round : Brackets) (arguments : List KExpr) (commas : List Position) → said (e.Call x types round arguments commas) ≡ said_by (KExpr-F.Call x types round (map said arguments) commas)
said_Call x types round arguments commas = said_form (KExpr-F.Call x types round arguments commas) _ (e.rolls-Call x types round arguments commas)

pub shown_Call : (x : KName) (types : Option KTypeArguments) (round : Brackets) (commas : List Position) {arguments : List KExpr} {arguments_does : List Said} → AllSay arguments arguments_does → Says (e.Call x types round arguments commas) (said_by (KExpr-F.Call x types round arguments_does commas))
shown_Call x types round commas {arguments} {arguments_does} arguments_shows = record { is = said_Call x types round arguments commas ∙ ap (λ (z : List Said). said_by (KExpr-F.Call x types round z commas)) arguments_shows.is }

pub said_Field : (object : KExpr) (dot : Position) (x : KName) → said (e.Field object dot x) ≡ said_by (KExpr-F.Field (said object) dot x)
said_Field object dot x = said_form (KExpr-F.Field object dot x) _ (e.rolls-Field object dot x)

pub shown_Field : (dot : Position) (x : KName) {object : KExpr} {object_does : Said} → Says object object_does → Says (e.Field object dot x) (said_by (KExpr-F.Field object_does dot x))
shown_Field dot x {object} {object_does} object_shows = record { is = said_Field object dot x ∙ ap (λ (z : Said). said_by (KExpr-F.Field z dot x)) object_shows.is }

pub said_Method : (object : KExpr) (dot : Position) (x : KName) (types : Option KTypeArguments) (round : Brackets) (arguments : List KExpr) (commas : List Position) → said (e.Method object dot x types round arguments commas) ≡ said_by (KExpr-F.Method (said object) dot x types round (map said arguments) commas)
said_Method object dot x types round arguments commas = said_form (KExpr-F.Method object dot x types round arguments commas) _ (e.rolls-Method object dot x types round arguments commas)

pub shown_Method : (dot : Position) (x : KName) (types : Option KTypeArguments) (round : Brackets) (commas : List Position) {object : KExpr} {arguments : List KExpr} {object_does : Said} {arguments_does : List Said} → Says object object_does → AllSay arguments arguments_does → Says (e.Method object dot x types round arguments commas) (said_by (KExpr-F.Method object_does dot x types round arguments_does commas))
shown_Method dot x types round commas {object} {arguments} {object_does} {arguments_does} object_shows arguments_shows = record { is = said_Method object dot x types round arguments commas ∙ ap (λ (z : Said). said_by (KExpr-F.Method z dot x types round (map said arguments) commas)) object_shows.is ∙ ap (λ (z : List Said). said_by (KExpr-F.Method object_does dot x types round z commas)) arguments_shows.is }

pub said_Postfix : (operand : KExpr) (o : KPostfix) (at : Position) → said (e.Postfix operand o at) ≡ said_by (KExpr-F.Postfix (said operand) o at)
said_Postfix operand o at = said_form (KExpr-F.Postfix operand o at) _ (e.rolls-Postfix operand o at)

pub shown_Postfix : (o : KPostfix) (at : Position) {operand : KExpr} {operand_does : Said} → Says operand operand_does → Says (e.Postfix operand o at) (said_by (KExpr-F.Postfix operand_does o at))
shown_Postfix o at {operand} {operand_does} operand_shows = record { is = said_Postfix operand o at ∙ ap (λ (z : Said). said_by (KExpr-F.Postfix z o at)) operand_shows.is }

pub said_Binary : (left : KExpr) (o : KBinary) (at : Position) (right : KExpr) → said (e.Binary left o at right) ≡ said_by (KExpr-F.Binary (said left) o at (said right))
said_Binary left o at right = said_form (KExpr-F.Binary left o at right) _ (e.rolls-Binary left o at right)

pub shown_Binary : (o : KBinary) (at : Position) {left : KExpr} {right : KExpr} {left_does : Said} {right_does : Said} → Says left left_does → Says right right_does → Says (e.Binary left o at right) (said_by (KExpr-F.Binary left_does o at right_does))
shown_Binary o at {left} {right} {left_does} {right_does} left_shows right_shows = record { is = said_Binary left o at right ∙ ap (λ (z : Said). said_by (KExpr-F.Binary z o at (said right))) left_shows.is ∙ ap (λ (z : Said). said_by (KExpr-F.Binary left_does o at z)) right_shows.is }

pub said_Lambda : (face : KType) (curly : Brackets) (params : KLambdaNames) (statements : List KStmt) → said (e.Lambda face curly params statements) ≡ said_by (KExpr-F.Lambda face curly params (map line statements))
said_Lambda face curly params statements = said_form (KExpr-F.Lambda face curly params statements) _ (e.rolls-Lambda face curly params statements)

pub shown_Lambda : (face : KType) (curly : Brackets) (params : KLambdaNames) {statements : List KStmt} {statements_does : List Line} → AllShow statements statements_does → Says (e.Lambda face curly params statements) (said_by (KExpr-F.Lambda face curly params statements_does))
shown_Lambda face curly params {statements} {statements_does} statements_shows = record { is = said_Lambda face curly params statements ∙ ap (λ (z : List Line). said_by (KExpr-F.Lambda face curly params z)) statements_shows.is }

pub said_Run : (at : Position) (curly : Brackets) (statements : List KStmt) → said (e.Run at curly statements) ≡ said_by (KExpr-F.Run at curly (map line statements))
said_Run at curly statements = said_form (KExpr-F.Run at curly statements) _ (e.rolls-Run at curly statements)

pub shown_Run : (at : Position) (curly : Brackets) {statements : List KStmt} {statements_does : List Line} → AllShow statements statements_does → Says (e.Run at curly statements) (said_by (KExpr-F.Run at curly statements_does))
shown_Run at curly {statements} {statements_does} statements_shows = record { is = said_Run at curly statements ∙ ap (λ (z : List Line). said_by (KExpr-F.Run at curly z)) statements_shows.is }

pub line_Declared : (x : KDeclared) → line (s.Declared x) ≡ line_by (KStmt-F.Declared x)
line_Declared x = line_form (KStmt-F.Declared x) _ (s.rolls-Declared x)

pub shown_Declared : (x : KDeclared) → Shows (s.Declared x) (line_by (KStmt-F.Declared x))
shown_Declared x = record { is = line_Declared x }

pub line_Local : (x : KDeclared) (at : Position) (value : KExpr) → line (s.Local x at value) ≡ line_by (KStmt-F.Local x at (said value))
line_Local x at value = line_form (KStmt-F.Local x at value) _ (s.rolls-Local x at value)

pub shown_Local : (x : KDeclared) (at : Position) {value : KExpr} {value_does : Said} → Says value value_does → Shows (s.Local x at value) (line_by (KStmt-F.Local x at value_does))
shown_Local x at {value} {value_does} value_shows = record { is = line_Local x at value ∙ ap (λ (z : Said). line_by (KStmt-F.Local x at z)) value_shows.is }

pub line_Expression : (x : KExpr) → line (s.Expression x) ≡ line_by (KStmt-F.Expression (said x))
line_Expression x = line_form (KStmt-F.Expression x) _ (s.rolls-Expression x)

pub shown_Expression : {x : KExpr} {x_does : Said} → Says x x_does → Shows (s.Expression x) (line_by (KStmt-F.Expression x_does))
shown_Expression {x} {x_does} x_shows = record { is = line_Expression x ∙ ap (λ (z : Said). line_by (KStmt-F.Expression z)) x_shows.is }

pub line_Assign : (target : KExpr) (at : Position) (value : KExpr) → line (s.Assign target at value) ≡ line_by (KStmt-F.Assign (said target) at (said value))
line_Assign target at value = line_form (KStmt-F.Assign target at value) _ (s.rolls-Assign target at value)

pub shown_Assign : (at : Position) {target : KExpr} {value : KExpr} {target_does : Said} {value_does : Said} → Says target target_does → Says value value_does → Shows (s.Assign target at value) (line_by (KStmt-F.Assign target_does at value_does))
shown_Assign at {target} {value} {target_does} {value_does} target_shows value_shows = record { is = line_Assign target at value ∙ ap (λ (z : Said). line_by (KStmt-F.Assign z at (said value))) target_shows.is ∙ ap (λ (z : Said). line_by (KStmt-F.Assign target_does at z)) value_shows.is }

pub line_While : (label : Option KLabel) (at : KHeadAt) (condition : KExpr) (curly : Brackets) (statements : List KStmt) → line (s.While label at condition curly statements) ≡ line_by (KStmt-F.While label at (said condition) curly (map line statements))
line_While label at condition curly statements = line_form (KStmt-F.While label at condition curly statements) _ (s.rolls-While label at condition curly statements)

pub shown_While : (label : Option KLabel) (at : KHeadAt) (curly : Brackets) {condition : KExpr} {statements : List KStmt} {condition_does : Said} {statements_does : List Line} → Says condition condition_does → AllShow statements statements_does → Shows (s.While label at condition curly statements) (line_by (KStmt-F.While label at condition_does curly statements_does))
shown_While label at curly {condition} {statements} {condition_does} {statements_does} condition_shows statements_shows = record { is = line_While label at condition curly statements ∙ ap (λ (z : Said). line_by (KStmt-F.While label at z curly (map line statements))) condition_shows.is ∙ ap (λ (z : List Line). line_by (KStmt-F.While label at condition_does curly z)) statements_shows.is }

pub line_DoWhile : (label : Option KLabel) (do_at : Position) (curly : Brackets) (statements : List KStmt) (at : KHeadAt) (condition : KExpr) → line (s.DoWhile label do_at curly statements at condition) ≡ line_by (KStmt-F.DoWhile label do_at curly (map line statements) at (said condition))
line_DoWhile label do_at curly statements at condition = line_form (KStmt-F.DoWhile label do_at curly statements at condition) _ (s.rolls-DoWhile label do_at curly statements at condition)

pub shown_DoWhile : (label : Option KLabel) (do_at : Position) (curly : Brackets) (at : KHeadAt) {statements : List KStmt} {condition : KExpr} {statements_does : List Line} {condition_does : Said} → AllShow statements statements_does → Says condition condition_does → Shows (s.DoWhile label do_at curly statements at condition) (line_by (KStmt-F.DoWhile label do_at curly statements_does at condition_does))
shown_DoWhile label do_at curly at {statements} {condition} {statements_does} {condition_does} statements_shows condition_shows = record { is = line_DoWhile label do_at curly statements at condition ∙ ap (λ (z : List Line). line_by (KStmt-F.DoWhile label do_at curly z at (said condition))) statements_shows.is ∙ ap (λ (z : Said). line_by (KStmt-F.DoWhile label do_at curly statements_does at z)) condition_shows.is }

pub line_If : (at : KHeadAt) (condition : KExpr) (curly : Brackets) (statements : List KStmt) → line (s.If at condition curly statements) ≡ line_by (KStmt-F.If at (said condition) curly (map line statements))
line_If at condition curly statements = line_form (KStmt-F.If at condition curly statements) _ (s.rolls-If at condition curly statements)

pub shown_If : (at : KHeadAt) (curly : Brackets) {condition : KExpr} {statements : List KStmt} {condition_does : Said} {statements_does : List Line} → Says condition condition_does → AllShow statements statements_does → Shows (s.If at condition curly statements) (line_by (KStmt-F.If at condition_does curly statements_does))
shown_If at curly {condition} {statements} {condition_does} {statements_does} condition_shows statements_shows = record { is = line_If at condition curly statements ∙ ap (λ (z : Said). line_by (KStmt-F.If at z curly (map line statements))) condition_shows.is ∙ ap (λ (z : List Line). line_by (KStmt-F.If at condition_does curly z)) statements_shows.is }

pub line_IfElse : (at : KHeadAt) (condition : KExpr) (curly : Brackets) (statements : List KStmt) (else_at : Position) (other_curly : Brackets) (others : List KStmt) → line (s.IfElse at condition curly statements else_at other_curly others) ≡ line_by (KStmt-F.IfElse at (said condition) curly (map line statements) else_at other_curly (map line others))
line_IfElse at condition curly statements else_at other_curly others = line_form (KStmt-F.IfElse at condition curly statements else_at other_curly others) _ (s.rolls-IfElse at condition curly statements else_at other_curly others)

pub shown_IfElse : (at : KHeadAt) (curly : Brackets) (else_at : Position) (other_curly : Brackets) {condition : KExpr} {statements : List KStmt} {others : List KStmt} {condition_does : Said} {statements_does : List Line} {others_does : List Line} → Says condition condition_does → AllShow statements statements_does → AllShow others others_does → Shows (s.IfElse at condition curly statements else_at other_curly others) (line_by (KStmt-F.IfElse at condition_does curly statements_does else_at other_curly others_does))
shown_IfElse at curly else_at other_curly {condition} {statements} {others} {condition_does} {statements_does} {others_does} condition_shows statements_shows others_shows = record { is = line_IfElse at condition curly statements else_at other_curly others ∙ ap (λ (z : Said). line_by (KStmt-F.IfElse at z curly (map line statements) else_at other_curly (map line others))) condition_shows.is ∙ ap (λ (z : List Line). line_by (KStmt-F.IfElse at condition_does curly z else_at other_curly (map line others))) statements_shows.is ∙ ap (λ (z : List Line). line_by (KStmt-F.IfElse at condition_does curly statements_does else_at other_curly z)) others_shows.is }

pub line_When : (at : KHeadAt) (subject : KExpr) (curly : Brackets) (branches : List KBranch) (else_at : KElseAt) (other_curly : Brackets) (others : List KStmt) → line (s.When at subject curly branches else_at other_curly others) ≡ line_by (KStmt-F.When at (said subject) curly (map branch branches) else_at other_curly (map line others))
line_When at subject curly branches else_at other_curly others = line_form (KStmt-F.When at subject curly branches else_at other_curly others) _ (s.rolls-When at subject curly branches else_at other_curly others)

pub shown_When : (at : KHeadAt) (curly : Brackets) (else_at : KElseAt) (other_curly : Brackets) {subject : KExpr} {branches : List KBranch} {others : List KStmt} {subject_does : Said} {branches_does : List Branch} {others_does : List Line} → Says subject subject_does → AllBranch branches branches_does → AllShow others others_does → Shows (s.When at subject curly branches else_at other_curly others) (line_by (KStmt-F.When at subject_does curly branches_does else_at other_curly others_does))
shown_When at curly else_at other_curly {subject} {branches} {others} {subject_does} {branches_does} {others_does} subject_shows branches_shows others_shows = record { is = line_When at subject curly branches else_at other_curly others ∙ ap (λ (z : Said). line_by (KStmt-F.When at z curly (map branch branches) else_at other_curly (map line others))) subject_shows.is ∙ ap (λ (z : List Branch). line_by (KStmt-F.When at subject_does curly z else_at other_curly (map line others))) branches_shows.is ∙ ap (λ (z : List Line). line_by (KStmt-F.When at subject_does curly branches_does else_at other_curly z)) others_shows.is }

pub line_Break : (at : Position) (target : Option KTarget) → line (s.Break at target) ≡ line_by (KStmt-F.Break at target)
line_Break at target = line_form (KStmt-F.Break at target) _ (s.rolls-Break at target)

pub shown_Break : (at : Position) (target : Option KTarget) → Shows (s.Break at target) (line_by (KStmt-F.Break at target))
shown_Break at target = record { is = line_Break at target }

pub line_Continue : (at : Position) (target : Option KTarget) → line (s.Continue at target) ≡ line_by (KStmt-F.Continue at target)
line_Continue at target = line_form (KStmt-F.Continue at target) _ (s.rolls-Continue at target)

pub shown_Continue : (at : Position) (target : Option KTarget) → Shows (s.Continue at target) (line_by (KStmt-F.Continue at target))
shown_Continue at target = record { is = line_Continue at target }

pub line_Return : (at : Position) (target : Option KTarget) → line (s.Return at target) ≡ line_by (KStmt-F.Return at target)
line_Return at target = line_form (KStmt-F.Return at target) _ (s.rolls-Return at target)

pub shown_Return : (at : Position) (target : Option KTarget) → Shows (s.Return at target) (line_by (KStmt-F.Return at target))
shown_Return at target = record { is = line_Return at target }

pub line_Give : (at : Position) (target : Option KTarget) (value : KExpr) → line (s.Give at target value) ≡ line_by (KStmt-F.Give at target (said value))
line_Give at target value = line_form (KStmt-F.Give at target value) _ (s.rolls-Give at target value)

pub shown_Give : (at : Position) (target : Option KTarget) {value : KExpr} {value_does : Said} → Says value value_does → Shows (s.Give at target value) (line_by (KStmt-F.Give at target value_does))
shown_Give at target {value} {value_does} value_shows = record { is = line_Give at target value ∙ ap (λ (z : Said). line_by (KStmt-F.Give at target z)) value_shows.is }

pub line_TryFinally : (at : Position) (curly : Brackets) (statements : List KStmt) (catches : List KCatch) (last_at : KFinallyAt) (last : List KStmt) → line (s.TryFinally at curly statements catches last_at last) ≡ line_by (KStmt-F.TryFinally at curly (map line statements) (map catch catches) last_at (map line last))
line_TryFinally at curly statements catches last_at last = line_form (KStmt-F.TryFinally at curly statements catches last_at last) _ (s.rolls-TryFinally at curly statements catches last_at last)

pub shown_TryFinally : (at : Position) (curly : Brackets) (last_at : KFinallyAt) {statements : List KStmt} {catches : List KCatch} {last : List KStmt} {statements_does : List Line} {catches_does : List Catch} {last_does : List Line} → AllShow statements statements_does → AllCatch catches catches_does → AllShow last last_does → Shows (s.TryFinally at curly statements catches last_at last) (line_by (KStmt-F.TryFinally at curly statements_does catches_does last_at last_does))
shown_TryFinally at curly last_at {statements} {catches} {last} {statements_does} {catches_does} {last_does} statements_shows catches_shows last_shows = record { is = line_TryFinally at curly statements catches last_at last ∙ ap (λ (z : List Line). line_by (KStmt-F.TryFinally at curly z (map catch catches) last_at (map line last))) statements_shows.is ∙ ap (λ (z : List Catch). line_by (KStmt-F.TryFinally at curly statements_does z last_at (map line last))) catches_shows.is ∙ ap (λ (z : List Line). line_by (KStmt-F.TryFinally at curly statements_does catches_does last_at z)) last_shows.is }

pub line_Synchronized : (at : KHeadAt) (lock : KExpr) (curly : Brackets) (statements : List KStmt) → line (s.Synchronized at lock curly statements) ≡ line_by (KStmt-F.Synchronized at (said lock) curly (map line statements))
line_Synchronized at lock curly statements = line_form (KStmt-F.Synchronized at lock curly statements) _ (s.rolls-Synchronized at lock curly statements)

pub shown_Synchronized : (at : KHeadAt) (curly : Brackets) {lock : KExpr} {statements : List KStmt} {lock_does : Said} {statements_does : List Line} → Says lock lock_does → AllShow statements statements_does → Shows (s.Synchronized at lock curly statements) (line_by (KStmt-F.Synchronized at lock_does curly statements_does))
shown_Synchronized at curly {lock} {statements} {lock_does} {statements_does} lock_shows statements_shows = record { is = line_Synchronized at lock curly statements ∙ ap (λ (z : Said). line_by (KStmt-F.Synchronized at z curly (map line statements))) lock_shows.is ∙ ap (λ (z : List Line). line_by (KStmt-F.Synchronized at lock_does curly z)) statements_shows.is }
