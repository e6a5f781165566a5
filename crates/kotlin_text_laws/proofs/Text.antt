-- The text of expressions and statements without their places is that without their comments.
use Rattle.std.proofs.Common.{◌≡◌, refl, ap, sym, ◌∙◌}
use Rattle.kotlin_tree.specs.declared.expressions.KExpr.{KExpr, roll-KExpr, map-KExpr, fold-roll-KExpr}
use Rattle.kotlin_tree.specs.declared.expressions.KExpr.TheOpen.{KExpr-F, KStmt-F, KChoice-F, KBranch-F, KCatch-F}
use Rattle.kotlin_tree.specs.declared.expressions.KChoice.{KChoice, roll-KChoice, map-KChoice, fold-KChoice, fold-roll-KChoice}
use Rattle.kotlin_tree.specs.declared.statements.KStmt.{KStmt, roll-KStmt, map-KStmt, fold-roll-KStmt}
use Rattle.kotlin_tree.specs.declared.statements.KBranch.{KBranch, roll-KBranch, map-KBranch, fold-KBranch, fold-roll-KBranch}
use Rattle.kotlin_tree.specs.declared.statements.KCatch.{KCatch, roll-KCatch, map-KCatch, fold-KCatch, fold-roll-KCatch}
use Rattle.kotlin_tree.specs.UpToPlaces.{unplaced_expression_by, unplaced_expression, unplaced_statement}
use Rattle.kotlin_layout.specs.Roles.{Roles}
use Rattle.kotlin_layout.specs.Shown.{Placed, branch_by, branch_roles, catch_by, catch_roles, choice_by, choice_roles, expression_by, expression_roles, statement_by, statement_roles}
use Rattle.kotlin_text_laws.specs.Uncommented.{uncommented_statement_by, uncommented_expression, uncommented_statement, uncommented_choice, uncommented_branch, uncommented_catch}
use Rattle.kotlin_text_laws.proofs.Unique.{unique_expression, unique_statement, unique_choice, unique_branch, unique_catch}
use Rattle.kotlin_text_laws.proofs.Twice.{twice_expression, twice_statement, twice_choice, twice_branch, twice_catch}
use Rattle.kotlin_text_laws.proofs.Forms.{expression_unplaced, statement_unplaced, choice_unplaced, branch_unplaced, catch_unplaced, expression_rolls, statement_rolls, expression_same, code_by, statement_same, catch_same, code_rolled}
use Rattle.kotlin_tree.specs.UpToPlaces.{unplaced_statement_by, unplaced_choice_by, unplaced_branch_by, unplaced_catch_by}

-- choices, branches and catches without their places
abbrev pub unplaced_choice : KChoice → KChoice
unplaced_choice = fold-KChoice KExpr KStmt KChoice KBranch KCatch unplaced_expression_by unplaced_statement_by unplaced_choice_by unplaced_branch_by unplaced_catch_by

abbrev pub unplaced_branch : KBranch → KBranch
unplaced_branch = fold-KBranch KExpr KStmt KChoice KBranch KCatch unplaced_expression_by unplaced_statement_by unplaced_choice_by unplaced_branch_by unplaced_catch_by

abbrev pub unplaced_catch : KCatch → KCatch
unplaced_catch = fold-KCatch KExpr KStmt KChoice KBranch KCatch unplaced_expression_by unplaced_statement_by unplaced_choice_by unplaced_branch_by unplaced_catch_by

expression_rolled : (x : KExpr-F KExpr KStmt KChoice KBranch KCatch) → expression_roles (roll-KExpr x) ≡ expression_by (map-KExpr KExpr KStmt KChoice KBranch KCatch Placed Roles Roles Roles Roles expression_roles statement_roles choice_roles branch_roles catch_roles x)
unfolding expression_roles statement_roles choice_roles branch_roles catch_roles
expression_rolled x = fold-roll-KExpr Placed Roles Roles Roles Roles expression_by statement_by choice_by branch_by catch_by x

choice_rolled : (x : KChoice-F KExpr KStmt KChoice KBranch KCatch) → choice_roles (roll-KChoice x) ≡ choice_by (map-KChoice KExpr KStmt KChoice KBranch KCatch Placed Roles Roles Roles Roles expression_roles statement_roles choice_roles branch_roles catch_roles x)
unfolding expression_roles statement_roles choice_roles branch_roles catch_roles
choice_rolled x = fold-roll-KChoice Placed Roles Roles Roles Roles expression_by statement_by choice_by branch_by catch_by x

branch_rolled : (x : KBranch-F KExpr KStmt KChoice KBranch KCatch) → branch_roles (roll-KBranch x) ≡ branch_by (map-KBranch KExpr KStmt KChoice KBranch KCatch Placed Roles Roles Roles Roles expression_roles statement_roles choice_roles branch_roles catch_roles x)
unfolding expression_roles statement_roles choice_roles branch_roles catch_roles
branch_rolled x = fold-roll-KBranch Placed Roles Roles Roles Roles expression_by statement_by choice_by branch_by catch_by x

catch_rolled : (x : KCatch-F KExpr KStmt KChoice KBranch KCatch) → catch_roles (roll-KCatch x) ≡ catch_by (map-KCatch KExpr KStmt KChoice KBranch KCatch Placed Roles Roles Roles Roles expression_roles statement_roles choice_roles branch_roles catch_roles x)
unfolding expression_roles statement_roles choice_roles branch_roles catch_roles
catch_rolled x = fold-roll-KCatch Placed Roles Roles Roles Roles expression_by statement_by choice_by branch_by catch_by x

expression_nat : (x : KExpr-F KExpr KStmt KChoice KBranch KCatch) → expression_by (map-KExpr KExpr KStmt KChoice KBranch KCatch Placed Roles Roles Roles Roles expression_roles statement_roles choice_roles branch_roles catch_roles (expression_unplaced x)) ≡ expression_by (expression_unplaced (map-KExpr KExpr KStmt KChoice KBranch KCatch Placed Roles Roles Roles Roles expression_roles statement_roles choice_roles branch_roles catch_roles x))
expression_nat (KExpr-F.Literal x at) = refl
expression_nat (KExpr-F.Name x) = refl
expression_nat (KExpr-F.This at) = refl
expression_nat (KExpr-F.Paren round inner) = refl
expression_nat (KExpr-F.Call x types round arguments commas) = refl
expression_nat (KExpr-F.SuperCall at x round arguments commas) = refl
expression_nat (KExpr-F.Field object dot x) = refl
expression_nat (KExpr-F.Method object dot x types round arguments commas) = refl
expression_nat (KExpr-F.Element array square index) = refl
expression_nat (KExpr-F.Postfix operand o at) = refl
expression_nat (KExpr-F.Prefix o at operand) = refl
expression_nat (KExpr-F.As value at kind) = refl
expression_nat (KExpr-F.Is value at kind) = refl
expression_nat (KExpr-F.Binary left o at right) = refl
expression_nat (KExpr-F.IfValue at condition value else_at other) = refl
expression_nat (KExpr-F.WhenValue at subject curly choices else_at other) = refl
expression_nat (KExpr-F.Lambda face curly names statements) = refl
expression_nat (KExpr-F.Run at curly statements) = refl
expression_nat (KExpr-F.Class x at) = refl

statement_nat : (x : KStmt-F KExpr KStmt KChoice KBranch KCatch) → code_by (map-KStmt KExpr KStmt KChoice KBranch KCatch Placed Roles Roles Roles Roles expression_roles statement_roles choice_roles branch_roles catch_roles (statement_unplaced x)) ≡ code_by (statement_unplaced (map-KStmt KExpr KStmt KChoice KBranch KCatch Placed Roles Roles Roles Roles expression_roles statement_roles choice_roles branch_roles catch_roles x))
statement_nat (KStmt-F.Commented comments statement) = refl
statement_nat (KStmt-F.Declared x) = refl
statement_nat (KStmt-F.Local x at value) = refl
statement_nat (KStmt-F.Expression x) = refl
statement_nat (KStmt-F.Assign target at value) = refl
statement_nat (KStmt-F.While label at condition curly statements) = refl
statement_nat (KStmt-F.DoWhile label do_at curly statements at condition) = refl
statement_nat (KStmt-F.For label at x in_at values curly statements) = refl
statement_nat (KStmt-F.ForRange label at x in_at first until_at end curly statements) = refl
statement_nat (KStmt-F.If at condition curly statements) = refl
statement_nat (KStmt-F.IfElse at condition curly statements else_at other_curly others) = refl
statement_nat (KStmt-F.IfElseIf at condition curly statements else_at other) = refl
statement_nat (KStmt-F.When at subject curly branches else_at other_curly others) = refl
statement_nat (KStmt-F.Break at target) = refl
statement_nat (KStmt-F.Continue at target) = refl
statement_nat (KStmt-F.Return at target) = refl
statement_nat (KStmt-F.Give at target value) = refl
statement_nat (KStmt-F.Throw at value) = refl
statement_nat (KStmt-F.Try at curly statements catches) = refl
statement_nat (KStmt-F.TryFinally at curly statements catches last_at last) = refl
statement_nat (KStmt-F.Synchronized at lock curly statements) = refl

choice_nat : (x : KChoice-F KExpr KStmt KChoice KBranch KCatch) → choice_by (map-KChoice KExpr KStmt KChoice KBranch KCatch Placed Roles Roles Roles Roles expression_roles statement_roles choice_roles branch_roles catch_roles (choice_unplaced x)) ≡ choice_by (choice_unplaced (map-KChoice KExpr KStmt KChoice KBranch KCatch Placed Roles Roles Roles Roles expression_roles statement_roles choice_roles branch_roles catch_roles x))
choice_nat x = refl

branch_nat : (x : KBranch-F KExpr KStmt KChoice KBranch KCatch) → branch_by (map-KBranch KExpr KStmt KChoice KBranch KCatch Placed Roles Roles Roles Roles expression_roles statement_roles choice_roles branch_roles catch_roles (branch_unplaced x)) ≡ branch_by (branch_unplaced (map-KBranch KExpr KStmt KChoice KBranch KCatch Placed Roles Roles Roles Roles expression_roles statement_roles choice_roles branch_roles catch_roles x))
branch_nat x = refl

catch_nat : (x : KCatch-F KExpr KStmt KChoice KBranch KCatch) → catch_by (map-KCatch KExpr KStmt KChoice KBranch KCatch Placed Roles Roles Roles Roles expression_roles statement_roles choice_roles branch_roles catch_roles (catch_unplaced x)) ≡ catch_by (catch_unplaced (map-KCatch KExpr KStmt KChoice KBranch KCatch Placed Roles Roles Roles Roles expression_roles statement_roles choice_roles branch_roles catch_roles x))
catch_nat x = refl

expression_unplaced_text : (x : KExpr-F KExpr KStmt KChoice KBranch KCatch) → expression_roles (unplaced_expression (roll-KExpr x)) ≡ expression_by (map-KExpr KExpr KStmt KChoice KBranch KCatch Placed Roles Roles Roles Roles (λ z. expression_roles (unplaced_expression z)) (λ z. statement_roles (unplaced_statement z)) (λ z. choice_roles (unplaced_choice z)) (λ z. branch_roles (unplaced_branch z)) (λ z. catch_roles (unplaced_catch z)) x)
unfolding unplaced_expression unplaced_statement
expression_unplaced_text x =
    ap expression_roles (fold-roll-KExpr KExpr KStmt KChoice KBranch KCatch unplaced_expression_by unplaced_statement_by unplaced_choice_by unplaced_branch_by unplaced_catch_by x ∙ expression_rolls (map-KExpr KExpr KStmt KChoice KBranch KCatch KExpr KStmt KChoice KBranch KCatch unplaced_expression unplaced_statement unplaced_choice unplaced_branch unplaced_catch x))
    ∙ expression_rolled (expression_unplaced (map-KExpr KExpr KStmt KChoice KBranch KCatch KExpr KStmt KChoice KBranch KCatch unplaced_expression unplaced_statement unplaced_choice unplaced_branch unplaced_catch x))
    ∙ expression_nat (map-KExpr KExpr KStmt KChoice KBranch KCatch KExpr KStmt KChoice KBranch KCatch unplaced_expression unplaced_statement unplaced_choice unplaced_branch unplaced_catch x)
    ∙ ap (λ z. expression_by (expression_unplaced z)) (twice_expression Placed Roles Roles Roles Roles unplaced_expression unplaced_statement unplaced_choice unplaced_branch unplaced_catch expression_roles statement_roles choice_roles branch_roles catch_roles x)
    ∙ expression_same (map-KExpr KExpr KStmt KChoice KBranch KCatch Placed Roles Roles Roles Roles (λ z. expression_roles (unplaced_expression z)) (λ z. statement_roles (unplaced_statement z)) (λ z. choice_roles (unplaced_choice z)) (λ z. branch_roles (unplaced_branch z)) (λ z. catch_roles (unplaced_catch z)) x)

expression_uncommented_text : (x : KExpr-F KExpr KStmt KChoice KBranch KCatch) → expression_roles (uncommented_expression (roll-KExpr x)) ≡ expression_by (map-KExpr KExpr KStmt KChoice KBranch KCatch Placed Roles Roles Roles Roles (λ z. expression_roles (uncommented_expression z)) (λ z. statement_roles (uncommented_statement z)) (λ z. choice_roles (uncommented_choice z)) (λ z. branch_roles (uncommented_branch z)) (λ z. catch_roles (uncommented_catch z)) x)
unfolding uncommented_expression uncommented_statement uncommented_choice uncommented_branch uncommented_catch
expression_uncommented_text x =
    ap expression_roles (fold-roll-KExpr KExpr KStmt KChoice KBranch KCatch roll-KExpr uncommented_statement_by roll-KChoice roll-KBranch roll-KCatch x)
    ∙ expression_rolled (map-KExpr KExpr KStmt KChoice KBranch KCatch KExpr KStmt KChoice KBranch KCatch uncommented_expression uncommented_statement uncommented_choice uncommented_branch uncommented_catch x)
    ∙ ap expression_by (twice_expression Placed Roles Roles Roles Roles uncommented_expression uncommented_statement uncommented_choice uncommented_branch uncommented_catch expression_roles statement_roles choice_roles branch_roles catch_roles x)

statement_unplaced_text : (x : KStmt-F KExpr KStmt KChoice KBranch KCatch) → statement_roles (unplaced_statement (roll-KStmt x)) ≡ code_by (map-KStmt KExpr KStmt KChoice KBranch KCatch Placed Roles Roles Roles Roles (λ z. expression_roles (unplaced_expression z)) (λ z. statement_roles (unplaced_statement z)) (λ z. choice_roles (unplaced_choice z)) (λ z. branch_roles (unplaced_branch z)) (λ z. catch_roles (unplaced_catch z)) x)
unfolding unplaced_expression unplaced_statement
statement_unplaced_text x =
    ap statement_roles (fold-roll-KStmt KExpr KStmt KChoice KBranch KCatch unplaced_expression_by unplaced_statement_by unplaced_choice_by unplaced_branch_by unplaced_catch_by x ∙ statement_rolls (map-KStmt KExpr KStmt KChoice KBranch KCatch KExpr KStmt KChoice KBranch KCatch unplaced_expression unplaced_statement unplaced_choice unplaced_branch unplaced_catch x))
    ∙ code_rolled (statement_unplaced (map-KStmt KExpr KStmt KChoice KBranch KCatch KExpr KStmt KChoice KBranch KCatch unplaced_expression unplaced_statement unplaced_choice unplaced_branch unplaced_catch x))
    ∙ statement_nat (map-KStmt KExpr KStmt KChoice KBranch KCatch KExpr KStmt KChoice KBranch KCatch unplaced_expression unplaced_statement unplaced_choice unplaced_branch unplaced_catch x)
    ∙ ap (λ z. code_by (statement_unplaced z)) (twice_statement Placed Roles Roles Roles Roles unplaced_expression unplaced_statement unplaced_choice unplaced_branch unplaced_catch expression_roles statement_roles choice_roles branch_roles catch_roles x)
    ∙ statement_same (map-KStmt KExpr KStmt KChoice KBranch KCatch Placed Roles Roles Roles Roles (λ z. expression_roles (unplaced_expression z)) (λ z. statement_roles (unplaced_statement z)) (λ z. choice_roles (unplaced_choice z)) (λ z. branch_roles (unplaced_branch z)) (λ z. catch_roles (unplaced_catch z)) x)

statement_uncommented_text : (x : KStmt-F KExpr KStmt KChoice KBranch KCatch) → statement_roles (uncommented_statement (roll-KStmt x)) ≡ code_by (map-KStmt KExpr KStmt KChoice KBranch KCatch Placed Roles Roles Roles Roles (λ z. expression_roles (uncommented_expression z)) (λ z. statement_roles (uncommented_statement z)) (λ z. choice_roles (uncommented_choice z)) (λ z. branch_roles (uncommented_branch z)) (λ z. catch_roles (uncommented_catch z)) x)
unfolding uncommented_expression uncommented_statement uncommented_choice uncommented_branch uncommented_catch
statement_uncommented_text x =
    ap statement_roles (fold-roll-KStmt KExpr KStmt KChoice KBranch KCatch roll-KExpr uncommented_statement_by roll-KChoice roll-KBranch roll-KCatch x)
    ∙ code_rolled (map-KStmt KExpr KStmt KChoice KBranch KCatch KExpr KStmt KChoice KBranch KCatch uncommented_expression uncommented_statement uncommented_choice uncommented_branch uncommented_catch x)
    ∙ ap code_by (twice_statement Placed Roles Roles Roles Roles uncommented_expression uncommented_statement uncommented_choice uncommented_branch uncommented_catch expression_roles statement_roles choice_roles branch_roles catch_roles x)

choice_unplaced_text : (x : KChoice-F KExpr KStmt KChoice KBranch KCatch) → choice_roles (unplaced_choice (roll-KChoice x)) ≡ choice_by (map-KChoice KExpr KStmt KChoice KBranch KCatch Placed Roles Roles Roles Roles (λ z. expression_roles (unplaced_expression z)) (λ z. statement_roles (unplaced_statement z)) (λ z. choice_roles (unplaced_choice z)) (λ z. branch_roles (unplaced_branch z)) (λ z. catch_roles (unplaced_catch z)) x)
unfolding unplaced_expression unplaced_statement
choice_unplaced_text x =
    ap choice_roles (fold-roll-KChoice KExpr KStmt KChoice KBranch KCatch unplaced_expression_by unplaced_statement_by unplaced_choice_by unplaced_branch_by unplaced_catch_by x)
    ∙ choice_rolled (choice_unplaced (map-KChoice KExpr KStmt KChoice KBranch KCatch KExpr KStmt KChoice KBranch KCatch unplaced_expression unplaced_statement unplaced_choice unplaced_branch unplaced_catch x))
    ∙ choice_nat (map-KChoice KExpr KStmt KChoice KBranch KCatch KExpr KStmt KChoice KBranch KCatch unplaced_expression unplaced_statement unplaced_choice unplaced_branch unplaced_catch x)
    ∙ ap (λ z. choice_by (choice_unplaced z)) (twice_choice Placed Roles Roles Roles Roles unplaced_expression unplaced_statement unplaced_choice unplaced_branch unplaced_catch expression_roles statement_roles choice_roles branch_roles catch_roles x)

choice_uncommented_text : (x : KChoice-F KExpr KStmt KChoice KBranch KCatch) → choice_roles (uncommented_choice (roll-KChoice x)) ≡ choice_by (map-KChoice KExpr KStmt KChoice KBranch KCatch Placed Roles Roles Roles Roles (λ z. expression_roles (uncommented_expression z)) (λ z. statement_roles (uncommented_statement z)) (λ z. choice_roles (uncommented_choice z)) (λ z. branch_roles (uncommented_branch z)) (λ z. catch_roles (uncommented_catch z)) x)
unfolding uncommented_expression uncommented_statement uncommented_choice uncommented_branch uncommented_catch
choice_uncommented_text x =
    ap choice_roles (fold-roll-KChoice KExpr KStmt KChoice KBranch KCatch roll-KExpr uncommented_statement_by roll-KChoice roll-KBranch roll-KCatch x)
    ∙ choice_rolled (map-KChoice KExpr KStmt KChoice KBranch KCatch KExpr KStmt KChoice KBranch KCatch uncommented_expression uncommented_statement uncommented_choice uncommented_branch uncommented_catch x)
    ∙ ap choice_by (twice_choice Placed Roles Roles Roles Roles uncommented_expression uncommented_statement uncommented_choice uncommented_branch uncommented_catch expression_roles statement_roles choice_roles branch_roles catch_roles x)

branch_unplaced_text : (x : KBranch-F KExpr KStmt KChoice KBranch KCatch) → branch_roles (unplaced_branch (roll-KBranch x)) ≡ branch_by (map-KBranch KExpr KStmt KChoice KBranch KCatch Placed Roles Roles Roles Roles (λ z. expression_roles (unplaced_expression z)) (λ z. statement_roles (unplaced_statement z)) (λ z. choice_roles (unplaced_choice z)) (λ z. branch_roles (unplaced_branch z)) (λ z. catch_roles (unplaced_catch z)) x)
unfolding unplaced_expression unplaced_statement
branch_unplaced_text x =
    ap branch_roles (fold-roll-KBranch KExpr KStmt KChoice KBranch KCatch unplaced_expression_by unplaced_statement_by unplaced_choice_by unplaced_branch_by unplaced_catch_by x)
    ∙ branch_rolled (branch_unplaced (map-KBranch KExpr KStmt KChoice KBranch KCatch KExpr KStmt KChoice KBranch KCatch unplaced_expression unplaced_statement unplaced_choice unplaced_branch unplaced_catch x))
    ∙ branch_nat (map-KBranch KExpr KStmt KChoice KBranch KCatch KExpr KStmt KChoice KBranch KCatch unplaced_expression unplaced_statement unplaced_choice unplaced_branch unplaced_catch x)
    ∙ ap (λ z. branch_by (branch_unplaced z)) (twice_branch Placed Roles Roles Roles Roles unplaced_expression unplaced_statement unplaced_choice unplaced_branch unplaced_catch expression_roles statement_roles choice_roles branch_roles catch_roles x)

branch_uncommented_text : (x : KBranch-F KExpr KStmt KChoice KBranch KCatch) → branch_roles (uncommented_branch (roll-KBranch x)) ≡ branch_by (map-KBranch KExpr KStmt KChoice KBranch KCatch Placed Roles Roles Roles Roles (λ z. expression_roles (uncommented_expression z)) (λ z. statement_roles (uncommented_statement z)) (λ z. choice_roles (uncommented_choice z)) (λ z. branch_roles (uncommented_branch z)) (λ z. catch_roles (uncommented_catch z)) x)
unfolding uncommented_expression uncommented_statement uncommented_choice uncommented_branch uncommented_catch
branch_uncommented_text x =
    ap branch_roles (fold-roll-KBranch KExpr KStmt KChoice KBranch KCatch roll-KExpr uncommented_statement_by roll-KChoice roll-KBranch roll-KCatch x)
    ∙ branch_rolled (map-KBranch KExpr KStmt KChoice KBranch KCatch KExpr KStmt KChoice KBranch KCatch uncommented_expression uncommented_statement uncommented_choice uncommented_branch uncommented_catch x)
    ∙ ap branch_by (twice_branch Placed Roles Roles Roles Roles uncommented_expression uncommented_statement uncommented_choice uncommented_branch uncommented_catch expression_roles statement_roles choice_roles branch_roles catch_roles x)

catch_unplaced_text : (x : KCatch-F KExpr KStmt KChoice KBranch KCatch) → catch_roles (unplaced_catch (roll-KCatch x)) ≡ catch_by (map-KCatch KExpr KStmt KChoice KBranch KCatch Placed Roles Roles Roles Roles (λ z. expression_roles (unplaced_expression z)) (λ z. statement_roles (unplaced_statement z)) (λ z. choice_roles (unplaced_choice z)) (λ z. branch_roles (unplaced_branch z)) (λ z. catch_roles (unplaced_catch z)) x)
unfolding unplaced_expression unplaced_statement
catch_unplaced_text x =
    ap catch_roles (fold-roll-KCatch KExpr KStmt KChoice KBranch KCatch unplaced_expression_by unplaced_statement_by unplaced_choice_by unplaced_branch_by unplaced_catch_by x)
    ∙ catch_rolled (catch_unplaced (map-KCatch KExpr KStmt KChoice KBranch KCatch KExpr KStmt KChoice KBranch KCatch unplaced_expression unplaced_statement unplaced_choice unplaced_branch unplaced_catch x))
    ∙ catch_nat (map-KCatch KExpr KStmt KChoice KBranch KCatch KExpr KStmt KChoice KBranch KCatch unplaced_expression unplaced_statement unplaced_choice unplaced_branch unplaced_catch x)
    ∙ ap (λ z. catch_by (catch_unplaced z)) (twice_catch Placed Roles Roles Roles Roles unplaced_expression unplaced_statement unplaced_choice unplaced_branch unplaced_catch expression_roles statement_roles choice_roles branch_roles catch_roles x)
    ∙ catch_same (map-KCatch KExpr KStmt KChoice KBranch KCatch Placed Roles Roles Roles Roles (λ z. expression_roles (unplaced_expression z)) (λ z. statement_roles (unplaced_statement z)) (λ z. choice_roles (unplaced_choice z)) (λ z. branch_roles (unplaced_branch z)) (λ z. catch_roles (unplaced_catch z)) x)

catch_uncommented_text : (x : KCatch-F KExpr KStmt KChoice KBranch KCatch) → catch_roles (uncommented_catch (roll-KCatch x)) ≡ catch_by (map-KCatch KExpr KStmt KChoice KBranch KCatch Placed Roles Roles Roles Roles (λ z. expression_roles (uncommented_expression z)) (λ z. statement_roles (uncommented_statement z)) (λ z. choice_roles (uncommented_choice z)) (λ z. branch_roles (uncommented_branch z)) (λ z. catch_roles (uncommented_catch z)) x)
unfolding uncommented_expression uncommented_statement uncommented_choice uncommented_branch uncommented_catch
catch_uncommented_text x =
    ap catch_roles (fold-roll-KCatch KExpr KStmt KChoice KBranch KCatch roll-KExpr uncommented_statement_by roll-KChoice roll-KBranch roll-KCatch x)
    ∙ catch_rolled (map-KCatch KExpr KStmt KChoice KBranch KCatch KExpr KStmt KChoice KBranch KCatch uncommented_expression uncommented_statement uncommented_choice uncommented_branch uncommented_catch x)
    ∙ ap catch_by (twice_catch Placed Roles Roles Roles Roles uncommented_expression uncommented_statement uncommented_choice uncommented_branch uncommented_catch expression_roles statement_roles choice_roles branch_roles catch_roles x)

pub expression_text : (x : KExpr) → expression_roles (unplaced_expression x) ≡ expression_roles (uncommented_expression x)
expression_text x =
    unique_expression Placed Roles Roles Roles Roles expression_by code_by choice_by branch_by catch_by (λ z. expression_roles (unplaced_expression z)) (λ z. statement_roles (unplaced_statement z)) (λ z. choice_roles (unplaced_choice z)) (λ z. branch_roles (unplaced_branch z)) (λ z. catch_roles (unplaced_catch z)) expression_unplaced_text statement_unplaced_text choice_unplaced_text branch_unplaced_text catch_unplaced_text x
    ∙ sym (unique_expression Placed Roles Roles Roles Roles expression_by code_by choice_by branch_by catch_by (λ z. expression_roles (uncommented_expression z)) (λ z. statement_roles (uncommented_statement z)) (λ z. choice_roles (uncommented_choice z)) (λ z. branch_roles (uncommented_branch z)) (λ z. catch_roles (uncommented_catch z)) expression_uncommented_text statement_uncommented_text choice_uncommented_text branch_uncommented_text catch_uncommented_text x)

pub statement_text : (x : KStmt) → statement_roles (unplaced_statement x) ≡ statement_roles (uncommented_statement x)
statement_text x =
    unique_statement Placed Roles Roles Roles Roles expression_by code_by choice_by branch_by catch_by (λ z. expression_roles (unplaced_expression z)) (λ z. statement_roles (unplaced_statement z)) (λ z. choice_roles (unplaced_choice z)) (λ z. branch_roles (unplaced_branch z)) (λ z. catch_roles (unplaced_catch z)) expression_unplaced_text statement_unplaced_text choice_unplaced_text branch_unplaced_text catch_unplaced_text x
    ∙ sym (unique_statement Placed Roles Roles Roles Roles expression_by code_by choice_by branch_by catch_by (λ z. expression_roles (uncommented_expression z)) (λ z. statement_roles (uncommented_statement z)) (λ z. choice_roles (uncommented_choice z)) (λ z. branch_roles (uncommented_branch z)) (λ z. catch_roles (uncommented_catch z)) expression_uncommented_text statement_uncommented_text choice_uncommented_text branch_uncommented_text catch_uncommented_text x)

pub choice_text : (x : KChoice) → choice_roles (unplaced_choice x) ≡ choice_roles (uncommented_choice x)
choice_text x =
    unique_choice Placed Roles Roles Roles Roles expression_by code_by choice_by branch_by catch_by (λ z. expression_roles (unplaced_expression z)) (λ z. statement_roles (unplaced_statement z)) (λ z. choice_roles (unplaced_choice z)) (λ z. branch_roles (unplaced_branch z)) (λ z. catch_roles (unplaced_catch z)) expression_unplaced_text statement_unplaced_text choice_unplaced_text branch_unplaced_text catch_unplaced_text x
    ∙ sym (unique_choice Placed Roles Roles Roles Roles expression_by code_by choice_by branch_by catch_by (λ z. expression_roles (uncommented_expression z)) (λ z. statement_roles (uncommented_statement z)) (λ z. choice_roles (uncommented_choice z)) (λ z. branch_roles (uncommented_branch z)) (λ z. catch_roles (uncommented_catch z)) expression_uncommented_text statement_uncommented_text choice_uncommented_text branch_uncommented_text catch_uncommented_text x)

pub branch_text : (x : KBranch) → branch_roles (unplaced_branch x) ≡ branch_roles (uncommented_branch x)
branch_text x =
    unique_branch Placed Roles Roles Roles Roles expression_by code_by choice_by branch_by catch_by (λ z. expression_roles (unplaced_expression z)) (λ z. statement_roles (unplaced_statement z)) (λ z. choice_roles (unplaced_choice z)) (λ z. branch_roles (unplaced_branch z)) (λ z. catch_roles (unplaced_catch z)) expression_unplaced_text statement_unplaced_text choice_unplaced_text branch_unplaced_text catch_unplaced_text x
    ∙ sym (unique_branch Placed Roles Roles Roles Roles expression_by code_by choice_by branch_by catch_by (λ z. expression_roles (uncommented_expression z)) (λ z. statement_roles (uncommented_statement z)) (λ z. choice_roles (uncommented_choice z)) (λ z. branch_roles (uncommented_branch z)) (λ z. catch_roles (uncommented_catch z)) expression_uncommented_text statement_uncommented_text choice_uncommented_text branch_uncommented_text catch_uncommented_text x)

pub catch_text : (x : KCatch) → catch_roles (unplaced_catch x) ≡ catch_roles (uncommented_catch x)
catch_text x =
    unique_catch Placed Roles Roles Roles Roles expression_by code_by choice_by branch_by catch_by (λ z. expression_roles (unplaced_expression z)) (λ z. statement_roles (unplaced_statement z)) (λ z. choice_roles (unplaced_choice z)) (λ z. branch_roles (unplaced_branch z)) (λ z. catch_roles (unplaced_catch z)) expression_unplaced_text statement_unplaced_text choice_unplaced_text branch_unplaced_text catch_unplaced_text x
    ∙ sym (unique_catch Placed Roles Roles Roles Roles expression_by code_by choice_by branch_by catch_by (λ z. expression_roles (uncommented_expression z)) (λ z. statement_roles (uncommented_statement z)) (λ z. choice_roles (uncommented_choice z)) (λ z. branch_roles (uncommented_branch z)) (λ z. catch_roles (uncommented_catch z)) expression_uncommented_text statement_uncommented_text choice_uncommented_text branch_uncommented_text catch_uncommented_text x)
