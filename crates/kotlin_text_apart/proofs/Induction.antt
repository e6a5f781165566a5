-- Every expression and every statement: its tokens stand apart.
use Rattle.std.proofs.Common.{◌≡◌, List, [], ◌∷◌, map, sym, subst}
use Rattle.kotlin_tree.specs.declared.expressions.KExpr.{KExpr, roll-KExpr, map-KExpr, fold-roll-KExpr}
use Rattle.kotlin_tree.specs.declared.expressions.KExpr.TheOpen.{KExpr-F, KStmt-F, KChoice-F, KBranch-F, KCatch-F}
use Rattle.kotlin_tree.specs.declared.expressions.KExpr.TheFolds.{map-KStmt, map-KChoice, map-KBranch, map-KCatch, fold-roll-KStmt, fold-roll-KChoice, fold-roll-KBranch, fold-roll-KCatch, ind-KExpr, ind-KStmt}
use Rattle.kotlin_tree.specs.declared.expressions.KExpr.TheViews.{roll-KStmt}
use Rattle.kotlin_tree.specs.declared.expressions.KChoice.{KChoice, roll-KChoice}
use Rattle.kotlin_tree.specs.declared.statements.KStmt.{KStmt}
use Rattle.kotlin_tree.specs.declared.statements.KBranch.{KBranch, roll-KBranch}
use Rattle.kotlin_tree.specs.declared.statements.KCatch.{KCatch, roll-KCatch}
use Rattle.kotlin_layout.specs.Roles.{Roles}
use Rattle.kotlin_layout.specs.Shown.{Placed, expression_by, statement_by, choice_by, branch_by, catch_by, expression_roles, statement_roles, choice_roles, branch_roles, catch_roles}
use Rattle.kotlin_text_apart.proofs.Parts.{Stands, AllStand}
use Rattle.kotlin_text_apart.proofs.Expressions.{Good, AllGood, form_Literal, form_Name, form_This, form_Paren, form_Call, form_SuperCall, form_Field, form_Method, form_Element, form_Postfix, form_Prefix, form_As, form_Is, form_Binary, form_IfValue, form_WhenValue, form_Lambda, form_Run, form_Class}
use Rattle.kotlin_text_apart.proofs.Statements.{Caught, AllCaught, form_Commented, form_Declared, form_Local, form_Expression, form_Assign, form_While, form_DoWhile, form_For, form_ForRange, form_If, form_IfElse, form_IfElseIf, form_When, form_Break, form_Continue, form_Return, form_Give, form_Throw, form_Try, form_TryFinally, form_Synchronized, form_Choice, form_Branch, form_Catch}

abbrev E : Type 0
E = (x : KExpr) × Good (expression_roles x)

abbrev S : Type 0
S = (x : KStmt) × Stands (statement_roles x)

abbrev C : Type 0
C = (x : KChoice) × Stands (choice_roles x)

abbrev B : Type 0
B = (x : KBranch) × Stands (branch_roles x)

abbrev K : Type 0
K = (x : KCatch) × Caught (catch_roles x)

abbrev placed : List E → List Placed
placed xs = map expression_roles (map (λ (x : E). x.0) xs)

abbrev shown : List S → List Roles
shown xs = map statement_roles (map (λ (x : S). x.0) xs)

abbrev choices : List C → List Roles
choices xs = map choice_roles (map (λ (x : C). x.0) xs)

abbrev branches : List B → List Roles
branches xs = map branch_roles (map (λ (x : B). x.0) xs)

abbrev catches : List K → List Roles
catches xs = map catch_roles (map (λ (x : K). x.0) xs)

all_E : (xs : List E) → AllGood (placed xs)
all_E [] = tt
all_E (x ∷ xs) = (x.1, all_E xs)

all_S : (xs : List S) → AllStand (shown xs)
all_S [] = tt
all_S (x ∷ xs) = (x.1, all_S xs)

all_C : (xs : List C) → AllStand (choices xs)
all_C [] = tt
all_C (x ∷ xs) = (x.1, all_C xs)

all_B : (xs : List B) → AllStand (branches xs)
all_B [] = tt
all_B (x ∷ xs) = (x.1, all_B xs)

all_K : (xs : List K) → AllCaught (catches xs)
all_K [] = tt
all_K (x ∷ xs) = (x.1, all_K xs)

expr_layer : (x : KExpr-F E S C B K) → Good (expression_by (map-KExpr KExpr KStmt KChoice KBranch KCatch Placed Roles Roles Roles Roles expression_roles statement_roles choice_roles branch_roles catch_roles (map-KExpr E S C B K KExpr KStmt KChoice KBranch KCatch (λ x. x.0) (λ x. x.0) (λ x. x.0) (λ x. x.0) (λ x. x.0) x)))
expr_layer (KExpr-F.Literal x at) = form_Literal x at
expr_layer (KExpr-F.Name x) = form_Name x
expr_layer (KExpr-F.This at) = form_This at
expr_layer (KExpr-F.Paren round v) = form_Paren round (expression_roles v.0) v.1
expr_layer (KExpr-F.Call x types round vs commas) = form_Call x types round (placed vs) commas (all_E vs)
expr_layer (KExpr-F.SuperCall at x round vs commas) = form_SuperCall at x round (placed vs) commas (all_E vs)
expr_layer (KExpr-F.Field v dot x) = form_Field (expression_roles v.0) dot x v.1
expr_layer (KExpr-F.Method v dot x types round vs commas) = form_Method (expression_roles v.0) dot x types round (placed vs) commas v.1 (all_E vs)
expr_layer (KExpr-F.Element v square u) = form_Element (expression_roles v.0) square (expression_roles u.0) v.1 u.1
expr_layer (KExpr-F.Postfix v o at) = form_Postfix (expression_roles v.0) o at v.1
expr_layer (KExpr-F.Prefix o at v) = form_Prefix o at (expression_roles v.0) v.1
expr_layer (KExpr-F.As v at T) = form_As (expression_roles v.0) at T v.1
expr_layer (KExpr-F.Is v at T) = form_Is (expression_roles v.0) at T v.1
expr_layer (KExpr-F.Binary v o at u) = form_Binary (expression_roles v.0) o at (expression_roles u.0) v.1 u.1
expr_layer (KExpr-F.IfValue at v u else_at z) = form_IfValue at (expression_roles v.0) (expression_roles u.0) else_at (expression_roles z.0) v.1 u.1 z.1
expr_layer (KExpr-F.WhenValue at v curly cs else_at u) = form_WhenValue at (expression_roles v.0) curly (choices cs) else_at (expression_roles u.0) v.1 (all_C cs) u.1
expr_layer (KExpr-F.Lambda face curly names xs) = form_Lambda face curly names (shown xs) (all_S xs)
expr_layer (KExpr-F.Run at curly xs) = form_Run at curly (shown xs) (all_S xs)
expr_layer (KExpr-F.Class x at) = form_Class x at

stmt_layer : (x : KStmt-F E S C B K) → Stands (statement_by (map-KStmt KExpr KStmt KChoice KBranch KCatch Placed Roles Roles Roles Roles expression_roles statement_roles choice_roles branch_roles catch_roles (map-KStmt E S C B K KExpr KStmt KChoice KBranch KCatch (λ x. x.0) (λ x. x.0) (λ x. x.0) (λ x. x.0) (λ x. x.0) x)))
stmt_layer (KStmt-F.Commented comments x) = form_Commented comments (statement_roles x.0) x.1
stmt_layer (KStmt-F.Declared x) = form_Declared x
stmt_layer (KStmt-F.Local x at v) = form_Local x at (expression_roles v.0) v.1
stmt_layer (KStmt-F.Expression v) = form_Expression (expression_roles v.0) v.1
stmt_layer (KStmt-F.Assign v at u) = form_Assign (expression_roles v.0) at (expression_roles u.0) v.1 u.1
stmt_layer (KStmt-F.While l at v curly xs) = form_While l at (expression_roles v.0) curly (shown xs) v.1 (all_S xs)
stmt_layer (KStmt-F.DoWhile l do_at curly xs at v) = form_DoWhile l do_at curly (shown xs) at (expression_roles v.0) v.1 (all_S xs)
stmt_layer (KStmt-F.For l at x in_at v curly xs) = form_For l at x in_at (expression_roles v.0) curly (shown xs) v.1 (all_S xs)
stmt_layer (KStmt-F.ForRange l at x in_at v until_at u curly xs) = form_ForRange l at x in_at (expression_roles v.0) until_at (expression_roles u.0) curly (shown xs) v.1 u.1 (all_S xs)
stmt_layer (KStmt-F.If at v curly xs) = form_If at (expression_roles v.0) curly (shown xs) v.1 (all_S xs)
stmt_layer (KStmt-F.IfElse at v curly xs else_at other ys) = form_IfElse at (expression_roles v.0) curly (shown xs) else_at other (shown ys) v.1 (all_S xs) (all_S ys)
stmt_layer (KStmt-F.IfElseIf at v curly xs else_at x) = form_IfElseIf at (expression_roles v.0) curly (shown xs) else_at (statement_roles x.0) v.1 (all_S xs) x.1
stmt_layer (KStmt-F.When at v curly bs else_at other ys) = form_When at (expression_roles v.0) curly (branches bs) else_at other (shown ys) v.1 (all_B bs) (all_S ys)
stmt_layer (KStmt-F.Break at to) = form_Break at to
stmt_layer (KStmt-F.Continue at to) = form_Continue at to
stmt_layer (KStmt-F.Return at to) = form_Return at to
stmt_layer (KStmt-F.Give at to v) = form_Give at to (expression_roles v.0) v.1
stmt_layer (KStmt-F.Throw at v) = form_Throw at (expression_roles v.0) v.1
stmt_layer (KStmt-F.Try at curly xs ks) = form_Try at curly (shown xs) (catches ks) (all_S xs) (all_K ks)
stmt_layer (KStmt-F.TryFinally at curly xs ks last_at ys) = form_TryFinally at curly (shown xs) (catches ks) last_at (shown ys) (all_S xs) (all_K ks) (all_S ys)
stmt_layer (KStmt-F.Synchronized at v curly xs) = form_Synchronized at (expression_roles v.0) curly (shown xs) v.1 (all_S xs)

choice_layer : (x : KChoice-F E S C B K) → Stands (choice_by (map-KChoice KExpr KStmt KChoice KBranch KCatch Placed Roles Roles Roles Roles expression_roles statement_roles choice_roles branch_roles catch_roles (map-KChoice E S C B K KExpr KStmt KChoice KBranch KCatch (λ x. x.0) (λ x. x.0) (λ x. x.0) (λ x. x.0) (λ x. x.0) x)))
choice_layer x = form_Choice (map-KChoice KExpr KStmt KChoice KBranch KCatch Placed Roles Roles Roles Roles expression_roles statement_roles choice_roles branch_roles catch_roles (map-KChoice E S C B K KExpr KStmt KChoice KBranch KCatch (λ x. x.0) (λ x. x.0) (λ x. x.0) (λ x. x.0) (λ x. x.0) x)) (all_E x.labels) x.value.1

branch_layer : (x : KBranch-F E S C B K) → Stands (branch_by (map-KBranch KExpr KStmt KChoice KBranch KCatch Placed Roles Roles Roles Roles expression_roles statement_roles choice_roles branch_roles catch_roles (map-KBranch E S C B K KExpr KStmt KChoice KBranch KCatch (λ x. x.0) (λ x. x.0) (λ x. x.0) (λ x. x.0) (λ x. x.0) x)))
branch_layer x = form_Branch (map-KBranch KExpr KStmt KChoice KBranch KCatch Placed Roles Roles Roles Roles expression_roles statement_roles choice_roles branch_roles catch_roles (map-KBranch E S C B K KExpr KStmt KChoice KBranch KCatch (λ x. x.0) (λ x. x.0) (λ x. x.0) (λ x. x.0) (λ x. x.0) x)) (all_E x.labels) (all_S x.statements)

catch_layer : (x : KCatch-F E S C B K) → Caught (catch_by (map-KCatch KExpr KStmt KChoice KBranch KCatch Placed Roles Roles Roles Roles expression_roles statement_roles choice_roles branch_roles catch_roles (map-KCatch E S C B K KExpr KStmt KChoice KBranch KCatch (λ x. x.0) (λ x. x.0) (λ x. x.0) (λ x. x.0) (λ x. x.0) x)))
catch_layer x = form_Catch (map-KCatch KExpr KStmt KChoice KBranch KCatch Placed Roles Roles Roles Roles expression_roles statement_roles choice_roles branch_roles catch_roles (map-KCatch E S C B K KExpr KStmt KChoice KBranch KCatch (λ x. x.0) (λ x. x.0) (λ x. x.0) (λ x. x.0) (λ x. x.0) x)) (all_S x.statements)

expr_at : (x : KExpr-F KExpr KStmt KChoice KBranch KCatch) → expression_roles (roll-KExpr x) ≡ expression_by (map-KExpr KExpr KStmt KChoice KBranch KCatch Placed Roles Roles Roles Roles expression_roles statement_roles choice_roles branch_roles catch_roles x)
unfolding expression_roles statement_roles choice_roles branch_roles catch_roles
expr_at x = fold-roll-KExpr Placed Roles Roles Roles Roles expression_by statement_by choice_by branch_by catch_by x

stmt_at : (x : KStmt-F KExpr KStmt KChoice KBranch KCatch) → statement_roles (roll-KStmt x) ≡ statement_by (map-KStmt KExpr KStmt KChoice KBranch KCatch Placed Roles Roles Roles Roles expression_roles statement_roles choice_roles branch_roles catch_roles x)
unfolding expression_roles statement_roles choice_roles branch_roles catch_roles
stmt_at x = fold-roll-KStmt Placed Roles Roles Roles Roles expression_by statement_by choice_by branch_by catch_by x

choice_at : (x : KChoice-F KExpr KStmt KChoice KBranch KCatch) → choice_roles (roll-KChoice x) ≡ choice_by (map-KChoice KExpr KStmt KChoice KBranch KCatch Placed Roles Roles Roles Roles expression_roles statement_roles choice_roles branch_roles catch_roles x)
unfolding expression_roles statement_roles choice_roles branch_roles catch_roles
choice_at x = fold-roll-KChoice Placed Roles Roles Roles Roles expression_by statement_by choice_by branch_by catch_by x

branch_at : (x : KBranch-F KExpr KStmt KChoice KBranch KCatch) → branch_roles (roll-KBranch x) ≡ branch_by (map-KBranch KExpr KStmt KChoice KBranch KCatch Placed Roles Roles Roles Roles expression_roles statement_roles choice_roles branch_roles catch_roles x)
unfolding expression_roles statement_roles choice_roles branch_roles catch_roles
branch_at x = fold-roll-KBranch Placed Roles Roles Roles Roles expression_by statement_by choice_by branch_by catch_by x

catch_at : (x : KCatch-F KExpr KStmt KChoice KBranch KCatch) → catch_roles (roll-KCatch x) ≡ catch_by (map-KCatch KExpr KStmt KChoice KBranch KCatch Placed Roles Roles Roles Roles expression_roles statement_roles choice_roles branch_roles catch_roles x)
unfolding expression_roles statement_roles choice_roles branch_roles catch_roles
catch_at x = fold-roll-KCatch Placed Roles Roles Roles Roles expression_by statement_by choice_by branch_by catch_by x

pub expression_good : (x : KExpr) → Good (expression_roles x)
expression_good = ind-KExpr (λ x. Good (expression_roles x)) (λ x. Stands (statement_roles x)) (λ x. Stands (choice_roles x)) (λ x. Stands (branch_roles x)) (λ x. Caught (catch_roles x))
    (λ x z is. subst (λ (u : KExpr-F KExpr KStmt KChoice KBranch KCatch). Good (expression_roles (roll-KExpr u))) is (subst Good (sym (expr_at (map-KExpr E S C B K KExpr KStmt KChoice KBranch KCatch (λ x. x.0) (λ x. x.0) (λ x. x.0) (λ x. x.0) (λ x. x.0) z))) (expr_layer z)))
    (λ x z is. subst (λ (u : KStmt-F KExpr KStmt KChoice KBranch KCatch). Stands (statement_roles (roll-KStmt u))) is (subst Stands (sym (stmt_at (map-KStmt E S C B K KExpr KStmt KChoice KBranch KCatch (λ x. x.0) (λ x. x.0) (λ x. x.0) (λ x. x.0) (λ x. x.0) z))) (stmt_layer z)))
    (λ x z is. subst (λ (u : KChoice-F KExpr KStmt KChoice KBranch KCatch). Stands (choice_roles (roll-KChoice u))) is (subst Stands (sym (choice_at (map-KChoice E S C B K KExpr KStmt KChoice KBranch KCatch (λ x. x.0) (λ x. x.0) (λ x. x.0) (λ x. x.0) (λ x. x.0) z))) (choice_layer z)))
    (λ x z is. subst (λ (u : KBranch-F KExpr KStmt KChoice KBranch KCatch). Stands (branch_roles (roll-KBranch u))) is (subst Stands (sym (branch_at (map-KBranch E S C B K KExpr KStmt KChoice KBranch KCatch (λ x. x.0) (λ x. x.0) (λ x. x.0) (λ x. x.0) (λ x. x.0) z))) (branch_layer z)))
    (λ x z is. subst (λ (u : KCatch-F KExpr KStmt KChoice KBranch KCatch). Caught (catch_roles (roll-KCatch u))) is (subst Caught (sym (catch_at (map-KCatch E S C B K KExpr KStmt KChoice KBranch KCatch (λ x. x.0) (λ x. x.0) (λ x. x.0) (λ x. x.0) (λ x. x.0) z))) (catch_layer z)))

pub statement_stands : (x : KStmt) → Stands (statement_roles x)
statement_stands = ind-KStmt (λ x. Good (expression_roles x)) (λ x. Stands (statement_roles x)) (λ x. Stands (choice_roles x)) (λ x. Stands (branch_roles x)) (λ x. Caught (catch_roles x))
    (λ x z is. subst (λ (u : KExpr-F KExpr KStmt KChoice KBranch KCatch). Good (expression_roles (roll-KExpr u))) is (subst Good (sym (expr_at (map-KExpr E S C B K KExpr KStmt KChoice KBranch KCatch (λ x. x.0) (λ x. x.0) (λ x. x.0) (λ x. x.0) (λ x. x.0) z))) (expr_layer z)))
    (λ x z is. subst (λ (u : KStmt-F KExpr KStmt KChoice KBranch KCatch). Stands (statement_roles (roll-KStmt u))) is (subst Stands (sym (stmt_at (map-KStmt E S C B K KExpr KStmt KChoice KBranch KCatch (λ x. x.0) (λ x. x.0) (λ x. x.0) (λ x. x.0) (λ x. x.0) z))) (stmt_layer z)))
    (λ x z is. subst (λ (u : KChoice-F KExpr KStmt KChoice KBranch KCatch). Stands (choice_roles (roll-KChoice u))) is (subst Stands (sym (choice_at (map-KChoice E S C B K KExpr KStmt KChoice KBranch KCatch (λ x. x.0) (λ x. x.0) (λ x. x.0) (λ x. x.0) (λ x. x.0) z))) (choice_layer z)))
    (λ x z is. subst (λ (u : KBranch-F KExpr KStmt KChoice KBranch KCatch). Stands (branch_roles (roll-KBranch u))) is (subst Stands (sym (branch_at (map-KBranch E S C B K KExpr KStmt KChoice KBranch KCatch (λ x. x.0) (λ x. x.0) (λ x. x.0) (λ x. x.0) (λ x. x.0) z))) (branch_layer z)))
    (λ x z is. subst (λ (u : KCatch-F KExpr KStmt KChoice KBranch KCatch). Caught (catch_roles (roll-KCatch u))) is (subst Caught (sym (catch_at (map-KCatch E S C B K KExpr KStmt KChoice KBranch KCatch (λ x. x.0) (λ x. x.0) (λ x. x.0) (λ x. x.0) (λ x. x.0) z))) (catch_layer z)))

pub statements_stand : (xs : List KStmt) → AllStand (map statement_roles xs)
statements_stand [] = tt
statements_stand (x ∷ xs) = (statement_stands x, statements_stand xs)

pub expressions_good : (xs : List KExpr) → AllGood (map expression_roles xs)
expressions_good [] = tt
expressions_good (x ∷ xs) = (expression_good x, expressions_good xs)
