-- What is shown of an expression or a statement is its roles.
use Rattle.std.proofs.Common.{◌≡◌, List, [], ◌∷◌, map, refl, ap, sym, subst, ◌∙◌}
use Rattle.kotlin_tree.specs.declared.expressions.KExpr.{KExpr, roll-KExpr, map-KExpr, fold-roll-KExpr}
use Rattle.kotlin_tree.specs.declared.expressions.KExpr.TheOpen.{KExpr-F, KStmt-F, KChoice-F, KBranch-F, KCatch-F}
use Rattle.kotlin_tree.specs.declared.expressions.KExpr.TheFolds.{map-KStmt, map-KChoice, map-KBranch, map-KCatch, fold-roll-KStmt, fold-roll-KChoice, fold-roll-KBranch, fold-roll-KCatch, ind-KExpr, ind-KStmt}
use Rattle.kotlin_tree.specs.declared.expressions.KExpr.TheViews.{roll-KStmt}
use Rattle.kotlin_tree.specs.declared.expressions.KChoice.{KChoice, roll-KChoice}
use Rattle.kotlin_tree.specs.declared.statements.KStmt.{KStmt}
use Rattle.kotlin_tree.specs.declared.statements.KBranch.{KBranch, roll-KBranch}
use Rattle.kotlin_tree.specs.declared.statements.KCatch.{KCatch, roll-KCatch}
use Rattle.kotlin_layout.specs.Roles.{Roles}
use Rattle.kotlin_layout.specs.Shown.{Placed, expression_by, statement_by, choice_by, branch_by, catch_by, expression_roles, statement_roles, choice_roles, branch_roles, catch_roles}
use Rattle.kotlin_canonical_text.specs.Canonical.{Piece, Operand, roles_of, roles_at, operand_by, statement_piece, choice_piece, branch_piece, catch_piece, operand, statement, choice_shown, branch_shown, catch_shown}
use Rattle.kotlin_canonical_text.proofs.Induction.{expr_at, stmt_at, choice_at, branch_at, catch_at}

abbrev E : Type 0
E = (x : KExpr) × ((operand x).roles ≡ expression_roles x)

abbrev S : Type 0
S = (x : KStmt) × ((statement x).roles ≡ statement_roles x)

abbrev C : Type 0
C = (x : KChoice) × ((choice_shown x).roles ≡ choice_roles x)

abbrev B : Type 0
B = (x : KBranch) × ((branch_shown x).roles ≡ branch_roles x)

abbrev K : Type 0
K = (x : KCatch) × ((catch_shown x).roles ≡ catch_roles x)

all_E : (xs : List E) → map roles_at (map operand (map (λ (x : E). x.0) xs)) ≡ map expression_roles (map (λ (x : E). x.0) xs)
all_E [] = refl
all_E (x ∷ xs) = ap (λ q. q ∷ map roles_at (map operand (map (λ (x : E). x.0) xs))) x.1 ∙ ap (λ q. expression_roles x.0 ∷ q) (all_E xs)

all_S : (xs : List S) → map roles_of (map statement (map (λ (x : S). x.0) xs)) ≡ map statement_roles (map (λ (x : S). x.0) xs)
all_S [] = refl
all_S (x ∷ xs) = ap (λ q. q ∷ map roles_of (map statement (map (λ (x : S). x.0) xs))) x.1 ∙ ap (λ q. statement_roles x.0 ∷ q) (all_S xs)

all_C : (xs : List C) → map roles_of (map choice_shown (map (λ (x : C). x.0) xs)) ≡ map choice_roles (map (λ (x : C). x.0) xs)
all_C [] = refl
all_C (x ∷ xs) = ap (λ q. q ∷ map roles_of (map choice_shown (map (λ (x : C). x.0) xs))) x.1 ∙ ap (λ q. choice_roles x.0 ∷ q) (all_C xs)

all_B : (xs : List B) → map roles_of (map branch_shown (map (λ (x : B). x.0) xs)) ≡ map branch_roles (map (λ (x : B). x.0) xs)
all_B [] = refl
all_B (x ∷ xs) = ap (λ q. q ∷ map roles_of (map branch_shown (map (λ (x : B). x.0) xs))) x.1 ∙ ap (λ q. branch_roles x.0 ∷ q) (all_B xs)

all_K : (xs : List K) → map roles_of (map catch_shown (map (λ (x : K). x.0) xs)) ≡ map catch_roles (map (λ (x : K). x.0) xs)
all_K [] = refl
all_K (x ∷ xs) = ap (λ q. q ∷ map roles_of (map catch_shown (map (λ (x : K). x.0) xs))) x.1 ∙ ap (λ q. catch_roles x.0 ∷ q) (all_K xs)

expr_layer : (x : KExpr-F E S C B K) → (operand_by (map-KExpr KExpr KStmt KChoice KBranch KCatch Operand (Piece KStmt) (Piece KChoice) (Piece KBranch) (Piece KCatch) operand statement choice_shown branch_shown catch_shown (map-KExpr E S C B K KExpr KStmt KChoice KBranch KCatch (λ x. x.0) (λ x. x.0) (λ x. x.0) (λ x. x.0) (λ x. x.0) x))).roles ≡ expression_by (map-KExpr KExpr KStmt KChoice KBranch KCatch Placed Roles Roles Roles Roles expression_roles statement_roles choice_roles branch_roles catch_roles (map-KExpr E S C B K KExpr KStmt KChoice KBranch KCatch (λ x. x.0) (λ x. x.0) (λ x. x.0) (λ x. x.0) (λ x. x.0) x))
expr_layer (KExpr-F.Literal x at) = refl
expr_layer (KExpr-F.Name x) = refl
expr_layer (KExpr-F.This at) = refl
expr_layer (KExpr-F.Paren round inner) = ap (λ q. expression_by (KExpr-F.Paren round q)) (inner.1)
expr_layer (KExpr-F.Call x types round args commas) = ap (λ q. expression_by (KExpr-F.Call x types round q commas)) (all_E args)
expr_layer (KExpr-F.SuperCall at x round args commas) = ap (λ q. expression_by (KExpr-F.SuperCall at x round q commas)) (all_E args)
expr_layer (KExpr-F.Field v dot x) = ap (λ q. expression_by (KExpr-F.Field q dot x)) (v.1)
expr_layer (KExpr-F.Method v dot x types round args commas) = ap (λ q. expression_by (KExpr-F.Method q dot x types round (map roles_at (map operand (map (λ (x : E). x.0) args))) commas)) (v.1) ∙ ap (λ q. expression_by (KExpr-F.Method (expression_roles v.0) dot x types round q commas)) (all_E args)
expr_layer (KExpr-F.Element v square u) = ap (λ q. expression_by (KExpr-F.Element q square ((operand u.0).roles))) (v.1) ∙ ap (λ q. expression_by (KExpr-F.Element (expression_roles v.0) square q)) (u.1)
expr_layer (KExpr-F.Postfix v o at) = ap (λ q. expression_by (KExpr-F.Postfix q o at)) (v.1)
expr_layer (KExpr-F.Prefix o at v) = ap (λ q. expression_by (KExpr-F.Prefix o at q)) (v.1)
expr_layer (KExpr-F.As v at T) = ap (λ q. expression_by (KExpr-F.As q at T)) (v.1)
expr_layer (KExpr-F.Is v at T) = ap (λ q. expression_by (KExpr-F.Is q at T)) (v.1)
expr_layer (KExpr-F.Binary v o at u) = ap (λ q. expression_by (KExpr-F.Binary q o at ((operand u.0).roles))) (v.1) ∙ ap (λ q. expression_by (KExpr-F.Binary (expression_roles v.0) o at q)) (u.1)
expr_layer (KExpr-F.IfValue at v u else_at z) = ap (λ q. expression_by (KExpr-F.IfValue at q ((operand u.0).roles) else_at ((operand z.0).roles))) (v.1) ∙ ap (λ q. expression_by (KExpr-F.IfValue at (expression_roles v.0) q else_at ((operand z.0).roles))) (u.1) ∙ ap (λ q. expression_by (KExpr-F.IfValue at (expression_roles v.0) (expression_roles u.0) else_at q)) (z.1)
expr_layer (KExpr-F.WhenValue at v curly cs else_at u) = ap (λ q. expression_by (KExpr-F.WhenValue at q curly (map roles_of (map choice_shown (map (λ (x : C). x.0) cs))) else_at ((operand u.0).roles))) (v.1) ∙ ap (λ q. expression_by (KExpr-F.WhenValue at (expression_roles v.0) curly q else_at ((operand u.0).roles))) (all_C cs) ∙ ap (λ q. expression_by (KExpr-F.WhenValue at (expression_roles v.0) curly (map choice_roles (map (λ (x : C). x.0) cs)) else_at q)) (u.1)
expr_layer (KExpr-F.Lambda F curly names xs) = ap (λ q. expression_by (KExpr-F.Lambda F curly names q)) (all_S xs)
expr_layer (KExpr-F.Run at curly xs) = ap (λ q. expression_by (KExpr-F.Run at curly q)) (all_S xs)
expr_layer (KExpr-F.Class x at) = refl

stmt_layer : (x : KStmt-F E S C B K) → (statement_piece (map-KStmt KExpr KStmt KChoice KBranch KCatch Operand (Piece KStmt) (Piece KChoice) (Piece KBranch) (Piece KCatch) operand statement choice_shown branch_shown catch_shown (map-KStmt E S C B K KExpr KStmt KChoice KBranch KCatch (λ x. x.0) (λ x. x.0) (λ x. x.0) (λ x. x.0) (λ x. x.0) x))).roles ≡ statement_by (map-KStmt KExpr KStmt KChoice KBranch KCatch Placed Roles Roles Roles Roles expression_roles statement_roles choice_roles branch_roles catch_roles (map-KStmt E S C B K KExpr KStmt KChoice KBranch KCatch (λ x. x.0) (λ x. x.0) (λ x. x.0) (λ x. x.0) (λ x. x.0) x))
stmt_layer (KStmt-F.Commented comments v) = ap (λ q. statement_by (KStmt-F.Commented comments q)) (v.1)
stmt_layer (KStmt-F.Declared x) = refl
stmt_layer (KStmt-F.Local x at v) = ap (λ q. statement_by (KStmt-F.Local x at q)) (v.1)
stmt_layer (KStmt-F.Expression v) = ap (λ q. statement_by (KStmt-F.Expression q)) (v.1)
stmt_layer (KStmt-F.Assign v at u) = ap (λ q. statement_by (KStmt-F.Assign q at ((operand u.0).roles))) (v.1) ∙ ap (λ q. statement_by (KStmt-F.Assign (expression_roles v.0) at q)) (u.1)
stmt_layer (KStmt-F.While l at v curly xs) = ap (λ q. statement_by (KStmt-F.While l at q curly (map roles_of (map statement (map (λ (x : S). x.0) xs))))) (v.1) ∙ ap (λ q. statement_by (KStmt-F.While l at (expression_roles v.0) curly q)) (all_S xs)
stmt_layer (KStmt-F.DoWhile l at curly xs at2 v) = ap (λ q. statement_by (KStmt-F.DoWhile l at curly q at2 ((operand v.0).roles))) (all_S xs) ∙ ap (λ q. statement_by (KStmt-F.DoWhile l at curly (map statement_roles (map (λ (x : S). x.0) xs)) at2 q)) (v.1)
stmt_layer (KStmt-F.For l at x in_at v curly xs) = ap (λ q. statement_by (KStmt-F.For l at x in_at q curly (map roles_of (map statement (map (λ (x : S). x.0) xs))))) (v.1) ∙ ap (λ q. statement_by (KStmt-F.For l at x in_at (expression_roles v.0) curly q)) (all_S xs)
stmt_layer (KStmt-F.ForRange l at x in_at v until_at u curly xs) = ap (λ q. statement_by (KStmt-F.ForRange l at x in_at q until_at ((operand u.0).roles) curly (map roles_of (map statement (map (λ (x : S). x.0) xs))))) (v.1) ∙ ap (λ q. statement_by (KStmt-F.ForRange l at x in_at (expression_roles v.0) until_at q curly (map roles_of (map statement (map (λ (x : S). x.0) xs))))) (u.1) ∙ ap (λ q. statement_by (KStmt-F.ForRange l at x in_at (expression_roles v.0) until_at (expression_roles u.0) curly q)) (all_S xs)
stmt_layer (KStmt-F.If at v curly xs) = ap (λ q. statement_by (KStmt-F.If at q curly (map roles_of (map statement (map (λ (x : S). x.0) xs))))) (v.1) ∙ ap (λ q. statement_by (KStmt-F.If at (expression_roles v.0) curly q)) (all_S xs)
stmt_layer (KStmt-F.IfElse at v curly xs else_at curly2 ys) = ap (λ q. statement_by (KStmt-F.IfElse at q curly (map roles_of (map statement (map (λ (x : S). x.0) xs))) else_at curly2 (map roles_of (map statement (map (λ (x : S). x.0) ys))))) (v.1) ∙ ap (λ q. statement_by (KStmt-F.IfElse at (expression_roles v.0) curly q else_at curly2 (map roles_of (map statement (map (λ (x : S). x.0) ys))))) (all_S xs) ∙ ap (λ q. statement_by (KStmt-F.IfElse at (expression_roles v.0) curly (map statement_roles (map (λ (x : S). x.0) xs)) else_at curly2 q)) (all_S ys)
stmt_layer (KStmt-F.IfElseIf at v curly xs else_at w) = ap (λ q. statement_by (KStmt-F.IfElseIf at q curly (map roles_of (map statement (map (λ (x : S). x.0) xs))) else_at ((statement w.0).roles))) (v.1) ∙ ap (λ q. statement_by (KStmt-F.IfElseIf at (expression_roles v.0) curly q else_at ((statement w.0).roles))) (all_S xs) ∙ ap (λ q. statement_by (KStmt-F.IfElseIf at (expression_roles v.0) curly (map statement_roles (map (λ (x : S). x.0) xs)) else_at q)) (w.1)
stmt_layer (KStmt-F.When at v curly bs else_at curly2 ys) = ap (λ q. statement_by (KStmt-F.When at q curly (map roles_of (map branch_shown (map (λ (x : B). x.0) bs))) else_at curly2 (map roles_of (map statement (map (λ (x : S). x.0) ys))))) (v.1) ∙ ap (λ q. statement_by (KStmt-F.When at (expression_roles v.0) curly q else_at curly2 (map roles_of (map statement (map (λ (x : S). x.0) ys))))) (all_B bs) ∙ ap (λ q. statement_by (KStmt-F.When at (expression_roles v.0) curly (map branch_roles (map (λ (x : B). x.0) bs)) else_at curly2 q)) (all_S ys)
stmt_layer (KStmt-F.Break at x) = refl
stmt_layer (KStmt-F.Continue at x) = refl
stmt_layer (KStmt-F.Return at x) = refl
stmt_layer (KStmt-F.Give at x v) = ap (λ q. statement_by (KStmt-F.Give at x q)) (v.1)
stmt_layer (KStmt-F.Throw at v) = ap (λ q. statement_by (KStmt-F.Throw at q)) (v.1)
stmt_layer (KStmt-F.Try at curly xs ks) = ap (λ q. statement_by (KStmt-F.Try at curly q (map roles_of (map catch_shown (map (λ (x : K). x.0) ks))))) (all_S xs) ∙ ap (λ q. statement_by (KStmt-F.Try at curly (map statement_roles (map (λ (x : S). x.0) xs)) q)) (all_K ks)
stmt_layer (KStmt-F.TryFinally at curly xs ks last_at ys) = ap (λ q. statement_by (KStmt-F.TryFinally at curly q (map roles_of (map catch_shown (map (λ (x : K). x.0) ks))) last_at (map roles_of (map statement (map (λ (x : S). x.0) ys))))) (all_S xs) ∙ ap (λ q. statement_by (KStmt-F.TryFinally at curly (map statement_roles (map (λ (x : S). x.0) xs)) q last_at (map roles_of (map statement (map (λ (x : S). x.0) ys))))) (all_K ks) ∙ ap (λ q. statement_by (KStmt-F.TryFinally at curly (map statement_roles (map (λ (x : S). x.0) xs)) (map catch_roles (map (λ (x : K). x.0) ks)) last_at q)) (all_S ys)
stmt_layer (KStmt-F.Synchronized at v curly xs) = ap (λ q. statement_by (KStmt-F.Synchronized at q curly (map roles_of (map statement (map (λ (x : S). x.0) xs))))) (v.1) ∙ ap (λ q. statement_by (KStmt-F.Synchronized at (expression_roles v.0) curly q)) (all_S xs)

choice_layer : (x : KChoice-F E S C B K) → (choice_piece (map-KChoice KExpr KStmt KChoice KBranch KCatch Operand (Piece KStmt) (Piece KChoice) (Piece KBranch) (Piece KCatch) operand statement choice_shown branch_shown catch_shown (map-KChoice E S C B K KExpr KStmt KChoice KBranch KCatch (λ x. x.0) (λ x. x.0) (λ x. x.0) (λ x. x.0) (λ x. x.0) x))).roles ≡ choice_by (map-KChoice KExpr KStmt KChoice KBranch KCatch Placed Roles Roles Roles Roles expression_roles statement_roles choice_roles branch_roles catch_roles (map-KChoice E S C B K KExpr KStmt KChoice KBranch KCatch (λ x. x.0) (λ x. x.0) (λ x. x.0) (λ x. x.0) (λ x. x.0) x))
choice_layer x = ap (λ q. choice_by (record { labels = q; commas = x.commas; arrow = x.arrow; value = (operand x.value.0).roles })) (all_E x.labels) ∙ ap (λ q. choice_by (record { labels = map expression_roles (map (λ (x : E). x.0) x.labels); commas = x.commas; arrow = x.arrow; value = q })) x.value.1

branch_layer : (x : KBranch-F E S C B K) → (branch_piece (map-KBranch KExpr KStmt KChoice KBranch KCatch Operand (Piece KStmt) (Piece KChoice) (Piece KBranch) (Piece KCatch) operand statement choice_shown branch_shown catch_shown (map-KBranch E S C B K KExpr KStmt KChoice KBranch KCatch (λ x. x.0) (λ x. x.0) (λ x. x.0) (λ x. x.0) (λ x. x.0) x))).roles ≡ branch_by (map-KBranch KExpr KStmt KChoice KBranch KCatch Placed Roles Roles Roles Roles expression_roles statement_roles choice_roles branch_roles catch_roles (map-KBranch E S C B K KExpr KStmt KChoice KBranch KCatch (λ x. x.0) (λ x. x.0) (λ x. x.0) (λ x. x.0) (λ x. x.0) x))
branch_layer x = ap (λ q. branch_by (record { labels = q; commas = x.commas; arrow = x.arrow; curly = x.curly; statements = map roles_of (map statement (map (λ (x : S). x.0) x.statements)) })) (all_E x.labels) ∙ ap (λ q. branch_by (record { labels = map expression_roles (map (λ (x : E). x.0) x.labels); commas = x.commas; arrow = x.arrow; curly = x.curly; statements = q })) (all_S x.statements)

catch_layer : (x : KCatch-F E S C B K) → (catch_piece (map-KCatch KExpr KStmt KChoice KBranch KCatch Operand (Piece KStmt) (Piece KChoice) (Piece KBranch) (Piece KCatch) operand statement choice_shown branch_shown catch_shown (map-KCatch E S C B K KExpr KStmt KChoice KBranch KCatch (λ x. x.0) (λ x. x.0) (λ x. x.0) (λ x. x.0) (λ x. x.0) x))).roles ≡ catch_by (map-KCatch KExpr KStmt KChoice KBranch KCatch Placed Roles Roles Roles Roles expression_roles statement_roles choice_roles branch_roles catch_roles (map-KCatch E S C B K KExpr KStmt KChoice KBranch KCatch (λ x. x.0) (λ x. x.0) (λ x. x.0) (λ x. x.0) (λ x. x.0) x))
catch_layer x = ap (λ q. catch_by (record { at = x.at; name = x.name; colon = x.colon; kind = x.kind; curly = x.curly; statements = q })) (all_S x.statements)

expr_rolls : (x : KExpr-F KExpr KStmt KChoice KBranch KCatch) → expression_roles (roll-KExpr x) ≡ expression_by (map-KExpr KExpr KStmt KChoice KBranch KCatch Placed Roles Roles Roles Roles expression_roles statement_roles choice_roles branch_roles catch_roles x)
unfolding expression_roles statement_roles choice_roles branch_roles catch_roles
expr_rolls x = fold-roll-KExpr Placed Roles Roles Roles Roles expression_by statement_by choice_by branch_by catch_by x

stmt_rolls : (x : KStmt-F KExpr KStmt KChoice KBranch KCatch) → statement_roles (roll-KStmt x) ≡ statement_by (map-KStmt KExpr KStmt KChoice KBranch KCatch Placed Roles Roles Roles Roles expression_roles statement_roles choice_roles branch_roles catch_roles x)
unfolding expression_roles statement_roles choice_roles branch_roles catch_roles
stmt_rolls x = fold-roll-KStmt Placed Roles Roles Roles Roles expression_by statement_by choice_by branch_by catch_by x

choice_rolls : (x : KChoice-F KExpr KStmt KChoice KBranch KCatch) → choice_roles (roll-KChoice x) ≡ choice_by (map-KChoice KExpr KStmt KChoice KBranch KCatch Placed Roles Roles Roles Roles expression_roles statement_roles choice_roles branch_roles catch_roles x)
unfolding expression_roles statement_roles choice_roles branch_roles catch_roles
choice_rolls x = fold-roll-KChoice Placed Roles Roles Roles Roles expression_by statement_by choice_by branch_by catch_by x

branch_rolls : (x : KBranch-F KExpr KStmt KChoice KBranch KCatch) → branch_roles (roll-KBranch x) ≡ branch_by (map-KBranch KExpr KStmt KChoice KBranch KCatch Placed Roles Roles Roles Roles expression_roles statement_roles choice_roles branch_roles catch_roles x)
unfolding expression_roles statement_roles choice_roles branch_roles catch_roles
branch_rolls x = fold-roll-KBranch Placed Roles Roles Roles Roles expression_by statement_by choice_by branch_by catch_by x

catch_rolls : (x : KCatch-F KExpr KStmt KChoice KBranch KCatch) → catch_roles (roll-KCatch x) ≡ catch_by (map-KCatch KExpr KStmt KChoice KBranch KCatch Placed Roles Roles Roles Roles expression_roles statement_roles choice_roles branch_roles catch_roles x)
unfolding expression_roles statement_roles choice_roles branch_roles catch_roles
catch_rolls x = fold-roll-KCatch Placed Roles Roles Roles Roles expression_by statement_by choice_by branch_by catch_by x

pub expression_shown : (x : KExpr) → (operand x).roles ≡ expression_roles x
expression_shown = ind-KExpr (λ x. (operand x).roles ≡ expression_roles x) (λ x. (statement x).roles ≡ statement_roles x) (λ x. (choice_shown x).roles ≡ choice_roles x) (λ x. (branch_shown x).roles ≡ branch_roles x) (λ x. (catch_shown x).roles ≡ catch_roles x)
    (λ x z is. subst (λ (u : KExpr-F KExpr KStmt KChoice KBranch KCatch). (operand (roll-KExpr u)).roles ≡ expression_roles (roll-KExpr u)) is (ap (λ q. q.roles) (expr_at (map-KExpr E S C B K KExpr KStmt KChoice KBranch KCatch (λ x. x.0) (λ x. x.0) (λ x. x.0) (λ x. x.0) (λ x. x.0) z)) ∙ expr_layer z ∙ sym (expr_rolls (map-KExpr E S C B K KExpr KStmt KChoice KBranch KCatch (λ x. x.0) (λ x. x.0) (λ x. x.0) (λ x. x.0) (λ x. x.0) z))))
    (λ x z is. subst (λ (u : KStmt-F KExpr KStmt KChoice KBranch KCatch). (statement (roll-KStmt u)).roles ≡ statement_roles (roll-KStmt u)) is (ap (λ q. q.roles) (stmt_at (map-KStmt E S C B K KExpr KStmt KChoice KBranch KCatch (λ x. x.0) (λ x. x.0) (λ x. x.0) (λ x. x.0) (λ x. x.0) z)) ∙ stmt_layer z ∙ sym (stmt_rolls (map-KStmt E S C B K KExpr KStmt KChoice KBranch KCatch (λ x. x.0) (λ x. x.0) (λ x. x.0) (λ x. x.0) (λ x. x.0) z))))
    (λ x z is. subst (λ (u : KChoice-F KExpr KStmt KChoice KBranch KCatch). (choice_shown (roll-KChoice u)).roles ≡ choice_roles (roll-KChoice u)) is (ap (λ q. q.roles) (choice_at (map-KChoice E S C B K KExpr KStmt KChoice KBranch KCatch (λ x. x.0) (λ x. x.0) (λ x. x.0) (λ x. x.0) (λ x. x.0) z)) ∙ choice_layer z ∙ sym (choice_rolls (map-KChoice E S C B K KExpr KStmt KChoice KBranch KCatch (λ x. x.0) (λ x. x.0) (λ x. x.0) (λ x. x.0) (λ x. x.0) z))))
    (λ x z is. subst (λ (u : KBranch-F KExpr KStmt KChoice KBranch KCatch). (branch_shown (roll-KBranch u)).roles ≡ branch_roles (roll-KBranch u)) is (ap (λ q. q.roles) (branch_at (map-KBranch E S C B K KExpr KStmt KChoice KBranch KCatch (λ x. x.0) (λ x. x.0) (λ x. x.0) (λ x. x.0) (λ x. x.0) z)) ∙ branch_layer z ∙ sym (branch_rolls (map-KBranch E S C B K KExpr KStmt KChoice KBranch KCatch (λ x. x.0) (λ x. x.0) (λ x. x.0) (λ x. x.0) (λ x. x.0) z))))
    (λ x z is. subst (λ (u : KCatch-F KExpr KStmt KChoice KBranch KCatch). (catch_shown (roll-KCatch u)).roles ≡ catch_roles (roll-KCatch u)) is (ap (λ q. q.roles) (catch_at (map-KCatch E S C B K KExpr KStmt KChoice KBranch KCatch (λ x. x.0) (λ x. x.0) (λ x. x.0) (λ x. x.0) (λ x. x.0) z)) ∙ catch_layer z ∙ sym (catch_rolls (map-KCatch E S C B K KExpr KStmt KChoice KBranch KCatch (λ x. x.0) (λ x. x.0) (λ x. x.0) (λ x. x.0) (λ x. x.0) z))))

pub statement_shown : (x : KStmt) → (statement x).roles ≡ statement_roles x
statement_shown = ind-KStmt (λ x. (operand x).roles ≡ expression_roles x) (λ x. (statement x).roles ≡ statement_roles x) (λ x. (choice_shown x).roles ≡ choice_roles x) (λ x. (branch_shown x).roles ≡ branch_roles x) (λ x. (catch_shown x).roles ≡ catch_roles x)
    (λ x z is. subst (λ (u : KExpr-F KExpr KStmt KChoice KBranch KCatch). (operand (roll-KExpr u)).roles ≡ expression_roles (roll-KExpr u)) is (ap (λ q. q.roles) (expr_at (map-KExpr E S C B K KExpr KStmt KChoice KBranch KCatch (λ x. x.0) (λ x. x.0) (λ x. x.0) (λ x. x.0) (λ x. x.0) z)) ∙ expr_layer z ∙ sym (expr_rolls (map-KExpr E S C B K KExpr KStmt KChoice KBranch KCatch (λ x. x.0) (λ x. x.0) (λ x. x.0) (λ x. x.0) (λ x. x.0) z))))
    (λ x z is. subst (λ (u : KStmt-F KExpr KStmt KChoice KBranch KCatch). (statement (roll-KStmt u)).roles ≡ statement_roles (roll-KStmt u)) is (ap (λ q. q.roles) (stmt_at (map-KStmt E S C B K KExpr KStmt KChoice KBranch KCatch (λ x. x.0) (λ x. x.0) (λ x. x.0) (λ x. x.0) (λ x. x.0) z)) ∙ stmt_layer z ∙ sym (stmt_rolls (map-KStmt E S C B K KExpr KStmt KChoice KBranch KCatch (λ x. x.0) (λ x. x.0) (λ x. x.0) (λ x. x.0) (λ x. x.0) z))))
    (λ x z is. subst (λ (u : KChoice-F KExpr KStmt KChoice KBranch KCatch). (choice_shown (roll-KChoice u)).roles ≡ choice_roles (roll-KChoice u)) is (ap (λ q. q.roles) (choice_at (map-KChoice E S C B K KExpr KStmt KChoice KBranch KCatch (λ x. x.0) (λ x. x.0) (λ x. x.0) (λ x. x.0) (λ x. x.0) z)) ∙ choice_layer z ∙ sym (choice_rolls (map-KChoice E S C B K KExpr KStmt KChoice KBranch KCatch (λ x. x.0) (λ x. x.0) (λ x. x.0) (λ x. x.0) (λ x. x.0) z))))
    (λ x z is. subst (λ (u : KBranch-F KExpr KStmt KChoice KBranch KCatch). (branch_shown (roll-KBranch u)).roles ≡ branch_roles (roll-KBranch u)) is (ap (λ q. q.roles) (branch_at (map-KBranch E S C B K KExpr KStmt KChoice KBranch KCatch (λ x. x.0) (λ x. x.0) (λ x. x.0) (λ x. x.0) (λ x. x.0) z)) ∙ branch_layer z ∙ sym (branch_rolls (map-KBranch E S C B K KExpr KStmt KChoice KBranch KCatch (λ x. x.0) (λ x. x.0) (λ x. x.0) (λ x. x.0) (λ x. x.0) z))))
    (λ x z is. subst (λ (u : KCatch-F KExpr KStmt KChoice KBranch KCatch). (catch_shown (roll-KCatch u)).roles ≡ catch_roles (roll-KCatch u)) is (ap (λ q. q.roles) (catch_at (map-KCatch E S C B K KExpr KStmt KChoice KBranch KCatch (λ x. x.0) (λ x. x.0) (λ x. x.0) (λ x. x.0) (λ x. x.0) z)) ∙ catch_layer z ∙ sym (catch_rolls (map-KCatch E S C B K KExpr KStmt KChoice KBranch KCatch (λ x. x.0) (λ x. x.0) (λ x. x.0) (λ x. x.0) (λ x. x.0) z))))

pub statements_shown : (xs : List KStmt) → map roles_of (map statement xs) ≡ map statement_roles xs
statements_shown [] = refl
statements_shown (x ∷ xs) = ap (λ q. q ∷ map roles_of (map statement xs)) (statement_shown x) ∙ ap (λ q. statement_roles x ∷ q) (statements_shown xs)

pub expressions_shown : (xs : List KExpr) → map roles_at (map operand xs) ≡ map expression_roles xs
expressions_shown [] = refl
expressions_shown (x ∷ xs) = ap (λ q. q ∷ map roles_at (map operand xs)) (expression_shown x) ∙ ap (λ q. expression_roles x ∷ q) (expressions_shown xs)
