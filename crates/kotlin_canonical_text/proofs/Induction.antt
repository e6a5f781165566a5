-- Every expression and every statement: what is shown of it is read as it.
use Rattle.std.proofs.Common.{◌≡◌, List, [], ◌∷◌, map, sym, subst}
use Rattle.kotlin_tree.specs.declared.expressions.KExpr.{KExpr, roll-KExpr, map-KExpr, fold-roll-KExpr}
use Rattle.kotlin_tree.specs.declared.expressions.KExpr.TheOpen.{KExpr-F, KStmt-F, KChoice-F, KBranch-F, KCatch-F}
use Rattle.kotlin_tree.specs.declared.expressions.KExpr.TheFolds.{map-KStmt, map-KChoice, map-KBranch, map-KCatch, fold-roll-KStmt, fold-roll-KChoice, fold-roll-KBranch, fold-roll-KCatch, ind-KExpr, ind-KStmt}
use Rattle.kotlin_tree.specs.declared.expressions.KExpr.TheViews.{roll-KStmt}
use Rattle.kotlin_tree.specs.declared.expressions.KChoice.{KChoice, roll-KChoice}
use Rattle.kotlin_tree.specs.declared.statements.KStmt.{KStmt}
use Rattle.kotlin_tree.specs.declared.statements.KBranch.{KBranch, roll-KBranch}
use Rattle.kotlin_tree.specs.declared.statements.KCatch.{KCatch, roll-KCatch}
use Rattle.kotlin_canonical_text.specs.Canonical.{Piece, Operand, operand_by, statement_piece, choice_piece, branch_piece, catch_piece, operand, statement, choice_shown, branch_shown, catch_shown}
use Rattle.kotlin_canonical_text.proofs.Expressions.{Good, good_of, AllRead}
use Rattle.kotlin_canonical_text.proofs.Forms.{literal_bare, name_bare, this_bare, paren_bare, call_bare, super_bare, field_bare, method_bare, element_bare, postfix_bare}
use Rattle.kotlin_canonical_text.proofs.Operators.{prefix_bare, as_bare, is_bare, binary_bare}
use Rattle.kotlin_canonical_text.proofs.Values.{if_bare, run_bare, class_bare}
use Rattle.kotlin_canonical_text.proofs.Lambdas.{lambda_bare}
use Rattle.kotlin_canonical_text.proofs.Blocks.{Stands, AllStand}
use Rattle.kotlin_canonical_text.proofs.Whens.{Choices, Branches, AllChoices, AllBranches, AllLines, choice_good, branch_good, catch_good, when_bare, when_stands}
use Rattle.kotlin_canonical_text.proofs.Statements.{Catches, AllCatch, commented_stands, declared_stands, local_stands, expression_stands, assign_stands, while_stands, do_stands, for_stands, for_range_stands, if_one_stands, if_else_stands, if_else_if_stands, break_stands, continue_stands, return_stands, give_stands, throw_stands, try_stands, try_finally_stands, synchronized_stands}

abbrev E : Type 0
E = (x : KExpr) × Good (operand x)

abbrev S : Type 0
S = (x : KStmt) × Stands (statement x)

abbrev C : Type 0
C = (x : KChoice) × Choices (choice_shown x)

abbrev B : Type 0
B = (x : KBranch) × Branches (branch_shown x)

abbrev K : Type 0
K = (x : KCatch) × Catches (catch_shown x)

abbrev operands : List E → List Operand
operands xs = map operand (map (λ (x : E). x.0) xs)

abbrev statements_shown : List S → List (Piece KStmt)
statements_shown xs = map statement (map (λ (x : S). x.0) xs)

abbrev choices_shown : List C → List (Piece KChoice)
choices_shown xs = map choice_shown (map (λ (x : C). x.0) xs)

abbrev branches_shown : List B → List (Piece KBranch)
branches_shown xs = map branch_shown (map (λ (x : B). x.0) xs)

abbrev catches_shown : List K → List (Piece KCatch)
catches_shown xs = map catch_shown (map (λ (x : K). x.0) xs)

all_read : (xs : List E) → AllRead (operands xs)
unfolding AllRead
all_read [] = tt
all_read (x ∷ xs) = (x.1, all_read xs)

all_stand : (xs : List S) → AllStand (statements_shown xs)
unfolding AllStand
all_stand [] = tt
all_stand (x ∷ xs) = (x.1, all_stand xs)

all_choices : (xs : List C) → AllChoices (choices_shown xs)
unfolding AllLines
all_choices [] = tt
all_choices (x ∷ xs) = (x.1, all_choices xs)

all_branches : (xs : List B) → AllBranches (branches_shown xs)
unfolding AllLines
all_branches [] = tt
all_branches (x ∷ xs) = (x.1, all_branches xs)

all_catch : (xs : List K) → AllCatch (catches_shown xs)
unfolding AllCatch
all_catch [] = tt
all_catch (x ∷ xs) = (x.1, all_catch xs)

expr_layer : (x : KExpr-F E S C B K) → Good (operand_by (map-KExpr KExpr KStmt KChoice KBranch KCatch Operand (Piece KStmt) (Piece KChoice) (Piece KBranch) (Piece KCatch) operand statement choice_shown branch_shown catch_shown (map-KExpr E S C B K KExpr KStmt KChoice KBranch KCatch (λ x. x.0) (λ x. x.0) (λ x. x.0) (λ x. x.0) (λ x. x.0) x)))
expr_layer (KExpr-F.Literal x at) = good_of (KExpr-F.Literal x at) (literal_bare x at)
expr_layer (KExpr-F.Name x) = good_of (KExpr-F.Name x) (name_bare x)
expr_layer (KExpr-F.This at) = good_of (KExpr-F.This at) (this_bare at)
expr_layer (KExpr-F.Paren round inner) = good_of (KExpr-F.Paren round (operand inner.0)) (paren_bare round (operand inner.0) inner.1)
expr_layer (KExpr-F.Call x types round arguments commas) = good_of (KExpr-F.Call x types round (operands arguments) commas) (call_bare x types round (operands arguments) commas (all_read arguments))
expr_layer (KExpr-F.SuperCall at x round arguments commas) = good_of (KExpr-F.SuperCall at x round (operands arguments) commas) (super_bare at x round (operands arguments) commas (all_read arguments))
expr_layer (KExpr-F.Field object dot x) = good_of (KExpr-F.Field (operand object.0) dot x) (field_bare (operand object.0) dot x object.1)
expr_layer (KExpr-F.Method object dot x types round arguments commas) = good_of (KExpr-F.Method (operand object.0) dot x types round (operands arguments) commas) (method_bare (operand object.0) dot x types round (operands arguments) commas object.1 (all_read arguments))
expr_layer (KExpr-F.Element array square index) = good_of (KExpr-F.Element (operand array.0) square (operand index.0)) (element_bare (operand array.0) square (operand index.0) array.1 index.1)
expr_layer (KExpr-F.Postfix inner i at) = good_of (KExpr-F.Postfix (operand inner.0) i at) (postfix_bare (operand inner.0) i at inner.1)
expr_layer (KExpr-F.Prefix i at inner) = good_of (KExpr-F.Prefix i at (operand inner.0)) (prefix_bare i at (operand inner.0) inner.1)
expr_layer (KExpr-F.As value at T) = good_of (KExpr-F.As (operand value.0) at T) (as_bare (operand value.0) at T value.1)
expr_layer (KExpr-F.Is value at T) = good_of (KExpr-F.Is (operand value.0) at T) (is_bare (operand value.0) at T value.1)
expr_layer (KExpr-F.Binary x i at z) = good_of (KExpr-F.Binary (operand x.0) i at (operand z.0)) (binary_bare (operand x.0) i at (operand z.0) x.1 z.1)
expr_layer (KExpr-F.IfValue at v x else_at z) = good_of (KExpr-F.IfValue at (operand v.0) (operand x.0) else_at (operand z.0)) (if_bare at (operand v.0) (operand x.0) else_at (operand z.0) v.1 x.1 z.1)
expr_layer (KExpr-F.WhenValue at v curly choices else_at u) = good_of (KExpr-F.WhenValue at (operand v.0) curly (choices_shown choices) else_at (operand u.0)) (when_bare (operand v.0) (operand u.0) v.1 u.1 at curly (choices_shown choices) else_at (all_choices choices))
expr_layer (KExpr-F.Lambda face curly names xs) = good_of (KExpr-F.Lambda face curly names (statements_shown xs)) (lambda_bare face curly names (statements_shown xs) (all_stand xs))
expr_layer (KExpr-F.Run at curly xs) = good_of (KExpr-F.Run at curly (statements_shown xs)) (run_bare at curly (statements_shown xs) (all_stand xs))
expr_layer (KExpr-F.Class x at) = good_of (KExpr-F.Class x at) (class_bare x at)

stmt_layer : (x : KStmt-F E S C B K) → Stands (statement_piece (map-KStmt KExpr KStmt KChoice KBranch KCatch Operand (Piece KStmt) (Piece KChoice) (Piece KBranch) (Piece KCatch) operand statement choice_shown branch_shown catch_shown (map-KStmt E S C B K KExpr KStmt KChoice KBranch KCatch (λ x. x.0) (λ x. x.0) (λ x. x.0) (λ x. x.0) (λ x. x.0) x)))
stmt_layer (KStmt-F.Commented comments x) = commented_stands comments (statement x.0) x.1
stmt_layer (KStmt-F.Declared x) = declared_stands x
stmt_layer (KStmt-F.Local x at v) = local_stands x at (operand v.0) v.1
stmt_layer (KStmt-F.Expression v) = expression_stands (operand v.0) v.1
stmt_layer (KStmt-F.Assign x at v) = assign_stands (operand x.0) at (operand v.0) x.1 v.1
stmt_layer (KStmt-F.While l at v curly xs) = while_stands l at (operand v.0) curly (statements_shown xs) v.1 (all_stand xs)
stmt_layer (KStmt-F.DoWhile l at curly xs at2 v) = do_stands l at curly (statements_shown xs) at2 (operand v.0) v.1 (all_stand xs)
stmt_layer (KStmt-F.For l at x in_at v curly xs) = for_stands l at x in_at (operand v.0) curly (statements_shown xs) v.1 (all_stand xs)
stmt_layer (KStmt-F.ForRange l at x in_at v until_at u curly xs) = for_range_stands l at x in_at (operand v.0) until_at (operand u.0) curly (statements_shown xs) v.1 u.1 (all_stand xs)
stmt_layer (KStmt-F.If at v curly xs) = if_one_stands at (operand v.0) curly (statements_shown xs) v.1 (all_stand xs)
stmt_layer (KStmt-F.IfElse at v curly xs else_at curly2 ys) = if_else_stands at (operand v.0) curly (statements_shown xs) else_at curly2 (statements_shown ys) v.1 (all_stand xs) (all_stand ys)
stmt_layer (KStmt-F.IfElseIf at v curly xs else_at x) = if_else_if_stands at (operand v.0) curly (statements_shown xs) else_at (statement x.0) v.1 (all_stand xs) x.1
stmt_layer (KStmt-F.When at v curly branches else_at curly2 ys) = when_stands at (operand v.0) curly (branches_shown branches) else_at curly2 (statements_shown ys) v.1 (all_branches branches) (all_stand ys)
stmt_layer (KStmt-F.Break at x) = break_stands at x
stmt_layer (KStmt-F.Continue at x) = continue_stands at x
stmt_layer (KStmt-F.Return at x) = return_stands at x
stmt_layer (KStmt-F.Give at x v) = give_stands at x (operand v.0) v.1
stmt_layer (KStmt-F.Throw at v) = throw_stands at (operand v.0) v.1
stmt_layer (KStmt-F.Try at curly xs cs) = try_stands at curly (statements_shown xs) (catches_shown cs) (all_stand xs) (all_catch cs)
stmt_layer (KStmt-F.TryFinally at curly xs cs last_at ys) = try_finally_stands at curly (statements_shown xs) (catches_shown cs) last_at (statements_shown ys) (all_stand xs) (all_catch cs) (all_stand ys)
stmt_layer (KStmt-F.Synchronized at v curly xs) = synchronized_stands at (operand v.0) curly (statements_shown xs) v.1 (all_stand xs)

choice_layer : (x : KChoice-F E S C B K) → Choices (choice_piece (map-KChoice KExpr KStmt KChoice KBranch KCatch Operand (Piece KStmt) (Piece KChoice) (Piece KBranch) (Piece KCatch) operand statement choice_shown branch_shown catch_shown (map-KChoice E S C B K KExpr KStmt KChoice KBranch KCatch (λ x. x.0) (λ x. x.0) (λ x. x.0) (λ x. x.0) (λ x. x.0) x)))
choice_layer x = choice_good (operands x.labels) x.commas x.arrow (operand x.value.0) (all_read x.labels) x.value.1

branch_layer : (x : KBranch-F E S C B K) → Branches (branch_piece (map-KBranch KExpr KStmt KChoice KBranch KCatch Operand (Piece KStmt) (Piece KChoice) (Piece KBranch) (Piece KCatch) operand statement choice_shown branch_shown catch_shown (map-KBranch E S C B K KExpr KStmt KChoice KBranch KCatch (λ x. x.0) (λ x. x.0) (λ x. x.0) (λ x. x.0) (λ x. x.0) x)))
branch_layer x = branch_good (operands x.labels) x.commas x.arrow x.curly (statements_shown x.statements) (all_read x.labels) (all_stand x.statements)

catch_layer : (x : KCatch-F E S C B K) → Catches (catch_piece (map-KCatch KExpr KStmt KChoice KBranch KCatch Operand (Piece KStmt) (Piece KChoice) (Piece KBranch) (Piece KCatch) operand statement choice_shown branch_shown catch_shown (map-KCatch E S C B K KExpr KStmt KChoice KBranch KCatch (λ x. x.0) (λ x. x.0) (λ x. x.0) (λ x. x.0) (λ x. x.0) x)))
catch_layer x = catch_good x.at x.name x.colon x.kind x.curly (statements_shown x.statements) (all_stand x.statements)

pub expr_at : (x : KExpr-F KExpr KStmt KChoice KBranch KCatch) → operand (roll-KExpr x) ≡ operand_by (map-KExpr KExpr KStmt KChoice KBranch KCatch Operand (Piece KStmt) (Piece KChoice) (Piece KBranch) (Piece KCatch) operand statement choice_shown branch_shown catch_shown x)
unfolding operand statement choice_shown branch_shown catch_shown
expr_at x = fold-roll-KExpr Operand (Piece KStmt) (Piece KChoice) (Piece KBranch) (Piece KCatch) operand_by statement_piece choice_piece branch_piece catch_piece x

pub stmt_at : (x : KStmt-F KExpr KStmt KChoice KBranch KCatch) → statement (roll-KStmt x) ≡ statement_piece (map-KStmt KExpr KStmt KChoice KBranch KCatch Operand (Piece KStmt) (Piece KChoice) (Piece KBranch) (Piece KCatch) operand statement choice_shown branch_shown catch_shown x)
unfolding operand statement choice_shown branch_shown catch_shown
stmt_at x = fold-roll-KStmt Operand (Piece KStmt) (Piece KChoice) (Piece KBranch) (Piece KCatch) operand_by statement_piece choice_piece branch_piece catch_piece x

pub choice_at : (x : KChoice-F KExpr KStmt KChoice KBranch KCatch) → choice_shown (roll-KChoice x) ≡ choice_piece (map-KChoice KExpr KStmt KChoice KBranch KCatch Operand (Piece KStmt) (Piece KChoice) (Piece KBranch) (Piece KCatch) operand statement choice_shown branch_shown catch_shown x)
unfolding operand statement choice_shown branch_shown catch_shown
choice_at x = fold-roll-KChoice Operand (Piece KStmt) (Piece KChoice) (Piece KBranch) (Piece KCatch) operand_by statement_piece choice_piece branch_piece catch_piece x

pub branch_at : (x : KBranch-F KExpr KStmt KChoice KBranch KCatch) → branch_shown (roll-KBranch x) ≡ branch_piece (map-KBranch KExpr KStmt KChoice KBranch KCatch Operand (Piece KStmt) (Piece KChoice) (Piece KBranch) (Piece KCatch) operand statement choice_shown branch_shown catch_shown x)
unfolding operand statement choice_shown branch_shown catch_shown
branch_at x = fold-roll-KBranch Operand (Piece KStmt) (Piece KChoice) (Piece KBranch) (Piece KCatch) operand_by statement_piece choice_piece branch_piece catch_piece x

pub catch_at : (x : KCatch-F KExpr KStmt KChoice KBranch KCatch) → catch_shown (roll-KCatch x) ≡ catch_piece (map-KCatch KExpr KStmt KChoice KBranch KCatch Operand (Piece KStmt) (Piece KChoice) (Piece KBranch) (Piece KCatch) operand statement choice_shown branch_shown catch_shown x)
unfolding operand statement choice_shown branch_shown catch_shown
catch_at x = fold-roll-KCatch Operand (Piece KStmt) (Piece KChoice) (Piece KBranch) (Piece KCatch) operand_by statement_piece choice_piece branch_piece catch_piece x

pub expression_good : (x : KExpr) → Good (operand x)
expression_good = ind-KExpr (λ x. Good (operand x)) (λ x. Stands (statement x)) (λ x. Choices (choice_shown x)) (λ x. Branches (branch_shown x)) (λ x. Catches (catch_shown x))
    (λ x z is. subst (λ (u : KExpr-F KExpr KStmt KChoice KBranch KCatch). Good (operand (roll-KExpr u))) is (subst Good (sym (expr_at (map-KExpr E S C B K KExpr KStmt KChoice KBranch KCatch (λ x. x.0) (λ x. x.0) (λ x. x.0) (λ x. x.0) (λ x. x.0) z))) (expr_layer z)))
    (λ x z is. subst (λ (u : KStmt-F KExpr KStmt KChoice KBranch KCatch). Stands (statement (roll-KStmt u))) is (subst Stands (sym (stmt_at (map-KStmt E S C B K KExpr KStmt KChoice KBranch KCatch (λ x. x.0) (λ x. x.0) (λ x. x.0) (λ x. x.0) (λ x. x.0) z))) (stmt_layer z)))
    (λ x z is. subst (λ (u : KChoice-F KExpr KStmt KChoice KBranch KCatch). Choices (choice_shown (roll-KChoice u))) is (subst Choices (sym (choice_at (map-KChoice E S C B K KExpr KStmt KChoice KBranch KCatch (λ x. x.0) (λ x. x.0) (λ x. x.0) (λ x. x.0) (λ x. x.0) z))) (choice_layer z)))
    (λ x z is. subst (λ (u : KBranch-F KExpr KStmt KChoice KBranch KCatch). Branches (branch_shown (roll-KBranch u))) is (subst Branches (sym (branch_at (map-KBranch E S C B K KExpr KStmt KChoice KBranch KCatch (λ x. x.0) (λ x. x.0) (λ x. x.0) (λ x. x.0) (λ x. x.0) z))) (branch_layer z)))
    (λ x z is. subst (λ (u : KCatch-F KExpr KStmt KChoice KBranch KCatch). Catches (catch_shown (roll-KCatch u))) is (subst Catches (sym (catch_at (map-KCatch E S C B K KExpr KStmt KChoice KBranch KCatch (λ x. x.0) (λ x. x.0) (λ x. x.0) (λ x. x.0) (λ x. x.0) z))) (catch_layer z)))

pub statement_good : (x : KStmt) → Stands (statement x)
statement_good = ind-KStmt (λ x. Good (operand x)) (λ x. Stands (statement x)) (λ x. Choices (choice_shown x)) (λ x. Branches (branch_shown x)) (λ x. Catches (catch_shown x))
    (λ x z is. subst (λ (u : KExpr-F KExpr KStmt KChoice KBranch KCatch). Good (operand (roll-KExpr u))) is (subst Good (sym (expr_at (map-KExpr E S C B K KExpr KStmt KChoice KBranch KCatch (λ x. x.0) (λ x. x.0) (λ x. x.0) (λ x. x.0) (λ x. x.0) z))) (expr_layer z)))
    (λ x z is. subst (λ (u : KStmt-F KExpr KStmt KChoice KBranch KCatch). Stands (statement (roll-KStmt u))) is (subst Stands (sym (stmt_at (map-KStmt E S C B K KExpr KStmt KChoice KBranch KCatch (λ x. x.0) (λ x. x.0) (λ x. x.0) (λ x. x.0) (λ x. x.0) z))) (stmt_layer z)))
    (λ x z is. subst (λ (u : KChoice-F KExpr KStmt KChoice KBranch KCatch). Choices (choice_shown (roll-KChoice u))) is (subst Choices (sym (choice_at (map-KChoice E S C B K KExpr KStmt KChoice KBranch KCatch (λ x. x.0) (λ x. x.0) (λ x. x.0) (λ x. x.0) (λ x. x.0) z))) (choice_layer z)))
    (λ x z is. subst (λ (u : KBranch-F KExpr KStmt KChoice KBranch KCatch). Branches (branch_shown (roll-KBranch u))) is (subst Branches (sym (branch_at (map-KBranch E S C B K KExpr KStmt KChoice KBranch KCatch (λ x. x.0) (λ x. x.0) (λ x. x.0) (λ x. x.0) (λ x. x.0) z))) (branch_layer z)))
    (λ x z is. subst (λ (u : KCatch-F KExpr KStmt KChoice KBranch KCatch). Catches (catch_shown (roll-KCatch u))) is (subst Catches (sym (catch_at (map-KCatch E S C B K KExpr KStmt KChoice KBranch KCatch (λ x. x.0) (λ x. x.0) (λ x. x.0) (λ x. x.0) (λ x. x.0) z))) (catch_layer z)))
