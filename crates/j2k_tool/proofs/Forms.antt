-- The text of each form of an expression.
use Rattle.std.proofs.Common.{◌≡◌, ℕ, List, ◌++◌, append_assoc, ap, sym, ◌∙◌}
use Rattle.std.specs.Prelude.{codes}
use Rattle.std.specs.Fmt.{decimal}
use Rattle.meanings.specs.declared.kotlin.KExpr.{KExpr, roll-KExpr, map-KExpr, fold-roll-KExpr}
use Rattle.meanings.specs.declared.kotlin.KExpr.TheOpen.{KExpr-F}
use Rattle.meanings.specs.declared.kotlin.KExpr.TheVariants as ke
use Rattle.meanings.specs.declared.operators.Operator.{Operator}
use Rattle.meanings.specs.KText as text
use Rattle.meanings.specs.KText.{name_text, operator_text, expression_text}

printed : (x : KExpr-F KExpr) (y : KExpr) → roll-KExpr x ≡ y → expression_text y ≡ text.expression_by (map-KExpr KExpr (List ℕ) expression_text x)
unfolding expression_text
printed x y rolls = ap expression_text (sym rolls) ∙ fold-roll-KExpr (List ℕ) text.expression_by x

pub printed_Local : (name : List ℕ) → expression_text (ke.Local name) ≡ name_text name
printed_Local name = printed (KExpr-F.Local name) _ (ke.rolls-Local name)

pub printed_Number : (n : ℕ) → expression_text (ke.Number n) ≡ decimal n
printed_Number n = printed (KExpr-F.Number n) _ (ke.rolls-Number n)

pub printed_Paren : (inner : KExpr) → expression_text (ke.Paren inner) ≡ codes "(" ++ expression_text inner ++ codes ")"
printed_Paren inner = printed (KExpr-F.Paren inner) _ (ke.rolls-Paren inner)

pub printed_Binary : (a : KExpr) (operator : Operator) (b : KExpr) → expression_text (ke.Binary a operator b) ≡ expression_text a ++ operator_text operator ++ expression_text b
printed_Binary a operator b = printed (KExpr-F.Binary a operator b) _ (ke.rolls-Binary a operator b)

pub ruleset texts = (append_assoc, printed_Local, printed_Number, printed_Paren, printed_Binary)
