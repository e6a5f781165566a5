-- The tokens of each form of an expression.
use Rattle.std.proofs.Common.{◌≡◌, ℕ, List, [], ◌∷◌, ◌++◌, map, Option, refl, ap, sym, ◌∙◌}
use Rattle.java_tree.specs.declared.tokens.Position.{Position}
use Rattle.java_tree.specs.declared.tokens.Mark.TheVariants as m
use Rattle.java_tree.specs.Seen.{Token, Tokens}
use Rattle.java_tree.specs.declared.tokens.Keyword.TheVariants as w
use Rattle.java_tree.specs.declared.exprs.JLiteral.{JLiteral}
use Rattle.java_tree.specs.declared.exprs.PostfixOp.{PostfixOp}
use Rattle.java_tree.specs.declared.exprs.PrefixOp.{PrefixOp}
use Rattle.java_tree.specs.declared.exprs.BinaryOp.{BinaryOp}
use Rattle.java_tree.specs.declared.exprs.AssignOp.{AssignOp}
use Rattle.java_tree.specs.declared.exprs.JParams.{JParams}
use Rattle.java_tree.specs.declared.exprs.JCreated.{JCreated}
use Rattle.java_tree.specs.declared.exprs.Span.{Span}
use Rattle.java_tree.specs.declared.types.JBrackets.{JBrackets}
use Rattle.java_tree.specs.declared.types.JType.{JType}
use Rattle.java_tree.specs.declared.exprs.JExpr.{JExpr, roll-JExpr, map-JExpr, fold-roll-JExpr}
use Rattle.java_tree.specs.declared.exprs.JExpr.TheVariants as e
use Rattle.java_tree.specs.declared.exprs.JExpr.TheOpen.{JExpr-F}
use Rattle.java_tree.specs.Trees.{tokens, tokens_by, type_tokens, params_tokens, created_tokens, args_close, braces_tokens, brackets_tokens, prefix_mark, postfix_mark, operator_tokens, assign_tokens, listed}

layer : (x : JExpr-F JExpr) (y : JExpr) (text : Tokens) → roll-JExpr x ≡ y → tokens_by (map-JExpr JExpr Tokens tokens x) ≡ text → tokens y ≡ text
unfolding tokens
layer x y text rolls same = ap tokens (sym rolls) ∙ fold-roll-JExpr Tokens tokens_by x ∙ same

pub tokens_Name : (n : List ℕ) (at : Position) → tokens (e.Name n at) ≡ Token.Id n at ∷ []
tokens_Name n at = layer (JExpr-F.Name n at) _ _ (e.rolls-Name n at) refl

pub tokens_Literal : (x : JLiteral) (at : Position) → tokens (e.Literal x at) ≡ Token.Literal x at ∷ []
tokens_Literal x at = layer (JExpr-F.Literal x at) _ _ (e.rolls-Literal x at) refl

pub tokens_This : (at : Position) → tokens (e.This at) ≡ Token.Word w.This at ∷ []
tokens_This at = layer (JExpr-F.This at) _ _ (e.rolls-This at) refl

pub tokens_SuperCall : (above dot : Position) (n : List ℕ) (at lp : Position) (xs : List JExpr) (ps : List Position) (rp : Position)
    → tokens (e.SuperCall above dot n at lp xs ps rp) ≡ Token.Word w.Super above ∷ Token.Sign m.Dot dot ∷ Token.Id n at ∷ Token.Sign m.OpenRound lp ∷ (listed ps (map tokens xs) ++ Token.Sign m.CloseRound rp ∷ [])
tokens_SuperCall above dot n at lp xs ps rp = layer (JExpr-F.SuperCall above dot n at lp xs ps rp) _ _ (e.rolls-SuperCall above dot n at lp xs ps rp) refl

pub tokens_Method : (x : JExpr) (dot : Position) (n : List ℕ) (at lp : Position) (xs : List JExpr) (ps : List Position) (rp : Position)
    → tokens (e.Method x dot n at lp xs ps rp) ≡ tokens x ++ Token.Sign m.Dot dot ∷ Token.Id n at ∷ Token.Sign m.OpenRound lp ∷ (listed ps (map tokens xs) ++ Token.Sign m.CloseRound rp ∷ [])
tokens_Method x dot n at lp xs ps rp = layer (JExpr-F.Method x dot n at lp xs ps rp) _ _ (e.rolls-Method x dot n at lp xs ps rp) refl

pub tokens_Element : (x : JExpr) (lp : Position) (y : JExpr) (rp : Position) → tokens (e.Element x lp y rp) ≡ tokens x ++ Token.Sign m.OpenSquare lp ∷ (tokens y ++ Token.Sign m.CloseSquare rp ∷ [])
tokens_Element x lp y rp = layer (JExpr-F.Element x lp y rp) _ _ (e.rolls-Element x lp y rp) refl

pub tokens_Postfix : (x : JExpr) (op : PostfixOp) (at : Position) → tokens (e.Postfix x op at) ≡ tokens x ++ Token.Sign (postfix_mark op) at ∷ []
tokens_Postfix x op at = layer (JExpr-F.Postfix x op at) _ _ (e.rolls-Postfix x op at) refl

pub tokens_Instanceof : (x : JExpr) (at : Position) (to : JType) → tokens (e.Instanceof x at to) ≡ tokens x ++ Token.Word w.Instanceof at ∷ type_tokens to
tokens_Instanceof x at to = layer (JExpr-F.Instanceof x at to) _ _ (e.rolls-Instanceof x at to) refl

pub tokens_Paren : (lp : Position) (x : JExpr) (rp : Position) → tokens (e.Paren lp x rp) ≡ Token.Sign m.OpenRound lp ∷ (tokens x ++ Token.Sign m.CloseRound rp ∷ [])
tokens_Paren lp x rp = layer (JExpr-F.Paren lp x rp) _ _ (e.rolls-Paren lp x rp) refl

pub tokens_Call : (n : List ℕ) (at lp : Position) (xs : List JExpr) (ps : List Position) (rp : Position)
    → tokens (e.Call n at lp xs ps rp) ≡ Token.Id n at ∷ Token.Sign m.OpenRound lp ∷ (listed ps (map tokens xs) ++ Token.Sign m.CloseRound rp ∷ [])
tokens_Call n at lp xs ps rp = layer (JExpr-F.Call n at lp xs ps rp) _ _ (e.rolls-Call n at lp xs ps rp) refl

pub tokens_Field : (x : JExpr) (dot : Position) (n : List ℕ) (at : Position) → tokens (e.Field x dot n at) ≡ tokens x ++ Token.Sign m.Dot dot ∷ Token.Id n at ∷ []
tokens_Field x dot n at = layer (JExpr-F.Field x dot n at) _ _ (e.rolls-Field x dot n at) refl

pub tokens_Prefix : (op : PrefixOp) (at : Position) (x : JExpr) → tokens (e.Prefix op at x) ≡ Token.Sign (prefix_mark op) at ∷ tokens x
tokens_Prefix op at x = layer (JExpr-F.Prefix op at x) _ _ (e.rolls-Prefix op at x) refl

pub tokens_Cast : (lp : Position) (to : JType) (rp : Position) (x : JExpr)
    → tokens (e.Cast lp to rp x) ≡ Token.Sign m.OpenRound lp ∷ (type_tokens to ++ Token.Sign m.CloseRound rp ∷ tokens x)
tokens_Cast lp to rp x = layer (JExpr-F.Cast lp to rp x) _ _ (e.rolls-Cast lp to rp x) refl

pub tokens_Binary : (x : JExpr) (op : BinaryOp) (at : Position) (y : JExpr) → tokens (e.Binary x op at y) ≡ tokens x ++ (operator_tokens op at ++ tokens y)
tokens_Binary x op at y = layer (JExpr-F.Binary x op at y) _ _ (e.rolls-Binary x op at y) refl

pub tokens_Conditional : (x : JExpr) (q : Position) (y : JExpr) (c : Position) (z : JExpr)
    → tokens (e.Conditional x q y c z) ≡ tokens x ++ Token.Sign m.Question q ∷ (tokens y ++ Token.Sign m.Colon c ∷ tokens z)
tokens_Conditional x q y c z = layer (JExpr-F.Conditional x q y c z) _ _ (e.rolls-Conditional x q y c z) refl

pub tokens_Assign : (x : JExpr) (op : AssignOp) (at : Position) (y : JExpr) → tokens (e.Assign x op at y) ≡ tokens x ++ (assign_tokens op at ++ tokens y)
tokens_Assign x op at y = layer (JExpr-F.Assign x op at y) _ _ (e.rolls-Assign x op at y) refl

pub tokens_Lambda : (ps : JParams) (arrow : Position) (x : JExpr) → tokens (e.Lambda ps arrow x) ≡ params_tokens ps ++ Token.Sign m.Arrow arrow ∷ tokens x
tokens_Lambda ps arrow x = layer (JExpr-F.Lambda ps arrow x) _ _ (e.rolls-Lambda ps arrow x) refl

pub tokens_MinusLeast : (minus : Position) (x : JLiteral) (at : Position) → tokens (e.MinusLeast minus x at) ≡ Token.Sign m.Minus minus ∷ Token.Literal x at ∷ []
tokens_MinusLeast minus x at = layer (JExpr-F.MinusLeast minus x at) _ _ (e.rolls-MinusLeast minus x at) refl

pub tokens_LambdaBlock : (ps : JParams) (arrow : Position) (body : Span) → tokens (e.LambdaBlock ps arrow body) ≡ params_tokens ps ++ Token.ArrowBody arrow body ∷ []
tokens_LambdaBlock ps arrow body = layer (JExpr-F.LambdaBlock ps arrow body) _ _ (e.rolls-LambdaBlock ps arrow body) refl

pub tokens_New : (at : Position) (made : JCreated) (lp : Position) (xs : List JExpr) (ps : List Position) (rp : Position) (body : Option Span)
    → tokens (e.New at made lp xs ps rp body) ≡ Token.Word w.New at ∷ (created_tokens made ++ Token.Sign m.OpenRound lp ∷ (listed ps (map tokens xs) ++ args_close rp body ∷ []))
tokens_New at made lp xs ps rp body = layer (JExpr-F.New at made lp xs ps rp body) _ _ (e.rolls-New at made lp xs ps rp body) refl

pub tokens_NewArray : (at : Position) (of : JType) (lb : Position) (size : JExpr) (rb : Position) (pairs : List JBrackets)
    → tokens (e.NewArray at of lb size rb pairs) ≡ Token.Word w.New at ∷ (type_tokens of ++ Token.Sign m.OpenSquare lb ∷ (tokens size ++ Token.Sign m.CloseSquare rb ∷ brackets_tokens pairs))
tokens_NewArray at of lb size rb pairs = layer (JExpr-F.NewArray at of lb size rb pairs) _ _ (e.rolls-NewArray at of lb size rb pairs) refl

pub tokens_NewFilled : (at : Position) (of : JType) (pairs : List JBrackets) (lc : Position) (xs : List JExpr) (ps : List Position) (more : Option Position) (rc : Position)
    → tokens (e.NewFilled at of pairs lc xs ps more rc) ≡ Token.Word w.New at ∷ (type_tokens of ++ (brackets_tokens pairs ++ braces_tokens lc (map tokens xs) ps more rc))
tokens_NewFilled at of pairs lc xs ps more rc = layer (JExpr-F.NewFilled at of pairs lc xs ps more rc) _ _ (e.rolls-NewFilled at of pairs lc xs ps more rc) refl

pub tokens_Braces : (lc : Position) (xs : List JExpr) (ps : List Position) (more : Option Position) (rc : Position) → tokens (e.Braces lc xs ps more rc) ≡ braces_tokens lc (map tokens xs) ps more rc
tokens_Braces lc xs ps more rc = layer (JExpr-F.Braces lc xs ps more rc) _ _ (e.rolls-Braces lc xs ps more rc) refl

pub ruleset texts = (tokens_Name, tokens_Literal, tokens_This, tokens_SuperCall, tokens_Method, tokens_Element, tokens_Postfix, tokens_Instanceof, tokens_Paren, tokens_Call, tokens_Field, tokens_Prefix, tokens_Cast, tokens_Binary, tokens_Conditional, tokens_Assign, tokens_Lambda, tokens_MinusLeast, tokens_LambdaBlock, tokens_New, tokens_NewArray, tokens_NewFilled, tokens_Braces)
