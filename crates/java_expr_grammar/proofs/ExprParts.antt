-- The depth of each form of an expression.
use Rattle.std.proofs.Common.{◌≡◌, ℕ, ◌-◌, suc, max, List, map, Option, refl, ap, sym, ◌∙◌}
use Rattle.java_tree.specs.declared.tokens.Position.{Position}
use Rattle.java_tree.specs.declared.exprs.JLiteral.{JLiteral}
use Rattle.java_tree.specs.declared.exprs.PostfixOp.{PostfixOp}
use Rattle.java_tree.specs.declared.exprs.PrefixOp.{PrefixOp}
use Rattle.java_tree.specs.declared.exprs.BinaryOp.{BinaryOp}
use Rattle.java_tree.specs.declared.exprs.AssignOp.{AssignOp}
use Rattle.java_tree.specs.declared.exprs.JParams.{JParams}
use Rattle.java_tree.specs.declared.exprs.JCreated.{JCreated}
use Rattle.java_tree.specs.declared.exprs.Span.{Span}
use Rattle.java_tree.specs.declared.types.JBrackets.{JBrackets}
use Rattle.java_tree.specs.declared.types.JType.{JType}
use Rattle.java_tree.specs.declared.exprs.JExpr.{JExpr, roll-JExpr, map-JExpr, fold-roll-JExpr}
use Rattle.java_tree.specs.declared.exprs.JExpr.TheVariants as e
use Rattle.java_tree.specs.declared.exprs.JExpr.TheOpen.{JExpr-F}
use Rattle.java_tree.specs.Trees.{depth, depth_by, type_depth, params_depth, created_depth, deepest}
use Rattle.java_expr_grammar.proofs.Parts.{deepest_more}
use Rattle.java_expr_grammar.proofs.Seen.{length_seen}

layer : (x : JExpr-F JExpr) (y : JExpr) (n : ℕ) → roll-JExpr x ≡ y → depth_by (map-JExpr JExpr ℕ depth x) ≡ n → depth y ≡ n
unfolding depth
layer x y n rolls same = ap depth (sym rolls) ∙ fold-roll-JExpr ℕ depth_by x ∙ same

pub depth_Name : (n : List ℕ) (at : Position) → depth (e.Name n at) ≡ 1
depth_Name n at = layer (JExpr-F.Name n at) _ _ (e.rolls-Name n at) refl

pub depth_Literal : (x : JLiteral) (at : Position) → depth (e.Literal x at) ≡ 1
depth_Literal x at = layer (JExpr-F.Literal x at) _ _ (e.rolls-Literal x at) refl

pub depth_This : (at : Position) → depth (e.This at) ≡ 1
depth_This at = layer (JExpr-F.This at) _ _ (e.rolls-This at) refl

pub depth_SuperCall : (above dot : Position) (n : List ℕ) (at lp : Position) (xs : List JExpr) (ps : List Position) (rp : Position) → depth (e.SuperCall above dot n at lp xs ps rp) ≡ suc (deepest (map depth xs))
depth_SuperCall above dot n at lp xs ps rp = layer (JExpr-F.SuperCall above dot n at lp xs ps rp) _ _ (e.rolls-SuperCall above dot n at lp xs ps rp) refl

pub depth_Method : (x : JExpr) (dot : Position) (n : List ℕ) (at lp : Position) (xs : List JExpr) (ps : List Position) (rp : Position) → depth (e.Method x dot n at lp xs ps rp) ≡ suc (max (depth x) (deepest (map depth xs)))
depth_Method x dot n at lp xs ps rp = layer (JExpr-F.Method x dot n at lp xs ps rp) _ _ (e.rolls-Method x dot n at lp xs ps rp) refl

pub depth_Element : (x : JExpr) (lp : Position) (y : JExpr) (rp : Position) → depth (e.Element x lp y rp) ≡ suc (max (depth x) (depth y))
depth_Element x lp y rp = layer (JExpr-F.Element x lp y rp) _ _ (e.rolls-Element x lp y rp) refl

pub depth_Postfix : (x : JExpr) (op : PostfixOp) (at : Position) → depth (e.Postfix x op at) ≡ suc (depth x)
depth_Postfix x op at = layer (JExpr-F.Postfix x op at) _ _ (e.rolls-Postfix x op at) refl

pub depth_Instanceof : (x : JExpr) (at : Position) (to : JType) → depth (e.Instanceof x at to) ≡ suc (max (depth x) (type_depth to))
depth_Instanceof x at to = layer (JExpr-F.Instanceof x at to) _ _ (e.rolls-Instanceof x at to) refl

pub depth_Paren : (lp : Position) (x : JExpr) (rp : Position) → depth (e.Paren lp x rp) ≡ suc (depth x)
depth_Paren lp x rp = layer (JExpr-F.Paren lp x rp) _ _ (e.rolls-Paren lp x rp) refl

pub depth_Call : (n : List ℕ) (at lp : Position) (xs : List JExpr) (ps : List Position) (rp : Position) → depth (e.Call n at lp xs ps rp) ≡ suc (deepest (map depth xs))
depth_Call n at lp xs ps rp = layer (JExpr-F.Call n at lp xs ps rp) _ _ (e.rolls-Call n at lp xs ps rp) refl

pub depth_Field : (x : JExpr) (dot : Position) (n : List ℕ) (at : Position) → depth (e.Field x dot n at) ≡ suc (depth x)
depth_Field x dot n at = layer (JExpr-F.Field x dot n at) _ _ (e.rolls-Field x dot n at) refl

pub depth_Prefix : (op : PrefixOp) (at : Position) (x : JExpr) → depth (e.Prefix op at x) ≡ suc (depth x)
depth_Prefix op at x = layer (JExpr-F.Prefix op at x) _ _ (e.rolls-Prefix op at x) refl

pub depth_Cast : (lp : Position) (to : JType) (rp : Position) (x : JExpr) → depth (e.Cast lp to rp x) ≡ suc (max (type_depth to) (depth x))
depth_Cast lp to rp x = layer (JExpr-F.Cast lp to rp x) _ _ (e.rolls-Cast lp to rp x) refl

pub depth_Binary : (x : JExpr) (op : BinaryOp) (at : Position) (y : JExpr) → depth (e.Binary x op at y) ≡ suc (max (depth x) (depth y))
depth_Binary x op at y = layer (JExpr-F.Binary x op at y) _ _ (e.rolls-Binary x op at y) refl

pub depth_Conditional : (x : JExpr) (q : Position) (y : JExpr) (c : Position) (z : JExpr) → depth (e.Conditional x q y c z) ≡ suc (max (depth x) (max (depth y) (depth z)))
depth_Conditional x q y c z = layer (JExpr-F.Conditional x q y c z) _ _ (e.rolls-Conditional x q y c z) refl

pub depth_Assign : (x : JExpr) (op : AssignOp) (at : Position) (y : JExpr) → depth (e.Assign x op at y) ≡ suc (max (depth x) (depth y))
depth_Assign x op at y = layer (JExpr-F.Assign x op at y) _ _ (e.rolls-Assign x op at y) refl

pub depth_MinusLeast : (minus : Position) (x : JLiteral) (at : Position) → depth (e.MinusLeast minus x at) ≡ 2
depth_MinusLeast minus x at = layer (JExpr-F.MinusLeast minus x at) _ _ (e.rolls-MinusLeast minus x at) refl

pub depth_Lambda : (ps : JParams) (arrow : Position) (x : JExpr) → depth (e.Lambda ps arrow x) ≡ suc (max (params_depth ps) (depth x))
depth_Lambda ps arrow x = layer (JExpr-F.Lambda ps arrow x) _ _ (e.rolls-Lambda ps arrow x) refl

pub depth_LambdaBlock : (ps : JParams) (arrow : Position) (body : Span) → depth (e.LambdaBlock ps arrow body) ≡ suc (max (params_depth ps) 1)
depth_LambdaBlock ps arrow body = layer (JExpr-F.LambdaBlock ps arrow body) _ _ (e.rolls-LambdaBlock ps arrow body) refl

pub depth_New : (at : Position) (made : JCreated) (lp : Position) (xs : List JExpr) (ps : List Position) (rp : Position) (body : Option Span)
    → depth (e.New at made lp xs ps rp body) ≡ suc (max (created_depth made) (deepest (map depth xs)))
depth_New at made lp xs ps rp body = layer (JExpr-F.New at made lp xs ps rp body) _ _ (e.rolls-New at made lp xs ps rp body) refl

pub depth_NewArray : (at : Position) (of : JType) (lb : Position) (size : JExpr) (rb : Position) (pairs : List JBrackets)
    → depth (e.NewArray at of lb size rb pairs) ≡ suc (max (type_depth of - 1) (depth size))
depth_NewArray at of lb size rb pairs = layer (JExpr-F.NewArray at of lb size rb pairs) _ _ (e.rolls-NewArray at of lb size rb pairs) refl

pub depth_NewFilled : (at : Position) (of : JType) (pairs : List JBrackets) (lc : Position) (xs : List JExpr) (ps : List Position) (more : Option Position) (rc : Position)
    → depth (e.NewFilled at of pairs lc xs ps more rc) ≡ suc (max (type_depth of - 1) (deepest (map depth xs)))
depth_NewFilled at of pairs lc xs ps more rc = layer (JExpr-F.NewFilled at of pairs lc xs ps more rc) _ _ (e.rolls-NewFilled at of pairs lc xs ps more rc) refl

pub depth_Braces : (lc : Position) (xs : List JExpr) (ps : List Position) (more : Option Position) (rc : Position) → depth (e.Braces lc xs ps more rc) ≡ suc (deepest (map depth xs))
depth_Braces lc xs ps more rc = layer (JExpr-F.Braces lc xs ps more rc) _ _ (e.rolls-Braces lc xs ps more rc) refl

pub ruleset parts = (depth_Name, depth_Literal, depth_This, depth_SuperCall, depth_Method, depth_Element, depth_Postfix, depth_Instanceof, length_seen, depth_Paren, depth_Call, depth_Field, depth_Prefix, depth_Cast, depth_Binary, depth_Conditional, depth_Assign, depth_Lambda, depth_MinusLeast, depth_LambdaBlock, depth_New, depth_NewArray, depth_NewFilled, depth_Braces, deepest_more)
