-- The first token of each form of an expression, and what the form is judged to be.
use Rattle.std.proofs.Common.{◌≡◌, ℕ, Bool, List, Option, ap, sym, ◌∙◌}
use Rattle.java_tree.specs.declared.tokens.Position.{Position}
use Rattle.java_tree.specs.declared.exprs.JLiteral.{JLiteral}
use Rattle.java_tree.specs.declared.exprs.PostfixOp.{PostfixOp}
use Rattle.java_tree.specs.declared.exprs.PrefixOp.{PrefixOp}
use Rattle.java_tree.specs.declared.exprs.BinaryOp.{BinaryOp}
use Rattle.java_tree.specs.declared.exprs.AssignOp.{AssignOp}
use Rattle.java_tree.specs.declared.exprs.JParams.{JParams}
use Rattle.java_tree.specs.declared.exprs.JCreated.{JCreated}
use Rattle.java_tree.specs.declared.exprs.Span.{Span}
use Rattle.java_tree.specs.declared.types.JBrackets.{JBrackets}
use Rattle.java_tree.specs.declared.types.JType.{JType}
use Rattle.java_tree.specs.declared.types.JType.{roll-JType, out-JType, map-JType, out-roll-JType}
use Rattle.java_tree.specs.declared.types.JType.TheOpen.{JType-F}
use Rattle.java_tree.specs.declared.types.JType.TheVariants as ty
use Rattle.java_tree.specs.declared.types.Primitive.{Primitive}
use Rattle.java_tree.specs.declared.types.JQualified.{JQualified}
use Rattle.java_tree.specs.declared.exprs.JExpr.{JExpr, roll-JExpr, out-JExpr, map-JExpr, out-roll-JExpr}
use Rattle.java_tree.specs.declared.exprs.JExpr.TheVariants as e
use Rattle.java_tree.specs.declared.exprs.JExpr.TheOpen.{JExpr-F}
use Rattle.java_taken.specs.Judged.{Judged, ◌>>=◌}
use Rattle.java_taken.specs.Places.{first_at, type_at, params_at}
use Rattle.java_taken.specs.Expressions.{operator_of, local_of, number_of, paren_of, operands, form_of, expression}
use Rattle.java_taken.proofs.First.{first_by, first_out, type_first, type_out}
use Rattle.java_taken.proofs.Forms.{Part, beside, expression_out}

-- ---- types

type_form : (x : JType-F JType) (y : JType) → roll-JType x ≡ y → type_at y ≡ type_first (map-JType JType Position type_at x)
type_form x y rolls = type_out y ∙ ap (λ z. type_first (map-JType JType Position type_at z)) (ap out-JType (sym rolls) ∙ out-roll-JType x)

pub type_Primitive : (p : Primitive) (at : Position) → type_at (ty.Primitive p at) ≡ at
type_Primitive p at = type_form (JType-F.Primitive p at) _ (ty.rolls-Primitive p at)

pub type_Class : (q : JQualified) → type_at (ty.Class q) ≡ q.at
type_Class q = type_form (JType-F.Class q) _ (ty.rolls-Class q)

pub type_Applied : (q : JQualified) (lp : Position) (args : List JType) (commas : List Position) (is_joined : Bool) (close : Position) → type_at (ty.Applied q lp args commas is_joined close) ≡ q.at
type_Applied q lp args commas is_joined close = type_form (JType-F.Applied q lp args commas is_joined close) _ (ty.rolls-Applied q lp args commas is_joined close)

pub type_Array : (element : JType) (brackets : List JBrackets) → type_at (ty.Array element brackets) ≡ type_at element
type_Array element brackets = type_form (JType-F.Array element brackets) _ (ty.rolls-Array element brackets)

-- ---- the first token

place : (x : JExpr-F JExpr) (y : JExpr) → roll-JExpr x ≡ y → first_at y ≡ first_by (map-JExpr JExpr Position first_at x)
place x y rolls = first_out y ∙ ap (λ z. first_by (map-JExpr JExpr Position first_at z)) (ap out-JExpr (sym rolls) ∙ out-roll-JExpr x)

pub first_Name : (n : List ℕ) (at : Position) → first_at (e.Name n at) ≡ at
first_Name n at = place (JExpr-F.Name n at) _ (e.rolls-Name n at)

pub first_Literal : (x : JLiteral) (at : Position) → first_at (e.Literal x at) ≡ at
first_Literal x at = place (JExpr-F.Literal x at) _ (e.rolls-Literal x at)

pub first_This : (at : Position) → first_at (e.This at) ≡ at
first_This at = place (JExpr-F.This at) _ (e.rolls-This at)

pub first_SuperCall : (above dot : Position) (n : List ℕ) (at lp : Position) (xs : List JExpr) (ps : List Position) (rp : Position) → first_at (e.SuperCall above dot n at lp xs ps rp) ≡ above
first_SuperCall above dot n at lp xs ps rp = place (JExpr-F.SuperCall above dot n at lp xs ps rp) _ (e.rolls-SuperCall above dot n at lp xs ps rp)

pub first_Method : (x : JExpr) (dot : Position) (n : List ℕ) (at lp : Position) (xs : List JExpr) (ps : List Position) (rp : Position) → first_at (e.Method x dot n at lp xs ps rp) ≡ first_at x
first_Method x dot n at lp xs ps rp = place (JExpr-F.Method x dot n at lp xs ps rp) _ (e.rolls-Method x dot n at lp xs ps rp)

pub first_Element : (x : JExpr) (lp : Position) (y : JExpr) (rp : Position) → first_at (e.Element x lp y rp) ≡ first_at x
first_Element x lp y rp = place (JExpr-F.Element x lp y rp) _ (e.rolls-Element x lp y rp)

pub first_Postfix : (x : JExpr) (op : PostfixOp) (at : Position) → first_at (e.Postfix x op at) ≡ first_at x
first_Postfix x op at = place (JExpr-F.Postfix x op at) _ (e.rolls-Postfix x op at)

pub first_Instanceof : (x : JExpr) (at : Position) (to : JType) → first_at (e.Instanceof x at to) ≡ first_at x
first_Instanceof x at to = place (JExpr-F.Instanceof x at to) _ (e.rolls-Instanceof x at to)

pub first_Paren : (lp : Position) (x : JExpr) (rp : Position) → first_at (e.Paren lp x rp) ≡ lp
first_Paren lp x rp = place (JExpr-F.Paren lp x rp) _ (e.rolls-Paren lp x rp)

pub first_Call : (n : List ℕ) (at lp : Position) (xs : List JExpr) (ps : List Position) (rp : Position) → first_at (e.Call n at lp xs ps rp) ≡ at
first_Call n at lp xs ps rp = place (JExpr-F.Call n at lp xs ps rp) _ (e.rolls-Call n at lp xs ps rp)

pub first_Field : (x : JExpr) (dot : Position) (n : List ℕ) (at : Position) → first_at (e.Field x dot n at) ≡ first_at x
first_Field x dot n at = place (JExpr-F.Field x dot n at) _ (e.rolls-Field x dot n at)

pub first_Prefix : (op : PrefixOp) (at : Position) (x : JExpr) → first_at (e.Prefix op at x) ≡ at
first_Prefix op at x = place (JExpr-F.Prefix op at x) _ (e.rolls-Prefix op at x)

pub first_Cast : (lp : Position) (to : JType) (rp : Position) (x : JExpr) → first_at (e.Cast lp to rp x) ≡ lp
first_Cast lp to rp x = place (JExpr-F.Cast lp to rp x) _ (e.rolls-Cast lp to rp x)

pub first_Binary : (x : JExpr) (op : BinaryOp) (at : Position) (y : JExpr) → first_at (e.Binary x op at y) ≡ first_at x
first_Binary x op at y = place (JExpr-F.Binary x op at y) _ (e.rolls-Binary x op at y)

pub first_Conditional : (x : JExpr) (q : Position) (y : JExpr) (c : Position) (z : JExpr) → first_at (e.Conditional x q y c z) ≡ first_at x
first_Conditional x q y c z = place (JExpr-F.Conditional x q y c z) _ (e.rolls-Conditional x q y c z)

pub first_Assign : (x : JExpr) (op : AssignOp) (at : Position) (y : JExpr) → first_at (e.Assign x op at y) ≡ first_at x
first_Assign x op at y = place (JExpr-F.Assign x op at y) _ (e.rolls-Assign x op at y)

pub first_MinusLeast : (minus : Position) (x : JLiteral) (at : Position) → first_at (e.MinusLeast minus x at) ≡ minus
first_MinusLeast minus x at = place (JExpr-F.MinusLeast minus x at) _ (e.rolls-MinusLeast minus x at)

pub first_Lambda : (ps : JParams) (arrow : Position) (x : JExpr) → first_at (e.Lambda ps arrow x) ≡ params_at ps
first_Lambda ps arrow x = place (JExpr-F.Lambda ps arrow x) _ (e.rolls-Lambda ps arrow x)

pub first_LambdaBlock : (ps : JParams) (arrow : Position) (body : Span) → first_at (e.LambdaBlock ps arrow body) ≡ params_at ps
first_LambdaBlock ps arrow body = place (JExpr-F.LambdaBlock ps arrow body) _ (e.rolls-LambdaBlock ps arrow body)

pub first_Braces : (lc : Position) (xs : List JExpr) (ps : List Position) (more : Option Position) (rc : Position) → first_at (e.Braces lc xs ps more rc) ≡ lc
first_Braces lc xs ps more rc = place (JExpr-F.Braces lc xs ps more rc) _ (e.rolls-Braces lc xs ps more rc)

pub first_New : (at : Position) (made : JCreated) (lp : Position) (xs : List JExpr) (ps : List Position) (rp : Position) (body : Option Span) → first_at (e.New at made lp xs ps rp body) ≡ at
first_New at made lp xs ps rp body = place (JExpr-F.New at made lp xs ps rp body) _ (e.rolls-New at made lp xs ps rp body)

pub first_NewArray : (at : Position) (of : JType) (lb : Position) (size : JExpr) (rb : Position) (pairs : List JBrackets) → first_at (e.NewArray at of lb size rb pairs) ≡ at
first_NewArray at of lb size rb pairs = place (JExpr-F.NewArray at of lb size rb pairs) _ (e.rolls-NewArray at of lb size rb pairs)

pub first_NewFilled : (at : Position) (of : JType) (pairs : List JBrackets) (lc : Position) (xs : List JExpr) (ps : List Position) (more : Option Position) (rc : Position) → first_at (e.NewFilled at of pairs lc xs ps more rc) ≡ at
first_NewFilled at of pairs lc xs ps more rc = place (JExpr-F.NewFilled at of pairs lc xs ps more rc) _ (e.rolls-NewFilled at of pairs lc xs ps more rc)

-- ---- what it is judged to be

module _ (names : List (List ℕ)) where
  form : (x : JExpr-F JExpr) (y : JExpr) → roll-JExpr x ≡ y → expression names y ≡ form_of names (first_at y) (map-JExpr JExpr Part (beside (expression names)) x)
  form x y rolls = expression_out names y ∙ ap (λ z. form_of names (first_at y) (map-JExpr JExpr Part (beside (expression names)) z)) (ap out-JExpr (sym rolls) ∙ out-roll-JExpr x)

  pub form_Name : (n : List ℕ) (at : Position) → expression names (e.Name n at) ≡ local_of names n at
  form_Name n at = form (JExpr-F.Name n at) _ (e.rolls-Name n at) ∙ ap (local_of names n) (first_Name n at)

  pub form_Literal : (x : JLiteral) (at : Position) → expression names (e.Literal x at) ≡ number_of x at
  form_Literal x at = form (JExpr-F.Literal x at) _ (e.rolls-Literal x at) ∙ ap (number_of x) (first_Literal x at)

  pub form_This : (at : Position) → expression names (e.This at) ≡ Judged.Open (first_at (e.This at))
  form_This at = form (JExpr-F.This at) _ (e.rolls-This at)

  pub form_SuperCall : (above dot : Position) (n : List ℕ) (at lp : Position) (xs : List JExpr) (ps : List Position) (rp : Position) → expression names (e.SuperCall above dot n at lp xs ps rp) ≡ Judged.Open (first_at (e.SuperCall above dot n at lp xs ps rp))
  form_SuperCall above dot n at lp xs ps rp = form (JExpr-F.SuperCall above dot n at lp xs ps rp) _ (e.rolls-SuperCall above dot n at lp xs ps rp)

  pub form_Method : (x : JExpr) (dot : Position) (n : List ℕ) (at lp : Position) (xs : List JExpr) (ps : List Position) (rp : Position) → expression names (e.Method x dot n at lp xs ps rp) ≡ Judged.Open (first_at (e.Method x dot n at lp xs ps rp))
  form_Method x dot n at lp xs ps rp = form (JExpr-F.Method x dot n at lp xs ps rp) _ (e.rolls-Method x dot n at lp xs ps rp)

  pub form_Element : (x : JExpr) (lp : Position) (y : JExpr) (rp : Position) → expression names (e.Element x lp y rp) ≡ Judged.Open (first_at (e.Element x lp y rp))
  form_Element x lp y rp = form (JExpr-F.Element x lp y rp) _ (e.rolls-Element x lp y rp)

  pub form_Postfix : (x : JExpr) (op : PostfixOp) (at : Position) → expression names (e.Postfix x op at) ≡ Judged.Open (first_at (e.Postfix x op at))
  form_Postfix x op at = form (JExpr-F.Postfix x op at) _ (e.rolls-Postfix x op at)

  pub form_Instanceof : (x : JExpr) (at : Position) (to : JType) → expression names (e.Instanceof x at to) ≡ Judged.Open (first_at (e.Instanceof x at to))
  form_Instanceof x at to = form (JExpr-F.Instanceof x at to) _ (e.rolls-Instanceof x at to)

  pub form_Paren : (lp : Position) (x : JExpr) (rp : Position) → expression names (e.Paren lp x rp) ≡ (expression names x >>= paren_of lp)
  form_Paren lp x rp = form (JExpr-F.Paren lp x rp) _ (e.rolls-Paren lp x rp) ∙ ap (λ at. expression names x >>= paren_of at) (first_Paren lp x rp)

  pub form_Call : (n : List ℕ) (at lp : Position) (xs : List JExpr) (ps : List Position) (rp : Position) → expression names (e.Call n at lp xs ps rp) ≡ Judged.Open (first_at (e.Call n at lp xs ps rp))
  form_Call n at lp xs ps rp = form (JExpr-F.Call n at lp xs ps rp) _ (e.rolls-Call n at lp xs ps rp)

  pub form_Field : (x : JExpr) (dot : Position) (n : List ℕ) (at : Position) → expression names (e.Field x dot n at) ≡ Judged.Open (first_at (e.Field x dot n at))
  form_Field x dot n at = form (JExpr-F.Field x dot n at) _ (e.rolls-Field x dot n at)

  pub form_Prefix : (op : PrefixOp) (at : Position) (x : JExpr) → expression names (e.Prefix op at x) ≡ Judged.Open (first_at (e.Prefix op at x))
  form_Prefix op at x = form (JExpr-F.Prefix op at x) _ (e.rolls-Prefix op at x)

  pub form_Cast : (lp : Position) (to : JType) (rp : Position) (x : JExpr) → expression names (e.Cast lp to rp x) ≡ Judged.Open (first_at (e.Cast lp to rp x))
  form_Cast lp to rp x = form (JExpr-F.Cast lp to rp x) _ (e.rolls-Cast lp to rp x)

  pub form_Binary : (x : JExpr) (op : BinaryOp) (at : Position) (y : JExpr) → expression names (e.Binary x op at y) ≡ operands (first_at (e.Binary x op at y)) (expression names x) (operator_of op) at (expression names y)
  form_Binary x op at y = form (JExpr-F.Binary x op at y) _ (e.rolls-Binary x op at y)

  pub form_Conditional : (x : JExpr) (q : Position) (y : JExpr) (c : Position) (z : JExpr) → expression names (e.Conditional x q y c z) ≡ Judged.Open (first_at (e.Conditional x q y c z))
  form_Conditional x q y c z = form (JExpr-F.Conditional x q y c z) _ (e.rolls-Conditional x q y c z)

  pub form_Assign : (x : JExpr) (op : AssignOp) (at : Position) (y : JExpr) → expression names (e.Assign x op at y) ≡ Judged.Open (first_at (e.Assign x op at y))
  form_Assign x op at y = form (JExpr-F.Assign x op at y) _ (e.rolls-Assign x op at y)

  pub form_MinusLeast : (minus : Position) (x : JLiteral) (at : Position) → expression names (e.MinusLeast minus x at) ≡ Judged.Open (first_at (e.MinusLeast minus x at))
  form_MinusLeast minus x at = form (JExpr-F.MinusLeast minus x at) _ (e.rolls-MinusLeast minus x at)

  pub form_Lambda : (ps : JParams) (arrow : Position) (x : JExpr) → expression names (e.Lambda ps arrow x) ≡ Judged.Open (first_at (e.Lambda ps arrow x))
  form_Lambda ps arrow x = form (JExpr-F.Lambda ps arrow x) _ (e.rolls-Lambda ps arrow x)

  pub form_LambdaBlock : (ps : JParams) (arrow : Position) (body : Span) → expression names (e.LambdaBlock ps arrow body) ≡ Judged.Open (first_at (e.LambdaBlock ps arrow body))
  form_LambdaBlock ps arrow body = form (JExpr-F.LambdaBlock ps arrow body) _ (e.rolls-LambdaBlock ps arrow body)

  pub form_Braces : (lc : Position) (xs : List JExpr) (ps : List Position) (more : Option Position) (rc : Position) → expression names (e.Braces lc xs ps more rc) ≡ Judged.Open (first_at (e.Braces lc xs ps more rc))
  form_Braces lc xs ps more rc = form (JExpr-F.Braces lc xs ps more rc) _ (e.rolls-Braces lc xs ps more rc)

  pub form_New : (at : Position) (made : JCreated) (lp : Position) (xs : List JExpr) (ps : List Position) (rp : Position) (body : Option Span) → expression names (e.New at made lp xs ps rp body) ≡ Judged.Open (first_at (e.New at made lp xs ps rp body))
  form_New at made lp xs ps rp body = form (JExpr-F.New at made lp xs ps rp body) _ (e.rolls-New at made lp xs ps rp body)

  pub form_NewArray : (at : Position) (of : JType) (lb : Position) (size : JExpr) (rb : Position) (pairs : List JBrackets) → expression names (e.NewArray at of lb size rb pairs) ≡ Judged.Open (first_at (e.NewArray at of lb size rb pairs))
  form_NewArray at of lb size rb pairs = form (JExpr-F.NewArray at of lb size rb pairs) _ (e.rolls-NewArray at of lb size rb pairs)

  pub form_NewFilled : (at : Position) (of : JType) (pairs : List JBrackets) (lc : Position) (xs : List JExpr) (ps : List Position) (more : Option Position) (rc : Position) → expression names (e.NewFilled at of pairs lc xs ps more rc) ≡ Judged.Open (first_at (e.NewFilled at of pairs lc xs ps more rc))
  form_NewFilled at of pairs lc xs ps more rc = form (JExpr-F.NewFilled at of pairs lc xs ps more rc) _ (e.rolls-NewFilled at of pairs lc xs ps more rc)

pub ruleset types = (type_Primitive, type_Class, type_Applied, type_Array)

pub ruleset firsts = (first_Name, first_Literal, first_This, first_SuperCall, first_Method, first_Element, first_Postfix, first_Instanceof, first_Paren, first_Call, first_Field, first_Prefix, first_Cast, first_Binary, first_Conditional, first_Assign, first_MinusLeast, first_Lambda, first_LambdaBlock, first_Braces, first_New, first_NewArray, first_NewFilled)

pub ruleset forms = (form_Name, form_Literal, form_This, form_SuperCall, form_Method, form_Element, form_Postfix, form_Instanceof, form_Paren, form_Call, form_Field, form_Prefix, form_Cast, form_Binary, form_Conditional, form_Assign, form_MinusLeast, form_Lambda, form_LambdaBlock, form_Braces, form_New, form_NewArray, form_NewFilled)
