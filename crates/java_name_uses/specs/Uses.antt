-- What types and expressions say of names, in the order in which they bind them.
use Rattle.std.specs.Prelude.{ℕ, List, [], ◌∷◌, ◌++◌, map, Option, Some, None}
use Rattle.java_tree.specs.declared.tokens.Position.{Position}
use Rattle.java_tree.specs.declared.types.JDotted.{JDotted}
use Rattle.java_tree.specs.declared.types.JQualified.{JQualified}
use Rattle.java_tree.specs.declared.types.JType.{JType, out-JType, map-JType, fold-JType}
use Rattle.java_tree.specs.declared.types.JType.TheOpen.{JType-F}
use Rattle.java_tree.specs.declared.exprs.JParam.{JParam}
use Rattle.java_tree.specs.declared.exprs.JParams.{JParams}
use Rattle.java_tree.specs.declared.exprs.JParams.TheVariants as params
use Rattle.java_tree.specs.declared.exprs.JTypedParam.{JTypedParam}
use Rattle.java_tree.specs.declared.exprs.JCreated.{JCreated}
use Rattle.java_tree.specs.declared.exprs.JCreated.TheVariants as made
use Rattle.java_tree.specs.declared.exprs.Span.{Span}
use Rattle.java_tree.specs.declared.exprs.JExpr.{JExpr, out-JExpr, map-JExpr, fold-JExpr}
use Rattle.java_tree.specs.declared.exprs.JExpr.TheOpen.{JExpr-F}
use Rattle.java_name_uses.specs.declared.uses.Sign.{Sign}
use Rattle.java_name_uses.specs.declared.uses.Sign.TheVariants as sign
use Rattle.java_name_uses.specs.declared.uses.Word.{Word}
use Rattle.java_name_uses.specs.declared.uses.Word.TheVariants as w
use Rattle.java_name_uses.specs.declared.uses.Naming.{Naming}
use Rattle.java_name_uses.specs.declared.uses.Naming.TheVariants as naming
use Rattle.java_name_uses.specs.declared.uses.Use.{Use}
use Rattle.java_name_uses.specs.declared.uses.Use.TheVariants as use_

abbrev pub Uses : Type 0
Uses = List Use

abbrev pub signed : Sign → Uses
signed x = use_.Sign x ∷ []

abbrev pub word : Word → Position → Uses
word x at = use_.Word x at ∷ []

abbrev pub named : Naming → List ℕ → Position → Uses
named x name at = use_.Name x name at ∷ []

-- one after the other
abbrev pub all : List Uses → Uses
all [] = []
all (x ∷ xs) = x ++ all xs

-- ---- types

abbrev pub part : JDotted → Uses
part x = named naming.TypePart x.name x.at

-- the name of a type (JLS 6.5.5)
abbrev pub type_name : JQualified → Uses
type_name x = named naming.Type x.name x.at ++ (all (map part x.rest) ++ signed sign.TypeEnd)

abbrev pub type_by : JType-F Uses → Uses
type_by (JType-F.Primitive primitive at) = []
type_by (JType-F.Class name) = type_name name
type_by (JType-F.Applied name lt args commas joined gt) = type_name name ++ all args
type_by (JType-F.Array element brackets) = element

-- the names in a type (JLS 4)
unfoldable pub type_uses : JType → Uses
type_uses = fold-JType Uses type_by

-- the same, by its parts
abbrev pub type_form : JType → Uses
type_form x = type_by (map-JType JType Uses type_uses (out-JType x))

-- the class of an object that is created (JLS 15.9)
abbrev pub created : JCreated → Uses
created (made.Type kind) = type_uses kind
created (made.Inferred name lt joined gt) = type_name name

-- ---- what a lambda or a method declares (JLS 8.4.1, 15.27.1)

abbrev pub variable : JParam → Uses
variable x = named naming.Variable x.name x.at

abbrev pub parameter : JTypedParam → Uses
parameter x = type_uses x.kind ++ named naming.Variable x.name x.at

abbrev pub lambda_parameters : JParams → Uses
lambda_parameters (params.One x) = variable x
lambda_parameters (params.Several lp xs commas rp) = all (map variable xs)
lambda_parameters (params.Typed lp xs commas rp) = all (map parameter xs)

-- ---- expressions (JLS 15)

-- used as a value: no longer a part of a name (JLS 6.5.1)
abbrev pub value : Uses → Uses
value x = x ++ signed sign.Value

abbrev pub values : List Uses → Uses
values xs = all (map value xs)

-- a lambda is a scope of its own
abbrev pub lambda : JParams → Uses → Uses
lambda ps body = signed sign.OpenLambda ++ (lambda_parameters ps ++ (value body ++ signed sign.Close))

abbrev pub lambda_block : JParams → Uses
lambda_block ps = signed sign.OpenLambda ++ (lambda_parameters ps ++ (signed sign.Block ++ signed sign.Close))

-- an anonymous class isn't built yet
abbrev pub creation : Position → JCreated → List Uses → Option Span → Uses
creation at made args None = created made ++ values args
creation at made args (Some body) = word w.NotBuilt at ++ (created made ++ (values args ++ signed sign.Skipped))

abbrev pub uses_by : JExpr-F Uses → Uses
uses_by (JExpr-F.Name name at) = named naming.Expression name at
uses_by (JExpr-F.Literal literal at) = []
uses_by (JExpr-F.This at) = word w.This at
uses_by (JExpr-F.Paren lp inner rp) = value inner
uses_by (JExpr-F.Call name at lp args commas rp) = named naming.Method name at ++ values args
uses_by (JExpr-F.SuperCall above dot name at lp args commas rp) = word w.Super above ++ (named naming.SuperMethod name at ++ values args)
uses_by (JExpr-F.Field left dot name at) = left ++ named naming.Selected name at
uses_by (JExpr-F.Method left dot name at lp args commas rp) = left ++ (named naming.SelectedMethod name at ++ values args)
uses_by (JExpr-F.Element left lb index rb) = value left ++ value index
uses_by (JExpr-F.Postfix left op at) = value left
uses_by (JExpr-F.Prefix op at inner) = value inner
uses_by (JExpr-F.MinusLeast minus literal at) = []
uses_by (JExpr-F.Cast lp kind rp inner) = type_uses kind ++ value inner
uses_by (JExpr-F.Binary left op at right) = value left ++ value right
uses_by (JExpr-F.Instanceof left at kind) = value left ++ type_uses kind
uses_by (JExpr-F.Conditional test question left colon right) = value test ++ (value left ++ value right)
uses_by (JExpr-F.Assign left op at right) = value left ++ value right
uses_by (JExpr-F.Lambda ps arrow body) = lambda ps body
uses_by (JExpr-F.LambdaBlock ps arrow body) = lambda_block ps
uses_by (JExpr-F.New at made lp args commas rp body) = creation at made args body
uses_by (JExpr-F.NewArray at kind lb size rb more) = type_uses kind ++ value size
uses_by (JExpr-F.NewFilled at kind brackets lc inits commas more rc) = type_uses kind ++ values inits
uses_by (JExpr-F.Braces lc inits commas more rc) = values inits

unfoldable pub uses : JExpr → Uses
uses = fold-JExpr Uses uses_by

-- the same, by its parts
abbrev pub form : JExpr → Uses
form x = uses_by (map-JExpr JExpr Uses uses (out-JExpr x))
