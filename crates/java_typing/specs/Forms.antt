-- Which expressions denote variables, and which may stand as statements.
use Rattle.std.specs.Prelude.{ℕ, Bool, List, Option}
use Rattle.java_tree.specs.declared.tokens.Position.{Position}
use Rattle.java_tree.specs.declared.exprs.PostfixOp.{PostfixOp}
use Rattle.j2k_base.specs.declared.constants.Kind.{Kind}
use Rattle.j2k_base.specs.declared.constants.Op2.{Op2}
use Rattle.java_typed.specs.declared.types.TType.{TType}
use Rattle.java_typed.specs.declared.types.TResult.{TResult}
use Rattle.java_typed.specs.declared.types.TWritten.{TWritten}
use Rattle.java_typed.specs.declared.members.MemberRef.{MemberRef}
use Rattle.java_typed.specs.declared.exprs.TExpr.{TExpr}
use Rattle.java_typed.specs.declared.exprs.TExpr.TheVariants as t

-- a local, a field or an element of an array, also in parentheses (JLS 15.8.5, 15.26)
pub data IsVariable : TExpr → Type 0 where
  local : (name : List ℕ) (at : Position) (kind : TType) → IsVariable (t.Local name at kind)
  static_field : (first : Position) (member : MemberRef) (at : Position) (kind : TType) → IsVariable (t.Static first member at kind)
  field : (x : TExpr) (member : MemberRef) (at : Position) (kind : TType) → IsVariable (t.Field x member at kind)
  element : (x i : TExpr) (kind : TType) → IsVariable (t.Element x i kind)
  through : (x y : TExpr) → IsVariable y → IsVariable (t.Through x y)
  paren : (at : Position) (x : TExpr) → IsVariable x → IsVariable (t.Paren at x)

-- an assignment, `++` or `--`, a call or a new object (JLS 14.8)
pub data IsStatement : TExpr → Type 0 where
  assign : (x : TExpr) (at : Position) (y : TExpr) → IsStatement (t.Assign x at y)
  compound : (x : TExpr) (o : Op2) (of : Option Kind) (at : Position) (y : TExpr) → IsStatement (t.Compound x o of at y)
  append : (x : TExpr) (at : Position) (y : TExpr) → IsStatement (t.Append x at y)
  step : (is_prefix : Bool) (o : PostfixOp) (at : Position) (x : TExpr) (sum : Kind) → IsStatement (t.Step is_prefix o at x sum)
  static_call : (first : Position) (member : MemberRef) (at : Position) (xs : List TExpr) (result : TResult) → IsStatement (t.StaticCall first member at xs result)
  virtual_call : (x : TExpr) (member : MemberRef) (at : Position) (xs : List TExpr) (result : TResult) → IsStatement (t.VirtualCall x member at xs result)
  exact_call : (x : TExpr) (is_super : Bool) (member : MemberRef) (at : Position) (xs : List TExpr) (result : TResult) → IsStatement (t.ExactCall x is_super member at xs result)
  through : (x y : TExpr) → IsStatement y → IsStatement (t.Through x y)
  new_object : (at : Position) (of : TWritten) (member : MemberRef) (xs : List TExpr) (body : Option ℕ) → IsStatement (t.New at of member xs body)
