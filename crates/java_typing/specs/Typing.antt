-- When a typed expression is well typed, by the sections of JLS 4 and 15. No member is looked for and none is chosen: the
-- member that stands in the tree has to fit. Operands that are converted are nodes of their own, so that where a value goes
-- to a place its type is a subtype of the place's.
use Rattle.std.specs.Prelude.{◌≡◌, ◌||◌, ℕ, Bool, true, false, List, [], ◌∷◌, Option, Some, None, map}
use Rattle.java_tree.specs.declared.tokens.Position.{Position}
use Rattle.java_tree.specs.declared.exprs.PostfixOp.{PostfixOp}
use Rattle.j2k_base.specs.declared.constants.Kind.{Kind}
use Rattle.j2k_base.specs.declared.constants.Kind.TheVariants as kind
use Rattle.j2k_base.specs.declared.constants.Op2.{Op2}
use Rattle.j2k_base.specs.declared.constants.Value.{Value}
use Rattle.java_typed.specs.declared.types.ClassRef.{ClassRef}
use Rattle.java_typed.specs.declared.types.TType.{TType}
use Rattle.java_typed.specs.declared.types.TType.TheVariants as k
use Rattle.java_typed.specs.declared.types.TResult.{TResult}
use Rattle.java_typed.specs.declared.types.TResult.TheVariants as r
use Rattle.java_typed.specs.declared.types.TWritten.{TWritten}
use Rattle.java_typed.specs.declared.members.MemberRef.{MemberRef}
use Rattle.java_typed.specs.declared.exprs.Conversion.{Conversion}
use Rattle.java_typed.specs.declared.exprs.Conversion.TheVariants as to
use Rattle.java_typed.specs.declared.exprs.TExpr.{TExpr}
use Rattle.java_typed.specs.declared.exprs.TExpr.TheVariants as t
use Rattle.java_typed.specs.declared.exprs.TLambda.{TLambda}
use Rattle.java_typed.specs.declared.exprs.TLambdaParam.{TLambdaParam}
use Rattle.java_typed.specs.declared.exprs.UnaryOp.{UnaryOp}
use Rattle.java_typed.specs.declared.exprs.UnaryOp.TheVariants as unary
use Rattle.java_typed.specs.Reading.{converted, string_type, value_type}
use Rattle.java_type_relations.specs.declared.heads.Heads.{Heads}
use Rattle.java_type_relations.specs.declared.kinds.Simple.TheVariants as simple
use Rattle.java_type_relations.specs.declared.supers.Sought.TheVariants as sought
use Rattle.java_type_relations.specs.Types.{put, same}
use Rattle.java_type_relations.specs.Kinds.{is_within, promoted, simple_in, unboxed}
use Rattle.java_type_relations.specs.Supers.{supertype}
use Rattle.java_type_relations.specs.Subtypes.{is_subtype}
use Rattle.java_type_relations.specs.Casts.{is_castable}
use Rattle.java_typing.specs.Operators.{is_arithmetic, is_bitwise, is_comparison, is_logical, is_promoted, is_shift, is_sign}
use Rattle.java_typing.specs.Forms.{IsStatement, IsVariable}

-- ---- what is declared

pub record Field : Type 0 where
  pub is_static : Bool
  pub kind : TType

pub record Method : Type 0 where
  pub is_static : Bool
  pub params : List TType
  pub result : TResult

-- fields, methods and constructors, with types that are written with the type parameters of their class
pub record Declared : Type 0 where
  pub field : MemberRef → Option Field
  pub method : MemberRef → Option Method
  pub constructor_params : MemberRef → Option (List TType)

abbrev pub put_result : ClassRef → List TType → TResult → TResult
put_result c args r.Void = r.Void
put_result c args (r.Value kind) = r.Value (put c args kind)

-- a conversion takes values of a type (JLS 5.1.2 to 5.1.4, 5.1.7, 5.1.8)
abbrev pub Takes : Conversion → TType → Type 0
Takes (to.Number from kind) x = x ≡ k.Number from
Takes (to.Box from) x = x ≡ k.Number from
Takes (to.Unbox kind) x = unboxed x ≡ Some (simple.Number kind)
Takes to.BoxBoolean x = x ≡ k.Boolean
Takes to.UnboxBoolean x = unboxed x ≡ Some simple.Boolean

-- ---- what is claimed of expressions

pub data Claim : Type 0 where
  -- an expression has a type, or is a call without a value
  Is : TExpr → TResult → Claim
  -- arguments go to parameters of these types
  Go : List TExpr → List TType → Claim
  -- values go to places of one type
  Fill : List TExpr → TType → Claim

module _ (heads : Heads) (declared : Declared) where
  -- a lambda stands for a method of its interface, or of one above that (JLS 9.8, 15.27.3)
  abbrev pub Implements : TLambda → Method → List TType → Type 0
  Implements l method args =
      (declared.method l.method ≡ Some method) × (method.is_static ≡ false)
      × (supertype heads (sought.Class l.method.class) l.face ≡ Some (k.Class l.method.class args))
      × (map (λ (p : TLambdaParam). p.kind.kind) l.params ≡ map (put l.method.class args) method.params)

  pub data Holds : Claim → Type 0 where
    -- ---- values in their places

    no_arguments : Holds (Go [] [])
    argument : (x : TExpr) (a p : TType) (xs : List TExpr) (ps : List TType) →
        Holds (Is x (r.Value a)) → is_subtype heads a p ≡ true → Holds (Go xs ps) → Holds (Go (x ∷ xs) (p ∷ ps))
    no_elements : (p : TType) → Holds (Fill [] p)
    element_of : (x : TExpr) (a p : TType) (xs : List TExpr) →
        Holds (Is x (r.Value a)) → is_subtype heads a p ≡ true → Holds (Fill xs p) → Holds (Fill (x ∷ xs) p)
    -- ---- primary expressions

    -- JLS 15.8.1
    literal : (v : Value) (at : Position) → Holds (Is (t.Literal v at) (r.Value (value_type v)))
    null_literal : (at : Position) → Holds (Is (t.Null at) (r.Value k.Null))
    -- JLS 15.28: a constant expression has the type of its tree, and a value of it
    constant : (v : Value) (x : TExpr) → Holds (Is x (r.Value (value_type v))) → Holds (Is (t.Constant v x) (r.Value (value_type v)))
    -- JLS 15.8.3
    this : (at : Position) (is_written : Bool) (kind : TType) → Holds (Is (t.This at is_written kind) (r.Value kind))
    -- JLS 15.8.5
    paren : (at : Position) (x : TExpr) (a : TType) → Holds (Is x (r.Value a)) → Holds (Is (t.Paren at x) (r.Value a))
    -- JLS 6.5.6.1: what is declared of the local stands in the tree
    local : (name : List ℕ) (at : Position) (kind : TType) → Holds (Is (t.Local name at kind) (r.Value kind))
    -- JLS 15.11, 4.5: a field has its type with the arguments of the object's class
    static_field : (first : Position) (member : MemberRef) (at : Position) (field : Field) →
        declared.field member ≡ Some field → field.is_static ≡ true → Holds (Is (t.Static first member at field.kind) (r.Value field.kind))
    field : (x : TExpr) (member : MemberRef) (at : Position) (field : Field) (a : TType) (args : List TType) →
        Holds (Is x (r.Value a)) → supertype heads (sought.Class member.class) a ≡ Some (k.Class member.class args) →
        declared.field member ≡ Some field → field.is_static ≡ false →
        Holds (Is (t.Field x member at (put member.class args field.kind)) (r.Value (put member.class args field.kind)))
    -- JLS 10.7
    array_length : (x : TExpr) (at : Position) (a : TType) → Holds (Is x (r.Value (k.Array a))) → Holds (Is (t.Length x at) (r.Value (k.Number kind.Int)))
    -- JLS 15.10.3
    element : (x i : TExpr) (a : TType) → Holds (Is x (r.Value (k.Array a))) → Holds (Is i (r.Value (k.Number kind.Int))) → Holds (Is (t.Element x i a) (r.Value a))
    -- JLS 15.12.3: the arguments go to the parameters, and the call has the type of the result
    static_call : (first : Position) (member : MemberRef) (at : Position) (xs : List TExpr) (method : Method) →
        declared.method member ≡ Some method → method.is_static ≡ true → Holds (Go xs method.params) →
        Holds (Is (t.StaticCall first member at xs method.result) method.result)
    virtual_call : (x : TExpr) (member : MemberRef) (at : Position) (xs : List TExpr) (method : Method) (a : TType) (args : List TType) →
        Holds (Is x (r.Value a)) → supertype heads (sought.Class member.class) a ≡ Some (k.Class member.class args) →
        declared.method member ≡ Some method → method.is_static ≡ false → Holds (Go xs (map (put member.class args) method.params)) →
        Holds (Is (t.VirtualCall x member at xs (put_result member.class args method.result)) (put_result member.class args method.result))
    exact_call : (x : TExpr) (is_super : Bool) (member : MemberRef) (at : Position) (xs : List TExpr) (method : Method) (a : TType) (args : List TType) →
        Holds (Is x (r.Value a)) → supertype heads (sought.Class member.class) a ≡ Some (k.Class member.class args) →
        declared.method member ≡ Some method → method.is_static ≡ false → Holds (Go xs (map (put member.class args) method.params)) →
        Holds (Is (t.ExactCall x is_super member at xs (put_result member.class args method.result)) (put_result member.class args method.result))
    -- JLS 15.11.1, 15.12.4.1
    through : (x y : TExpr) (a : TType) (b : TResult) → Holds (Is x (r.Value a)) → Holds (Is y b) → Holds (Is (t.Through x y) b)
    -- ---- operators

    -- JLS 15.14.2, 15.14.3, 15.15.1, 15.15.2: of the variable's type, whose promoted type the sum has
    step : (is_prefix : Bool) (o : PostfixOp) (at : Position) (x : TExpr) (sum : Kind) (a : TType) →
        IsVariable x → Holds (Is x (r.Value a)) → promoted a ≡ Some sum → Holds (Is (t.Step is_prefix o at x sum) (r.Value a))
    -- JLS 15.15.3 to 15.15.5
    sign : (o : UnaryOp) (at : Position) (x : TExpr) (of : Kind) →
        is_sign o ≡ true → is_promoted of ≡ true → Holds (Is x (r.Value (k.Number of))) → Holds (Is (t.Unary o at x) (r.Value (k.Number of)))
    -- JLS 15.15.6
    complement : (at : Position) (x : TExpr) → Holds (Is x (r.Value k.Boolean)) → Holds (Is (t.Unary unary.Not at x) (r.Value k.Boolean))
    -- JLS 15.17, 15.18.2, 15.22.1
    arithmetic : (x : TExpr) (o : Op2) (at : Position) (y : TExpr) (of : Kind) →
        is_arithmetic o ≡ true → is_promoted of ≡ true → Holds (Is x (r.Value (k.Number of))) → Holds (Is y (r.Value (k.Number of))) →
        Holds (Is (t.Binary x o at y) (r.Value (k.Number of)))
    -- JLS 15.19: each operand has its own promoted type
    shift : (x : TExpr) (o : Op2) (at : Position) (y : TExpr) (of by : Kind) →
        is_shift o ≡ true → is_promoted of ≡ true → is_promoted by ≡ true → Holds (Is x (r.Value (k.Number of))) → Holds (Is y (r.Value (k.Number by))) →
        Holds (Is (t.Binary x o at y) (r.Value (k.Number of)))
    -- JLS 15.20.1, 15.21.1
    comparison : (x : TExpr) (o : Op2) (at : Position) (y : TExpr) (of : Kind) →
        is_comparison o ≡ true → is_promoted of ≡ true → Holds (Is x (r.Value (k.Number of))) → Holds (Is y (r.Value (k.Number of))) →
        Holds (Is (t.Binary x o at y) (r.Value k.Boolean))
    -- JLS 15.21.2, 15.22.2, 15.23, 15.24
    logical : (x : TExpr) (o : Op2) (at : Position) (y : TExpr) →
        is_logical o ≡ true → Holds (Is x (r.Value k.Boolean)) → Holds (Is y (r.Value k.Boolean)) → Holds (Is (t.Binary x o at y) (r.Value k.Boolean))
    -- JLS 15.18.1: one operand is a String
    concat : (x : TExpr) (at : Position) (y : TExpr) (a b : TType) →
        Holds (Is x (r.Value a)) → Holds (Is y (r.Value b)) → (same a string_type || same b string_type) ≡ true → Holds (Is (t.Concat x at y) (r.Value string_type))
    -- JLS 15.21.3: one could be cast to the type of the other
    same_reference : (x : TExpr) (is_equal : Bool) (at : Position) (y : TExpr) (a b : TType) →
        Holds (Is x (r.Value a)) → Holds (Is y (r.Value b)) → (is_castable heads a b || is_castable heads b a) ≡ true → Holds (Is (t.Same x is_equal at y) (r.Value k.Boolean))
    -- JLS 15.20.2
    instance : (x : TExpr) (at : Position) (of : TWritten) (a : TType) →
        Holds (Is x (r.Value a)) → is_castable heads a of.kind ≡ true → Holds (Is (t.Instanceof x at of) (r.Value k.Boolean))
    -- JLS 15.16
    cast : (at : Position) (of : TWritten) (x : TExpr) (a : TType) →
        Holds (Is x (r.Value a)) → is_castable heads a of.kind ≡ true → Holds (Is (t.Cast at of x) (r.Value of.kind))
    -- JLS 5.1
    convert : (c : Conversion) (x : TExpr) (a : TType) → Holds (Is x (r.Value a)) → Takes c a → Holds (Is (t.Convert c x) (r.Value (converted c)))
    -- JLS 15.25
    conditional : (x y z : TExpr) (of a b : TType) →
        Holds (Is x (r.Value k.Boolean)) → Holds (Is y (r.Value a)) → Holds (Is z (r.Value b)) → is_subtype heads a of ≡ true → is_subtype heads b of ≡ true →
        Holds (Is (t.Conditional x y z of) (r.Value of))
    -- ---- assignments

    -- JLS 15.26.1
    assign : (x : TExpr) (at : Position) (y : TExpr) (a b : TType) →
        IsVariable x → Holds (Is x (r.Value a)) → Holds (Is y (r.Value b)) → is_subtype heads b a ≡ true → Holds (Is (t.Assign x at y) (r.Value a))
    -- JLS 15.26.2: the operator works on both operands as it does alone, and its result is cast to the variable's type
    compound : (x : TExpr) (o : Op2) (of : Kind) (at : Position) (y : TExpr) (a : TType) (own : Kind) →
        is_arithmetic o ≡ true → IsVariable x → Holds (Is x (r.Value a)) → promoted a ≡ Some own → is_within (simple.Number own) (simple.Number of) ≡ true →
        Holds (Is y (r.Value (k.Number of))) → is_castable heads (k.Number of) a ≡ true → Holds (Is (t.Compound x o (Some of) at y) (r.Value a))
    compound_shift : (x : TExpr) (o : Op2) (of by : Kind) (at : Position) (y : TExpr) (a : TType) →
        is_shift o ≡ true → IsVariable x → Holds (Is x (r.Value a)) → promoted a ≡ Some of → is_promoted by ≡ true →
        Holds (Is y (r.Value (k.Number by))) → is_castable heads (k.Number of) a ≡ true → Holds (Is (t.Compound x o (Some of) at y) (r.Value a))
    compound_bitwise : (x : TExpr) (o : Op2) (at : Position) (y : TExpr) (a : TType) →
        is_bitwise o ≡ true → IsVariable x → Holds (Is x (r.Value a)) → simple_in a ≡ Some simple.Boolean → Holds (Is y (r.Value k.Boolean)) →
        Holds (Is (t.Compound x o None at y) (r.Value a))
    append : (x : TExpr) (at : Position) (y : TExpr) (b : TType) →
        IsVariable x → Holds (Is x (r.Value string_type)) → Holds (Is y (r.Value b)) → Holds (Is (t.Append x at y) (r.Value string_type))
    -- ---- lambdas, objects and arrays

    -- JLS 15.27.3: the parameters have the types of the method's, with the arguments of the interface's class; the body goes to the
    -- result, and may be an expression where there is none if that may stand as a statement
    lambda : (l : TLambda) (x : TExpr) (method : Method) (args : List TType) (result a : TType) →
        Implements l method args → method.result ≡ r.Value result → Holds (Is x (r.Value a)) → is_subtype heads a (put l.method.class args result) ≡ true →
        Holds (Is (t.Lambda l x) (r.Value l.face))
    lambda_statement : (l : TLambda) (x : TExpr) (method : Method) (args : List TType) (a : TResult) →
        Implements l method args → method.result ≡ r.Void → IsStatement x → Holds (Is x a) → Holds (Is (t.Lambda l x) (r.Value l.face))
    lambda_block : (l : TLambda) (number : ℕ) (method : Method) (args : List TType) → Implements l method args → Holds (Is (t.LambdaBlock l number) (r.Value l.face))
    -- JLS 15.9.3
    new_object : (at : Position) (of : TWritten) (member : MemberRef) (xs : List TExpr) (body : Option ℕ) (c : ClassRef) (args params : List TType) →
        of.kind ≡ k.Class c args → declared.constructor_params member ≡ Some params → Holds (Go xs (map (put c args) params)) →
        Holds (Is (t.New at of member xs body) (r.Value of.kind))
    -- JLS 15.10.1
    new_array : (at : Position) (of : TWritten) (x : TExpr) (a : TType) →
        of.kind ≡ k.Array a → Holds (Is x (r.Value (k.Number kind.Int))) → Holds (Is (t.NewArray at of x) (r.Value of.kind))
    -- JLS 10.6
    filled_array : (at : Position) (of : TWritten) (xs : List TExpr) (a : TType) →
        of.kind ≡ k.Array a → Holds (Fill xs a) → Holds (Is (t.NewFilled at of xs) (r.Value of.kind))

-- an expression is well typed, and has this type
abbrev pub HasType : Heads → Declared → TExpr → TResult → Type 0
HasType heads declared x a = Holds heads declared (Is x a)
