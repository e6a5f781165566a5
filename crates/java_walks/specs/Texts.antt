-- What is told of all expressions and all written types of statements and of classes, in the order of the text.
use Rattle.std.specs.Prelude.{ℕ, List, [], ◌++◌, Option, Some, None}
use Rattle.std.specs.List.{flat_map}
use Rattle.java_typed.specs.declared.types.TWritten.{TWritten}
use Rattle.java_typed.specs.declared.exprs.TExpr.{TExpr}
use Rattle.java_typed.specs.declared.statements.TDeclarator.{TDeclarator}
use Rattle.java_typed.specs.declared.statements.TSimple.{TSimple}
use Rattle.java_typed.specs.declared.statements.TSimple.TheVariants as simple
use Rattle.java_typed.specs.declared.statements.TForStart.{TForStart}
use Rattle.java_typed.specs.declared.statements.TForStart.TheVariants as starts
use Rattle.java_typed.specs.declared.statements.TLabel.{TLabel}
use Rattle.java_typed.specs.declared.statements.TLabel.TheVariants as label
use Rattle.java_typed.specs.declared.statements.TLock.{TLock}
use Rattle.java_typed.specs.declared.statements.TLock.TheVariants as lock
use Rattle.java_typed.specs.declared.statements.TBody.{TBody, fold-TBody}
use Rattle.java_typed.specs.declared.statements.TBody.TheOpen.{TBody-F, TStatement-F, TCaseGroup-F, TCatch-F}
use Rattle.java_typed.specs.declared.statements.TStatement.{TStatement, fold-TStatement}
use Rattle.java_typed.specs.declared.units.TTypeParam.{TTypeParam}
use Rattle.java_typed.specs.declared.units.TParam.{TParam}
use Rattle.java_typed.specs.declared.units.TField.{TField}
use Rattle.java_typed.specs.declared.units.TBlock.{TBlock}
use Rattle.java_typed.specs.declared.units.TMethod.{TMethod}
use Rattle.java_typed.specs.declared.units.TFirstCall.{TFirstCall}
use Rattle.java_typed.specs.declared.units.TFirstCall.TheVariants as first
use Rattle.java_typed.specs.declared.units.TConstructor.{TConstructor}
use Rattle.java_typed.specs.declared.units.TInitializer.{TInitializer}
use Rattle.java_typed.specs.declared.units.TInitializer.TheVariants as part
use Rattle.java_typed.specs.declared.units.TClass.{TClass}

-- by what is told of an expression that is part of no other, of a written type that stands in no expression, and of an anonymous class
-- by its place among the classes of the unit
module _ {A : Type 0} (of_value : TExpr → List A) (of_type : TWritten → List A) (of_inner : ℕ → List A) where
  abbrev pub of_option : Option TExpr → List A
  of_option None = []
  of_option (Some x) = of_value x

  -- ---- statements (JLS 14)

  abbrev pub of_declarator : TDeclarator → List A
  of_declarator d = of_type d.kind ++ of_option d.value

  abbrev pub of_simple : TSimple → List A
  of_simple simple.Empty = []
  of_simple (simple.Locals ds) = flat_map of_declarator ds
  of_simple (simple.Value x) = of_value x
  of_simple (simple.Break name) = []
  of_simple (simple.Continue name) = []
  of_simple (simple.Return x) = of_option x
  of_simple (simple.Throw x) = of_value x

  abbrev pub of_start : TForStart → List A
  of_start (starts.Locals ds) = flat_map of_declarator ds
  of_start (starts.Values xs) = flat_map of_value xs

  abbrev pub of_label : TLabel → List A
  of_label (label.Case at v x) = of_value x
  of_label (label.Default at) = []

  abbrev pub of_lock : TLock → List A
  of_lock (lock.Value x) = of_value x
  of_lock (lock.Class c) = []

  abbrev pub all : List (List A) → List A
  all xs = flat_map (λ x. x) xs

  abbrev pub body_by : TBody-F (List A) (List A) (List A) (List A) → List A
  body_by (TBody-F.Statements xs) = all xs
  body_by (TBody-F.Class number) = of_inner number

  abbrev pub group_by : TCaseGroup-F (List A) (List A) (List A) (List A) → List A
  group_by x = flat_map of_label x.labels ++ all x.statements

  abbrev pub catch_by : TCatch-F (List A) (List A) (List A) (List A) → List A
  catch_by x = of_declarator x.caught ++ all x.statements

  abbrev pub statement_by : TStatement-F (List A) (List A) (List A) (List A) → List A
  statement_by (TStatement-F.Simple at x bodies) = of_simple x ++ all bodies
  statement_by (TStatement-F.Block at xs right) = all xs
  statement_by (TStatement-F.Labeled at own x) = x
  statement_by (TStatement-F.If at c bodies x) = of_value c ++ (all bodies ++ x)
  statement_by (TStatement-F.IfElse at c bodies x y) = of_value c ++ (all bodies ++ (x ++ y))
  statement_by (TStatement-F.While at c bodies x) = of_value c ++ (all bodies ++ x)
  statement_by (TStatement-F.Do at x c bodies) = x ++ (of_value c ++ all bodies)
  statement_by (TStatement-F.For at start c updates bodies x) = of_start start ++ (of_option c ++ (flat_map of_value updates ++ (all bodies ++ x)))
  statement_by (TStatement-F.Each at variable xs bodies x) = of_declarator variable ++ (of_value xs ++ (all bodies ++ x))
  statement_by (TStatement-F.Switch at x bodies gs) = of_value x ++ (all bodies ++ all gs)
  statement_by (TStatement-F.Synchronized at x bodies xs) = of_lock x ++ (all bodies ++ all xs)
  statement_by (TStatement-F.Try at xs catches last lasts) = all xs ++ (all catches ++ all lasts)

  unfoldable pub of_statement : TStatement → List A
  of_statement = fold-TStatement (List A) (List A) (List A) (List A) body_by statement_by group_by catch_by

  unfoldable pub of_body : TBody → List A
  of_body = fold-TBody (List A) (List A) (List A) (List A) body_by statement_by group_by catch_by

  -- ---- classes (JLS 8, 9)

  abbrev pub of_bound : Option TWritten → List A
  of_bound None = []
  of_bound (Some w) = of_type w

  abbrev pub of_type_param : TTypeParam → List A
  of_type_param p = of_bound p.bound

  abbrev pub of_param : TParam → List A
  of_param p = of_type p.kind

  abbrev pub of_block : Option TBlock → List A
  of_block None = []
  of_block (Some b) = flat_map of_statement b.statements

  abbrev pub of_field : TField → List A
  of_field f = of_type f.kind

  abbrev pub of_method : TMethod → List A
  of_method m = flat_map of_type_param m.type_params ++ (of_bound m.result ++ (flat_map of_param m.params ++ of_block m.block))

  abbrev pub of_call : TFirstCall → List A
  of_call first.Nothing = []
  of_call (first.This at m arguments bodies) = flat_map of_value arguments ++ flat_map of_body bodies
  of_call (first.Super at is_written m arguments bodies) = flat_map of_value arguments ++ flat_map of_body bodies

  abbrev pub of_constructor : TConstructor → List A
  of_constructor k = flat_map of_param k.params ++ (of_call k.call ++ flat_map of_statement k.block.statements)

  abbrev pub of_initializer : TInitializer → List A
  of_initializer (part.Value n x bodies) = of_value x ++ flat_map of_body bodies
  of_initializer (part.Block at is_static xs) = flat_map of_statement xs

  abbrev pub of_class : TClass → List A
  of_class c = flat_map of_type_param c.type_params ++ (flat_map of_field c.fields ++ (flat_map of_method c.methods ++ (flat_map of_constructor c.constructors ++ flat_map of_initializer c.initializers)))
