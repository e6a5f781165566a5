-- Classes and units each of whose nodes satisfies a condition: all types and expressions of their members, initializers and bodies
-- (JLS 7.3, 8, 9).
use Rattle.std.specs.Prelude.{ℕ, List, [], Option, Some, None}
use Rattle.std.specs.List.{AllByRecursion, flat_map}
use Rattle.java_typed.specs.declared.types.TWritten.{TWritten}
use Rattle.java_typed.specs.declared.exprs.TExpr.{TExpr}
use Rattle.java_typed.specs.declared.statements.TBody.{TBody}
use Rattle.java_typed.specs.declared.statements.TBody.TheFolds.{every-TBody, every-TStatement}
use Rattle.java_typed.specs.declared.statements.TStatement.{TStatement}
use Rattle.java_typed.specs.declared.units.TTypeParam.{TTypeParam}
use Rattle.java_typed.specs.declared.units.TParam.{TParam}
use Rattle.java_typed.specs.declared.units.TField.{TField}
use Rattle.java_typed.specs.declared.units.TBlock.{TBlock}
use Rattle.java_typed.specs.declared.units.TMethod.{TMethod}
use Rattle.java_typed.specs.declared.units.TFirstCall.{TFirstCall}
use Rattle.java_typed.specs.declared.units.TFirstCall.TheVariants as first
use Rattle.java_typed.specs.declared.units.TConstructor.{TConstructor}
use Rattle.java_typed.specs.declared.units.TInitializer.{TInitializer}
use Rattle.java_typed.specs.declared.units.TInitializer.TheVariants as part
use Rattle.java_typed.specs.declared.units.TClass.{TClass}
use Rattle.java_typed.specs.declared.units.TUnit.{TUnit}
use Rattle.java_walks.specs.Texts.{of_class}
use Rattle.java_walks.specs.Nodes.{own_body, own_catch, own_group, own_statement}

module _ {A : Type 0} (of_value : TExpr → List A) (of_type : TWritten → List A) (of_inner : ℕ → List A) (P : A → Type 0) where
  abbrev pub EveryStatement : TStatement → Type 0
  EveryStatement = every-TStatement (λ n. AllByRecursion P (own_body of_value of_type of_inner n)) (λ n. AllByRecursion P (own_statement of_value of_type of_inner n)) (λ n. AllByRecursion P (own_group of_value of_type of_inner n)) (λ n. AllByRecursion P (own_catch of_value of_type of_inner n))

  abbrev pub EveryBody : TBody → Type 0
  EveryBody = every-TBody (λ n. AllByRecursion P (own_body of_value of_type of_inner n)) (λ n. AllByRecursion P (own_statement of_value of_type of_inner n)) (λ n. AllByRecursion P (own_group of_value of_type of_inner n)) (λ n. AllByRecursion P (own_catch of_value of_type of_inner n))

  abbrev pub OfType : TWritten → Type 0
  OfType w = AllByRecursion P (of_type w)

  abbrev pub OfValue : TExpr → Type 0
  OfValue x = AllByRecursion P (of_value x)

  abbrev pub OfBound : Option TWritten → Type 0
  OfBound None = Unit {0}
  OfBound (Some w) = OfType w

  abbrev pub EveryTypeParam : TTypeParam → Type 0
  EveryTypeParam p = OfBound p.bound

  abbrev pub EveryParam : TParam → Type 0
  EveryParam p = OfType p.kind

  abbrev pub EveryField : TField → Type 0
  EveryField f = OfType f.kind

  abbrev pub EveryBlock : Option TBlock → Type 0
  EveryBlock None = Unit {0}
  EveryBlock (Some b) = AllByRecursion EveryStatement b.statements

  abbrev pub EveryMethod : TMethod → Type 0
  EveryMethod m = AllByRecursion EveryTypeParam m.type_params × (OfBound m.result × (AllByRecursion EveryParam m.params × EveryBlock m.block))

  abbrev pub EveryCall : TFirstCall → Type 0
  EveryCall first.Nothing = Unit {0}
  EveryCall (first.This at m arguments bodies) = AllByRecursion OfValue arguments × AllByRecursion EveryBody bodies
  EveryCall (first.Super at is_written m arguments bodies) = AllByRecursion OfValue arguments × AllByRecursion EveryBody bodies

  abbrev pub EveryConstructor : TConstructor → Type 0
  EveryConstructor k = AllByRecursion EveryParam k.params × (EveryCall k.call × AllByRecursion EveryStatement k.block.statements)

  abbrev pub EveryInitializer : TInitializer → Type 0
  EveryInitializer (part.Value n x bodies) = OfValue x × AllByRecursion EveryBody bodies
  EveryInitializer (part.Block at is_static xs) = AllByRecursion EveryStatement xs

  abbrev pub EveryClass : TClass → Type 0
  EveryClass c = AllByRecursion EveryTypeParam c.type_params × (AllByRecursion EveryField c.fields × (AllByRecursion EveryMethod c.methods × (AllByRecursion EveryConstructor c.constructors × AllByRecursion EveryInitializer c.initializers)))

-- member types, types of enum constants with a body and anonymous classes stand among the classes of the unit, so that of each only what
-- is its own is told
module _ {A : Type 0} (of_value : TExpr → List A) (of_type : TWritten → List A) where
  abbrev pub nothing_within : ℕ → List A
  nothing_within number = []

  abbrev pub of_unit : TUnit → List A
  of_unit u = flat_map (of_class of_value of_type nothing_within) u.classes

  abbrev pub EveryUnit : (A → Type 0) → TUnit → Type 0
  EveryUnit P u = AllByRecursion (EveryClass of_value of_type nothing_within P) u.classes
