-- The parts of an expression (JLS 15), and what is told of all that stand in it.
use Rattle.std.specs.Prelude.{Bool, true, List, [], ◌∷◌, ◌++◌}
use Rattle.std.specs.List.{flat_map}
use Rattle.java_tree.specs.declared.tokens.Position.{Position}
use Rattle.java_typed.specs.declared.types.TResult.{TResult}
use Rattle.java_typed.specs.declared.types.TWritten.{TWritten}
use Rattle.java_typed.specs.declared.exprs.TLambdaParam.{TLambdaParam}
use Rattle.java_typed.specs.declared.exprs.TExpr.{TExpr, fold-TExpr, map-TExpr}
use Rattle.java_typed.specs.declared.exprs.TExpr.TheOpen.{TExpr-F}
use Rattle.java_typed.specs.Reading.{first_by, type_by}

-- the operands, in the order of the text
abbrev pub parts : {A : Type 0} → TExpr-F A → List A
parts (TExpr-F.Literal v at) = []
parts (TExpr-F.Null at) = []
parts (TExpr-F.Constant v inner) = inner ∷ []
parts (TExpr-F.This at is_written kind) = []
parts (TExpr-F.Paren at inner) = inner ∷ []
parts (TExpr-F.Local name at kind) = []
parts (TExpr-F.Static first m at kind) = []
parts (TExpr-F.Field object m at kind) = object ∷ []
parts (TExpr-F.Length array at) = array ∷ []
parts (TExpr-F.Element array index kind) = array ∷ index ∷ []
parts (TExpr-F.StaticCall first m at arguments r) = arguments
parts (TExpr-F.VirtualCall object m at arguments r) = object ∷ arguments
parts (TExpr-F.ExactCall object is_super m at arguments r) = object ∷ arguments
parts (TExpr-F.Through object m) = object ∷ m ∷ []
parts (TExpr-F.Step is_prefix o at target kind) = target ∷ []
parts (TExpr-F.Unary o at inner) = inner ∷ []
parts (TExpr-F.Binary left o at right) = left ∷ right ∷ []
parts (TExpr-F.Concat left at right) = left ∷ right ∷ []
parts (TExpr-F.Same left is_equal at right) = left ∷ right ∷ []
parts (TExpr-F.Instanceof inner at kind) = inner ∷ []
parts (TExpr-F.Cast at kind inner) = inner ∷ []
parts (TExpr-F.Convert c inner) = inner ∷ []
parts (TExpr-F.Conditional test one other kind) = test ∷ one ∷ other ∷ []
parts (TExpr-F.Assign target at v) = target ∷ v ∷ []
parts (TExpr-F.Compound target o kind at v) = target ∷ v ∷ []
parts (TExpr-F.Append target at v) = target ∷ v ∷ []
parts (TExpr-F.Lambda l inner) = inner ∷ []
parts (TExpr-F.LambdaBlock l number) = []
parts (TExpr-F.New at kind m arguments body) = arguments
parts (TExpr-F.NewArray at kind size) = size ∷ []
parts (TExpr-F.NewFilled at kind elements) = elements

-- what is known of an expression, and what is told of it and of all that stand in it
pub record Told (I A : Type 0) : Type 0 where
  pub info : I
  pub told : List A

-- by what is known of a node, and what it tells itself, each by what is known of its parts
module _ {I A : Type 0} (known : TExpr-F I → I) (own : TExpr-F I → List A) where
  abbrev pub infos : TExpr-F (Told I A) → TExpr-F I
  infos x = map-TExpr (Told I A) I (λ y. y.info) x

  abbrev pub told_by : TExpr-F (Told I A) → Told I A
  told_by x = record { info = known (infos x); told = own (infos x) ++ flat_map (λ y. y.told) (parts x) }

  unfoldable pub collected : TExpr → Told I A
  collected = fold-TExpr (Told I A) told_by

-- ---- what the rules ask of a part

-- its type and its first token
pub record Node : Type 0 where
  pub kind : TResult
  pub first : Position

abbrev pub node_by : TExpr-F Node → Node
node_by x = record { kind = type_by (map-TExpr Node TResult (λ n. n.kind) x); first = first_by (map-TExpr Node Position (λ n. n.first) x) }

-- ---- the types that are written in an expression

module _ {A : Type 0} (of_type : TWritten → List A) where
  abbrev pub of_parameter : TLambdaParam → List A
  of_parameter p = of_type p.kind

  abbrev pub types_by : TExpr-F Bool → List A
  types_by (TExpr-F.Instanceof inner at kind) = of_type kind
  types_by (TExpr-F.Cast at kind inner) = of_type kind
  types_by (TExpr-F.Lambda l inner) = flat_map of_parameter l.params
  types_by (TExpr-F.LambdaBlock l number) = flat_map of_parameter l.params
  types_by (TExpr-F.New at kind m arguments body) = of_type kind
  types_by (TExpr-F.NewArray at kind size) = of_type kind
  types_by (TExpr-F.NewFilled at kind elements) = of_type kind
  types_by _ = []

  -- (nothing is asked of the parts)
  abbrev pub in_expression : TExpr → List A
  in_expression x = (collected (λ y. true) types_by x).told
