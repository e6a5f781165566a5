-- Arrays in the places that statements and classes have: locals, results, elements, fields, arguments of constructors.
use Rattle.std.specs.Prelude.{ℕ, suc, List, [], ◌∷◌, ◌++◌, map, Option, Some, None, slice_get}
use Rattle.std.specs.List.{flat_map}
use Rattle.java_lib.specs.Library as lib
use Rattle.java_typed.specs.declared.types.ClassRef.TheVariants as class
use Rattle.java_typed.specs.declared.types.TType.{TType, out-TType}
use Rattle.java_typed.specs.declared.types.TType.TheOpen.{TType-F}
use Rattle.java_typed.specs.declared.types.TResult.{TResult}
use Rattle.java_typed.specs.declared.types.TResult.TheVariants as result
use Rattle.java_typed.specs.declared.members.MemberRef.{MemberRef}
use Rattle.java_typed.specs.declared.exprs.TExpr.{TExpr}
use Rattle.java_typed.specs.declared.statements.TDeclarator.{TDeclarator}
use Rattle.java_typed.specs.declared.statements.TSimple.{TSimple}
use Rattle.java_typed.specs.declared.statements.TSimple.TheVariants as simple
use Rattle.java_typed.specs.declared.statements.TForStart.{TForStart}
use Rattle.java_typed.specs.declared.statements.TForStart.TheVariants as starts
use Rattle.java_typed.specs.declared.statements.TLock.{TLock}
use Rattle.java_typed.specs.declared.statements.TLock.TheVariants as lock
use Rattle.java_typed.specs.declared.statements.TBody.{TBody, fold-TBody}
use Rattle.java_typed.specs.declared.statements.TBody.TheOpen.{TBody-F, TStatement-F, TCaseGroup-F, TCatch-F}
use Rattle.java_typed.specs.declared.statements.TStatement.{TStatement, fold-TStatement}
use Rattle.java_typed.specs.declared.units.TField.{TField}
use Rattle.java_typed.specs.declared.units.TBlock.{TBlock}
use Rattle.java_typed.specs.declared.units.TMethod.{TMethod}
use Rattle.java_typed.specs.declared.units.TFirstCall.{TFirstCall}
use Rattle.java_typed.specs.declared.units.TFirstCall.TheVariants as first
use Rattle.java_typed.specs.declared.units.TConstructor.{TConstructor}
use Rattle.java_typed.specs.declared.units.TInitializer.{TInitializer}
use Rattle.java_typed.specs.declared.units.TInitializer.TheVariants as part
use Rattle.java_typed.specs.declared.units.TClass.{TClass}
use Rattle.java_type_relations.specs.declared.heads.Heads.{Heads}
use Rattle.java_type_relations.specs.declared.supers.Sought.TheVariants as sought
use Rattle.java_type_relations.specs.Supers.{supertype}
use Rattle.java_walks.specs.Parts.{Node, node_by, collected}
use Rattle.java_profile.specs.Faults.{Fault}
use Rattle.java_profile_types.specs.Arrays as a
use Rattle.java_profile_types.specs.Arrays.{goes, goes_result, all_go, result_type, found_block}

-- what a text breaks, by what its `return` gives
abbrev pub Giving : Type 0
Giving = TResult → List Fault

abbrev pub joined : List Giving → TResult → List Fault
joined xs r = flat_map (λ (x : Giving). x r) xs

module _ (heads : Heads) (classes : List TClass) where
  abbrev pub value_faults : TExpr → List Fault
  value_faults x = a.value_faults heads classes x

  abbrev pub node_of : TExpr → Node
  node_of x = (collected node_by (a.node_faults heads classes) x).info

  abbrev pub blocks_of : TExpr → List (ℕ × TResult)
  blocks_of x = a.blocks_of heads classes x

  abbrev pub maybe_faults : Option TExpr → List Fault
  maybe_faults None = []
  maybe_faults (Some x) = value_faults x

  abbrev pub maybe_blocks : Option TExpr → List (ℕ × TResult)
  maybe_blocks None = []
  maybe_blocks (Some x) = blocks_of x

  -- a value in its place
  abbrev pub placed : TType → Option TExpr → List Fault
  placed to None = []
  placed to (Some x) = goes to (node_of x) ++ value_faults x

  abbrev pub given : TResult → Option TExpr → List Fault
  given r None = []
  given r (Some x) = goes_result r (node_of x) ++ value_faults x

  abbrev pub local_faults : TDeclarator → List Fault
  local_faults d = placed d.kind.kind d.value

  abbrev pub local_blocks : TDeclarator → List (ℕ × TResult)
  local_blocks d = maybe_blocks d.value

  abbrev pub simple_faults : TSimple → Giving
  simple_faults simple.Empty r = []
  simple_faults (simple.Locals ds) r = flat_map local_faults ds
  simple_faults (simple.Value x) r = value_faults x
  simple_faults (simple.Break name) r = []
  simple_faults (simple.Continue name) r = []
  simple_faults (simple.Return x) r = given r x
  simple_faults (simple.Throw x) r = value_faults x

  abbrev pub simple_blocks : TSimple → List (ℕ × TResult)
  simple_blocks simple.Empty = []
  simple_blocks (simple.Locals ds) = flat_map local_blocks ds
  simple_blocks (simple.Value x) = blocks_of x
  simple_blocks (simple.Break name) = []
  simple_blocks (simple.Continue name) = []
  simple_blocks (simple.Return x) = maybe_blocks x
  simple_blocks (simple.Throw x) = blocks_of x

  abbrev pub start_faults : TForStart → List Fault
  start_faults (starts.Locals ds) = flat_map local_faults ds
  start_faults (starts.Values xs) = flat_map value_faults xs

  abbrev pub start_blocks : TForStart → List (ℕ × TResult)
  start_blocks (starts.Locals ds) = flat_map local_blocks ds
  start_blocks (starts.Values xs) = flat_map blocks_of xs

  abbrev pub lock_faults : TLock → List Fault
  lock_faults (lock.Value x) = value_faults x
  lock_faults (lock.Class c) = []

  abbrev pub lock_blocks : TLock → List (ℕ × TResult)
  lock_blocks (lock.Value x) = blocks_of x
  lock_blocks (lock.Class c) = []

  -- the blocks of lambdas beside a statement, each with what its lambda gives
  abbrev pub blocks_from : List (ℕ × TResult) → ℕ → List Giving → List Fault
  blocks_from blocks n [] = []
  blocks_from blocks n (b ∷ more) = b (found_block heads classes n blocks) ++ blocks_from blocks (suc n) more

  abbrev pub within : List (ℕ × TResult) → List Giving → List Fault
  within blocks bodies = blocks_from blocks 0 bodies

  -- ---- the elements that a `for` walks (JLS 14.14.2)

  abbrev pub first_argument : TType-F TType → Option TType
  first_argument (TType-F.Class c (x ∷ more)) = Some x
  first_argument _ = None

  abbrev pub argument_of : Option TType → Option TType
  argument_of None = None
  argument_of (Some s) = first_argument (out-TType s)

  abbrev pub element_by : TType → TType-F TType → Option TType
  element_by kind (TType-F.Array x) = Some x
  element_by kind _ = argument_of (supertype heads (sought.Class (class.Library lib.list_class)) kind)

  abbrev pub element_of : TResult → Option TType
  element_of result.Void = None
  element_of (result.Value kind) = element_by kind (out-TType kind)

  abbrev pub walked : TType → Option TType → Node → List Fault
  walked to None x = []
  walked to (Some element) x = goes to (record { kind = result.Value element; first = x.first })

  abbrev pub each_faults : TDeclarator → TExpr → List Fault
  each_faults variable xs = walked variable.kind.kind (element_of (node_of xs).kind) (node_of xs) ++ value_faults xs

  -- ---- statements

  abbrev pub body_by : TBody-F Giving Giving Giving Giving → Giving
  body_by (TBody-F.Statements xs) r = joined xs r
  body_by (TBody-F.Class number) r = []

  abbrev pub group_by : TCaseGroup-F Giving Giving Giving Giving → Giving
  group_by x r = joined x.statements r

  abbrev pub catch_by : TCatch-F Giving Giving Giving Giving → Giving
  catch_by x r = joined x.statements r

  abbrev pub statement_by : TStatement-F Giving Giving Giving Giving → Giving
  statement_by (TStatement-F.Simple at x bodies) r = simple_faults x r ++ within (simple_blocks x) bodies
  statement_by (TStatement-F.Block at xs right) r = joined xs r
  statement_by (TStatement-F.Labeled at own x) r = x r
  statement_by (TStatement-F.If at c bodies x) r = value_faults c ++ (within (blocks_of c) bodies ++ x r)
  statement_by (TStatement-F.IfElse at c bodies x y) r = value_faults c ++ (within (blocks_of c) bodies ++ (x r ++ y r))
  statement_by (TStatement-F.While at c bodies x) r = value_faults c ++ (within (blocks_of c) bodies ++ x r)
  statement_by (TStatement-F.Do at x c bodies) r = x r ++ (value_faults c ++ within (blocks_of c) bodies)
  statement_by (TStatement-F.For at start c updates bodies x) r =
      start_faults start ++ (maybe_faults c ++ (flat_map value_faults updates ++ (within (start_blocks start ++ (maybe_blocks c ++ flat_map blocks_of updates)) bodies ++ x r)))
  statement_by (TStatement-F.Each at variable xs bodies x) r = each_faults variable xs ++ (within (blocks_of xs) bodies ++ x r)
  statement_by (TStatement-F.Switch at x bodies gs) r = value_faults x ++ (within (blocks_of x) bodies ++ joined gs r)
  statement_by (TStatement-F.Synchronized at x bodies xs) r = lock_faults x ++ (within (lock_blocks x) bodies ++ joined xs r)
  statement_by (TStatement-F.Try at xs catches last lasts) r = joined xs r ++ (joined catches r ++ joined lasts r)

  unfoldable pub statement_faults : TStatement → Giving
  statement_faults = fold-TStatement Giving Giving Giving Giving body_by statement_by group_by catch_by

  unfoldable pub body_faults : TBody → Giving
  body_faults = fold-TBody Giving Giving Giving Giving body_by statement_by group_by catch_by

  abbrev pub statements_faults : TResult → List TStatement → List Fault
  statements_faults r xs = joined (map statement_faults xs) r

  -- ---- classes

  abbrev pub block_faults : TResult → Option TBlock → List Fault
  block_faults r None = []
  block_faults r (Some b) = statements_faults r b.statements

  abbrev pub method_faults : TMethod → List Fault
  method_faults m = block_faults (result_type m.result) m.block

  -- the parameters of a constructor of the class above, as this class names it
  abbrev pub seen_above : TClass → MemberRef → List TType
  seen_above c m = by c.above
    where
      by : Option TType → List TType
      by None = a.declared_constructor heads classes m
      by (Some above) = map (a.seen_from heads classes above m.class) (a.declared_constructor heads classes m)

  abbrev pub called_with : List TType → List TExpr → List TBody → List Fault
  called_with ps xs bodies = all_go ps (map node_of xs) ++ (flat_map value_faults xs ++ within (flat_map blocks_of xs) (map body_faults bodies))

  abbrev pub call_faults : TClass → TFirstCall → List Fault
  call_faults c first.Nothing = []
  call_faults c (first.This at m arguments bodies) = called_with (a.declared_constructor heads classes m) arguments bodies
  call_faults c (first.Super at is_written m arguments bodies) = called_with (seen_above c m) arguments bodies

  abbrev pub constructor_faults : TClass → TConstructor → List Fault
  constructor_faults c k = call_faults c k.call ++ statements_faults result.Void k.block.statements

  abbrev pub field_value : Option TField → TExpr → List Fault
  field_value None x = []
  field_value (Some f) x = goes f.kind.kind (node_of x)

  abbrev pub initializer_faults : TClass → TInitializer → List Fault
  initializer_faults c (part.Value n x bodies) = field_value (slice_get c.fields n) x ++ (value_faults x ++ within (blocks_of x) (map body_faults bodies))
  initializer_faults c (part.Block at is_static xs) = statements_faults result.Void xs

  abbrev pub arrays_faults : TClass → List Fault
  arrays_faults c = flat_map method_faults c.methods ++ (flat_map (constructor_faults c) c.constructors ++ flat_map (initializer_faults c) c.initializers)
