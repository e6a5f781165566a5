-- What statements use (JLS 14): what their expressions do. Statements themselves are no further use.
use Rattle.std.specs.Prelude.{ℕ, zero, suc, List, [], ◌∷◌, map, Option, Some, None}
use Rattle.java_typed.specs.declared.exprs.TExpr.{TExpr}
use Rattle.java_typed.specs.declared.statements.TDeclarator.{TDeclarator}
use Rattle.java_typed.specs.declared.statements.TSimple.{TSimple}
use Rattle.java_typed.specs.declared.statements.TSimple.TheVariants as simple
use Rattle.java_typed.specs.declared.statements.TForStart.{TForStart}
use Rattle.java_typed.specs.declared.statements.TForStart.TheVariants as starts
use Rattle.java_typed.specs.declared.statements.TLock.{TLock}
use Rattle.java_typed.specs.declared.statements.TLock.TheVariants as lock
use Rattle.java_typed.specs.declared.statements.TBody.{TBody, fold-TBody}
use Rattle.java_typed.specs.declared.statements.TBody.TheOpen.{TBody-F, TStatement-F, TCaseGroup-F, TCatch-F}
use Rattle.java_typed.specs.declared.statements.TStatement.{TStatement, fold-TStatement}
use Rattle.facts.specs.Uses.{Further, none, one, both, all}
use Rattle.java_facts.specs.Expressions.{JavaUses, Known, uses_of}

-- the body of a number; where there is none nothing is used
abbrev pub nth : List JavaUses → ℕ → JavaUses
nth [] n = none
nth (x ∷ more) zero = x
nth (x ∷ more) (suc n) = nth more n

module _ (k : Known) where
  abbrev pub value_uses : List JavaUses → TExpr → JavaUses
  value_uses bodies x = uses_of k (nth bodies) x

  abbrev pub values_use : List JavaUses → List TExpr → JavaUses
  values_use bodies [] = none
  values_use bodies (x ∷ more) = both (value_uses bodies x) (values_use bodies more)

  abbrev pub maybe_uses : List JavaUses → Option TExpr → JavaUses
  maybe_uses bodies None = none
  maybe_uses bodies (Some x) = value_uses bodies x

  abbrev pub locals_use : List JavaUses → List TDeclarator → JavaUses
  locals_use bodies [] = none
  locals_use bodies (d ∷ more) = both (maybe_uses bodies d.value) (locals_use bodies more)

  abbrev pub simple_uses : List JavaUses → TSimple → JavaUses
  simple_uses bodies simple.Empty = none
  simple_uses bodies (simple.Locals ds) = locals_use bodies ds
  simple_uses bodies (simple.Value x) = value_uses bodies x
  simple_uses bodies (simple.Break name) = none
  simple_uses bodies (simple.Continue name) = none
  simple_uses bodies (simple.Return x) = maybe_uses bodies x
  simple_uses bodies (simple.Throw x) = value_uses bodies x

  abbrev pub start_uses : List JavaUses → TForStart → JavaUses
  start_uses bodies (starts.Locals ds) = locals_use bodies ds
  start_uses bodies (starts.Values xs) = values_use bodies xs

  -- a class as an object is a further use (JLS 15.8.2)
  abbrev pub lock_uses : List JavaUses → TLock → JavaUses
  lock_uses bodies (lock.Value x) = value_uses bodies x
  lock_uses bodies (lock.Class c) = one Further

  -- the creation of an anonymous object says what it uses
  abbrev pub body_by : TBody-F JavaUses JavaUses JavaUses JavaUses → JavaUses
  body_by (TBody-F.Statements xs) = all xs
  body_by (TBody-F.Class number) = none

  abbrev pub group_by : TCaseGroup-F JavaUses JavaUses JavaUses JavaUses → JavaUses
  group_by x = all x.statements

  abbrev pub catch_by : TCatch-F JavaUses JavaUses JavaUses JavaUses → JavaUses
  catch_by x = all x.statements

  abbrev pub statement_by : TStatement-F JavaUses JavaUses JavaUses JavaUses → JavaUses
  statement_by (TStatement-F.Simple at x bodies) = simple_uses bodies x
  statement_by (TStatement-F.Block at xs right) = all xs
  statement_by (TStatement-F.Labeled at own x) = x
  statement_by (TStatement-F.If at c bodies x) = both (value_uses bodies c) x
  statement_by (TStatement-F.IfElse at c bodies x y) = both (value_uses bodies c) (both x y)
  statement_by (TStatement-F.While at c bodies x) = both (value_uses bodies c) x
  statement_by (TStatement-F.Do at x c bodies) = both x (value_uses bodies c)
  statement_by (TStatement-F.For at start c updates bodies x) = both (start_uses bodies start) (both (maybe_uses bodies c) (both (values_use bodies updates) x))
  statement_by (TStatement-F.Each at variable xs bodies x) = both (value_uses bodies xs) x
  statement_by (TStatement-F.Switch at x bodies gs) = both (value_uses bodies x) (all gs)
  statement_by (TStatement-F.Synchronized at x bodies xs) = both (lock_uses bodies x) (all xs)
  statement_by (TStatement-F.Try at xs catches last lasts) = both (all xs) (both (all catches) (all lasts))

  unfoldable pub statement_uses : TStatement → JavaUses
  statement_uses = fold-TStatement JavaUses JavaUses JavaUses JavaUses body_by statement_by group_by catch_by

  unfoldable pub body_uses : TBody → JavaUses
  body_uses = fold-TBody JavaUses JavaUses JavaUses JavaUses body_by statement_by group_by catch_by

  abbrev pub statements_use : List TStatement → JavaUses
  statements_use xs = all (map statement_uses xs)

  -- an expression beside its bodies
  abbrev pub part_uses : TExpr → List TBody → JavaUses
  part_uses x bodies = value_uses (map body_uses bodies) x
