-- The rules that statements break.
use Rattle.std.specs.Prelude.{ℕ, Bool, true, false, ◌+◌, nat_lt, List, [], ◌∷◌, ◌++◌, map, length, Option, Some, None}
use Rattle.java_typed.specs.declared.members.MemberRef.{MemberRef}
use Rattle.java_typed.specs.declared.exprs.TExpr.{TExpr}
use Rattle.java_typed.specs.declared.statements.TDeclarator.{TDeclarator}
use Rattle.java_typed.specs.declared.statements.TSimple.{TSimple}
use Rattle.java_typed.specs.declared.statements.TSimple.TheVariants as simple
use Rattle.java_typed.specs.declared.statements.TForStart.{TForStart}
use Rattle.java_typed.specs.declared.statements.TForStart.TheVariants as starts
use Rattle.java_typed.specs.declared.statements.TLabel.{TLabel}
use Rattle.java_typed.specs.declared.statements.TLabel.TheVariants as label
use Rattle.java_typed.specs.declared.statements.TLock.{TLock}
use Rattle.java_typed.specs.declared.statements.TLock.TheVariants as lock
use Rattle.java_typed.specs.declared.statements.TBody.{TBody, fold-TBody}
use Rattle.java_typed.specs.declared.statements.TBody.TheOpen.{TBody-F, TStatement-F, TCaseGroup-F, TCatch-F}
use Rattle.java_typed.specs.declared.statements.TStatement.{TStatement, fold-TStatement}
use Rattle.java_facts.specs.Kinds.{Sort, Boxed, Text, result_sort}
use Rattle.java_profile.specs.Faults.{Fault, P6, P20, told}
use Rattle.java_profile.specs.Expressions.{judged}

abbrev pub joined : List (List Fault) → List Fault
joined [] = []
joined (x ∷ more) = x ++ joined more

-- a group of a switch: its faults, and how many labels it has
pub record Group : Type 0 where
  pub faults : List Fault
  pub labels : ℕ

abbrev pub groups_faults : List Group → List Fault
groups_faults [] = []
groups_faults (g ∷ more) = g.faults ++ groups_faults more

abbrev pub all_labels : List Group → ℕ
all_labels [] = 0
all_labels (g ∷ more) = g.labels + all_labels more

abbrev pub is_text_or_box : Sort → Bool
is_text_or_box Boxed = true
is_text_or_box Text = true
is_text_or_box _ = false

module _ (is_constant_field : MemberRef → Bool) where
  abbrev pub value_faults : TExpr → List Fault
  value_faults x = (judged is_constant_field x).faults

  abbrev pub values_faults : List TExpr → List Fault
  values_faults [] = []
  values_faults (x ∷ more) = value_faults x ++ values_faults more

  abbrev pub maybe_faults : Option TExpr → List Fault
  maybe_faults None = []
  maybe_faults (Some x) = value_faults x

  abbrev pub locals_faults : List TDeclarator → List Fault
  locals_faults [] = []
  locals_faults (d ∷ more) = maybe_faults d.value ++ locals_faults more

  abbrev pub simple_faults : TSimple → List Fault
  simple_faults simple.Empty = []
  simple_faults (simple.Locals ds) = locals_faults ds
  simple_faults (simple.Value x) = value_faults x
  simple_faults (simple.Break name) = []
  simple_faults (simple.Continue name) = []
  simple_faults (simple.Return x) = maybe_faults x
  simple_faults (simple.Throw x) = value_faults x

  abbrev pub start_faults : TForStart → List Fault
  start_faults (starts.Locals ds) = locals_faults ds
  start_faults (starts.Values xs) = values_faults xs

  abbrev pub lock_faults : TLock → List Fault
  lock_faults (lock.Value x) = told (is_text_or_box (result_sort (judged is_constant_field x).kind)) P6 (judged is_constant_field x).first ++ value_faults x
  lock_faults (lock.Class c) = []

  -- an anonymous class is judged among the classes
  abbrev pub body_by : TBody-F (List Fault) (List Fault) Group (List Fault) → List Fault
  body_by (TBody-F.Statements xs) = joined xs
  body_by (TBody-F.Class number) = []

  -- a label is a constant expression (JLS 14.11)
  abbrev pub labels_faults : List TLabel → List Fault
  labels_faults [] = []
  labels_faults (label.Case at v x ∷ more) = value_faults x ++ labels_faults more
  labels_faults (label.Default at ∷ more) = labels_faults more

  abbrev pub group_by : TCaseGroup-F (List Fault) (List Fault) Group (List Fault) → Group
  group_by x = record { faults = labels_faults x.labels ++ joined x.statements; labels = length x.labels }

  abbrev pub catch_by : TCatch-F (List Fault) (List Fault) Group (List Fault) → List Fault
  catch_by x = joined x.statements

  abbrev pub statement_by : TStatement-F (List Fault) (List Fault) Group (List Fault) → List Fault
  statement_by (TStatement-F.Simple at x bodies) = simple_faults x ++ joined bodies
  statement_by (TStatement-F.Block at xs right) = joined xs
  statement_by (TStatement-F.Labeled at own x) = x
  statement_by (TStatement-F.If at c bodies x) = value_faults c ++ (joined bodies ++ x)
  statement_by (TStatement-F.IfElse at c bodies x y) = value_faults c ++ (joined bodies ++ (x ++ y))
  statement_by (TStatement-F.While at c bodies x) = value_faults c ++ (joined bodies ++ x)
  statement_by (TStatement-F.Do at x c bodies) = x ++ (value_faults c ++ joined bodies)
  statement_by (TStatement-F.For at start c updates bodies x) = start_faults start ++ (maybe_faults c ++ (values_faults updates ++ (joined bodies ++ x)))
  statement_by (TStatement-F.Each at variable xs bodies x) = value_faults xs ++ (joined bodies ++ x)
  statement_by (TStatement-F.Switch at x bodies gs) = told (nat_lt 1000 (all_labels gs)) P20 at ++ (value_faults x ++ (joined bodies ++ groups_faults gs))
  statement_by (TStatement-F.Synchronized at x bodies xs) = lock_faults x ++ (joined bodies ++ joined xs)
  statement_by (TStatement-F.Try at xs catches last lasts) = joined xs ++ (joined catches ++ joined lasts)

  unfoldable pub statement_faults : TStatement → List Fault
  statement_faults = fold-TStatement (List Fault) (List Fault) Group (List Fault) body_by statement_by group_by catch_by

  unfoldable pub body_faults : TBody → List Fault
  body_faults = fold-TBody (List Fault) (List Fault) Group (List Fault) body_by statement_by group_by catch_by

  abbrev pub statements_faults : List TStatement → List Fault
  statements_faults xs = joined (map statement_faults xs)

  abbrev pub bodies_faults : List TBody → List Fault
  bodies_faults bs = joined (map body_faults bs)
