-- The locals of a text, each with its scope: what is done from its declaration on (JLS 6.3).
use Rattle.std.specs.Prelude.{ℕ, Bool, true, false, List, [], ◌∷◌, ◌++◌, map, Option, Some, None, is_some}
use Rattle.java_tree.specs.declared.tokens.Position.{Position}
use Rattle.java_typed.specs.declared.exprs.TLambdaParam.{TLambdaParam}
use Rattle.java_typed.specs.declared.exprs.TExpr.{TExpr, fold-TExpr, map-TExpr}
use Rattle.java_typed.specs.declared.exprs.TExpr.TheOpen.{TExpr-F}
use Rattle.java_typed.specs.declared.statements.TDeclarator.{TDeclarator}
use Rattle.java_typed.specs.declared.statements.TSimple.{TSimple}
use Rattle.java_typed.specs.declared.statements.TSimple.TheVariants as simple
use Rattle.java_typed.specs.declared.statements.TForStart.{TForStart}
use Rattle.java_typed.specs.declared.statements.TForStart.TheVariants as starts
use Rattle.java_typed.specs.declared.statements.TLock.{TLock}
use Rattle.java_typed.specs.declared.statements.TLock.TheVariants as lock
use Rattle.java_typed.specs.declared.statements.TBody.{TBody, fold-TBody}
use Rattle.java_typed.specs.declared.statements.TBody.TheOpen.{TBody-F, TStatement-F, TCaseGroup-F, TCatch-F}
use Rattle.java_typed.specs.declared.statements.TStatement.{TStatement, fold-TStatement}
use Rattle.flow.specs.Acts.{Does, Then, Switch, Groups, Group}
use Rattle.flow.specs.Analyses.{Assigns}
use Rattle.java_flow.specs.Variables.{Local, JavaUse, JavaAct, Target}
use Rattle.java_flow.specs.Expressions.{Said, said_by, done}
use Rattle.java_flow.specs.Statements as s
use Rattle.java_flow.specs.Statements.{Statement, CaseGroup, nth, block, given, all_declared, round, looped, test_of, values, body_by, group_by, catch_by, statement_by}

-- a local: its name, where it is declared, whether it is final, and whether its declaration gives it a value
pub record Declared : Type 0 where
  pub name : List ℕ
  pub at : Position
  pub is_final : Bool
  pub has_value : Bool

pub record Scope : Type 0 where
  pub local : Declared
  pub does : JavaAct

-- the scope goes on
abbrev pub further : JavaAct → Scope → Scope
further x scope = record { local = scope.local; does = Then scope.does x }

abbrev pub of_declarator : TDeclarator → Bool → Declared
of_declarator d has_value = record { name = d.name; at = d.at; is_final = d.is_final; has_value = has_value }

-- from a declarator on, its own value in its scope (JLS 6.3)
abbrev pub declared_scopes : List JavaAct → List TDeclarator → List Scope
declared_scopes bodies [] = []
declared_scopes bodies (d ∷ more) = record { local = of_declarator d (is_some d.value); does = all_declared bodies (d ∷ more) } ∷ declared_scopes bodies more

-- ---- the parameters of lambdas (JLS 15.27.1)

abbrev pub of_parameter : TLambdaParam → Declared
of_parameter p = record { name = p.name; at = p.at; is_final = false; has_value = true }

abbrev pub parameter_scopes : JavaAct → List TLambdaParam → List Scope
parameter_scopes body [] = []
parameter_scopes body (p ∷ more) = record { local = of_parameter p; does = Then (Does (Assigns (Local p.name) p.at)) body } ∷ parameter_scopes body more

pub record Spoken : Type 0 where
  pub said : Said
  pub scopes : List Scope

abbrev pub all_scopes : List Spoken → List Scope
all_scopes [] = []
all_scopes (x ∷ more) = x.scopes ++ all_scopes more

module _ (bodies : ℕ → JavaAct) where
  abbrev pub scopes_by : TExpr-F Spoken → List Scope
  scopes_by (TExpr-F.Literal v at) = []
  scopes_by (TExpr-F.Null at) = []
  scopes_by (TExpr-F.Constant v inner) = inner.scopes
  scopes_by (TExpr-F.This at is_written kind) = []
  scopes_by (TExpr-F.Paren at inner) = inner.scopes
  scopes_by (TExpr-F.Local name at kind) = []
  scopes_by (TExpr-F.Static first member at kind) = []
  scopes_by (TExpr-F.Field object member at kind) = object.scopes
  scopes_by (TExpr-F.Length array at) = array.scopes
  scopes_by (TExpr-F.Element array index kind) = array.scopes ++ index.scopes
  scopes_by (TExpr-F.StaticCall first member at arguments result) = all_scopes arguments
  scopes_by (TExpr-F.VirtualCall object member at arguments result) = object.scopes ++ all_scopes arguments
  scopes_by (TExpr-F.ExactCall object is_super member at arguments result) = object.scopes ++ all_scopes arguments
  scopes_by (TExpr-F.Through object member) = object.scopes ++ member.scopes
  scopes_by (TExpr-F.Step is_prefix o at target kind) = target.scopes
  scopes_by (TExpr-F.Unary o at inner) = inner.scopes
  scopes_by (TExpr-F.Binary left o at right) = left.scopes ++ right.scopes
  scopes_by (TExpr-F.Concat left at right) = left.scopes ++ right.scopes
  scopes_by (TExpr-F.Same left is_equal at right) = left.scopes ++ right.scopes
  scopes_by (TExpr-F.Instanceof inner at kind) = inner.scopes
  scopes_by (TExpr-F.Cast at kind inner) = inner.scopes
  scopes_by (TExpr-F.Convert c inner) = inner.scopes
  scopes_by (TExpr-F.Conditional test first second kind) = test.scopes ++ (first.scopes ++ second.scopes)
  scopes_by (TExpr-F.Assign target at v) = target.scopes ++ v.scopes
  scopes_by (TExpr-F.Compound target o kind at v) = target.scopes ++ v.scopes
  scopes_by (TExpr-F.Append target at v) = target.scopes ++ v.scopes
  scopes_by (TExpr-F.Lambda lambda inner) = parameter_scopes (done inner.said) lambda.params ++ inner.scopes
  scopes_by (TExpr-F.LambdaBlock lambda number) = parameter_scopes (bodies number) lambda.params
  scopes_by (TExpr-F.New at kind member arguments body) = all_scopes arguments
  scopes_by (TExpr-F.NewArray at kind size) = size.scopes
  scopes_by (TExpr-F.NewFilled at kind elements) = all_scopes elements

  abbrev pub spoken_by : TExpr-F Spoken → Spoken
  spoken_by x = record { said = said_by bodies (map-TExpr Spoken Said (λ y. y.said) x); scopes = scopes_by x }

  unfoldable pub spoken : TExpr → Spoken
  spoken = fold-TExpr Spoken spoken_by

-- ---- statements

-- what a body does, and the locals whose scopes end in it
pub record Inner : Type 0 where
  pub does : JavaAct
  pub scopes : List Scope

-- of a statement also the locals whose scopes go on behind it
pub record Piece : Type 0 where
  pub does : JavaAct
  pub opens : List Scope
  pub scopes : List Scope

abbrev pub Labeled : Type 0
Labeled = Option (List ℕ) → Piece

pub record GroupPiece : Type 0 where
  pub group : CaseGroup
  pub opens : List Scope
  pub scopes : List Scope

abbrev pub does_of : Labeled → Statement
does_of x name = (x name).does

abbrev pub rest : List Labeled → JavaAct
rest xs = block (map does_of xs)

-- the locals whose scopes end in the list, or with it
abbrev pub closed_scopes : List Labeled → List Scope
closed_scopes [] = []
closed_scopes (x ∷ more) = (x None).scopes ++ closed_scopes more

abbrev pub open_scopes : List Labeled → List Scope
open_scopes [] = []
open_scopes (x ∷ more) = map (further (rest more)) (x None).opens ++ open_scopes more

abbrev pub block_scopes : List Labeled → List Scope
block_scopes xs = open_scopes xs ++ closed_scopes xs

abbrev pub inner_scopes : List Inner → List Scope
inner_scopes [] = []
inner_scopes (x ∷ more) = x.scopes ++ inner_scopes more

abbrev pub acts : List Inner → List JavaAct
acts xs = map (λ x. x.does) xs

abbrev pub value_scopes : List JavaAct → TExpr → List Scope
value_scopes bodies x = (spoken (nth bodies) x).scopes

abbrev pub maybe_scopes : List JavaAct → Option TExpr → List Scope
maybe_scopes bodies None = []
maybe_scopes bodies (Some x) = value_scopes bodies x

abbrev pub values_scopes : List JavaAct → List TExpr → List Scope
values_scopes bodies [] = []
values_scopes bodies (x ∷ more) = value_scopes bodies x ++ values_scopes bodies more

abbrev pub in_declared : List JavaAct → List TDeclarator → List Scope
in_declared bodies [] = []
in_declared bodies (d ∷ more) = maybe_scopes bodies d.value ++ in_declared bodies more

abbrev pub simple_opens : List JavaAct → TSimple → List Scope
simple_opens bodies (simple.Locals ds) = declared_scopes bodies ds
simple_opens bodies _ = []

abbrev pub simple_scopes : List JavaAct → TSimple → List Scope
simple_scopes bodies simple.Empty = []
simple_scopes bodies (simple.Locals ds) = in_declared bodies ds
simple_scopes bodies (simple.Value x) = value_scopes bodies x
simple_scopes bodies (simple.Break name) = []
simple_scopes bodies (simple.Continue name) = []
simple_scopes bodies (simple.Return x) = maybe_scopes bodies x
simple_scopes bodies (simple.Throw x) = value_scopes bodies x

abbrev pub start_opens : List JavaAct → TForStart → List Scope
start_opens bodies (starts.Locals ds) = declared_scopes bodies ds
start_opens bodies (starts.Values xs) = []

abbrev pub start_scopes : List JavaAct → TForStart → List Scope
start_scopes bodies (starts.Locals ds) = in_declared bodies ds
start_scopes bodies (starts.Values xs) = values_scopes bodies xs

abbrev pub lock_scopes : List JavaAct → TLock → List Scope
lock_scopes bodies (lock.Value x) = value_scopes bodies x
lock_scopes bodies (lock.Class class) = []

-- A local of a group is in scope to the end of the switch, whose later groups may be entered without its declaration.
abbrev pub later_groups : List GroupPiece → Groups JavaUse Target
later_groups gs = s.groups (map (λ g. g.group) gs)

abbrev pub entered : Groups JavaUse Target → Scope → Scope
entered more scope = record { local = scope.local; does = Switch true (Group scope.does more) }

abbrev pub groups_scopes : List GroupPiece → List Scope
groups_scopes [] = []
groups_scopes (g ∷ more) = map (entered (later_groups more)) g.opens ++ (g.scopes ++ groups_scopes more)

module _ (inner : ℕ → JavaAct) where
  abbrev pub inner_by : TBody-F Inner Labeled GroupPiece Inner → Inner
  inner_by (TBody-F.Statements xs) = record { does = rest xs; scopes = block_scopes xs }
  inner_by (TBody-F.Class number) = record { does = inner number; scopes = [] }

  abbrev pub case_by : TCaseGroup-F Inner Labeled GroupPiece Inner → GroupPiece
  case_by x = record { group = group_by inner (record { labels = x.labels; statements = map does_of x.statements }); opens = open_scopes x.statements; scopes = closed_scopes x.statements }

  abbrev pub caught_by : TCatch-F Inner Labeled GroupPiece Inner → Inner
  caught_by x = record {
    does = Then (given x.caught) (rest x.statements);
    scopes = record { local = of_declarator x.caught true; does = Then (given x.caught) (rest x.statements) } ∷ block_scopes x.statements;
  }

  abbrev pub opens_by : TStatement-F Inner Labeled GroupPiece Inner → List Scope
  opens_by (TStatement-F.Simple at x bodies) = simple_opens (acts bodies) x
  opens_by _ = []

  abbrev pub parts_by : TStatement-F Inner Labeled GroupPiece Inner → Option (List ℕ) → List Scope
  parts_by (TStatement-F.Simple at x bodies) name = simple_scopes (acts bodies) x ++ inner_scopes bodies
  parts_by (TStatement-F.Block at xs right) name = block_scopes xs
  parts_by (TStatement-F.Labeled at own x) name = (x (Some own)).scopes
  parts_by (TStatement-F.If at c bodies x) name = value_scopes (acts bodies) c ++ (inner_scopes bodies ++ (x None).scopes)
  parts_by (TStatement-F.IfElse at c bodies x y) name = value_scopes (acts bodies) c ++ (inner_scopes bodies ++ ((x None).scopes ++ (y None).scopes))
  parts_by (TStatement-F.While at c bodies x) name = value_scopes (acts bodies) c ++ (inner_scopes bodies ++ (x None).scopes)
  parts_by (TStatement-F.Do at x c bodies) name = (x None).scopes ++ (value_scopes (acts bodies) c ++ inner_scopes bodies)
  parts_by (TStatement-F.For at start c updates bodies x) name =
      map (further (looped (test_of (acts bodies) c) (Then (round name (does_of x)) (values (acts bodies) updates)))) (start_opens (acts bodies) start)
      ++ (start_scopes (acts bodies) start ++ (maybe_scopes (acts bodies) c ++ (values_scopes (acts bodies) updates ++ (inner_scopes bodies ++ (x None).scopes))))
  parts_by (TStatement-F.Each at variable xs bodies x) name =
      record { local = of_declarator variable true; does = Then (given variable) (round name (does_of x)) }
      ∷ (value_scopes (acts bodies) xs ++ (inner_scopes bodies ++ (x None).scopes))
  parts_by (TStatement-F.Switch at x bodies gs) name = value_scopes (acts bodies) x ++ (inner_scopes bodies ++ groups_scopes gs)
  parts_by (TStatement-F.Synchronized at x bodies xs) name = lock_scopes (acts bodies) x ++ (inner_scopes bodies ++ block_scopes xs)
  parts_by (TStatement-F.Try at xs catches last lasts) name = block_scopes xs ++ (inner_scopes catches ++ block_scopes lasts)

  abbrev pub does_by : TStatement-F Inner Labeled GroupPiece Inner → Statement
  does_by x = statement_by inner (mapped x)
    where
      mapped : TStatement-F Inner Labeled GroupPiece Inner → TStatement-F JavaAct Statement CaseGroup JavaAct
      mapped (TStatement-F.Simple at x bodies) = TStatement-F.Simple at x (acts bodies)
      mapped (TStatement-F.Block at xs right) = TStatement-F.Block at (map does_of xs) right
      mapped (TStatement-F.Labeled at own x) = TStatement-F.Labeled at own (does_of x)
      mapped (TStatement-F.If at c bodies x) = TStatement-F.If at c (acts bodies) (does_of x)
      mapped (TStatement-F.IfElse at c bodies x y) = TStatement-F.IfElse at c (acts bodies) (does_of x) (does_of y)
      mapped (TStatement-F.While at c bodies x) = TStatement-F.While at c (acts bodies) (does_of x)
      mapped (TStatement-F.Do at x c bodies) = TStatement-F.Do at (does_of x) c (acts bodies)
      mapped (TStatement-F.For at start c updates bodies x) = TStatement-F.For at start c updates (acts bodies) (does_of x)
      mapped (TStatement-F.Each at variable xs bodies x) = TStatement-F.Each at variable xs (acts bodies) (does_of x)
      mapped (TStatement-F.Switch at x bodies gs) = TStatement-F.Switch at x (acts bodies) (map (λ g. g.group) gs)
      mapped (TStatement-F.Synchronized at x bodies xs) = TStatement-F.Synchronized at x (acts bodies) (map does_of xs)
      mapped (TStatement-F.Try at xs catches last lasts) = TStatement-F.Try at (map does_of xs) (acts catches) last (map does_of lasts)

  abbrev pub piece_by : TStatement-F Inner Labeled GroupPiece Inner → Labeled
  piece_by x name = record { does = does_by x name; opens = opens_by x; scopes = parts_by x name }

  unfoldable pub piece : TStatement → Labeled
  piece = fold-TStatement Inner Labeled GroupPiece Inner inner_by piece_by case_by caught_by

  unfoldable pub inner_of : TBody → Inner
  inner_of = fold-TBody Inner Labeled GroupPiece Inner inner_by piece_by case_by caught_by

  -- the locals of a block, those of its lambdas included
  abbrev pub scopes : List TStatement → List Scope
  scopes xs = block_scopes (map piece xs)
