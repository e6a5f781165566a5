-- What statements do (JLS 14, 16.2). A statement is told the label that stands before it, which `continue` may name.
use Rattle.std.specs.Prelude.{ℕ, Bool, true, false, ◌||◌, List, [], ◌∷◌, map, Option, Some, None}
use Rattle.std.specs.List.{list_any}
use Rattle.java_tree.specs.declared.tokens.Position.{Position}
use Rattle.java_typed.specs.declared.exprs.TExpr.{TExpr}
use Rattle.java_typed.specs.declared.statements.TDeclarator.{TDeclarator}
use Rattle.java_typed.specs.declared.statements.TSimple.{TSimple}
use Rattle.java_typed.specs.declared.statements.TSimple.TheVariants as simple
use Rattle.java_typed.specs.declared.statements.TForStart.{TForStart}
use Rattle.java_typed.specs.declared.statements.TForStart.TheVariants as starts
use Rattle.java_typed.specs.declared.statements.TLabel.{TLabel}
use Rattle.java_typed.specs.declared.statements.TLabel.TheVariants as label
use Rattle.java_typed.specs.declared.statements.TLock.{TLock}
use Rattle.java_typed.specs.declared.statements.TLock.TheVariants as lock
use Rattle.java_typed.specs.declared.statements.TBody.{TBody, fold-TBody}
use Rattle.java_typed.specs.declared.statements.TBody.TheOpen.{TBody-F, TStatement-F, TCaseGroup-F, TCatch-F}
use Rattle.java_typed.specs.declared.statements.TStatement.{TStatement, fold-TStatement}
use Rattle.flow.specs.Acts as a
use Rattle.flow.specs.Acts.{Skip, Does, Asks, Jumps, Throws, Then, If, Forever, Block, Switch, Try, Finally, Constant, Groups, Done, Group}
use Rattle.flow.specs.Analyses.{Assigns}
use Rattle.java_flow.specs.Variables.{Local, Target, Behind, BehindLabel, Next, NextLabel, Out, JavaUse, JavaAct, JavaTest, reached}
use Rattle.java_flow.specs.Expressions.{said, done}

abbrev pub Statement : Type 0
Statement = Option (List ℕ) → JavaAct

-- a group of a switch: what it does, and whether `default` is among its labels
pub record CaseGroup : Type 0 where
  pub does : JavaAct
  pub has_default : Bool

abbrev pub nth : List JavaAct → ℕ → JavaAct
nth [] n = Skip
nth (x ∷ more) ℕ.zero = x
nth (x ∷ more) (ℕ.suc n) = nth more n

-- one after another (JLS 16.2.2)
abbrev pub block : List Statement → JavaAct
block [] = Skip
block (x ∷ more) = Then (x None) (block more)

abbrev pub value : List JavaAct → TExpr → JavaAct
value bodies x = done (said (nth bodies) x)

abbrev pub test : List JavaAct → TExpr → JavaTest
test bodies x = (said (nth bodies) x).test

abbrev pub values : List JavaAct → List TExpr → JavaAct
values bodies [] = Skip
values bodies (x ∷ more) = Then (value bodies x) (values bodies more)

-- ---- statements that hold no other

-- a variable that has its value (JLS 14.4.2, 16.2.4)
abbrev pub given : TDeclarator → JavaAct
given d = Does (Assigns (Local d.name) d.at)

abbrev pub declared : List JavaAct → TDeclarator → JavaAct
declared bodies d = by d.value
  where
    by : Option TExpr → JavaAct
    by None = Skip
    by (Some x) = Then (value bodies x) (given d)

abbrev pub all_declared : List JavaAct → List TDeclarator → JavaAct
all_declared bodies [] = Skip
all_declared bodies (d ∷ more) = Then (declared bodies d) (all_declared bodies more)

abbrev pub break_by : Option (List ℕ) → Target
break_by None = Behind
break_by (Some name) = BehindLabel name

abbrev pub continue_by : Option (List ℕ) → Target
continue_by None = Next
continue_by (Some name) = NextLabel name

abbrev pub simple_by : List JavaAct → TSimple → JavaAct
simple_by bodies simple.Empty = Skip
simple_by bodies (simple.Locals ds) = all_declared bodies ds
simple_by bodies (simple.Value x) = value bodies x
simple_by bodies (simple.Break name) = Jumps (break_by name)
simple_by bodies (simple.Continue name) = Jumps (continue_by name)
simple_by bodies (simple.Return None) = Jumps Out
simple_by bodies (simple.Return (Some x)) = Then (value bodies x) (Jumps Out)
simple_by bodies (simple.Throw x) = Then (value bodies x) Throws

-- ---- loops (JLS 14.12 to 14.14, 16.2.10 to 16.2.12)

-- a round of a loop, which `continue` ends, also by the loop's label
abbrev pub round : Option (List ℕ) → Statement → JavaAct
round None x = Block Next (x None)
round (Some name) x = Block (NextLabel name) (Block Next (x None))

-- the test before each round, and what follows a round; `break` goes behind it
abbrev pub looped : JavaTest → JavaAct → JavaAct
looped c x = Block Behind (Forever (If true c x (Jumps Behind)))

-- the test behind each round
abbrev pub looped_do : JavaAct → JavaTest → JavaAct
looped_do x c = Block Behind (Forever (Then x (If true c Skip (Jumps Behind))))

abbrev pub started : List JavaAct → TForStart → JavaAct
started bodies (starts.Locals ds) = all_declared bodies ds
started bodies (starts.Values xs) = values bodies xs

-- without a test as with `true`
abbrev pub test_of : List JavaAct → Option TExpr → JavaTest
test_of bodies None = Constant true
test_of bodies (Some x) = test bodies x

-- of whether there is one more value nothing is known
abbrev pub more_values : JavaTest
more_values = a.Value Skip

-- ---- switch, try, synchronized (JLS 14.11, 14.19, 14.20, 16.2.9, 16.2.13 to 16.2.15)

abbrev pub is_default : TLabel → Bool
is_default (label.Case at v x) = false
is_default (label.Default at) = true

abbrev pub groups : List CaseGroup → Groups JavaUse Target
groups [] = Done
groups (g ∷ more) = Group g.does (groups more)

abbrev pub any_default : List CaseGroup → Bool
any_default [] = false
any_default (g ∷ more) = g.has_default || any_default more

-- one of the catches
abbrev pub one_of : JavaAct → List JavaAct → JavaAct
one_of x [] = x
one_of x (y ∷ more) = If false more_values x (one_of y more)

abbrev pub tried : JavaAct → List JavaAct → JavaAct
tried x [] = x
tried x (y ∷ more) = Try x (one_of y more)

abbrev pub finally : JavaAct → Option Position → JavaAct → JavaAct
finally x None y = x
finally x (Some at) y = Finally x y

abbrev pub locked : List JavaAct → TLock → JavaAct
locked bodies (lock.Value x) = value bodies x
locked bodies (lock.Class class) = Skip

-- ---- all statements

-- what the body of an anonymous class does later, by its place among the classes of the unit
module _ (inner : ℕ → JavaAct) where
  abbrev pub body_by : TBody-F JavaAct Statement CaseGroup JavaAct → JavaAct
  body_by (TBody-F.Statements xs) = block xs
  body_by (TBody-F.Class number) = inner number

  abbrev pub group_by : TCaseGroup-F JavaAct Statement CaseGroup JavaAct → CaseGroup
  group_by x = record { does = block x.statements; has_default = list_any is_default x.labels }

  abbrev pub catch_by : TCatch-F JavaAct Statement CaseGroup JavaAct → JavaAct
  catch_by x = Then (given x.caught) (block x.statements)

  -- behind its first token
  abbrev pub begun_by : TStatement-F JavaAct Statement CaseGroup JavaAct → Statement
  begun_by (TStatement-F.Simple at x bodies) name = simple_by bodies x
  begun_by (TStatement-F.Block at xs right) name = block xs
  begun_by (TStatement-F.Labeled at own x) name = Block (BehindLabel own) (x (Some own))
  begun_by (TStatement-F.If at c bodies x) name = If false (test bodies c) (x None) Skip
  begun_by (TStatement-F.IfElse at c bodies x y) name = If false (test bodies c) (x None) (y None)
  begun_by (TStatement-F.While at c bodies x) name = looped (test bodies c) (round name x)
  begun_by (TStatement-F.Do at x c bodies) name = looped_do (round name x) (test bodies c)
  begun_by (TStatement-F.For at start c updates bodies x) name = Then (started bodies start) (looped (test_of bodies c) (Then (round name x) (values bodies updates)))
  begun_by (TStatement-F.Each at variable xs bodies x) name = Then (value bodies xs) (looped more_values (Then (given variable) (round name x)))
  begun_by (TStatement-F.Switch at x bodies gs) name = Then (value bodies x) (Block Behind (Switch (any_default gs) (groups gs)))
  begun_by (TStatement-F.Synchronized at x bodies xs) name = Then (locked bodies x) (block xs)
  begun_by (TStatement-F.Try at xs catches last lasts) name = finally (tried (block xs) catches) last (block lasts)

  abbrev pub first_of : TStatement-F JavaAct Statement CaseGroup JavaAct → Position
  first_of (TStatement-F.Simple at x bodies) = at
  first_of (TStatement-F.Block at xs right) = at
  first_of (TStatement-F.Labeled at own x) = at
  first_of (TStatement-F.If at c bodies x) = at
  first_of (TStatement-F.IfElse at c bodies x y) = at
  first_of (TStatement-F.While at c bodies x) = at
  first_of (TStatement-F.Do at x c bodies) = at
  first_of (TStatement-F.For at start c updates bodies x) = at
  first_of (TStatement-F.Each at variable xs bodies x) = at
  first_of (TStatement-F.Switch at x bodies gs) = at
  first_of (TStatement-F.Synchronized at x bodies xs) = at
  first_of (TStatement-F.Try at xs catches last lasts) = at

  abbrev pub statement_by : TStatement-F JavaAct Statement CaseGroup JavaAct → Statement
  statement_by x name = Then (reached (first_of x)) (begun_by x name)

  unfoldable pub statement : TStatement → Statement
  statement = fold-TStatement JavaAct Statement CaseGroup JavaAct body_by statement_by group_by catch_by

  unfoldable pub body : TBody → JavaAct
  body = fold-TBody JavaAct Statement CaseGroup JavaAct body_by statement_by group_by catch_by

  abbrev pub statements : List TStatement → JavaAct
  statements xs = block (map statement xs)
