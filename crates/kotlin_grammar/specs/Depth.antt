-- How deep the parts are. A type, an expression, a statement, a block, a line of a `when` and a `catch` are one deeper than the deepest of
-- their parts; a list is as deep as the deepest of its items.
use Rattle.std.specs.Prelude.{ℕ, suc, max, nat_lt, Bool, true, false, if◌then◌else◌, List, [], ◌∷◌, Option, Some, None}
use Rattle.grammar.specs.Machine.{◌>>=◌}
use Rattle.kotlin_grammar.specs.declared.letters.Act.{Act}
use Rattle.kotlin_grammar.specs.declared.letters.Act.TheVariants as a
use Rattle.kotlin_grammar.specs.declared.built.Built.{Built}
use Rattle.kotlin_grammar.specs.declared.levels.Levels.{Levels}
use Rattle.kotlin_grammar.specs.declared.levels.Level.{Level}
use Rattle.kotlin_grammar.specs.declared.levels.Level.TheVariants as v
use Rattle.kotlin_grammar.specs.declared.levels.Parts.{Parts}
use Rattle.kotlin_grammar.specs.declared.levels.Parts.TheVariants as n
use Rattle.kotlin_grammar.specs.Build.{build}

abbrev pub levels_by : Parts → Parts → Level → Levels
levels_by parts under level = record { parts = parts; under = under; level = level }

-- of how many parts the depth counts, of how many below them it doesn't, and what is made of them
unfoldable pub levels : Act → Levels
levels a.AddCalledSuper = levels_by n.Zero n.One v.Gone
levels a.AddSuper = levels_by n.Zero n.One v.Gone
levels a.Typed = levels_by n.Zero n.One v.Gone
levels a.Init = levels_by n.Zero n.One v.Gone
levels a.Property = levels_by n.Zero n.One v.Gone
levels a.Constructor = levels_by n.Zero n.One v.Gone
levels a.Value = levels_by n.Zero n.One v.Gone
levels a.AddParam = levels_by n.Zero n.One v.Gone
levels a.Body = levels_by n.Zero n.One v.Gone
levels a.Delegation = levels_by n.Zero n.One v.Gone
levels a.NoStatements = levels_by n.Zero n.Zero v.Same
levels a.Block = levels_by n.One n.Zero v.Deeper
levels a.AddStatement = levels_by n.Two n.Zero v.Same
levels a.Break = levels_by n.Zero n.Zero v.Deeper
levels a.Continue = levels_by n.Zero n.Zero v.Deeper
levels a.Throw = levels_by n.One n.Zero v.Deeper
levels a.NoCatches = levels_by n.Zero n.Zero v.Same
levels a.Synchronized = levels_by n.Two n.Zero v.Deeper
levels a.Prefix = levels_by n.One n.Zero v.Deeper
levels a.Local = levels_by n.Two n.Zero v.Deeper
levels a.Unset = levels_by n.One n.Zero v.Deeper
levels a.While = levels_by n.Two n.Zero v.Deeper
levels a.DoWhile = levels_by n.Two n.Zero v.Deeper
levels a.ForRange = levels_by n.Three n.Zero v.Deeper
levels a.For = levels_by n.Two n.Zero v.Deeper
levels a.IfValue = levels_by n.Three n.Zero v.Deeper
levels a.Expression = levels_by n.One n.Zero v.Deeper
levels a.If = levels_by n.Two n.Zero v.Deeper
levels a.IfElse = levels_by n.Three n.Zero v.Deeper
levels a.IfElseIf = levels_by n.Three n.Zero v.Deeper
levels a.Branch = levels_by n.Two n.Zero v.Deeper
levels a.NoBranches = levels_by n.Zero n.Zero v.Same
levels a.AddBranch = levels_by n.Two n.Zero v.Same
levels a.WhenBranches = levels_by n.Three n.Zero v.Deeper
levels a.Choice = levels_by n.Two n.Zero v.Deeper
levels a.NoChoices = levels_by n.Zero n.Zero v.Same
levels a.AddChoice = levels_by n.Two n.Zero v.Same
levels a.WhenChoices = levels_by n.Three n.Zero v.Deeper
levels a.NoExprs = levels_by n.Zero n.Zero v.Same
levels a.AddExpr = levels_by n.Two n.Zero v.Same
levels a.Give = levels_by n.One n.Zero v.Deeper
levels a.Return = levels_by n.Zero n.Zero v.Deeper
levels a.Catch = levels_by n.Two n.Zero v.Deeper
levels a.AddCatch = levels_by n.Two n.Zero v.Same
levels a.TryFinally = levels_by n.Three n.Zero v.Deeper
levels a.Try = levels_by n.Two n.Zero v.Deeper
levels a.Assign = levels_by n.Two n.Zero v.Deeper
levels a.Binary = levels_by n.Two n.Zero v.Deeper
levels a.Is = levels_by n.Two n.Zero v.Deeper
levels a.As = levels_by n.Two n.Zero v.Deeper
levels a.Literal = levels_by n.Zero n.Zero v.Deeper
levels a.This = levels_by n.Zero n.Zero v.Deeper
levels a.SuperCall = levels_by n.One n.Zero v.Deeper
levels a.Paren = levels_by n.One n.Zero v.Deeper
levels a.Run = levels_by n.One n.Zero v.Deeper
levels a.Call = levels_by n.One n.Zero v.Deeper
levels a.Name = levels_by n.Zero n.Zero v.Deeper
levels a.GenericCall = levels_by n.Two n.Zero v.Deeper
levels a.Applied = levels_by n.One n.Zero v.Deeper
levels a.Element = levels_by n.Two n.Zero v.Deeper
levels a.Postfix = levels_by n.One n.Zero v.Deeper
levels a.Face = levels_by n.Zero n.One v.Deeper
levels a.Lambda = levels_by n.Two n.Zero v.Deeper
levels a.ClassOf = levels_by n.Zero n.One v.Deeper
levels a.Method = levels_by n.Two n.Zero v.Deeper
levels a.Field = levels_by n.One n.Zero v.Deeper
levels a.GenericMethod = levels_by n.Three n.Zero v.Deeper
levels a.DottedApplied = levels_by n.One n.One v.Deeper
levels a.AppliedType = levels_by n.One n.Zero v.Deeper
levels a.PlainType = levels_by n.Zero n.Zero v.Deeper
levels a.NoTypes = levels_by n.Zero n.Zero v.Same
levels a.AddType = levels_by n.Two n.Zero v.Same
levels a.TypeArguments = levels_by n.One n.Zero v.Same
levels _ = levels_by n.Zero n.Zero v.Gone

-- the deepest tree that is read
abbrev pub max_depth : ℕ
max_depth = 1600

abbrev pub last_depth : List ℕ → Option (ℕ × List ℕ)
last_depth [] = None
last_depth (d ∷ ds) = Some (d, ds)

-- the depth of the deepest of so many
unfoldable pub deepest : Parts → List ℕ → Option (ℕ × List ℕ)
deepest n.Zero ds = Some (0, ds)
deepest n.One ds = last_depth ds
deepest n.Two ds = do
  x ← last_depth ds
  y ← last_depth x.1
  Some (max x.0 y.0, y.1)
deepest n.Three ds = do
  x ← last_depth ds
  y ← last_depth x.1
  z ← last_depth y.1
  Some (max (max x.0 y.0) z.0, z.1)

abbrev pub leveled : Level → ℕ → List ℕ → Option (List ℕ)
leveled v.Same d ds = Some (d ∷ ds)
leveled v.Deeper d ds = if nat_lt d max_depth then Some (suc d ∷ ds) else None
leveled v.Gone d ds = Some ds

abbrev pub measured : Levels → List ℕ → Option (List ℕ)
measured l ds = do
  depth ← deepest l.parts ds
  under ← deepest l.under depth.1
  leveled l.level depth.0 under.1

-- What an action builds, where its parts are those that it wants and no deeper tree than is read.
unfoldable pub acts : Act → Built → Option Built
acts a b = do
  ds ← measured (levels a) b.depths
  build a (record b { depths = ds })
