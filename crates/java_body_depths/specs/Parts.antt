-- The parts of an expression and its own body, and levels that stand deeper.
use Rattle.std.specs.Prelude.{ℕ, ◌+◌, [], ◌∷◌, ◌++◌, map}
use Rattle.java_tree.specs.declared.exprs.JExpr.{JExpr, out-JExpr, map-JExpr}
use Rattle.java_tree.specs.declared.exprs.JExpr.TheOpen.{JExpr-F}
use Rattle.java_unit_grammar.specs.Levels.{Levels, all_levels, body_level, levels}

-- levels in what has the number of forms around it
unfoldable pub raised : ℕ → Levels → Levels
raised around = map (λ level. level + around)

abbrev pub parts_by : JExpr-F Levels → Levels
parts_by (JExpr-F.Paren lp inner rp) = inner
parts_by (JExpr-F.Call n at lp args commas rp) = all_levels args
parts_by (JExpr-F.SuperCall above dot n at lp args commas rp) = all_levels args
parts_by (JExpr-F.Field left dot n at) = left
parts_by (JExpr-F.Method left dot n at lp args commas rp) = left ++ all_levels args
parts_by (JExpr-F.Element left lp index rp) = left ++ index
parts_by (JExpr-F.Postfix left op at) = left
parts_by (JExpr-F.Prefix op at inner) = inner
parts_by (JExpr-F.Cast lp to rp inner) = inner
parts_by (JExpr-F.Binary left op at right) = left ++ right
parts_by (JExpr-F.Instanceof left at to) = left
parts_by (JExpr-F.Conditional left question then_ colon else_) = left ++ (then_ ++ else_)
parts_by (JExpr-F.Assign left op at right) = left ++ right
parts_by (JExpr-F.Lambda params arrow body) = body
parts_by (JExpr-F.New at made lp args commas rp body) = all_levels args
parts_by (JExpr-F.NewArray at of lb size rb more) = size
parts_by (JExpr-F.NewFilled at of brackets lc inits commas more rc) = all_levels inits
parts_by (JExpr-F.Braces lc inits commas more rc) = all_levels inits
parts_by _ = []

-- of the parts, each as if it stood alone
abbrev pub parts : JExpr → Levels
parts x = parts_by (map-JExpr JExpr Levels levels (out-JExpr x))

abbrev pub own_by : JExpr-F Levels → Levels
own_by (JExpr-F.LambdaBlock params arrow body) = 2 ∷ []
own_by (JExpr-F.New at made lp args commas rp body) = body_level body
own_by _ = []

-- of the body that the form itself has
abbrev pub own : JExpr → Levels
own x = own_by (map-JExpr JExpr Levels levels (out-JExpr x))
