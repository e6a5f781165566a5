-- How deep the bodies of a head stand at least.
use Rattle.std.proofs.Common.{◌≤◌, ℕ, suc, List, [], ◌∷◌, ◌++◌, map, Option, Some, None, sym, subst, arith}
use Rattle.std.specs.List.{AllByRecursion}
use Rattle.java_tree.specs.declared.exprs.Span.{Span}
use Rattle.java_tree.specs.declared.exprs.JExpr.{JExpr, out-JExpr, map-JExpr}
use Rattle.java_tree.specs.declared.exprs.JExpr.TheOpen.{JExpr-F}
use Rattle.java_statement_grammar.specs.declared.statements.JSimple.{JSimple}
use Rattle.java_statement_grammar.specs.declared.statements.JSimple.TheVariants as simple
use Rattle.java_statement_grammar.specs.declared.statements.JForStart.{JForStart}
use Rattle.java_statement_grammar.specs.declared.statements.JForStart.TheVariants as start
use Rattle.java_statement_grammar.specs.declared.statements.JForHead.{JForHead}
use Rattle.java_statement_grammar.specs.declared.statements.JForHead.TheVariants as for
use Rattle.java_statement_grammar.specs.declared.statements.JLock.{JLock}
use Rattle.java_statement_grammar.specs.declared.statements.JLock.TheVariants as lock
use Rattle.java_statement_grammar.specs.declared.statements.JSwitchLabel.{JSwitchLabel}
use Rattle.java_statement_grammar.specs.declared.statements.JSwitchLabel.TheVariants as label
use Rattle.java_member_grammar.specs.declared.heads.JMemberHead.{JMemberHead}
use Rattle.java_member_grammar.specs.declared.heads.JMemberHead.TheVariants as head
use Rattle.java_member_grammar.specs.declared.lines.JArguments.{JArguments}
use Rattle.java_member_grammar.specs.declared.lines.JConstants.{JConstants}
use Rattle.java_unit_grammar.specs.Levels.{Levels, all_levels, body_level, levels_by, levels, declarator_levels, simple_levels, start_levels, for_levels, lock_levels, switch_levels, arguments_levels, constant_levels, constants_levels}
use Rattle.java_unit_grammar.specs.Standing.{member_levels}
use Rattle.java_unit_grammar.proofs.Counted.{levels_out}

pub record Above (m : ℕ) (ls : Levels) : Type 0 where
  pub each : AllByRecursion (λ l. m ≤ l) ls

none : {m : ℕ} → Above m []
none = record { each = tt }

both : {m : ℕ} (a b : Levels) → Above m a → Above m b → Above m (a ++ b)
both [] b f g = g
both (x ∷ a) b f g = record { each = (f.each.0, (both a b (record { each = f.each.1 }) g).each) }

deeper : (m : ℕ) (ls : Levels) → Above m ls → Above (suc m) (map suc ls)
deeper m [] f = none
deeper m (x ∷ ls) f = let h = f.each.0 in record { each = (omega (arith, h), (deeper m ls (record { each = f.each.1 })).each) }

any : (ls : Levels) → Above 0 ls
any [] = none
any (x ∷ ls) = record { each = (omega arith, (any ls).each) }

pub parts : (ls : Levels) → Above 1 (map suc ls)
parts ls = deeper 0 ls (any ls)

all : {A : Type 0} {m : ℕ} (of : A → Levels) → ((x : A) → Above m (of x)) → (xs : List A) → Above m (all_levels (map of xs))
all of f [] = none
all of f (x ∷ xs) = both (of x) (all_levels (map of xs)) (f x) (all of f xs)

layer_above : (x : JExpr-F Levels) → Above 1 (levels_by x)
layer_above (JExpr-F.Paren lp inner rp) = parts inner
layer_above (JExpr-F.Call n at lp args commas rp) = parts (all_levels args)
layer_above (JExpr-F.SuperCall above dot n at lp args commas rp) = parts (all_levels args)
layer_above (JExpr-F.Field left dot n at) = parts left
layer_above (JExpr-F.Method left dot n at lp args commas rp) = parts (left ++ all_levels args)
layer_above (JExpr-F.Element left lp index rp) = parts (left ++ index)
layer_above (JExpr-F.Postfix left op at) = parts left
layer_above (JExpr-F.Prefix op at inner) = parts inner
layer_above (JExpr-F.Cast lp to rp inner) = parts inner
layer_above (JExpr-F.Binary left op at right) = parts (left ++ right)
layer_above (JExpr-F.Instanceof left at to) = parts left
layer_above (JExpr-F.Conditional left question then_ colon else_) = parts (left ++ (then_ ++ else_))
layer_above (JExpr-F.Assign left op at right) = parts (left ++ right)
layer_above (JExpr-F.Lambda params arrow body) = parts body
layer_above (JExpr-F.LambdaBlock params arrow body) = record { each = (omega arith, tt) }
layer_above (JExpr-F.New at made lp args commas rp body) = both (map suc (all_levels args)) (body_level body) (parts (all_levels args)) (of body) where
  of : (body : Option Span) → Above 1 (body_level body)
  of None = none
  of (Some span) = record { each = (omega arith, tt) }
layer_above (JExpr-F.NewArray at of lb size rb more) = parts size
layer_above (JExpr-F.NewFilled at of brackets lc inits commas more rc) = parts (all_levels inits)
layer_above (JExpr-F.Braces lc inits commas more rc) = parts (all_levels inits)
layer_above (JExpr-F.Name n at) = none
layer_above (JExpr-F.Literal x at) = none
layer_above (JExpr-F.This at) = none
layer_above (JExpr-F.MinusLeast minus literal at) = none

levels_above : (x : JExpr) → Above 1 (levels x)
levels_above x = subst (Above 1) (sym (levels_out x)) (layer_above (map-JExpr JExpr Levels levels (out-JExpr x)))

-- ---- heads

pub simple_above : (x : JSimple) → Above 1 (simple_levels x)
simple_above simple.Empty = none
simple_above (simple.Declaration x) = parts _
simple_above (simple.Expression x) = parts _
simple_above (simple.Break at x) = none
simple_above (simple.Continue at x) = none
simple_above (simple.Return at x) = parts _
simple_above (simple.Throw at x) = parts _
simple_above (simple.ThisCall at lp args commas rp) = parts _
simple_above (simple.SuperCall at lp args commas rp) = parts _

start_above : (x : JForStart) → Above 1 (start_levels x)
start_above (start.Declaration x) = parts _
start_above (start.Expressions xs commas) = parts _

pub for_above : (x : JForHead) → Above 1 (for_levels x)
for_above (for.Basic start first condition second updates commas) = both (start_levels start) _ (start_above start) (both _ _ (parts _) (parts _))
for_above (for.Each is_final kind n at colon walked) = parts _

pub lock_above : (x : JLock) → Above 1 (lock_levels x)
lock_above (lock.Expression x) = parts _
lock_above (lock.Class q dot at) = none

pub switch_above : (x : JSwitchLabel) → Above 1 (switch_levels x)
switch_above (label.Case at x colon) = parts _
switch_above (label.Default at colon) = none

-- The values of a field are parts of its declarators.
pub member_above : (x : JMemberHead) → Above 2 (member_levels x)
member_above (head.Field mods x) = deeper 1 (all_levels (map declarator_levels x.names)) (all declarator_levels (λ y. parts _) x.names)
member_above head.Empty = none
member_above (head.Method mods params result n at formals throws) = none
member_above (head.Constructor mods n at formals throws) = none
member_above (head.Initializer static) = none

arguments_above : (x : Option JArguments) → Above 1 (arguments_levels x)
arguments_above None = none
arguments_above (Some x) = all levels levels_above x.items

pub constants_above : (x : JConstants) → Above 1 (constants_levels x)
constants_above x = all constant_levels (λ y. arguments_above y.arguments) x.items
