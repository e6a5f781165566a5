-- How deep each body stands in a head: 1 for the head itself, one more for each part on the way. In the order of their `{`.
use Rattle.std.specs.Prelude.{ℕ, suc, List, [], ◌∷◌, ◌++◌, map, Option, Some, None}
use Rattle.java_tree.specs.declared.exprs.Span.{Span}
use Rattle.java_tree.specs.declared.exprs.JExpr.{JExpr, fold-JExpr}
use Rattle.java_tree.specs.declared.exprs.JExpr.TheOpen.{JExpr-F}
use Rattle.java_statement_grammar.specs.declared.declarations.JValue.{JValue}
use Rattle.java_statement_grammar.specs.declared.declarations.JDeclarator.{JDeclarator}
use Rattle.java_statement_grammar.specs.declared.declarations.JDeclaration.{JDeclaration}
use Rattle.java_statement_grammar.specs.declared.statements.JSimple.{JSimple}
use Rattle.java_statement_grammar.specs.declared.statements.JSimple.TheVariants as simple
use Rattle.java_statement_grammar.specs.declared.statements.JForStart.{JForStart}
use Rattle.java_statement_grammar.specs.declared.statements.JForStart.TheVariants as start
use Rattle.java_statement_grammar.specs.declared.statements.JForHead.{JForHead}
use Rattle.java_statement_grammar.specs.declared.statements.JForHead.TheVariants as for
use Rattle.java_statement_grammar.specs.declared.statements.JLock.{JLock}
use Rattle.java_statement_grammar.specs.declared.statements.JLock.TheVariants as lock
use Rattle.java_statement_grammar.specs.declared.statements.JSwitchLabel.{JSwitchLabel}
use Rattle.java_statement_grammar.specs.declared.statements.JSwitchLabel.TheVariants as label
use Rattle.java_member_grammar.specs.declared.lines.JArguments.{JArguments}
use Rattle.java_member_grammar.specs.declared.lines.JConstant.{JConstant}
use Rattle.java_member_grammar.specs.declared.lines.JConstants.{JConstants}

abbrev pub Levels : Type 0
Levels = List ℕ

abbrev pub all_levels : List Levels → Levels
all_levels [] = []
all_levels (x ∷ xs) = x ++ all_levels xs

-- of parts, one deeper
abbrev pub deeper : Levels → Levels
deeper = map suc

abbrev pub body_level : Option Span → Levels
body_level None = []
body_level (Some body) = 2 ∷ []

abbrev pub levels_by : JExpr-F Levels → Levels
levels_by (JExpr-F.Paren lp inner rp) = deeper inner
levels_by (JExpr-F.Call n at lp args commas rp) = deeper (all_levels args)
levels_by (JExpr-F.SuperCall above dot n at lp args commas rp) = deeper (all_levels args)
levels_by (JExpr-F.Field left dot n at) = deeper left
levels_by (JExpr-F.Method left dot n at lp args commas rp) = deeper (left ++ all_levels args)
levels_by (JExpr-F.Element left lp index rp) = deeper (left ++ index)
levels_by (JExpr-F.Postfix left op at) = deeper left
levels_by (JExpr-F.Prefix op at inner) = deeper inner
levels_by (JExpr-F.Cast lp to rp inner) = deeper inner
levels_by (JExpr-F.Binary left op at right) = deeper (left ++ right)
levels_by (JExpr-F.Instanceof left at to) = deeper left
levels_by (JExpr-F.Conditional left question then_ colon else_) = deeper (left ++ (then_ ++ else_))
levels_by (JExpr-F.Assign left op at right) = deeper (left ++ right)
levels_by (JExpr-F.Lambda params arrow body) = deeper body
levels_by (JExpr-F.LambdaBlock params arrow body) = 2 ∷ []
levels_by (JExpr-F.New at made lp args commas rp body) = deeper (all_levels args) ++ body_level body
levels_by (JExpr-F.NewArray at of lb size rb more) = deeper size
levels_by (JExpr-F.NewFilled at of brackets lc inits commas more rc) = deeper (all_levels inits)
levels_by (JExpr-F.Braces lc inits commas more rc) = deeper (all_levels inits)
levels_by _ = []

-- of an expression
unfoldable pub levels : JExpr → Levels
levels = fold-JExpr Levels levels_by

abbrev pub maybe_levels : Option JExpr → Levels
maybe_levels None = []
maybe_levels (Some x) = levels x

abbrev pub list_levels : List JExpr → Levels
list_levels xs = all_levels (map levels xs)

-- of a declarator, whose value is a part
abbrev pub value_levels : Option JValue → Levels
value_levels None = []
value_levels (Some x) = levels x.tree

abbrev pub declarator_levels : JDeclarator → Levels
declarator_levels x = deeper (value_levels x.value)

-- of what holds the declaration, whose declarators are parts
abbrev pub declaration_levels : JDeclaration → Levels
declaration_levels x = deeper (all_levels (map declarator_levels x.names))

-- of the statement
abbrev pub simple_levels : JSimple → Levels
simple_levels (simple.Declaration x) = declaration_levels x
simple_levels (simple.Expression x) = deeper (levels x)
simple_levels (simple.Return at x) = deeper (maybe_levels x)
simple_levels (simple.Throw at x) = deeper (levels x)
simple_levels (simple.ThisCall at lp args commas rp) = deeper (list_levels args)
simple_levels (simple.SuperCall at lp args commas rp) = deeper (list_levels args)
simple_levels _ = []

abbrev pub start_levels : JForStart → Levels
start_levels (start.Declaration x) = declaration_levels x
start_levels (start.Expressions xs commas) = deeper (list_levels xs)

-- of the loop
abbrev pub for_levels : JForHead → Levels
for_levels (for.Basic start first condition second updates commas) = start_levels start ++ (deeper (maybe_levels condition) ++ deeper (list_levels updates))
for_levels (for.Each is_final kind n at colon walked) = deeper (levels walked)

-- of the statement
abbrev pub lock_levels : JLock → Levels
lock_levels (lock.Expression x) = deeper (levels x)
lock_levels (lock.Class q dot at) = []

-- of the label
abbrev pub switch_levels : JSwitchLabel → Levels
switch_levels (label.Case at x colon) = deeper (levels x)
switch_levels (label.Default at colon) = []

-- of the constants of an enum, whose arguments stand at depth 1
abbrev pub arguments_levels : Option JArguments → Levels
arguments_levels None = []
arguments_levels (Some x) = list_levels x.items

abbrev pub constant_levels : JConstant → Levels
constant_levels x = arguments_levels x.arguments

abbrev pub constants_levels : JConstants → Levels
constants_levels x = all_levels (map constant_levels x.items)
