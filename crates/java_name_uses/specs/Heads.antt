-- What the heads of statements say of names.
use Rattle.std.specs.Prelude.{List, [], ◌++◌, map, Option, Some, None}
use Rattle.java_tree.specs.declared.tokens.Position.{Position}
use Rattle.java_tree.specs.declared.exprs.JExpr.{JExpr}
use Rattle.java_statement_grammar.specs.declared.declarations.JValue.{JValue}
use Rattle.java_statement_grammar.specs.declared.declarations.JDeclarator.{JDeclarator}
use Rattle.java_statement_grammar.specs.declared.declarations.JDeclaration.{JDeclaration}
use Rattle.java_statement_grammar.specs.declared.statements.JLabelName.{JLabelName}
use Rattle.java_statement_grammar.specs.declared.statements.JSimple.{JSimple}
use Rattle.java_statement_grammar.specs.declared.statements.JSimple.TheVariants as plain
use Rattle.java_statement_grammar.specs.declared.statements.JForStart.{JForStart}
use Rattle.java_statement_grammar.specs.declared.statements.JForStart.TheVariants as start
use Rattle.java_statement_grammar.specs.declared.statements.JForHead.{JForHead}
use Rattle.java_statement_grammar.specs.declared.statements.JForHead.TheVariants as for
use Rattle.java_statement_grammar.specs.declared.statements.JLock.{JLock}
use Rattle.java_statement_grammar.specs.declared.statements.JLock.TheVariants as held
use Rattle.java_statement_grammar.specs.declared.statements.JSwitchLabel.{JSwitchLabel}
use Rattle.java_statement_grammar.specs.declared.statements.JSwitchLabel.TheVariants as case
use Rattle.java_name_uses.specs.declared.uses.Sign.TheVariants as sign
use Rattle.java_name_uses.specs.declared.uses.Word.{Word}
use Rattle.java_name_uses.specs.declared.uses.Word.TheVariants as w
use Rattle.java_name_uses.specs.declared.uses.Naming.{Naming}
use Rattle.java_name_uses.specs.declared.uses.Naming.TheVariants as naming
use Rattle.java_name_uses.specs.Uses as u
use Rattle.java_name_uses.specs.Uses.{Uses}

abbrev pub initial : Option JValue → Uses
initial None = []
initial (Some x) = u.value (u.uses x.tree)

-- the scope of a local holds its own initializer (JLS 6.3)
abbrev pub declarator : JDeclarator → Uses
declarator x = u.named naming.Variable x.name x.at ++ initial x.value

abbrev pub declarators : List JDeclarator → Uses
declarators xs = u.all (map declarator xs)

abbrev pub declaration : JDeclaration → Uses
declaration x = u.type_uses x.kind ++ declarators x.names

abbrev pub maybe : Option JExpr → Uses
maybe None = []
maybe (Some x) = u.value (u.uses x)

abbrev pub expressions : List JExpr → Uses
expressions xs = u.values (map u.uses xs)

abbrev pub jump : Word → Naming → Position → Option JLabelName → Uses
jump here to at None = u.word here at
jump here to at (Some x) = u.named to x.name x.at

-- `this(..)` and `super(..)` (JLS 8.8.7.1)
abbrev pub constructor_call : List JExpr → Uses
constructor_call args = u.signed sign.OpenArguments ++ (expressions args ++ u.signed sign.Close)

-- (JLS 14.4 to 14.18)
abbrev pub simple : JSimple → Uses
simple plain.Empty = []
simple (plain.Declaration x) = declaration x
simple (plain.Expression x) = u.value (u.uses x)
simple (plain.Break at label) = jump w.Break naming.BreakTo at label
simple (plain.Continue at label) = jump w.Continue naming.ContinueTo at label
simple (plain.Return at x) = u.word w.Return at ++ maybe x
simple (plain.Throw at x) = u.value (u.uses x)
simple (plain.ThisCall at lp args commas rp) = constructor_call args
simple (plain.SuperCall at lp args commas rp) = constructor_call args

abbrev pub for_start : JForStart → Uses
for_start (start.Declaration x) = declaration x
for_start (start.Expressions xs commas) = expressions xs

-- what is walked through stands before the variable's scope (JLS 6.3, 14.14.2)
abbrev pub for_head : JForHead → Uses
for_head (for.Basic start semi test last updates commas) = for_start start ++ (maybe test ++ expressions updates)
for_head (for.Each is_final kind name at colon walked) = u.type_uses kind ++ (u.value (u.uses walked) ++ u.named naming.Variable name at)

abbrev pub lock : JLock → Uses
lock (held.Expression x) = u.value (u.uses x)
lock (held.Class name dot at) = u.type_name name

abbrev pub label : JSwitchLabel → Uses
label (case.Case at x colon) = u.value (u.uses x)
label (case.Default at colon) = []
