-- What `new` creates, a step at a time.
use Rattle.std.specs.Prelude.{ℕ, if◌then◌else◌, None}
use Rattle.java_tree.specs.declared.tokens.Position.{Position}
use Rattle.java_tree.specs.declared.types.JType.{JType}
use Rattle.java_tree.specs.declared.exprs.JCreated.TheVariants as created
use Rattle.java_tree.specs.declared.exprs.JExpr.{JExpr}
use Rattle.java_tree.specs.Trees.{is_class}
use Rattle.java_expr_grammar.specs.Reading.{Reader}
use Rattle.java_exprs.specs.Rules.{new_args}

-- behind the type and the `(` that follows it
abbrev pub new_class : ℕ → Position → JType → Position → Reader JExpr
new_class d at of lp ts = if is_class of then new_args d at (created.Type of) lp ts else None
