-- Behind a `break` or a `continue`.
use Rattle.std.specs.Prelude.{Option, Some}
use Rattle.java_tree.specs.declared.tokens.Position.{Position}
use Rattle.java_tree.specs.Seen.{Tokens}
use Rattle.java_expr_grammar.specs.Reading.{◌>>=◌}
use Rattle.java_statement_grammar.specs.declared.statements.JSimple.{JSimple}
use Rattle.java_statement_grammar.specs.declared.statements.JSimple.TheVariants as simple
use Rattle.java_statement_grammar.specs.Reading.{label_of}

abbrev pub break_read : Position → Tokens → Option JSimple
break_read at ts = label_of ts >>= λ x. Some (simple.Break at x)

abbrev pub continue_read : Position → Tokens → Option JSimple
continue_read at ts = label_of ts >>= λ x. Some (simple.Continue at x)
