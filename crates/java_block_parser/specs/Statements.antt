-- Statements behind what comes first in them.
use Rattle.std.specs.Prelude.{ℕ, if◌then◌else◌, List, Some, None}
use Rattle.java_tree.specs.declared.tokens.Position.{Position}
use Rattle.java_tree.specs.declared.exprs.JExpr.{JExpr}
use Rattle.java_expr_grammar.specs.Reading.{Reader, ◌>>=◌}
use Rattle.java_statement_grammar.specs.declared.statements.JSimple.{JSimple}
use Rattle.java_statement_grammar.specs.declared.statements.JForHead.{JForHead}
use Rattle.java_statement_grammar.specs.declared.statements.JLock.{JLock}
use Rattle.java_statement_grammar.specs.Reading.{semicolon}
use Rattle.java_unit_grammar.specs.declared.statements.JBody.{JBody}
use Rattle.java_unit_grammar.specs.declared.statements.JStatement.{JStatement}
use Rattle.java_unit_grammar.specs.declared.statements.JStatement.TheVariants as st
use Rattle.java_unit_grammar.specs.Standing.{Role, may_stand}
use Rattle.java_unit_grammar.specs.Reading.{Readers, Rounded, begins_close, block, braced, condition, group_read, if_end, sole, until, while_word}

abbrev pub simple_end : Role → JSimple → List JBody → Reader JStatement
simple_end place x xs ts = semicolon ts >>= λ end. if may_stand place x then Some (st.Simple x xs end.0, end.1) else None

abbrev pub do_end : Position → JStatement → Position → Rounded JExpr → Reader JStatement
do_end at y again x ts = semicolon ts >>= λ end. Some (st.Do at y again x.opens x.head x.bodies x.closes end.0, end.1)

module _ (R : Readers) (d : ℕ) (at : Position) where
  abbrev pub if_behind : Rounded JExpr → Reader JStatement
  if_behind x ts = sole R d ts >>= λ y. if_end R d at x y.0 y.1

  abbrev pub while_behind : Rounded JExpr → Reader JStatement
  while_behind x ts = sole R d ts >>= λ y. Some (st.While at x.opens x.head x.bodies x.closes y.0, y.1)

  abbrev pub loop_behind : Rounded JForHead → Reader JStatement
  loop_behind x ts = sole R d ts >>= λ y. Some (st.For at x.opens x.head x.bodies x.closes y.0, y.1)

  abbrev pub do_behind : JStatement → Reader JStatement
  do_behind y ts = while_word ts >>= λ again. condition R d again.1 >>= λ x. do_end at y again.0 x.0 x.1

  abbrev pub switch_behind : Rounded JExpr → Reader JStatement
  switch_behind x ts =
      braced (until begins_close (group_read R d)) ts >>= λ groups.
      Some (st.Switch at x.opens x.head x.bodies x.closes groups.0.opens groups.0.items groups.0.closes, groups.1)

  abbrev pub lock_behind : Rounded JLock → Reader JStatement
  lock_behind x ts = block R d ts >>= λ ys. Some (st.Synchronized at x.opens x.head x.bodies x.closes ys.0.opens ys.0.items ys.0.closes, ys.1)
