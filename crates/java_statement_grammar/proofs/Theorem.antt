-- Tokens spell at most one of each.
use Rattle.std.proofs.Common.{◌≡◌, ℕ, sym, ◌∙◌}
use Rattle.java_tree.specs.Seen.{Tokens}
use Rattle.java_expr_grammar.proofs.LawsToCite.{some_same}
use Rattle.java_statement_grammar.specs.declared.statements.JSimple.{JSimple}
use Rattle.java_statement_grammar.specs.declared.statements.JForHead.{JForHead}
use Rattle.java_statement_grammar.specs.declared.statements.JLock.{JLock}
use Rattle.java_statement_grammar.specs.declared.statements.JSwitchLabel.{JSwitchLabel}
use Rattle.java_statement_grammar.specs.Heads.{SimpleSpells, ForSpells, LockSpells, SwitchSpells}
use Rattle.java_statement_grammar.proofs.Simple.{simple_is_read}
use Rattle.java_statement_grammar.proofs.Loops.{for_is_read}
use Rattle.java_statement_grammar.proofs.Labels.{lock_is_read, switch_is_read}

pub simple_one : (d : ℕ) (x y : JSimple) (ts : Tokens) → SimpleSpells d x ts → SimpleSpells d y ts → x ≡ y
simple_one d x y ts s t = some_same (sym (simple_is_read d ts x s.stands s.same) ∙ simple_is_read d ts y t.stands t.same)

pub for_one : (d : ℕ) (x y : JForHead) (ts : Tokens) → ForSpells d x ts → ForSpells d y ts → x ≡ y
for_one d x y ts s t = some_same (sym (for_is_read d ts x s.stands s.same) ∙ for_is_read d ts y t.stands t.same)

pub lock_one : (d : ℕ) (x y : JLock) (ts : Tokens) → LockSpells d x ts → LockSpells d y ts → x ≡ y
lock_one d x y ts s t = some_same (sym (lock_is_read d ts x s.stands s.same) ∙ lock_is_read d ts y t.stands t.same)

pub label_one : (d : ℕ) (x y : JSwitchLabel) (ts : Tokens) → SwitchSpells d x ts → SwitchSpells d y ts → x ≡ y
label_one d x y ts s t = some_same (sym (switch_is_read d ts x s.stands s.same) ∙ switch_is_read d ts y t.stands t.same)
