-- What is read is the one head that is spelled.
use Rattle.std.proofs.Common.{◌≡◌, ℕ, IfOk, Option, Some, None, Result, Ok, Err, sym}
use Rattle.j2k_base.specs.declared.errors.NoMemory.{NoMemory}
use Rattle.java_tree.specs.Seen.{Tokens}
use Rattle.java_statement_grammar.specs.declared.statements.JSimple.{JSimple}
use Rattle.java_statement_grammar.specs.declared.statements.JForHead.{JForHead}
use Rattle.java_statement_grammar.specs.declared.statements.JLock.{JLock}
use Rattle.java_statement_grammar.specs.declared.statements.JSwitchLabel.{JSwitchLabel}
use Rattle.java_statement_grammar.specs.Heads.{SimpleSpells, ForSpells, LockSpells, SwitchSpells}
use Rattle.java_statement_grammar.specs.Reading.{simple_read, for_read, lock_read, switch_read}
use Rattle.java_statement_grammar.proofs.LawsToCite.{simple_is_spelled, simple_is_read, for_is_spelled, for_is_read, lock_is_spelled, lock_is_read, switch_is_spelled, switch_is_read}
use Rattle.java_type_parser.specs.Gives.{Gives, Always}
use Rattle.java_declaration_parser.specs.Found.{TheOne, same}

other : {A : Type 0} (x : A) (o : Option A) → None ≡ o → o ≡ Some x → ⊥
other x None e f = cc f
other x (Some y) e f = cc e

the_simple : (d : ℕ) (ts : Tokens) (o : Option JSimple) → o ≡ simple_read d ts → TheOne (λ x. SimpleSpells d x ts) o
the_simple d ts None e = λ x s. other x (simple_read d ts) e (simple_is_read d ts x s.stands s.same)
the_simple d ts (Some x) e = let i = simple_is_spelled d ts x (sym e) in record { stands = i.1; same = i.0 }

the_for : (d : ℕ) (ts : Tokens) (o : Option JForHead) → o ≡ for_read d ts → TheOne (λ x. ForSpells d x ts) o
the_for d ts None e = λ x s. other x (for_read d ts) e (for_is_read d ts x s.stands s.same)
the_for d ts (Some x) e = let i = for_is_spelled d ts x (sym e) in record { stands = i.1; same = i.0 }

the_lock : (d : ℕ) (ts : Tokens) (o : Option JLock) → o ≡ lock_read d ts → TheOne (λ x. LockSpells d x ts) o
the_lock d ts None e = λ x s. other x (lock_read d ts) e (lock_is_read d ts x s.stands s.same)
the_lock d ts (Some x) e = let i = lock_is_spelled d ts x (sym e) in record { stands = i.1; same = i.0 }

the_label : (d : ℕ) (ts : Tokens) (o : Option JSwitchLabel) → o ≡ switch_read d ts → TheOne (λ x. SwitchSpells d x ts) o
the_label d ts None e = λ x s. other x (switch_read d ts) e (switch_is_read d ts x s.stands s.same)
the_label d ts (Some x) e = let i = switch_is_spelled d ts x (sym e) in record { stands = i.1; same = i.0 }

pub simple_given : (d : ℕ) (ts : Tokens) (x : Result (Option JSimple) NoMemory) → Gives same Always (simple_read d ts) x → IfOk x (TheOne (λ y. SimpleSpells d y ts))
simple_given d ts (Err e) g = tt
simple_given d ts (Ok None) g = the_simple d ts None (sym g)
simple_given d ts (Ok (Some x)) g = the_simple d ts (Some x) (sym g.0)

pub for_given : (d : ℕ) (ts : Tokens) (x : Result (Option JForHead) NoMemory) → Gives same Always (for_read d ts) x → IfOk x (TheOne (λ y. ForSpells d y ts))
for_given d ts (Err e) g = tt
for_given d ts (Ok None) g = the_for d ts None (sym g)
for_given d ts (Ok (Some x)) g = the_for d ts (Some x) (sym g.0)

pub lock_given : (d : ℕ) (ts : Tokens) (x : Result (Option JLock) NoMemory) → Gives same Always (lock_read d ts) x → IfOk x (TheOne (λ y. LockSpells d y ts))
lock_given d ts (Err e) g = tt
lock_given d ts (Ok None) g = the_lock d ts None (sym g)
lock_given d ts (Ok (Some x)) g = the_lock d ts (Some x) (sym g.0)

pub label_given : (d : ℕ) (ts : Tokens) (x : Result (Option JSwitchLabel) NoMemory) → Gives same Always (switch_read d ts) x → IfOk x (TheOne (λ y. SwitchSpells d y ts))
label_given d ts (Err e) g = tt
label_given d ts (Ok None) g = the_label d ts None (sym g)
label_given d ts (Ok (Some x)) g = the_label d ts (Some x) (sym g.0)
