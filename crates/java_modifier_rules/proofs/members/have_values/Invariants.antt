use Rattle.std.proofs.Common.{◌≡◌, length}
use Rattle.java_member_grammar.specs.Modifiers as mo
use Rattle.java_modifier_rules.proofs.members.have_values.Given as goal

abbrev pub invariant-loop-first : goal.invariant-loop-first
invariant-loop-first l = mo.have_values l.rest ≡ mo.have_values l.fn.names

abbrev pub decreases-loop-first : goal.decreases-loop-first
decreases-loop-first l = length l.rest
