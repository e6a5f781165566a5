use Rattle.std.proofs.Common.{◌≡◌, length}
use Rattle.java_member_grammar.specs.Modifiers as mo
use Rattle.java_modifier_rules.proofs.modifiers.has_access.Given as goal

abbrev pub invariant-loop-first : goal.invariant-loop-first
invariant-loop-first l = mo.has_access l.rest ≡ mo.has_access l.fn.mods

abbrev pub decreases-loop-first : goal.decreases-loop-first
decreases-loop-first l = length l.rest
