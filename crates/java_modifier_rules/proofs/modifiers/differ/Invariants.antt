use Rattle.std.proofs.Common.{◌≡◌, length}
use Rattle.java_member_grammar.specs.Modifiers as mo
use Rattle.java_modifier_rules.proofs.modifiers.differ.Given as goal

abbrev pub invariant-loop-first : goal.invariant-loop-first
invariant-loop-first l = mo.differ l.rest ≡ mo.differ l.fn.mods

abbrev pub decreases-loop-first : goal.decreases-loop-first
decreases-loop-first l = length l.rest
