use Rattle.std.proofs.Common.{◌≡◌, length}
use Rattle.java_member_grammar.specs.Modifiers as mo
use Rattle.java_modifier_rules.specs.Fits.{allowed}
use Rattle.java_modifier_rules.proofs.modifiers.among.Given as goal

abbrev pub invariant-loop-first : goal.invariant-loop-first
invariant-loop-first l = mo.among (allowed l.subject) l.rest ≡ mo.among (allowed l.subject) l.fn.mods

abbrev pub decreases-loop-first : goal.decreases-loop-first
decreases-loop-first l = length l.rest
