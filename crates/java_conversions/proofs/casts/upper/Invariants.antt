use Rattle.std.proofs.Common.{◌≡◌}
use Rattle.java_typed.specs.Reading.{shown}
use Rattle.java_type_relations.specs.Casts.{upper}
use Rattle.java_conversions.proofs.casts.upper.Given as goal

abbrev pub invariant-loop-steps : goal.invariant-loop-steps
invariant-loop-steps l = upper l.heads l.steps (shown l.found) ≡ upper l.heads l.heads.steps (shown l.x)

abbrev pub decreases-loop-steps : goal.decreases-loop-steps
decreases-loop-steps l = l.steps
