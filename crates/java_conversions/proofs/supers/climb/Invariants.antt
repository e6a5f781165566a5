use Rattle.std.proofs.Common.{◌≡◌}
use Rattle.java_type_relations.specs.Supers.{climbed}
use Rattle.java_conversions.proofs.supers.climb.Given as goal

abbrev pub invariant-loop-steps : goal.invariant-loop-steps
invariant-loop-steps l = climbed l.heads l.sought l.steps l.level ≡ climbed l.heads l.sought l.heads.steps l.fn.from

abbrev pub decreases-loop-steps : goal.decreases-loop-steps
decreases-loop-steps l = l.steps
