use Rattle.meanings.proofs.FormDepth.{java_at_every_depth, kotlin_at_every_depth}
use Rattle.meanings.proofs.laws.same_at_every_depth.Goals as goal

pub returns-clause-java : goal.returns-clause-java
returns-clause-java c = java_at_every_depth

pub returns-clause-kotlin : goal.returns-clause-kotlin
returns-clause-kotlin c = kotlin_at_every_depth
