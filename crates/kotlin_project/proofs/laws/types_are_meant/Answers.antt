use Rattle.kotlin_project.proofs.Named.{meant_named}
use Rattle.kotlin_project.proofs.laws.types_are_meant.Goals as goal

pub returns : goal.returns
returns c = meant_named
