use Rattle.java_unit_parser.proofs.Units.{as_few}
use Rattle.java_unit_parser.proofs.files.unit.Goals as goal

pub unit_of-requires : goal.unit_of-requires
unit_of-requires c = record { size = rw c.as_slice.ensures.value (as_few _ _ c.requires c.in_ok-pieces.ensures) }
