use Rattle.std.proofs.Common.{◌≡◌, ◌++◌, take}
use Rattle.std.specs.List.{flat_map}
use Rattle.kotlin_layout.specs.Names.{string_unit_text}
use Rattle.kotlin_token_printer.proofs.spelling.put_units.Given as goal

abbrev pub invariant-loop-unit : goal.invariant-loop-unit
invariant-loop-unit l = l.out ≡ l.fn.out ++ flat_map string_unit_text (take l.unit-index l.units)
