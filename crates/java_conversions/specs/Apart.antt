-- Two types taken apart, as the code holds them.
use Rattle.java_typed.specs.Reading.{shown}
use Rattle.java_conversions.specs.declared.subtypes.Apart.{Apart}
use Rattle.java_type_relations.specs.Subtypes.{Parts}

abbrev pub parts : Apart → Parts
parts x = record { deep = x.deep; a = shown x.a; b = shown x.b }
