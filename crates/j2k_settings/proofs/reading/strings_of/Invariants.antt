use Rattle.std.proofs.Common.{◌≡◌, take}
use Rattle.toml.specs.View.{items_view}
use Rattle.j2k_settings.specs.Settings.{array_of}
use Rattle.j2k_settings.proofs.reading.strings_of.Given as goal

abbrev pub invariant-loop-value : goal.invariant-loop-value
invariant-loop-value l = items_view (take l.value-index l.values) ≡ array_of l.entries
