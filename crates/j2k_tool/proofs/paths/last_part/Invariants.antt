use Rattle.std.proofs.Common.{◌≡◌, length, IsUtf8}
use Rattle.j2k_tool.specs.Paths.{last_part}
use Rattle.j2k_tool.proofs.paths.last_part.Given as goal

abbrev pub invariant-parts : goal.invariant-parts
invariant-parts l = (last_part l.rest ≡ last_part l.fn.path) × IsUtf8 l.rest

abbrev pub decreases-parts : goal.decreases-parts
decreases-parts l = length l.rest
