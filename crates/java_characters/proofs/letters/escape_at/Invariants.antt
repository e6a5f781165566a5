use Rattle.std.proofs.Common.{length, ◌-◌, ◌≡◌, ◌+◌, ◌≤◌, drop}
use Rattle.java_characters.specs.Letters.{escape_at}
use Rattle.java_characters.proofs.letters.escape_at.Given as goal

abbrev pub invariant-loop-marks : goal.invariant-loop-marks
invariant-loop-marks l = (l.marks ≤ length l.bytes) × (escape_at (l.marks + 2) (drop l.marks l.bytes) ≡ escape_at 2 l.bytes)

abbrev pub decreases-loop-marks : goal.decreases-loop-marks
decreases-loop-marks l = length l.bytes - l.marks
