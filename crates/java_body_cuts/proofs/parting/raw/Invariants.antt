use Rattle.std.proofs.Common.{◌≡◌, ◌++◌, length}
use Rattle.java_tree.specs.Seen.{seen}
use Rattle.java_token_cursor.specs.Shown.{shown}
use Rattle.java_body_cuts.proofs.parting.raw.Given as goal

abbrev pub invariant-loop-token : goal.invariant-loop-token
invariant-loop-token l = shown l.found.items ++ seen l.rest ≡ seen l.fn.tokens

abbrev pub decreases-loop-token : goal.decreases-loop-token
decreases-loop-token l = length l.rest
