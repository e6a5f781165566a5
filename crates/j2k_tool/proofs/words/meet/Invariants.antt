use Rattle.std.proofs.Common.{◌≡◌, length}
use Rattle.j2k_tool.specs.Words.{meet as meet_of}
use Rattle.j2k_tool.proofs.words.meet.Given as goal

abbrev pub invariant-loop-part : goal.invariant-loop-part
invariant-loop-part l = meet_of l.firsts l.seconds ≡ meet_of l.fn.firsts l.fn.seconds

abbrev pub decreases-loop-part : goal.decreases-loop-part
decreases-loop-part l = length l.firsts
