use Rattle.std.proofs.Common.{◌≡◌, ◌∙◌, sym}
use Rattle.java_type_parser.proofs.LawsToCite.{length_shown}
use Rattle.java_body_cuts.proofs.Steps.{cut_done}
use Rattle.java_body_cuts.proofs.cutting.cut.Goals as goal

pub returns-in-Ends : goal.returns-in-Ends
returns-in-Ends c =
    (cut_done _ _ _ _ _ _ _ (c.loop-turn.invariant.whole ∙ sym (length_shown _)) c.loop-turn.invariant.same c.in-Ends.ensures, tt)
