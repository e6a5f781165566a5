use Rattle.std.proofs.Common.{◌≡◌, ◌≤◌, ◌+◌, length}
use Rattle.java_token_cursor.specs.Shown.{shown}
use Rattle.java_body_cuts.specs.Cuts.{all_shown, before, cut_from, stop_seen}
use Rattle.java_body_cuts.proofs.cutting.cut.Given as goal

abbrev pub invariant-loop-turn : goal.invariant-loop-turn
invariant-loop-turn l = record {
  same : cut_from (stop_seen l.stop) l.end 0 (shown l.pieces) ≡ before (shown l.text.items) (all_shown l.bodies.items) (cut_from (stop_seen l.stop) l.end l.depth (shown l.rest));
  within : l.depth ≤ l._turn;
  left : length l.rest + l._turn ≤ length l.pieces;
  whole : l.end ≡ length l.pieces;
}
