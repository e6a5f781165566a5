use Rattle.std.proofs.Common.{◌≡◌, ◌≤◌, ◌+◌, length}
use Rattle.java_token_cursor.specs.Shown.{shown}
use Rattle.java_fault_grammar.specs.Runs.{run_from, run}
use Rattle.java_fault_finder.specs.Ends.{place_seen}
use Rattle.java_fault_finder.proofs.ends.measured.Given as goal

abbrev pub invariant-loop-count : goal.invariant-loop-count
invariant-loop-count l = record {
  long : length (run (shown l.pieces)).text ≡ l.count + length (run_from (place_seen l.place) (shown l.rest)).text;
  same : (run (shown l.pieces)).end ≡ (run_from (place_seen l.place) (shown l.rest)).end;
  within : l.place.depth ≤ l.count;
  left : length l.rest + l.count ≡ length l.pieces;
}
