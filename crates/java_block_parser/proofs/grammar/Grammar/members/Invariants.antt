use Rattle.std.proofs.Common.{◌≡◌, ◌≤◌, ◌-◌, length}
use Rattle.java_modifier_rules.specs.Fits.{owner_seen}
use Rattle.java_unit_grammar.specs.Reading as r
use Rattle.java_token_cursor.specs.Shown.{shown}
use Rattle.java_block_parser.specs.Asks.{onto, stop}
use Rattle.java_block_parser.proofs.grammar.Grammar.members.Given as goal

abbrev pub invariant-loop-turn : goal.invariant-loop-turn
invariant-loop-turn g l = record {
  same : r.many (stop l.until) ((r.readers l.self.steps).member l.depth (owner_seen l.owner)) (length (shown l.fn.pieces)) (shown l.fn.pieces) ≡ onto l.items (r.many (stop l.until) ((r.readers l.self.steps).member l.depth (owner_seen l.owner)) (l._turn-end - l._turn) (shown l.pieces));
  shorter : length l.pieces ≤ length l.fn.pieces;
}
