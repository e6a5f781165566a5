use Rattle.std.proofs.Common.{◌≡◌, ◌≤◌, ◌-◌, length}
use Rattle.java_unit_grammar.specs.Reading as r
use Rattle.java_token_cursor.specs.Shown.{shown}
use Rattle.java_block_parser.specs.Asks.{onto}
use Rattle.java_block_parser.proofs.grammar.Grammar.groups.Given as goal

abbrev pub invariant-loop-turn : goal.invariant-loop-turn
invariant-loop-turn g l = record {
  same : r.many r.begins_close (r.group_read (r.readers l.self.steps) l.self.depth) (length (shown l.fn.pieces)) (shown l.fn.pieces) ≡ onto l.items (r.many r.begins_close (r.group_read (r.readers l.self.steps) l.self.depth) (l._turn-end - l._turn) (shown l.pieces));
  shorter : length l.pieces ≤ length l.fn.pieces;
}
