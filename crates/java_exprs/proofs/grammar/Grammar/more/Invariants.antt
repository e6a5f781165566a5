use Rattle.java_token_cursor.specs.Shown.{shown}
use Rattle.std.proofs.Common.{◌≡◌, ◌≤◌, ◌-◌, length, map}
use Rattle.java_tree.specs.Trees as s
use Rattle.java_expr_grammar.specs.Reading as r
use Rattle.java_exprs.specs.Exprs.{separator}
use Rattle.java_exprs.proofs.grammar.Grammar.more.Given as goal

abbrev pub invariant-loop-turn : goal.invariant-loop-turn
invariant-loop-turn g l = record {
  same : r.more_by (separator l.in_braces) (r.read l.self.depth l.least) (length l.fn.pieces) l.fn.found.items l.fn.found.commas (shown l.fn.pieces) ≡ r.more_by (separator l.in_braces) (r.read l.self.depth l.least) (l._turn-end - l._turn) l.found.items l.found.commas (shown l.pieces);
  deepest : l.found.deepest ≡ s.deepest (map s.depth l.found.items);
  within : l.found.deepest ≤ l.self.depth;
}
