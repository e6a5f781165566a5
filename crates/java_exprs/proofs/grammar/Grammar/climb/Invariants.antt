use Rattle.java_token_cursor.specs.Shown.{shown}
use Rattle.std.proofs.Common.{◌≡◌, ◌≤◌, ◌+◌, ◌-◌, suc}
use Rattle.java_tree.specs.Trees as s
use Rattle.java_expr_grammar.specs.Reading as r
use Rattle.java_exprs.proofs.grammar.Grammar.climb.Given as goal

abbrev pub invariant-loop-turn : goal.invariant-loop-turn
invariant-loop-turn g l = record {
  same : r.climb (r.type_read l.self.depth) (r.base_read (suc l.self.depth)) (r.typed_read l.self.depth) (r.read l.self.depth) l.self.depth l.least (l.self.depth + 1) l.fn.left.tree (shown l.fn.pieces) ≡ r.climb (r.type_read l.self.depth) (r.base_read (suc l.self.depth)) (r.typed_read l.self.depth) (r.read l.self.depth) l.self.depth l.least (l._turn-end - l._turn) l.left.tree (shown l.pieces);
  depth : l.left.depth ≡ s.depth l.left.tree;
  within : l.left.depth ≤ l.self.depth + 1;
}
