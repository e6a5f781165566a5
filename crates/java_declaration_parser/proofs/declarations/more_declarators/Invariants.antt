use Rattle.std.proofs.Common.{◌≡◌, ◌-◌, length}
use Rattle.java_token_cursor.specs.Shown.{shown}
use Rattle.java_expr_grammar.specs.Reading as r
use Rattle.java_statement_grammar.specs.Reading as h
use Rattle.java_declaration_parser.proofs.declarations.more_declarators.Given as goal

abbrev pub invariant-loop-turn : goal.invariant-loop-turn
invariant-loop-turn l = r.more_by r.comma (h.declarator_read l.depth) (length l.fn.pieces) l.fn.found.items l.fn.found.commas (shown l.fn.pieces) ≡ r.more_by r.comma (h.declarator_read l.depth) (l._turn-end - l._turn) l.found.items l.found.commas (shown l.pieces)
