use Rattle.std.proofs.Common.{◌≡◌, length, ◌++◌}
use Rattle.java_token_cursor.specs.Shown.{shown}
use Rattle.java_member_grammar.specs.Reading as m
use Rattle.java_member_parser.proofs.modifiers.modifiers.Given as goal

abbrev pub invariant-loop-next : goal.invariant-loop-next
invariant-loop-next l = m.modifiers (shown l.fn.pieces) ≡ (l.mods ++ (m.modifiers (shown l.pieces)).0, (m.modifiers (shown l.pieces)).1)

abbrev pub decreases-loop-next : goal.decreases-loop-next
decreases-loop-next l = length (shown l.pieces)
