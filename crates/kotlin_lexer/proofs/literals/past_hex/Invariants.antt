use Rattle.std.proofs.Common.{◌≡◌, ◌-◌, length}
use Rattle.kotlin_characters.specs.Letters.{letters, IsFrom}
use Rattle.kotlin_characters.specs.Scans.{drop_while}
use Rattle.kotlin_lexer.specs.Literals.{is_hex}
use Rattle.kotlin_lexer.proofs.literals.past_hex.Given as goal

abbrev pub invariant-letters : goal.invariant-letters
invariant-letters l = record {
  rest : drop_while is_hex (letters l.bytes l.next) ≡ drop_while is_hex (letters l.bytes l.fn.at);
  next : IsFrom l.bytes l.fn.at l.next;
}

abbrev pub decreases-letters : goal.decreases-letters
decreases-letters l = length l.bytes - l.next.position.offset
