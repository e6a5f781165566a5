use Rattle.std.proofs.Common.{◌≡◌, ◌-◌, ◌++◌, ◌==◌, not, length}
use Rattle.kotlin_characters.specs.Letters.{letters, IsFrom}
use Rattle.std.specs.Char.{encode_utf8}
use Rattle.kotlin_lexer.specs.Names.{name_of, is_named, word_rest}
use Rattle.kotlin_lexer.proofs.names.word_at.Given as goal

abbrev pub invariant-letters : goal.invariant-letters
invariant-letters l = record {
  name : l.name ++ name_of (letters l.bytes l.next) ≡ encode_utf8 l.fn.first ++ name_of (letters l.bytes l.fn.at);
  named : is_named l.is_named (letters l.bytes l.next) ≡ is_named (not (l.fn.first == 95)) (letters l.bytes l.fn.at);
  rest : word_rest (letters l.bytes l.next) ≡ word_rest (letters l.bytes l.fn.at);
  next : IsFrom l.bytes l.fn.at l.next;
}

abbrev pub decreases-letters : goal.decreases-letters
decreases-letters l = length l.bytes - l.next.position.offset
