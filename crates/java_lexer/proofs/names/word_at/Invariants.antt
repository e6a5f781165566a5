use Rattle.std.proofs.Common.{◌≡◌, ◌-◌, ◌++◌, ◌==◌, length}
use Rattle.std.specs.Char.{encode_utf8}
use Rattle.java_characters.specs.Letters.{letters, IsFrom}
use Rattle.java_lexer.specs.Names.{name_of, dollar_in, word_rest}
use Rattle.java_lexer.proofs.names.word_at.Given as goal

abbrev pub invariant-letters : goal.invariant-letters
invariant-letters l = record {
  name : l.name ++ name_of (letters l.bytes l.next) ≡ encode_utf8 l.fn.first ++ name_of (letters l.bytes l.fn.at);
  dollar : dollar_in l.dollar (letters l.bytes l.next) ≡ dollar_in (l.fn.first == 36) (letters l.bytes l.fn.at);
  rest : word_rest (letters l.bytes l.next) ≡ word_rest (letters l.bytes l.fn.at);
  next : IsFrom l.bytes l.fn.at l.next;
}

abbrev pub decreases-letters : goal.decreases-letters
decreases-letters l = length l.bytes - l.next.position.offset
