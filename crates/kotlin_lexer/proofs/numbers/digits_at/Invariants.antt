use Rattle.std.proofs.Common.{◌≡◌, ◌-◌, ◌^◌, ◌≤◌, length}
use Rattle.kotlin_characters.specs.Letters.{letters, IsFrom}
use Rattle.kotlin_characters.specs.Scans.{drop_while}
use Rattle.kotlin_lexer.specs.Numbers.{is_digit, number_value}
use Rattle.kotlin_lexer.proofs.numbers.digits_at.Given as goal

abbrev pub invariant-digits : goal.invariant-digits
invariant-digits l = record {
  value : number_value l.digits.value (letters l.bytes l.digits.next) ≡ number_value l.value (letters l.bytes l.fn.at);
  rest : drop_while is_digit (letters l.bytes l.digits.next) ≡ drop_while is_digit (letters l.bytes l.fn.at);
  next : IsFrom l.bytes l.fn.at l.digits.next;
  capped : l.digits.value ≤ 2 ^ 64;
}

abbrev pub decreases-digits : goal.decreases-digits
decreases-digits l = length l.bytes - l.digits.next.position.offset
