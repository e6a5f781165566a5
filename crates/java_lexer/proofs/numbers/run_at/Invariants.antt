use Rattle.std.proofs.Common.{◌≡◌, ◌-◌, ◌^◌, ◌≤◌, length}
use Rattle.java_characters.specs.Letters.{letters, IsFrom}
use Rattle.java_lexer.specs.Numbers.{run_value, run_last, run_rest}
use Rattle.java_lexer.proofs.numbers.run_at.Given as goal

abbrev pub invariant-digits : goal.invariant-digits
invariant-digits l = record {
  value : run_value l.radix l.run.value (letters l.bytes l.run.next) ≡ run_value l.radix l.value (letters l.bytes l.fn.at);
  last : run_last l.radix l.run.last (letters l.bytes l.run.next) ≡ run_last l.radix l.last (letters l.bytes l.fn.at);
  rest : run_rest l.radix (letters l.bytes l.run.next) ≡ run_rest l.radix (letters l.bytes l.fn.at);
  next : IsFrom l.bytes l.fn.at l.run.next;
  capped : l.run.value ≤ 2 ^ 64;
}

abbrev pub decreases-digits : goal.decreases-digits
decreases-digits l = length l.bytes - l.run.next.position.offset
