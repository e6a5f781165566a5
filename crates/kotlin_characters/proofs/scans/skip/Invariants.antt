use Rattle.std.proofs.Common.{◌≡◌, ◌-◌}
use Rattle.kotlin_characters.specs.Letters.{letters, IsFrom}
use Rattle.kotlin_characters.specs.Scans.{drop_letters}
use Rattle.kotlin_characters.proofs.scans.skip.Given as goal

abbrev pub invariant-loop : goal.invariant-loop
invariant-loop l = record {
  rest : drop_letters (l.count - l.counter) (letters l.bytes l.next) ≡ drop_letters l.count (letters l.bytes l.fn.at);
  next : IsFrom l.bytes l.fn.at l.next;
}
