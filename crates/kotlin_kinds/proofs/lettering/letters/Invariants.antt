use Rattle.std.proofs.Common.{◌≡◌, ◌-◌, drop, length}
use Rattle.kotlin_grammar.specs.Ahead.{letters as letters_of}
use Rattle.kotlin_kinds.proofs.lettering.letters.Given as goal

abbrev pub invariant-loop-i : goal.invariant-loop-i
invariant-loop-i l = record {
  told : l.letters ≡ letters_of (drop (length l.tokens - l.i) l.tokens);
  count : length l.letters ≡ l.i;
}
