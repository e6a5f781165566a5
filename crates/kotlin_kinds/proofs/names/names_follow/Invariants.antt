use Rattle.std.proofs.Common.{◌≡◌, drop, false}
use Rattle.kotlin_grammar.specs.Ahead.{names_follow as names_follow_of}
use Rattle.kotlin_kinds.proofs.names.names_follow.Given as goal

abbrev pub invariant-loop-i : goal.invariant-loop-i
invariant-loop-i l = record {
  told : names_follow_of l.was (drop l.i l.letters) ≡ names_follow_of false l.letters;
}
