use Rattle.std.proofs.Common.{◌≡◌, ◌≤◌, drop}
use Rattle.kotlin_grammar.specs.Ahead.{arguments_follow as arguments_follow_of}
use Rattle.kotlin_grammar.specs.declared.ahead.Spot.TheVariants as at
use Rattle.kotlin_kinds.proofs.spots.arguments_ahead.Given as goal

abbrev pub invariant-loop-i : goal.invariant-loop-i
invariant-loop-i l = record {
  told : arguments_follow_of l.spot l.depth (drop l.i l.letters) ≡ arguments_follow_of at.Type 0 (drop 1 l.letters);
  within : l.depth ≤ l.i;
}
