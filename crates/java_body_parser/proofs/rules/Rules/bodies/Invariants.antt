use Rattle.std.proofs.Common.{◌≡◌, length}
use Rattle.java_unit_grammar.specs.Reading as r
use Rattle.java_body_cuts.specs.Cuts.{all_shown}
use Rattle.java_body_parser.specs.Heads.{AllSmall, onto_all}
use Rattle.java_body_parser.proofs.rules.Rules.bodies.Given as goal

abbrev pub invariant-loop-text : goal.invariant-loop-text
invariant-loop-text g l = record {
  same : r.bodies_by (r.readers l.self.parts.steps).body l.depth l.fn.levels l.fn.kinds (all_shown l.fn.texts) ≡ onto_all l.found (r.bodies_by (r.readers l.self.parts.steps).body l.depth l.levels l.kinds (all_shown l.texts));
  small : AllSmall l.texts;
}

abbrev pub decreases-loop-text : goal.decreases-loop-text
decreases-loop-text g l = length l.texts
