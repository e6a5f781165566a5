use Rattle.java_unit_parser.proofs.tops.+top.Given as goal

abbrev pub decreases-top : goal.decreases-top
decreases-top l = l.types
