use Rattle.java_body_parser.proofs.bodies.+part.Given as goal

abbrev pub decreases-part : goal.decreases-part
decreases-part l = l.steps
