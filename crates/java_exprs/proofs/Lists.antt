-- Lists that are read, an item at a time.
use Rattle.java_expr_grammar.proofs.LawsToCite.{expr_parts as parts}
use Rattle.java_type_parser.proofs.LawsToCite.{length_shown}

pub ruleset lists = (parts, length_shown)
