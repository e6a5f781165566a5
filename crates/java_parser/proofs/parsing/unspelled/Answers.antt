use Rattle.std.proofs.Common.{subst}
use Rattle.java_tree.specs.Seen.{seen}
use Rattle.java_fault_finder.specs.Walks.{Walked}
use Rattle.java_parser.proofs.Judging.{no_form, not_walked}
use Rattle.java_parser.proofs.parsing.unspelled.Goals as goal

pub unreachable-requires : goal.unreachable-requires
unreachable-requires c =
    not_walked c.args.tokens.now c.requires.whole c.requires.unread (subst (Walked (seen c.args.tokens.now)) c.in-None.is c.in_ok-number.ensures)

pub returns : goal.returns
returns c =
    no_form c.args.tokens.now c.in-Some.number c.requires.whole c.requires.unread (subst (Walked (seen c.args.tokens.now)) c.in-Some.is c.in_ok-number.ensures)
