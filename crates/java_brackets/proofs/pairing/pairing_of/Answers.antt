use Rattle.java_tree.specs.Seen.{seen}
use Rattle.java_brackets.proofs.Scans.{pairing_none}
use Rattle.java_brackets.proofs.pairing.pairing_of.Goals as goal

pub loop-number-init : goal.loop-number-init
loop-number-init c = pairing_none (seen c.args.tokens.now) _ c.new.ensures.items c.new-2.ensures.items
